-- The step table of a condition: the set of states that follow state p under kind k stands at k×32 + p.
use Rattle.std.specs.Prelude.{ℕ, ◌+◌, ◌*◌, ◌<◌, ◌≤◌, Bool, true, List, ◌≡◌, length, get_or}
use Rattle.walk.specs.Ceilings.{ceilings}
use Rattle.walk.specs.Numbers.{has, ◌and◌, any_below}
use Rattle.walk.specs.Condition.{Condition, move_at, follows}

-- n words, all 0
pub record Clear (T : List ℕ) (n : ℕ) : Type 0 where
  pub size : length T ≡ n
  pub zero : (i : ℕ) → get_or T i 0 ≡ 0

-- what refusals 1, 4 and 5 leave of a condition and the K kinds
pub record InRange (K : ℕ) (C : Condition) : Type 0 where
  pub kinds : K ≤ ceilings.kinds
  pub states : C.states ≤ ceilings.states
  pub few : length C.moves ≤ ceilings.moves
  pub from_in : (j : ℕ) → j < length C.moves → (move_at C j).from < C.states
  pub kind_in : (j : ℕ) → j < length C.moves → (move_at C j).kind < K
  pub to_in : (j : ℕ) → j < length C.moves → (move_at C j).to < C.states

-- which bits are set: q stands at k×32 + p exactly if it follows p under k
abbrev pub Tabled : List ℕ → Condition → Type 0
Tabled T C = (k p q : ℕ) → k < ceilings.kinds → p < ceilings.states → has (get_or T (k * ceilings.states + p) 0) q ≡ follows C p k q

-- what the loops over the table T and the sources S ask: T leads only to states below Q, and a state from which kind k leads is among the sources of k
pub record Leads (T S : List ℕ) (Q : ℕ) : Type 0 where
  pub narrow : (k p q : ℕ) → k < ceilings.kinds → p < ceilings.states → has (get_or T (k * ceilings.states + p) 0) q ≡ true → q < Q
  pub covers : (k p q : ℕ) → k < ceilings.kinds → p < ceilings.states → has (get_or T (k * ceilings.states + p) 0) q ≡ true → has (get_or S k 0) p ≡ true

-- T is the step table of C, with its sources S
pub record Filled (T S : List ℕ) (C : Condition) : Type 0 where
  pub tabled : Tabled T C
  pub leads : Leads T S C.states

-- by the table: along a tie with these kinds the state q follows p
unfoldable pub steps : List ℕ → ℕ → ℕ → ℕ → Bool
steps T kinds p q = any_below ceilings.kinds (λ k. has kinds k and has (get_or T (k * ceilings.states + p) 0) q)
