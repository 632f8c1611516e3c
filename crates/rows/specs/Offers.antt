-- What the ties into a mark offer its states, and the row of words that is lowered to the least offer.
use Rattle.std.specs.Prelude.{ℕ, ◌+◌, ◌*◌, ◌≤◌, ◌<◌, true, List, ◌⊎◌, ◌≡◌, length, get_or}
use Rattle.std.specs.Int.Bits.{bit_and}
use Rattle.walk.specs.Ceilings.{ceilings}
use Rattle.walk.specs.Numbers.{has}
use Rattle.rows.specs.Rows.{row}

-- the words b' are the words b lowered by the offers P: P q w says that w is offered to the state q
pub record Lowered (P : ℕ → ℕ → Type 0) (b b' : List ℕ) : Type 0 where
  pub size : length b' ≡ ceilings.states
  pub keeps : (q : ℕ) → q < ceilings.states → get_or b' q 0 ≤ get_or b q 0
  pub takes : (q w : ℕ) → q < ceilings.states → P q w → get_or b' q 0 ≤ w
  pub comes : (q : ℕ) → q < ceilings.states → (get_or b' q 0 ≡ get_or b q 0) ⊎ P q (get_or b' q 0)

-- w to q alone
abbrev pub One : ℕ → ℕ → ℕ → ℕ → Type 0
One w₀ q₀ q w = (q ≡ q₀) × (w ≡ w₀)

-- those of each element below n of a set
abbrev pub Each : ℕ → (ℕ → ℕ → ℕ → Type 0) → ℕ → ℕ → ℕ → Type 0
Each s P n q w = (i : ℕ) × (i < n) × (has s i ≡ true) × P i q w

-- those of each number from a, below n
abbrev pub Between : ℕ → (ℕ → ℕ → ℕ → Type 0) → ℕ → ℕ → ℕ → Type 0
Between a P n q w = (i : ℕ) × (a ≤ i) × (i < n) × P i q w

-- one more than the word of each state p of a set, to the states that follow p under kind k
abbrev pub ByKind : List ℕ → List ℕ → ℕ → ℕ → ℕ → ℕ → Type 0
ByKind T words s k = Each s (λ p. Each (get_or T (k * ceilings.states + p) 0) (One (get_or words p 0 + 1)) ceilings.states) ceilings.states

-- the same for each kind of a tie, from the states alive that have a move by it
abbrev pub Along : List ℕ → List ℕ → List ℕ → ℕ → ℕ → ℕ → ℕ → Type 0
Along T S words live kinds = Each kinds (λ k. ByKind T words (bit_and live (get_or S k 0)) k) ceilings.kinds

-- the offers along tie e
abbrev pub OfTie : List ℕ → List ℕ → List ℕ → List ℕ → ℕ → List ℕ → List ℕ → ℕ → ℕ → ℕ → Type 0
OfTie T S L A Q from sets e = Along T S (row A Q (get_or from e 0)) (get_or L (get_or from e 0) 0) (get_or sets e 0)

-- every element of the set is below n
abbrev pub Within : ℕ → ℕ → Type 0
Within s n = (i : ℕ) → has s i ≡ true → i < n

-- the states of a set are states of the row of words, and none is unreached
abbrev pub Living : List ℕ → ℕ → ℕ → Type 0
Living words s Q = (p : ℕ) → has s p ≡ true → (p < Q) × (get_or words p 0 < ceilings.unreached)

-- the same for the set of each mark
abbrev pub AllLiving : List ℕ → List ℕ → ℕ → ℕ → Type 0
AllLiving L A n Q = (u p : ℕ) → u < n → has (get_or L u 0) p ≡ true → (p < Q) × (get_or A (u * Q + p) 0 < ceilings.unreached)

-- the table leads only to states below Q
abbrev pub Narrow : List ℕ → ℕ → Type 0
Narrow T Q = (k p q : ℕ) → k < ceilings.kinds → p < ceilings.states → has (get_or T (k * ceilings.states + p) 0) q ≡ true → q < Q

-- what refusals 1 and 2 leave of the from column and the kinds
pub record TiesIn (marks kinds ties : ℕ) (from sets : List ℕ) : Type 0 where
  pub froms : length from ≡ ties
  pub kind_sets : length sets ≡ ties
  pub from_in : (e : ℕ) → e < ties → get_or from e 0 < marks
  pub kind_in : (e : ℕ) → e < ties → Within (get_or sets e 0) kinds
