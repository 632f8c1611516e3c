-- What the tests behind refusals 1, 2 and 4 to 6 ask for, in the numbers that are lent: a test is not given exactly where each of its parts
-- holds. Two tests of which each passes where the other does are one.
use Prim.Native.Nat.{ℕ, ◌+◌, ◌*◌, ◌≤◌, ◌<◌}
use mathlib.Core.Path.{◌≡◌, refl, sym, ap}
use mathlib.Core.Bool.{Bool, true, false, not, false≢true}
use mathlib.Core.List.{List, []}
use mathlib.Core.Logic.{◌↔◌}
use lib.Dec.{ltb}
use lib.ListN.{length, get_or}
use borrow.Author.Tests.{ltb-true, lt-ltb, leb-true, le-leb, not-false}
use Rattle.walk.specs.declared.Condition as lent
use Rattle.walk.specs.Ceilings.{ceilings}
use Rattle.walk.specs.Numbers.{◌and◌, only_below}
use Rattle.walk.specs.Network.{Network, from_of, to_of, kinds_of}
use Rattle.walk.specs.Condition.{move_at}
use Rattle.walk.specs.Question.{Question}
use Rattle.walk.specs.Answers.{condition_of}
use Rattle.walk.specs.Refusals.{sizes, bad_sizes, bad_tie_at, bad_states, bad_move_at}
use Rattle.walk.specs.Demands.{SizesRight}
use Rattle.walk.proofs.Numbers.{and_in, and_of, length-table, getD-table}
use Rattle.walk.proofs.Refusals.{row_1}
use Rattle.tables.specs.Lent.{move_of, moves_of}

pub is-given : {b : Bool} → (b ≡ false → ⊥) → true ≡ b
is-given {b = true} h = refl
is-given {b = false} h = absurd (h refl)

pub pass_together : {a b : Bool} → (a ≡ false → b ≡ false) → (b ≡ false → a ≡ false) → a ≡ b
pass_together {a = true} f g = is-given (λ e. false≢true (sym (g e)))
pass_together {a = false} f g = sym (f refl)

-- a question about this network: refusal 1 looks at the network alone
abbrev pub about : Network → Question
about N = record { network = N; condition = record { states = 0; start = 0; accept = 0; moves = [] }; from = 0; to = 0 }

pub sizes_law : (N : Network) → (bad_sizes N ≡ false) ↔ SizesRight (about N)
unfolding sizes
sizes_law N = (row_1 (about N)).passes

pub tie_law : (N : Network) (e : ℕ) → (bad_tie_at N e ≡ false)
    ↔ ((from_of N e < N.marks) × (to_of N e < N.marks) × (only_below N.kinds (kinds_of N e) ≡ true))
unfolding bad_tie_at
tie_law N e = (
  λ g. let (a, x) = and_in _ _ (not-false _ g) in
      let (b, y) = and_in _ _ x in
      (ltb-true _ _ a, ltb-true _ _ b, y),
  λ (a, b, y). ap not (and_of (lt-ltb _ _ a) (and_of (lt-ltb _ _ b) y)),
)

module _ (c : lent.Condition) (n : ℕ) (numbers : List ℕ) where
  pub states_law : (bad_states (condition_of c (moves_of n numbers)) ≡ false)
      ↔ ((1 ≤ c.states) × (c.states ≤ ceilings.states) × (n ≤ ceilings.moves) × (only_below c.states c.start ≡ true) ×
      (only_below c.states c.accept ≡ true))
  unfolding bad_states
  states_law =
      let l : length (moves_of n numbers) ≡ n = length-table n _ in (
        λ g. let (x, y) = and_in _ _ (not-false _ g) in
            let (a, b) = and_in _ _ x in
            let (m, z) = and_in _ _ y in
            let (s, u) = and_in _ _ z in
            (leb-true _ _ a, leb-true _ _ b, leb-true n ceilings.moves (rw l at m), s, u),
        λ (a, b, m, s, u). ap not (and_of (and_of (le-leb _ _ a) (le-leb _ _ b)) (and_of (rw l (le-leb n ceilings.moves m)) (and_of s u))),
      )

  pub move_law : (K j : ℕ) → j < n → (bad_move_at K (condition_of c (moves_of n numbers)) j ≡ false)
      ↔ ((get_or numbers (3 * j) 0 < c.states) × (get_or numbers (3 * j + 1) 0 < K) × (get_or numbers (3 * j + 2) 0 < c.states))
  unfolding bad_move_at
  move_law K j h =
      let m : move_at (condition_of c (moves_of n numbers)) j
      ≡ move_of numbers j = getD-table n _ j _ h in (
        λ g. let (x, y) = and_in _ _ (not-false _ (rw m at g)) in
            let (z, u) = and_in _ _ y in
            (ltb-true _ _ x, ltb-true _ _ z, ltb-true _ _ u),
        λ (x, z, u). rw m (ap not (and_of (lt-ltb _ _ x) (and_of (lt-ltb _ _ z) (lt-ltb _ _ u)))),
      )

pub ends_law : (s t m : ℕ) → (not (ltb s m and ltb t m) ≡ false) ↔ ((s < m) × (t < m))
ends_law s t m = (
  λ g. let (a, b) = and_in _ _ (not-false _ g) in (ltb-true _ _ a, ltb-true _ _ b),
  λ (a, b). ap not (and_of (lt-ltb _ _ a) (lt-ltb _ _ b)),
)
