-- Going back over one tie, by the step table and the words of an area.
use Rattle.std.specs.Prelude.{ℕ, ◌+◌, ◌*◌, Bool, List, ◌≡◌, eqb, get_or}
use Rattle.walk.specs.Ceilings.{ceilings}
use Rattle.walk.specs.Numbers.{has, ◌and◌, any_below, set_below}
use Rattle.tables.specs.Steps.{steps}

-- along a tie with these kinds some state of S follows p
unfoldable pub leads_into : List ℕ → ℕ → ℕ → ℕ → Bool
leads_into T kinds S p = any_below ceilings.states (λ q. steps T kinds p q and has S q)

-- x are those states of s
abbrev pub Leading : List ℕ → ℕ → ℕ → ℕ → ℕ → Type 0
Leading T kinds s S x = (p : ℕ) → has x p ≡ (has s p and leads_into T kinds S p)

-- the states alive before a tie that leaves u with these kinds, where S are alive after it: those with the word i that lead into S
unfoldable pub over : List ℕ → List ℕ → ℕ → ℕ → ℕ → ℕ → ℕ → ℕ
over T A Q u kinds i S = set_below Q (λ p. eqb (get_or A (u * Q + p) 0) i and leads_into T kinds S p)

-- before tie e of the columns
abbrev pub over_tie : List ℕ → List ℕ → ℕ → List ℕ → List ℕ → ℕ → ℕ → ℕ → ℕ
over_tie T A Q from sets e i S = over T A Q (get_or from e 0) (get_or sets e 0) i S

-- the states alive at t: the accepting ones with the word n
unfoldable pub ends_at : List ℕ → ℕ → ℕ → ℕ → ℕ → ℕ
ends_at A Q t accept n = set_below Q (λ q. eqb (get_or A (t * Q + q) 0) n and has accept q)
