-- The status, by the words of an area.
use Rattle.std.specs.Prelude.{ℕ, Bool, cond, List, leb, eqb, get_or}
use Rattle.walk.specs.declared.Status.{Status}
use Rattle.walk.specs.declared.Status.TheVariants.{Found, None, Going}
use Rattle.walk.specs.Numbers.{has, ◌and◌, any_below, least}

-- the least of the first n words that belongs to a state of the set, or b if none is below b
unfoldable pub nearest : List ℕ → ℕ → ℕ → ℕ → ℕ
nearest words set n b = least (λ d. any_below n (λ q. has set q and eqb (get_or words q 0) d)) b

-- some word of the first n is r
unfoldable pub stands : List ℕ → ℕ → ℕ → Bool
stands A n r = any_below n (λ i. eqb (get_or A i 0) r)

abbrev pub standing : ℕ → ℕ → Bool → Status
standing best r any = cond (leb best r) (Found best) (cond any Going None)
