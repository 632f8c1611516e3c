-- Filling and looking along a chain, by the going back of the walk's proofs: over any step back.
use Rattle.std.specs.Prelude.{ℕ, zero, suc, ◌<◌, Bool, true, false, ◌≡◌, Some, None, Result, Ok, Err}
use Rattle.std.specs.Prelude as option
use Rattle.std.proofs.Math.Option.{Option, none, some}
use Rattle.walk.specs.Network.{Network, ties, from_of}
use Rattle.walk.proofs.Back.{Raise, lowest}
use Rattle.back.specs.declared.look.Raised.{Raised}
use Rattle.back.specs.declared.look.Unlisted.{Unlisted}
use Rattle.back.specs.Picked.{taken}

-- i ties into u can be filled in before S: at each place there is a usable tie
abbrev pub Fillable : Network → (ℕ → ℕ → ℕ → ℕ) → ℕ → ℕ → ℕ → Type 0
Fillable N back zero u S = Unit {0}
Fillable N back (suc i) u S = (lowest N back 0 u i S < ties N) × Fillable N back i (from_of N (lowest N back 0 u i S)) (back (lowest N back 0 u i S) i S)

-- x is the smallest usable tie into u, and s are the states alive before it
pub record Surely (N : Network) (back : ℕ → ℕ → ℕ → ℕ) (u i S x s : ℕ) : Type 0 where
  pub is : x ≡ lowest N back 0 u i S
  pub alive : s ≡ back x i S
  pub tie_in : x < ties N

-- the place nearest the front that can be raised, where there is one
abbrev pub raise_seen : Option Raise → option.Option Raised
raise_seen none = None
raise_seen (some R) = Some (record { place = R.place; taken = taken R.tie R.alive })

-- what is seen of a chain that goes back all the way, or does not
abbrev pub seen : Bool → Option Raise → Result (option.Option Raised) Unlisted
seen true R = Ok (raise_seen R)
seen false R = Err (record {})
