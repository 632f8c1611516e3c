-- The smallest usable tie, by the going back of the walk's proofs: over any step back.
use Rattle.std.specs.Prelude.{ℕ, cond, leb, ltb, Option, Some, None}
use Rattle.walk.specs.Numbers.{◌and◌, least}
use Rattle.walk.specs.Network.{Network, ties}
use Rattle.walk.proofs.Sets.{nonempty}
use Rattle.walk.proofs.Back.{enters, lowest}
use Rattle.back.specs.declared.ground.Taken.{Taken}

-- the tie e with the states s alive before it
abbrev pub taken : ℕ → ℕ → Taken
taken e s = record { tie = record { 0 = e; 1 = record {} }; alive = s }

-- the place e, if it is one of n, with its set
abbrev place_at : ℕ → (ℕ → ℕ) → ℕ → Option (ℕ × ℕ)
place_at n f e = cond (ltb e n) (Some (e, f e)) None

-- the smallest place of n, from low on, before whose tie a state is alive
unfoldable pub smallest_of : ℕ → (ℕ → ℕ → ℕ → ℕ) → ℕ → ℕ → ℕ → Option (ℕ × ℕ)
smallest_of n back low i S = place_at n (λ e. back e i S) (least (λ e. leb low e and nonempty (back e i S)) n)

module _ (N : Network) (back : ℕ → ℕ → ℕ → ℕ) where
  -- the tie e, if it is one, with the states alive before it
  abbrev tie_at : ℕ → ℕ → ℕ → Option Taken
  tie_at i S e = cond (ltb e (ties N)) (Some (taken e (back e i S))) None

  -- the smallest tie into u, from low on, before which a state is alive
  unfoldable pub picked : ℕ → ℕ → ℕ → ℕ → Option Taken
  picked low u i S = tie_at i S (lowest N back low u i S)

  -- the tie e itself, if it enters u and a state is alive before it
  unfoldable pub stepped : ℕ → ℕ → ℕ → ℕ → Option Taken
  stepped u i S e = cond (ltb e (ties N) and enters N back u i S e) (Some (taken e (back e i S))) None
