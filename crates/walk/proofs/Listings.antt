-- The list holds exactly the paper's chains: those of its length that join s to t and match; at the least length, the listed ones. It rises in
-- the order, so each stands once.
use Prim.Native.Nat.{ℕ}
use mathlib.Core.Path.{◌≡◌, sym, subst}
use mathlib.Core.List.{List, [], ◌∷◌, Memᴰ}
use mathlib.Core.Logic.{◌↔◌}
use native.Mathlib.Omega.{arith}
use lib.ListN.{length}
use Rattle.walk.specs.Network.{Network, ties, to_of}
use Rattle.walk.specs.Condition.{Condition}
use Rattle.walk.specs.Walk.{Joins, Fits, LeastMatching, Listed}
use Rattle.walk.specs.Chains.{rows, fits, list}
use Rattle.walk.specs.Demands.{Rises}
use Rattle.walk.proofs.Executable.{Sound, fits_law}
use Rattle.walk.proofs.Order.{Below, mem-rows, rows-mem, rises-rows, sieve-mem, mem-sieve, rises-sieve}

module _ (N : Network) (C : Condition) (s t n : ℕ) where
  pub list-rises : Rises (list N C s t n)
  unfolding list
  list-rises = rises-sieve (fits N C s t) _ (rises-rows (ties N) n)

  joins-below : (u : ℕ) (c : List ℕ) → Joins N u c t → Below (ties N) c
  joins-below u [] h = tt
  joins-below u (e ∷ c) h = (h.0, joins-below (to_of N e) c h.2)

  module _ (ok : Sound N C) where
    pub list_law : (c : List ℕ) → Memᴰ c (list N C s t n) ↔ ((length c ≡ n) × Fits N C s t c)
    unfolding list
    list_law c = (
      λ m. let (a, b) = sieve-mem (fits N C s t) (rows (ties N) n) c m in
          (rows-mem (ties N) n c a, (fits_law N C ok s t c).0 b),
      λ (l, x). mem-sieve (fits N C s t) (rows (ties N) n) c (rw l at (mem-rows (ties N) c (joins-below s c x.0))) ((fits_law N C ok s t c).1 x),
    )

    -- at the least length the list holds exactly the listed chains (000, definition 8)
    pub listed_law : LeastMatching N C s t n → (c : List ℕ) → Memᴰ c (list N C s t n) ↔ Listed N C s t c
    listed_law S c = (
      λ m. let (l, x) = (list_law c).0 m in record { fits = x; shortest = subst (λ (k : ℕ). LeastMatching N C s t k) (sym l) S },
      λ L. let (d, l, x) = S.met in
          let a = L.shortest.least d x in
          let b = S.least c L.fits in
          (list_law c).1 (omega arith, L.fits),
    )
