-- What is filled and raised in the buffer, and what next answers by what it saw: each case of what is seen says its answer and what is left.
use Prim.Native.Nat.{ℕ, ◌-◌, ◌≤◌, ◌<◌}
use mathlib.Core.Path.{◌≡◌, sym, subst, ◌∙◌}
use mathlib.Core.List.{List}
use native.Mathlib.Omega.{arith}
use lib.ListN.{length, take, drop, set}
use Rattle.std.specs.Prelude.{Option, Some, None, Result, Ok, Err}
use Rattle.walk.specs.declared.Refusal.TheVariants.{NotListed}
use Rattle.walk.specs.declared.Next.TheVariants.{Chain, End}
use Rattle.walk.specs.Network.{Network, from_of}
use Rattle.walk.proofs.Back.{fill, goes, raise}
use Rattle.back.specs.declared.look.Raised.{Raised}
use Rattle.back.specs.declared.look.Unlisted.{Unlisted}
use Rattle.back.specs.Chain.{Fillable, seen}
use Rattle.back.proofs.FillLaws.{drop_set}
use Rattle.chains.specs.Following.{raised_in, Raises, Raisable, seen_in, Followed}

module _ (N : Network) (back : ℕ → ℕ → ℕ → ℕ) where
  pub fillable_as : (n : ℕ) {u u' S S' : ℕ} → u ≡ u' → S ≡ S' → Fillable N back n u' S' → Fillable N back n u S
  fillable_as n e f F = rw (e, f) F

  pub filled_as : (n : ℕ) {u u' S S' : ℕ} (c c' : List ℕ) → u ≡ u' → S ≡ S' → c' ≡ fill N back n u S (drop n c) → c' ≡ fill N back n u' S' (drop n c)
  filled_as n c c' e f g = rw (e, f) at g

  pub raised_as : (i s : ℕ) {v w : ℕ} (e : ℕ) (c c' : List ℕ) → w ≡ e → v ≡ from_of N e → i < length c → c' ≡ fill N back i v s (drop i (set c i w))
      → c' ≡ raised_in N back i e s c
  raised_as i s e c c' f g l h = rw (f, g, drop_set c i e l) at h

  pub seen_as : (n : ℕ) {t t' S S' : ℕ} (c : List ℕ) (x : Result (Option Raised) Unlisted) → t ≡ t' → S ≡ S'
      → x ≡ seen (goes N back t S 0 (take (n - 0) (drop 0 c))) (raise N back t S 0 (take (n - 0) (drop 0 c))) → x ≡ seen_in N back n t' S' c
  seen_as n c x e f h = let z : n - 0 ≡ n = omega arith in rw (e, f, z) at h

  module _ (n t S : ℕ) (c : List ℕ) (x : Result (Option Raised) Unlisted) (h : x ≡ seen_in N back n t S c) where
    pub followed_unlisted : x ≡ Err (record {}) → Followed N back n t S c (Err (record { refusal = NotListed; place = 0 })) c
    followed_unlisted f = let g = sym h ∙ f in record { answers = rw g; leaves = rw g }

    pub followed_last : x ≡ Ok None → Followed N back n t S c (Ok End) c
    followed_last f = let g = sym h ∙ f in record { answers = rw g; leaves = rw g }

    pub followed_at : (R : Raised) (c' : List ℕ) → x ≡ Ok (Some R) → c' ≡ raised_in N back R.place R.taken.tie.0 R.taken.alive c → Followed N back n t S c (Ok Chain) c'
    followed_at R c' f k = let g = sym h ∙ f in record { answers = rw g; leaves = rw g k }

    pub raises_at : (R : Raised) → x ≡ Ok (Some R) → Raisable N back n (seen_in N back n t S c) → Raises N back n R.place R.taken.tie.0 R.taken.alive
    raises_at R f L = subst (λ (y : Result (Option Raised) Unlisted). Raisable N back n y) (sym h ∙ f) L

  pub raises_more : (n m i e s : ℕ) → n ≤ m → Raises N back n i e s → Raises N back m i e s
  raises_more n m i e s l R = record { place_in = omega (arith, R.place_in); tie_in = R.tie_in; fillable = R.fillable }
