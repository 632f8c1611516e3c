-- Filling never fails over a right area: a state alive with a word above 0 is reached by some tie from a state with the word before, so at every
-- place there is a usable tie. What is filled stands before the words that follow, whatever they are; and a place that can be raised is one of the
-- chain, with the rest of the chain after it.
use Prim.Native.Nat.{ℕ, zero, suc, ◌+◌, ◌^◌, ◌≤◌, ◌<◌}
use mathlib.Core.Path.{◌≡◌, refl, sym, subst, ◌∙◌}
use mathlib.Core.Bool.{Bool, true, false, cond}
use mathlib.Core.List.{List, [], ◌∷◌, ◌++◌}
use mathlib.Core.Option.{some}
use native.Mathlib.Nat.{add-zero}
use native.Mathlib.Omega.{arith}
use lib.Dec.{leb, ltb, leb-zero}
use lib.ListN.{length, drop}
use borrow.Author.Tests.{ltb-true}
use Rattle.walk.specs.Numbers.{has, ◌and◌}
use Rattle.walk.specs.Network.{Network, ties, from_of}
use Rattle.walk.specs.Condition.{Condition}
use Rattle.walk.specs.Area.{word}
use Rattle.walk.proofs.Numbers.{Yes, and_in, and_of, eqb_of, least-is, clash}
use Rattle.walk.proofs.Sets.{nonempty, in_some, set_small}
use Rattle.walk.proofs.Executable.{Sound}
use Rattle.walk.proofs.Words.{unreached}
use Rattle.walk.proofs.Back.{Raise, mark, set_at, enters, lowest, fill, raise, back_in, back_small, end_in, fed}
use Rattle.walk.proofs.Back as Back
use Rattle.back.specs.Chain.{Fillable}

module _ (N : Network) (back : ℕ → ℕ → ℕ → ℕ) where
  -- what is known of a tie that is picked
  lowest_in : (low u i S : ℕ) → lowest N back low u i S < ties N → Yes (nonempty (back (lowest N back low u i S) i S))
  unfolding lowest enters
  lowest_in low u i S h = (and_in _ _ (and_in _ _ ((least-is (λ e. leb low e and enters N back u i S e) (ties N)).passes h)).1).1

  pub fill-append : (i u S : ℕ) (d x : List ℕ) → fill N back i u S (d ++ x) ≡ fill N back i u S d ++ x
  unfolding fill
  fill-append zero u S d x = refl
  fill-append (suc i) u S d x =
      let e = lowest N back 0 u i S in fill-append i (from_of N e) (back e i S) (e ∷ d) x

  -- what is known of a place that can be raised; it stands at `at` in d, whose first tie stands at place i
  pub record Raised (i : ℕ) (d : List ℕ) (R : Raise) : Type 0 where
    pub at : ℕ
    pub place_is : R.place ≡ i + at
    pub place_in : at < length d
    pub tie_in : R.tie < ties N
    pub rest-is : R.rest ≡ drop (suc at) d
    pub before : ℕ
    pub alive-is : R.alive ≡ back R.tie R.place before
    pub alive_some : Yes (nonempty R.alive)

  pub raise-is : (t S i : ℕ) (d : List ℕ) (R : Raise) → raise N back t S i d ≡ some R → Raised i d R
  unfolding raise
  raise-is t S i [] R h = clash cc
  raise-is t S i (x ∷ d) R h = go (ltb e (ties N)) refl h (λ k. raise-is t S (suc i) d R k)
    where
      X : ℕ
      X = set_at N back t S (suc i) d

      e : ℕ
      e = lowest N back (suc x) (mark N t d) i X

      here : Raise
      here = record { place = i; tie = e; alive = back e i X; rest = d }

      later : Raised (suc i) d R → Raised i (x ∷ d) R
      later K = record {
        at = suc K.at;
        place_is = K.place_is ∙ omega arith;
        place_in = omega (arith, K.place_in);
        tie_in = K.tie_in;
        rest-is = K.rest-is;
        before = K.before;
        alive-is = K.alive-is;
        alive_some = K.alive_some;
      }

      go : (b : Bool) → ltb e (ties N) ≡ b → cond b (some here) (raise N back t S (suc i) d) ≡ some R
          → (raise N back t S (suc i) d ≡ some R → Raised (suc i) d R) → Raised i (x ∷ d) R
      go true b h ih =
          let f : here ≡ R = cc in
          let l = ltb-true e (ties N) b in
          subst (Raised i (x ∷ d)) f
          (record {
            at = 0;
            place_is = sym (add-zero i);
            place_in = omega arith;
            tie_in = l;
            rest-is = refl;
            before = X;
            alive-is = refl;
            alive_some = lowest_in (suc x) (mark N t d) i X l;
          })
      go false b h ih = later (ih h)

-- the states of S have the word i at u, and there is one
pub record Level (N : Network) (C : Condition) (s r u i S : ℕ) : Type 0 where
  pub some_alive : Yes (nonempty S)
  pub small : S < 2 ^ C.states
  pub words : (q : ℕ) → Yes (has S q) → word N C s r u q ≡ i

module _ (N : Network) (C : Condition) (s t r : ℕ) where
  pub level_back : (e i S : ℕ) → Yes (nonempty (Back.back N C s t r e i S)) → Level N C s r (from_of N e) i (Back.back N C s t r e i S)
  level_back e i S h = record { some_alive = h; small = back_small N C s t r e i S; words = λ q x. (back_in N C s t r e i S q x).0 }

  end_small : (n : ℕ) → Back.at_end N C s t r n < 2 ^ C.states
  unfolding Back.at_end
  end_small n = set_small _ _

  pub level_end : (n : ℕ) → Yes (nonempty (Back.at_end N C s t r n)) → Level N C s r t n (Back.at_end N C s t r n)
  level_end n h = record { some_alive = h; small = end_small n; words = λ q x. (end_in N C s t r n q x).0 }

module _ (N : Network) (C : Condition) (s t r : ℕ) (ok : Sound N C) (few : r < unreached) where
  lowest-below : (u i S : ℕ) → suc i ≤ r → Level N C s r u (suc i) S → lowest N (Back.back N C s t r) 0 u i S < ties N
  unfolding lowest enters
  lowest-below u i S l L =
      let (q, _, h) = in_some C.states S L.small L.some_alive in
      let (e, he, a, x) = fed N C s t r ok u i S q few l (L.words q h) h in
      let M = least-is (λ e. leb 0 e and enters N (Back.back N C s t r) u i S e) (ties N) in
      let no_less : ¬ (e < lowest N (Back.back N C s t r) 0 u i S) = λ k. M.none_before e k (and_of (leb-zero e) (and_of (eqb_of a) x)) in
      omega arith

  pub fillable : (i u S : ℕ) → i ≤ r → Level N C s r u i S → Fillable N (Back.back N C s t r) i u S
  fillable zero u S l L = tt
  fillable (suc i) u S l L =
      let e = lowest N (Back.back N C s t r) 0 u i S in
      let h = lowest-below u i S l L in
      (h, fillable i (from_of N e) (Back.back N C s t r e i S) (omega arith) (level_back N C s t r e i S (lowest_in N (Back.back N C s t r) 0 u i S h)))
