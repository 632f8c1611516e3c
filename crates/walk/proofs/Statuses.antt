-- The status of the right area, in the paper's words: Found with the least length of a matching chain, None exactly when no chain matches and
-- no pair is left at the count, Going before either. A match of a greater length would pass through a pair at the count.
use Prim.Native.Nat.{ℕ, suc, ◌≤◌, ◌<◌}
use mathlib.Core.Path.{◌≡◌, refl, subst}
use mathlib.Core.Bool.{Bool, true, false, cond}
use mathlib.Core.List.{List}
use mathlib.Core.Logic.{◌↔◌}
use native.Mathlib.Omega.{arith}
use lib.Dec.{leb, ltb, eqb}
use lib.ListN.{length}
use borrow.Author.Tests.{eqb-true, leb-true, leb-false, ltb-true, ltb-false}
use Rattle.walk.specs.declared.Status.{Status}
use Rattle.walk.specs.declared.Status.TheVariants.{Found, None, Going}
use Rattle.walk.specs.Numbers.{◌and◌, any_below}
use Rattle.walk.specs.Network.{Network}
use Rattle.walk.specs.Condition.{Condition, accepts}
use Rattle.walk.specs.Walk.{Fits, LeastMatching}
use Rattle.walk.specs.Area.{pairs, reach, word, pairs_at, smallest, status}
use Rattle.walk.proofs.Numbers.{Yes, eqb_of, Least, least-is, FirstAt, first_below, clash}
use Rattle.walk.proofs.Executable.{Sound, accepted, reach_law}
use Rattle.walk.proofs.Words.{unreached, word-is}
use Rattle.walk.proofs.Lengths.{least_law, LeastTo, least_to_bound, word_least_to, passed}

-- the two tests that decide a status: b is at most r, and n is above 0
record Decided (b r n : ℕ) (S : Status) : Type 0 where
  found : (d : ℕ) → S ≡ Found d → (b ≤ r) × (b ≡ d)
  none : S ≡ None → (r < b) × (n ≡ 0)
  going : S ≡ Going → (r < b) × (0 < n)

decided : (b r n : ℕ) → Decided b r n (cond (leb b r) (Found b) (cond (ltb 0 n) Going None))
decided b r n = go (leb b r) refl (ltb 0 n) refl
  where
    go : (t : Bool) → leb b r ≡ t → (u : Bool) → ltb 0 n ≡ u → Decided b r n (cond t (Found b) (cond u Going None))
    go true e u f = record { found = λ d k. (leb-true b r e, cc); none = λ k. clash cc; going = λ k. clash cc }
    go false e true f = record { found = λ d k. clash cc; none = λ k. clash cc; going = λ k. (leb-false b r e, ltb-true 0 n f) }
    go false e false f = record { found = λ d k. clash cc; none = λ k. (leb-false b r e, (let l = ltb-false 0 n f in omega arith)); going = λ k. clash cc }

module _ (N : Network) (C : Condition) (s t : ℕ) (ok : Sound N C) where
  -- some chain of length m from s to t matches, by what is computed
  unfoldable pub matched : ℕ → Bool
  matched m = any_below C.states (λ q. accepts C q and reach N C s m t q)

  matched-is : (m : ℕ) → Yes (matched m) ↔ ((q : ℕ) × Yes (accepts C q) × Yes (reach N C s m t q))
  unfolding matched
  matched-is m = accepted N C ok (reach N C s m t)

  pub matched_law : (m : ℕ) → Yes (matched m) ↔ ((c : List ℕ) × (length c ≡ m) × Fits N C s t c)
  matched_law m = (
    λ h. let (q, a, x) = (matched-is m).0 h in let (c, l, (j, y)) = (reach_law N C ok s m t q).0 x in (c, l, (j, (q, a, y))),
    λ (c, l, (j, (q, a, x))). (matched-is m).1 (q, a, (reach_law N C ok s m t q).1 (c, l, (j, x))),
  )

  -- the least length that is matched is the paper's
  pub shortest_law : (d : ℕ) → FirstAt matched d ↔ LeastMatching N C s t d
  shortest_law d = least_law matched matched_law d

  -- 01: "A least length is at most V×Q - 1"
  pub shortest_bound : (d : ℕ) → t < N.marks → LeastMatching N C s t d → d < pairs N C
  shortest_bound d t-in S =
      let F = (shortest_law d).1 S in
      let (q, a, h) = (matched-is d).0 F.met in
      least_to_bound N C s ok d t q (record { met = h; least = λ m l x. F.least m l ((matched-is m).1 (q, a, x)) }) t-in (ok.accept_in q a)

  module _ (t-in : t < N.marks) (r : ℕ) (few : r < unreached) where
    -- n is a word at t of an accepting state
    asked : ℕ → Bool
    asked n = any_below C.states (λ q. accepts C q and eqb (word N C s r t q) n)

    asked_is : (n : ℕ) → Yes (asked n) ↔ ((q : ℕ) × Yes (accepts C q) × Yes (eqb (word N C s r t q) n))
    unfolding asked
    asked_is n = accepted N C ok (λ q. eqb (word N C s r t q) n)

    smallest-is : Least asked (suc r) (smallest N C s t r)
    unfolding smallest asked
    smallest-is = least-is asked (suc r)

    -- a matched length of at most r is asked for, itself or a smaller one
    not-nearer : (m : ℕ) → m ≤ r → Yes (matched m) → m < smallest N C s t r → ⊥
    not-nearer m l h k =
        let (q, a, x) = (matched-is m).0 h in
        let y = (word-is N C s r t q few).least m l x in
        smallest-is.none_before (word N C s r t q) (omega arith) ((asked_is _).1 (q, a, eqb_of {m = word N C s r t q} refl))

    status-is : Decided (smallest N C s t r) r (pairs_at N C s r) (status N C s t r)
    unfolding status
    status-is = decided (smallest N C s t r) r (pairs_at N C s r)

    pub found-is : (d : ℕ) → status N C s t r ≡ Found d → (d ≤ r) × FirstAt matched d
    found-is d e =
        let (h, f) = status-is.found d e in
        let L : Least asked (suc r) d = subst (λ (x : ℕ). Least asked (suc r) x) f smallest-is in
        let (q, a, w) = (asked_is d).0 (L.passes (omega arith)) in
        let D = word_least_to N C s r d t q few (eqb-true _ _ w) (omega arith) in
        (omega arith, record { met = (matched-is d).1 (q, a, D.met); least = λ m l x. not-nearer m (omega arith) x (omega arith) })

    pub going-is : status N C s t r ≡ Going → (0 < pairs_at N C s r) × ((m : ℕ) → m ≤ r → Yes (matched m) → ⊥)
    going-is e = let (h, f) = status-is.going e in (f, λ m l x. not-nearer m l x (omega arith))

    pub none_is : status N C s t r ≡ None → (pairs_at N C s r ≡ 0) × ((m : ℕ) → Yes (matched m) → ⊥)
    none_is e =
        let (h, f) = status-is.none e in
        (f, λ m x. let (q, a, y) = (matched-is m).0 x in let (d, _, D) = first_below (λ n. reach N C s n t q) m y in none_left h f d q a D)
      where
        none_left : r < smallest N C s t r → pairs_at N C s r ≡ 0 → (d q : ℕ) → Yes (accepts C q) → LeastTo N C s d t q → ⊥
        none_left h f d q a D =
            let far : ¬ (d ≤ r) = λ l. not-nearer d l ((matched-is d).1 (q, a, D.met)) (omega arith) in
            let near : ¬ (r ≤ d) = λ l. (let z = passed N C s ok r d t q few l D t-in (ok.accept_in q a) in omega arith) in
            omega arith
