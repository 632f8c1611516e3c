-- Least lengths. Each is met by all smaller ones, one pair for each, and these pairs differ; so a least length is below V×Q, no pair has one
-- once no pair has the one before, and none is 65,535.
use Prim.Native.Nat.{ℕ, zero, suc, ◌+◌, ◌*◌, ◌-◌, ◌/◌, ◌%◌, ◌≤◌, ◌<◌, zero-le, min}
use mathlib.Core.Path.{◌≡◌, refl, sym, ◌∙◌, subst, subst₂, ap}
use mathlib.Core.Bool.{Bool, true, false, cond}
use mathlib.Core.List.{List}
use mathlib.Core.Logic.{◌↔◌, ◌⊎◌, inl, inr, ⊎_elim}
use native.Mathlib.Nat.{not-suc-le-zero}
use native.Mathlib.Omega.{arith}
use lib.Arith.{digits_lt, digits_div, digits_mod}
use lib.Dec.{eqb}
use lib.ListN.{length}
use borrow.Author.Tests.{eqb-true, eqb-false}
use Rattle.walk.specs.Network.{Network}
use Rattle.walk.specs.Condition.{Condition}
use Rattle.walk.specs.Walk.{LeastLength, LeastReaching}
use Rattle.walk.specs.Area.{pairs, reach, word, area, pairs_at}
use Rattle.walk.proofs.Numbers.{Yes, FirstAt, first_one, table-ext}
use Rattle.walk.proofs.Executable.{Sound, Arc, arc_in, reach_law, reach-suc, suc-reach}
use Rattle.walk.proofs.Words.{unreached, Word, word-is, one_word}
use Rattle.walk.proofs.Areas.{pair_in, pairs_at_law}

-- n numbers below m that differ are at most m
pigeon : (m n : ℕ) (f : ℕ → ℕ) → ((i : ℕ) → i < n → f i < m) → ((i j : ℕ) → i < j → j < n → f i ≡ f j → ⊥) → n ≤ m
pigeon zero zero f h k = zero-le
pigeon zero (suc n) f h k = absurd (not-suc-le-zero (h 0 (omega arith)))
pigeon (suc m) zero f h k = zero-le
pigeon (suc m) (suc n) f h k = let r = pigeon m n g low apart in omega arith
  where
    -- the place m is given to the last number's
    g : ℕ → ℕ
    g i = cond (eqb (f i) m) (f n) (f i)

    low : (i : ℕ) → i < n → g i < m
    low i l = go (eqb (f i) m) refl
      where
        go : (t : Bool) → eqb (f i) m ≡ t → cond t (f n) (f i) < m
        go true e = let a = eqb-true (f i) m e in let b = h n (omega arith) in let c : ¬ (f n ≡ m) = λ z. k i n l (omega arith) (a ∙ sym z) in omega arith
        go false e = let b = h i (omega arith) in let c : ¬ (f i ≡ m) = eqb-false (f i) m e in omega arith

    apart : (i j : ℕ) → i < j → j < n → g i ≡ g j → ⊥
    apart i j l u = go (eqb (f i) m) refl (eqb (f j) m) refl
      where
        go : (t : Bool) → eqb (f i) m ≡ t → (s : Bool) → eqb (f j) m ≡ s → cond t (f n) (f i) ≡ cond s (f n) (f j) → ⊥
        go true e true d z = k i j l (omega arith) (eqb-true (f i) m e ∙ sym (eqb-true (f j) m d))
        go true e false d z = k j n u (omega arith) (sym z)
        go false e true d z = k i n (omega arith) (omega arith) z
        go false e false d z = k i j l (omega arith) z

-- the least number that passes is the least length of a chain of P, where n passes exactly if some chain of P has the length n
pub least_law : {P : List ℕ → Type 0} (p : ℕ → Bool) → ((n : ℕ) → Yes (p n) ↔ ((c : List ℕ) × (length c ≡ n) × P c)) → (d : ℕ) → FirstAt p d ↔ LeastLength P d
least_law p law d = (
  λ F. record { met = (law d).0 F.met; least = λ c x. let n : ¬ (length c < d) = λ l. F.least (length c) l ((law (length c)).1 (c, refl, x)) in omega arith },
  λ L. record { met = (law d).1 L.met; least = λ m l t. let (c, e, x) = (law m).0 t in let y = L.least c x in omega arith },
)

module _ (N : Network) (C : Condition) (s : ℕ) where
  -- d is the least length of a chain from s to v that reaches q, by what is computed
  abbrev pub LeastTo : ℕ → ℕ → ℕ → Type 0
  LeastTo d v q = FirstAt (λ n. reach N C s n v q) d

  pub word_least_to : (r d v q : ℕ) → r < unreached → word N C s r v q ≡ d → d ≤ r → LeastTo d v q
  word_least_to r d v q few e h =
      let W = word-is N C s r v q few in
      record { met = rw e at (W.met (omega arith)); least = λ m l t. let z = W.least m (omega arith) t in omega arith }

  pub least_to_word : (r d v q : ℕ) → r < unreached → LeastTo d v q → d ≤ r → word N C s r v q ≡ d
  least_to_word r d v q few D h =
      let W = word-is N C s r v q few in
      let below = W.least d h D.met in
      let not-less : ¬ (word N C s r v q < d) = λ l. D.least _ l (W.met (omega arith)) in
      omega arith

  module _ (ok : Sound N C) where
    -- in the paper's words
    pub least_to_law : (d v q : ℕ) → LeastTo d v q ↔ LeastReaching N C s v q d
    least_to_law d v q = least_law (λ n. reach N C s n v q) (λ n. reach_law N C ok s n v q) d

    -- each least length is met by the one below it
    least_to_down : (d v q : ℕ) → LeastTo (suc d) v q → (u : ℕ) × (p : ℕ) × Arc N C u p v q × LeastTo d u p
    least_to_down d v q D =
        let (u, p, x, y) = reach-suc N C ok s d v q D.met in
        (u, p, x, record { met = y; least = λ m h t. D.least (suc m) (omega arith) (suc-reach N C ok s m u p v q x t) })

    level : (k r v q : ℕ) → LeastTo (k + r) v q → v < N.marks → q < C.states → (u : ℕ) × (p : ℕ) × (u < N.marks) × (p < C.states) × LeastTo r u p
    level zero r v q D hv hq = (v, q, hv, hq, subst (λ (d : ℕ). LeastTo d v q) (omega arith) D)
    level (suc k) r v q D hv hq =
        let (u, p, x, E) = least_to_down (k + r) v q (subst (λ (d : ℕ). LeastTo d v q) (omega arith) D) in
        let (hu, hp, _, _) = arc_in N C ok u p v q x in
        level k r u p E hu hp

    -- pairs are left at r exactly where some pair has the least length r, and where one has a greater
    pub standing : (r : ℕ) → r < unreached → (0 < pairs_at N C s r) ↔ ((u : ℕ) × (p : ℕ) × (u < N.marks) × (p < C.states) × LeastTo r u p)
    standing r few = (
      λ h. let (u, p, hu, hp, e) = (pairs_at_law N C s r).0 h in (u, p, hu, hp, word_least_to r r u p few e (omega arith)),
      λ (u, p, hu, hp, D). (pairs_at_law N C s r).1 (u, p, hu, hp, least_to_word r r u p few D (omega arith)),
    )

    pub passed : (r d v q : ℕ) → r < unreached → r ≤ d → LeastTo d v q → v < N.marks → q < C.states → 0 < pairs_at N C s r
    passed r d v q few h D hv hq = (standing r few).1 (level (d - r) r v q (subst (λ (k : ℕ). LeastTo k v q) (omega arith) D) hv hq)

    -- 01: "A least length is at most V×Q - 1"
    pub least_to_bound : (d v q : ℕ) → LeastTo d v q → v < N.marks → q < C.states → d < pairs N C
    least_to_bound d v q D hv hq = pigeon (pairs N C) (suc d) f low apart
      where
        -- a pair of the level r, or of the level d past it
        at : (r : ℕ) → (u : ℕ) × (p : ℕ) × (u < N.marks) × (p < C.states) × LeastTo (min r d) u p
        at r = level (d - min r d) (min r d) v q (subst (λ (k : ℕ). LeastTo k v q) (omega arith) D) hv hq

        f : ℕ → ℕ
        f r = (at r).0 * C.states + (at r).1

        low : (i : ℕ) → i < suc d → f i < pairs N C
        low i h = digits_lt (at i).2 (at i).3

        apart : (i j : ℕ) → i < j → j < suc d → f i ≡ f j → ⊥
        apart i j l u e =
            let m : (at i).0 ≡ (at j).0 = sym (digits_div (at i).0 (at i).3) ∙ ap (λ (k : ℕ). k / C.states) e ∙ digits_div (at j).0 (at j).3 in
            let n : (at i).1 ≡ (at j).1 = sym (digits_mod (at i).0 (at i).3) ∙ ap (λ (k : ℕ). k % C.states) e ∙ digits_mod (at j).0 (at j).3 in
            let E : LeastTo (min i d) (at j).0 (at j).1 = subst₂ (λ (x y : ℕ). LeastTo (min i d) x y) m n (at i).4 in
            let z = first_one (λ m. reach N C s m (at j).0 (at j).1) (min i d) (min j d) E (at j).4 in
            omega arith

    -- 01: "65,535 marks an unreached pair in the area and stands nowhere else"
    pub never_unreached : (d v q : ℕ) → pairs N C ≤ unreached → LeastReaching N C s v q d → v < N.marks → q < C.states → d < unreached
    never_unreached d v q few M hv hq = let b = least_to_bound d v q ((least_to_law d v q).1 M) hv hq in omega arith

    -- once no word is r, the words stay for every later round
    stays : (r m v q : ℕ) → r ≤ m → m < unreached → (0 < pairs_at N C s r → ⊥) → v < N.marks → q < C.states → word N C s m v q ≡ word N C s r v q
    stays r m v q h few none hv hq = one_word N C s r v q _ _ (omega arith) is (word-is N C s r v q (omega arith))
      where
        M : Word N C s m v q (word N C s m v q)
        M = word-is N C s m v q few

        -- a word from r on would be met by the word r
        no_more : r ≤ word N C s m v q → word N C s m v q ≤ m → ⊥
        no_more a b = none (passed r (word N C s m v q) v q (omega arith) a (word_least_to m (word N C s m v q) v q few refl b) hv hq)

        small : (word N C s m v q ≤ r) ⊎ (word N C s m v q ≡ unreached)
        small = ⊎_elim (λ b. let x : ¬ (r ≤ word N C s m v q) = λ a. no_more a b in inl (omega arith)) (λ b. inr b) M.small

        is : Word N C s r v q (word N C s m v q)
        is = record { small = small; met = λ k. M.met (omega arith); least = λ n k t. M.least n (omega arith) t }

    pub area-stays : (r m : ℕ) → r ≤ m → m < unreached → (0 < pairs_at N C s r → ⊥) → area N C s m ≡ area N C s r
    unfolding area
    area-stays r m h few none = table-ext _ _ _ (λ i l. let (hv, hq) = pair_in N.marks C.states i l in stays r m (i / C.states) (i % C.states) h few none hv hq)
