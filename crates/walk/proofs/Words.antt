-- The words of the right area. A word is known by three facts (`Word`), which fix it; so the words for r + 1 rounds come from those for r by
-- one tie more (`word-suc`), and an area is the right one exactly if it passes a test that looks at one pair or one tie at a time (`local_law`).
use Prim.Native.Nat.{ℕ, zero, suc, ◌≤◌, ◌<◌, zero-le}
use mathlib.Core.Path.{◌≡◌, refl, sym, ◌∙◌}
use mathlib.Core.Bool.{Bool, true, false, false≢true, cond}
use mathlib.Core.Logic.{◌↔◌, ◌⊎◌, inl, inr, ⊎_elim}
use native.Mathlib.Nat.{eq-or-lt_of_le}
use native.Mathlib.Omega.{arith}
use lib.Dec.{leb, eqb}
use borrow.Author.Tests.{leb-true, leb-false, eqb-true}
use Rattle.walk.specs.Ceilings.{ceilings}
use Rattle.walk.specs.Numbers.{◌and◌, least}
use Rattle.walk.specs.Network.{Network}
use Rattle.walk.specs.Condition.{Condition, starts}
use Rattle.walk.specs.Area.{into, reach, word}
use Rattle.walk.proofs.Numbers.{Yes, eqb_of, Least, least-is}
use Rattle.walk.proofs.Executable.{Sound, Arc, arc_in, into_in, into_of, reach-zero, reach-suc, suc-reach}

abbrev pub unreached : ℕ
unreached = ceilings.unreached

module _ (N : Network) (C : Condition) (s : ℕ) where
  -- what is known of the word d of a pair
  pub record Word (r v q d : ℕ) : Type 0 where
    pub small : (d ≤ r) ⊎ (d ≡ unreached)
    pub met : d ≤ r → Yes (reach N C s d v q)
    pub least : (n : ℕ) → n ≤ r → Yes (reach N C s n v q) → d ≤ n

  pub word-is : (r v q : ℕ) → r < unreached → Word r v q (word N C s r v q)
  unfolding word
  word-is r v q few = go (least (λ n. reach N C s n v q) (suc r)) (least-is (λ n. reach N C s n v q) (suc r))
    where
      go : (d : ℕ) → Least (λ n. reach N C s n v q) (suc r) d → Word r v q (cond (leb d r) d unreached)
      go d l = by (leb d r) refl
        where
          by : (t : Bool) → leb d r ≡ t → Word r v q (cond t d unreached)
          by true e =
              let k = leb-true d r e in
              record { small = inl k; met = λ _. l.passes (omega arith); least = λ n m t. let no_less : ¬ (n < d) = λ f. l.none_before n f t in omega arith }
          by false e =
              let k = leb-false d r e in
              record { small = inr refl; met = λ f. absurd (omega arith); least = λ n m t. absurd (l.none_before n (omega arith) t) }

  pub one_word : (r v q d e : ℕ) → r < unreached → Word r v q d → Word r v q e → d ≡ e
  one_word r v q d e few D E = go D.small E.small
    where
      go : (d ≤ r) ⊎ (d ≡ unreached) → (e ≤ r) ⊎ (e ≡ unreached) → d ≡ e
      go (inl h) k = let a = E.least d h (D.met h) in let b = D.least e (omega arith) (E.met (omega arith)) in omega arith
      go (inr h) (inl k) = let b = D.least e k (E.met k) in omega arith
      go (inr h) (inr k) = h ∙ sym k

  -- a tie comes to the pair from one whose word is r
  abbrev pub comes : (ℕ → ℕ → ℕ) → ℕ → ℕ → ℕ → Bool
  comes a r v q = into N C (λ u p. eqb (a u p) r) v q

  module _ (ok : Sound N C) where
    pub comes_in : (a : ℕ → ℕ → ℕ) (r v q : ℕ) → Yes (comes a r v q) → (u : ℕ) × (p : ℕ) × Arc N C u p v q × (a u p ≡ r)
    comes_in a r v q t = let (u, p, x, w) = into_in N C ok (λ u p. eqb (a u p) r) v q t in (u, p, x, eqb-true (a u p) r w)

    pub comes_of : (a : ℕ → ℕ → ℕ) (r u p v q : ℕ) → Arc N C u p v q → a u p ≡ r → Yes (comes a r v q)
    comes_of a r u p v q x w = into_of N C ok (λ u p. eqb (a u p) r) u p v q x (eqb_of {n = r} w)

    pub word-zero : (v q : ℕ) → word N C s 0 v q ≡ cond (eqb s v and starts C q) 0 unreached
    unfolding reach
    word-zero v q = one_word 0 v q _ _ (omega arith) (word-is 0 v q (omega arith)) (go (eqb s v and starts C q) refl)
      where
        go : (t : Bool) → eqb s v and starts C q ≡ t → Word 0 v q (cond t 0 unreached)
        go true e = record { small = inl zero-le; met = λ _. e; least = λ n h t. zero-le }
        go false e = record { small = inr refl; met = λ h. absurd (omega arith); least = λ n h t. let z : n ≡ 0 = omega arith in absurd (false≢true (sym e ∙ rw z at t)) }

    -- the words for one round more
    pub word-suc : (r v q : ℕ) → suc r < unreached → word N C s (suc r) v q ≡ cond (leb (word N C s r v q) r) (word N C s r v q) (cond (comes (word N C s r) r v q) (suc r) unreached)
    word-suc r v q few = one_word (suc r) v q _ _ few (word-is (suc r) v q few) (go (leb (word N C s r v q) r) refl (comes (word N C s r) r v q) refl)
      where
        W : (v q : ℕ) → Word r v q (word N C s r v q)
        W v q = word-is r v q (omega arith)

        -- what a chain of length r + 1 reaches comes from a pair whose word is r, or a shorter one reaches it
        last : Yes (reach N C s (suc r) v q) → (word N C s r v q ≤ r) ⊎ Yes (comes (word N C s r) r v q)
        last t =
            let (u, p, x, y) = reach-suc N C ok s r v q t in
            let below = (W u p).least r (omega arith) y in
            ⊎_elim
            (λ e. inr (comes_of (word N C s r) r u p v q x e))
            (λ (l : word N C s r u p < r). let z = (W v q).least _ l (suc-reach N C ok s (word N C s r u p) u p v q x ((W u p).met below)) in inl (omega arith))
            (eq-or-lt_of_le below)

        none : r < word N C s r v q → (n : ℕ) → n ≤ r → Yes (reach N C s n v q) → ⊥
        none k n h t = let z = (W v q).least n h t in omega arith

        go : (t : Bool) → leb (word N C s r v q) r ≡ t → (f : Bool) → comes (word N C s r) r v q ≡ f
            → Word (suc r) v q (cond t (word N C s r v q) (cond f (suc r) unreached))
        go true e f g =
            let k = leb-true (word N C s r v q) r e in
            let short : (n : ℕ) → n ≤ suc r → Yes (reach N C s n v q) → word N C s r v q ≤ n =
            λ n h t. ⊎_elim (λ (m : n ≡ suc r). omega arith) (λ (m : n < suc r). (W v q).least n (omega arith) t) (eq-or-lt_of_le h) in
            record { small = inl (omega arith); met = λ _. (W v q).met k; least = short }
        go false e true g =
            let k = leb-false (word N C s r v q) r e in
            let (u, p, x, w) = comes_in (word N C s r) r v q g in
            record {
              small = inl (omega arith);
              met = λ _. suc-reach N C ok s r u p v q x (rw w at ((W u p).met (omega arith)));
              least = λ n h t. let no_less : ¬ (n ≤ r) = λ m. none k n m t in omega arith;
            }
        go false e false g =
            let k = leb-false (word N C s r v q) r e in
            let no_last : Yes (reach N C s (suc r) v q) → ⊥ = λ t. ⊎_elim (λ (m : word N C s r v q ≤ r). omega arith) (λ m. false≢true (sym g ∙ m)) (last t) in
            record {
              small = inr refl;
              met = λ h. absurd (omega arith);
              least = λ n h t. absurd (⊎_elim (λ m. no_last (rw m at t)) (λ (m : n < suc r). none k n (omega arith) t) (eq-or-lt_of_le h));
            }

module _ (N : Network) (C : Condition) (s r : ℕ) where
  -- the words a of the pairs, tested pair by pair and tie by tie
  pub record Local (a : ℕ → ℕ → ℕ) : Type 0 where
    -- 0 stands exactly at the start pairs
    pub begins : (v q : ℕ) → v < N.marks → q < C.states → (a v q ≡ 0) ↔ ((s ≡ v) × Yes (starts C q))
    -- a tie comes to each other reached pair from one that is one shorter
    pub comes : (v q d : ℕ) → v < N.marks → q < C.states → a v q ≡ suc d → d < r → (u : ℕ) × (p : ℕ) × Arc N C u p v q × (a u p ≡ d)
    -- no tie leads from a pair reached before round r to one that is more than one longer
    pub goes : (u p v q : ℕ) → Arc N C u p v q → a u p < r → a v q ≤ suc (a u p)
    -- every other word marks an unreached pair
    pub small : (v q : ℕ) → v < N.marks → q < C.states → (a v q ≤ r) ⊎ (a v q ≡ unreached)

  abbrev pub Right : (ℕ → ℕ → ℕ) → Type 0
  Right a = (v q : ℕ) → v < N.marks → q < C.states → a v q ≡ word N C s r v q

  module _ (ok : Sound N C) (few : r < unreached) (a : ℕ → ℕ → ℕ) where
    right_local : Right a → Local a
    right_local R = record { begins = st; comes = co; goes = go; small = λ v q hv hq. (W v q hv hq).small }
      where
        W : (v q : ℕ) → v < N.marks → q < C.states → Word N C s r v q (a v q)
        W v q hv hq = rw (R v q hv hq) (word-is N C s r v q few)

        st : (v q : ℕ) → v < N.marks → q < C.states → (a v q ≡ 0) ↔ ((s ≡ v) × Yes (starts C q))
        st v q hv hq =
            (λ e. (reach-zero N C ok s v q).0 (rw e at ((W v q hv hq).met (omega arith))), λ h. let z = (W v q hv hq).least 0 (omega arith) ((reach-zero N C ok s v q).1 h) in omega arith)

        go : (u p v q : ℕ) → Arc N C u p v q → a u p < r → a v q ≤ suc (a u p)
        go u p v q x h =
            let (hu, hp, hv, hq) = arc_in N C ok u p v q x in
            (W v q hv hq).least (suc (a u p)) h (suc-reach N C ok s (a u p) u p v q x ((W u p hu hp).met (omega arith)))

        co : (v q d : ℕ) → v < N.marks → q < C.states → a v q ≡ suc d → d < r → (u : ℕ) × (p : ℕ) × Arc N C u p v q × (a u p ≡ d)
        co v q d hv hq e h =
            let t : Yes (reach N C s (suc d) v q) = rw e at ((W v q hv hq).met (omega arith)) in
            let (u, p, x, y) = reach-suc N C ok s d v q t in
            let (hu, hp, _, _) = arc_in N C ok u p v q x in
            let below = (W u p hu hp).least d (omega arith) y in
            let above = go u p v q x (omega arith) in
            (u, p, x, omega arith)

    local_right : Local a → Right a
    local_right L v q hv hq = one_word N C s r v q _ _ few is (word-is N C s r v q few)
      where
        sound : (d v q : ℕ) → v < N.marks → q < C.states → a v q ≡ d → d ≤ r → Yes (reach N C s d v q)
        sound zero v q hv hq e h = (reach-zero N C ok s v q).1 ((L.begins v q hv hq).0 e)
        sound (suc d) v q hv hq e h =
            let (u, p, x, y) = L.comes v q d hv hq e h in
            let (hu, hp, _, _) = arc_in N C ok u p v q x in
            suc-reach N C ok s d u p v q x (sound d u p hu hp y (omega arith))

        complete : (n v q : ℕ) → v < N.marks → q < C.states → n ≤ r → Yes (reach N C s n v q) → a v q ≤ n
        complete zero v q hv hq h t = let e = (L.begins v q hv hq).1 ((reach-zero N C ok s v q).0 t) in omega arith
        complete (suc n) v q hv hq h t =
            let (u, p, x, y) = reach-suc N C ok s n v q t in
            let (hu, hp, _, _) = arc_in N C ok u p v q x in
            let below = complete n u p hu hp (omega arith) y in
            let above = L.goes u p v q x (omega arith) in
            omega arith

        is : Word N C s r v q (a v q)
        is = record { small = L.small v q hv hq; met = λ h. sound (a v q) v q hv hq refl h; least = λ n h t. complete n v q hv hq h t }

    -- the local test is the definition, both ways
    pub local_law : Local a ↔ Right a
    local_law = (local_right, right_local)
