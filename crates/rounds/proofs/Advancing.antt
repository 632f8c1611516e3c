-- A round. The row of each mark, lowered by the arcs from the words that are r, is the row of the right area for r + 1. It is written in place: a
-- row that was written keeps its words up to r and gets no new r, so the words that are r stand where they stood.
use Prim.Native.Nat.{ℕ, suc, ◌+◌, ◌-◌, ◌*◌, ◌≤◌, ◌<◌}
use mathlib.Core.Path.{◌≡◌, refl, sym, ◌∙◌, subst, ap}
use mathlib.Core.Bool.{Bool, true, false, false≢true, cond}
use mathlib.Core.List.{List}
use mathlib.Core.Logic.{◌⊎◌, inl, inr, ⊎_elim}
use native.Mathlib.Omega.{arith}
use native.Mathlib.Nat.{not-suc-le-zero, mul-le-mul_right, le_refl, suc-mul}
use native.Mathlib.Numerals.{add-one}
use lib.Dec.{ltb, leb}
use lib.ListN.{length, get_or}
use borrow.Author.Tests.{ltb-true, ltb-false, leb-true, leb-false}
use Rattle.walk.specs.declared.Question as lent
use Rattle.walk.specs.declared.Move.{Move}
use Rattle.walk.specs.Numbers.{◌and◌}
use Rattle.walk.specs.Area.{word}
use Rattle.walk.specs.Question.{Question, usable, right}
use Rattle.walk.specs.Demands.{Accepted}
use Rattle.walk.specs.Answers.{asked}
use Rattle.walk.proofs.Executable.{arc_in}
use Rattle.walk.proofs.Words.{unreached, Right, comes, comes_in, comes_of, word-is, word-suc}
use Rattle.walk.proofs.Areas.{area-right}
use Rattle.tables.specs.Runs.{Cut}
use Rattle.tables.specs.Steps.{Tabled, Leads}
use Rattle.rows.specs.Rows.{Sized, Row, Put, Alive, between}
use Rattle.rows.specs.Offers.{Lowered, Between, OfTie, AllLiving}
use Rattle.rounds.specs.Judged.{Every, IsRight, Advances}
use Rattle.rows.proofs.RowLaws.{whole}
use Rattle.rows.proofs.AliveLaws.{alive_in, between_yes, between_high, between_in}
use Rattle.rounds.proofs.Offered.{sound, at, From, offered}

module _ (Z : lent.Question) (T A : List ℕ) (r : ℕ) where
  -- the marks before v are as one round more has them, and the rest is as it was; no word was raised
  pub record Sofar (v : ℕ) (A' : List ℕ) : Type 0 where
    pub size : length A' ≡ length A
    pub after : (i : ℕ) → v * Z.condition.states ≤ i → get_or A' i 0 ≡ get_or A i 0
    pub lower : (i : ℕ) → get_or A' i 0 ≤ get_or A i 0
    pub says : Every Z T (λ D. (u q : ℕ) → u < v → q < Z.condition.states → at D.condition A' u q ≡ word D.network D.condition D.from (suc r) u q)

  pub sofar_none : Sofar 0 A
  sofar_none = record { size = refl; after = λ i h. refl; lower = λ i. le_refl _; says = λ m tab acc u q h. absurd (not-suc-le-zero h) }

  pub sofar_living : (L A' : List ℕ) (v : ℕ) → r < 65535 → Alive L A Z.network.marks Z.condition.states r (r + 1) → Sofar v A' → AllLiving L A' Z.network.marks Z.condition.states
  sofar_living L A' v few liv F u p hu t =
      let (x, _, y) = alive_in L A Z.network.marks Z.condition.states r (r + 1) u p liv hu t in
      let z = F.lower (u * Z.condition.states + p) in
      (x, omega arith)

  module _ (size : Sized Z.network.marks Z.network.kinds Z.condition.states A) (few : suc r < 65535) (is_right : IsRight Z T r A) where
    abbrev D : List Move → Question
    D m = asked Z m

    rightly : (m : List Move) → Tabled T (D m).condition → Accepted (D m) → Right (D m).network (D m).condition Z.ask.from r (at (D m).condition A)
    unfolding right usable
    rightly m tab acc = (area-right (D m).network (D m).condition Z.ask.from r A size.room).0 (is_right m tab acc)

    module _ (S L : List ℕ) (ties v i z : ℕ) (A' A'' o b : List ℕ) (lead : Leads T S Z.condition.states) (liv : Alive L A Z.network.marks Z.condition.states r (r + 1))
        (froms : length Z.from.now ≡ ties) (hv : v < Z.network.marks) (cut : Cut Z.to.now ties v i) (cut' : Cut Z.to.now ties (suc v) z)
        (row : Row o Z.condition.states (λ q. get_or A' (v * Z.condition.states + q) 0))
        (low : Lowered (Between i (OfTie T S L A' Z.condition.states Z.from.now Z.kinds.now) z) o b) (put : Put A' A'' b (v * Z.condition.states) Z.condition.states) (F : Sofar v A') where
      lowered : (j : ℕ) → get_or A'' j 0 ≤ get_or A j 0
      lowered j = go (ltb j (v * Z.condition.states)) refl (ltb j (v * Z.condition.states + Z.condition.states)) refl
        where
          go : (t : Bool) → ltb j (v * Z.condition.states) ≡ t → (s : Bool) → ltb j (v * Z.condition.states + Z.condition.states) ≡ s → get_or A'' j 0 ≤ get_or A j 0
          go true e s f = let k = put.outside j (inl (ltb-true _ _ e)) in let l = F.lower j in omega arith
          go false e false f = let k = put.outside j (inr (ltb-false _ _ f)) in let l = F.lower j in omega arith
          go false e true f =
              let x = ltb-false j (v * Z.condition.states) e in
              let y = ltb-true j (v * Z.condition.states + Z.condition.states) f in
              let q = j - v * Z.condition.states in
              let h : q < Z.condition.states = omega arith in
              let nar = size.narrow in
              let g : v * Z.condition.states + q ≡ j = omega arith in
              let k : get_or A'' j 0 ≡ get_or b q 0 = subst (λ (l : ℕ). get_or A'' l 0 ≡ get_or b q 0) g (put.inside q h) in
              let l : get_or o q 0 ≡ get_or A' j 0 = subst (λ (l : ℕ). get_or o q 0 ≡ get_or A' l 0) g (row.says q h) in
              let d = low.keeps q (omega arith) in
              let w = F.lower j in
              omega arith

      module _ (m : List Move) (tab : Tabled T (D m).condition) (acc : Accepted (D m)) where
        old : ℕ → ℕ → ℕ
        old = word (D m).network (D m).condition Z.ask.from r

        new : ℕ → ℕ → ℕ
        new = word (D m).network (D m).condition Z.ask.from (suc r)

        -- the words that are r stand where they stood
        raised : (u q : ℕ) → between r (r + 1) (new u q) ≡ between r (r + 1) (old u q)
        unfolding old new
        raised u q = ap (λ (k : ℕ). between r (r + 1) k) (word-suc (D m).network (D m).condition Z.ask.from (sound (D m) acc) r u q few) ∙ go
            (leb (old u q) r) refl (comes (D m).network (D m).condition Z.ask.from old r u q)
          where
            go : (t : Bool) → leb (old u q) r ≡ t → (s : Bool) → between r (r + 1) (cond t (old u q) (cond s (suc r) unreached)) ≡ between r (r + 1) (old u q)
            go true e s = refl
            go false e true = between_high r (r + 1) (suc r) (omega arith) ∙ sym (between_high r (r + 1) (old u q) (let x = leb-false (old u q) r e in omega arith))
            go false e false = between_high r (r + 1) unreached (omega arith) ∙ sym (between_high r (r + 1) (old u q) (let x = leb-false (old u q) r e in omega arith))

        level : (u p : ℕ) → u < Z.network.marks → p < Z.condition.states → between r (r + 1) (get_or A (u * Z.condition.states + p) 0) ≡ between r (r + 1) (get_or A' (u * Z.condition.states + p) 0)
        unfolding old new
        level u p hu hp = go (ltb u v) refl
          where
            go : (t : Bool) → ltb u v ≡ t → between r (r + 1) (get_or A (u * Z.condition.states + p) 0) ≡ between r (r + 1) (get_or A' (u * Z.condition.states + p) 0)
            go true e =
                ap (λ (k : ℕ). between r (r + 1) k) (rightly m tab acc u p hu hp) ∙ sym (raised u p)
                ∙ sym (ap (λ (k : ℕ). between r (r + 1) k) (F.says m tab acc u p (ltb-true u v e) hp))
            go false e =
                let l = ltb-false u v e in
                let k = mul-le-mul_right Z.condition.states l in
                ap (λ (k : ℕ). between r (r + 1) k) (sym (F.after (u * Z.condition.states + p) (omega arith)))

        still : Alive L A' Z.network.marks Z.condition.states r (r + 1)
        unfolding ◌and◌
        still u p hu = liv u p hu ∙ go (ltb p Z.condition.states) refl
          where
            go : (t : Bool) → ltb p Z.condition.states ≡ t → (t and between r (r + 1) (get_or A (u * Z.condition.states + p) 0)) ≡ (t and between r (r + 1) (get_or A' (u * Z.condition.states + p) 0))
            go true e = level u p hu (ltb-true _ _ e)
            go false e = refl

        arcs : Lowered (From (D m).network (D m).condition A' r (r + 1) v) o b
        arcs =
            offered (D m).network (D m).condition T S L A' r (r + 1) (sound (D m) acc) size.kinds_few size.narrow tab lead still v i z o b
            (subst (λ (k : ℕ). Cut Z.to.now k v i) (sym froms) cut) (subst (λ (k : ℕ). Cut Z.to.now k (suc v) z) (sym froms) cut') low

        written : (q : ℕ) → q < Z.condition.states → get_or b q 0 ≡ new v q
        unfolding old new
        written q h = go (leb (old v q) r) refl (comes (D m).network (D m).condition Z.ask.from old r v q) refl ∙ sym
            (word-suc (D m).network (D m).condition Z.ask.from (sound (D m) acc) r v q few)
          where
            nar : Z.condition.states ≤ 32
            nar = size.narrow

            was : get_or o q 0 ≡ old v q
            was = row.says q h ∙ F.after (v * Z.condition.states + q) (omega arith) ∙ rightly m tab acc v q hv h

            shape : (get_or b q 0 ≡ get_or o q 0) ⊎ From (D m).network (D m).condition A' r (r + 1) v q (get_or b q 0)
            shape = arcs.comes q (omega arith)

            go : (t : Bool) → leb (old v q) r ≡ t → (s : Bool) → comes (D m).network (D m).condition Z.ask.from old r v q ≡ s
                → get_or b q 0 ≡ cond t (old v q) (cond s (suc r) unreached)
            go true e s f =
                let x = leb-true (old v q) r e in
                let k = arcs.keeps q (omega arith) in
                let w = was in
                ⊎_elim (λ y. y ∙ was) (λ (u, p, y, l, l', g). absurd (omega arith)) shape
            go false e true f =
                let (u, p, x, w) = comes_in (D m).network (D m).condition Z.ask.from (sound (D m) acc) old r v q f in
                let (hu, hp, _, _) = arc_in (D m).network (D m).condition (sound (D m) acc) u p v q x in
                let g : get_or A (u * Z.condition.states + p) 0 ≡ r = rightly m tab acc u p hu hp ∙ w in
                let (l, l') = between_in r (r + 1) (get_or A' (u * Z.condition.states + p) 0) (sym (level u p hu hp) ∙ between_yes r (r + 1) _ (omega arith) (omega arith)) in
                let k = arcs.takes q (suc (get_or A' (u * Z.condition.states + p) 0)) (omega arith) (u, p, x, l, l', refl) in
                let d = leb-false (old v q) r e in
                ⊎_elim (λ y. (let z : get_or b q 0 ≡ old v q = y ∙ was in absurd (far z d k l')))
                (λ (u, p, y, l, l', g). (let z : get_or b q 0 ≡ suc r = omega arith in z)) shape
              where
                far : {w : ℕ} → get_or b q 0 ≡ old v q → r < old v q → get_or b q 0 ≤ suc w → w < r + 1 → ⊥
                far {w} y d k l = ⊎_elim (λ (g : old v q ≤ r). omega arith) (λ (g : old v q ≡ unreached). omega arith)
                    (word-is (D m).network (D m).condition Z.ask.from r v q (omega arith)).small
            go false e false f =
                let d = leb-false (old v q) r e in
                ⊎_elim
                (λ y. y ∙ was ∙ ⊎_elim (λ (g : old v q ≤ r). absurd (omega arith)) (λ g. g)
                (word-is (D m).network (D m).condition Z.ask.from r v q (omega arith)).small)
                (λ (u, p, y, l, l', g).
                (let (hu, hp, _, _) = arc_in (D m).network (D m).condition (sound (D m) acc) u p v q y in
                let (k, k') = between_in r (r + 1) (get_or A (u * Z.condition.states + p) 0) (level u p hu hp ∙ between_yes r (r + 1) _ l l') in
                let w : old u p ≡ r = sym (rightly m tab acc u p hu hp) ∙ (let x : get_or A (u * Z.condition.states + p) 0 ≡ r = omega arith in x) in
                absurd (false≢true (sym f ∙ comes_of (D m).network (D m).condition Z.ask.from (sound (D m) acc) old r u p v q y w))))
                shape

        says : (u q : ℕ) → u < v + 1 → q < Z.condition.states → get_or A'' (u * Z.condition.states + q) 0 ≡ word (D m).network (D m).condition Z.ask.from (suc r) u q
        unfolding new
        says u q h hq = go (ltb u v) refl
          where
            go : (t : Bool) → ltb u v ≡ t → get_or A'' (u * Z.condition.states + q) 0 ≡ new u q
            go true e =
                let l = ltb-true u v e in
                put.outside (u * Z.condition.states + q) (inl (omega (arith, mul-le-mul_right Z.condition.states l))) ∙ F.says m tab acc u q l hq
            go false e =
                let l = ltb-false u v e in
                let y : v ≡ u = omega arith in
                subst (λ (k : ℕ). get_or A'' (k * Z.condition.states + q) 0 ≡ new k q) y (put.inside q hq ∙ written q hq)

      pub sofar_more : Sofar (v + 1) A''
      sofar_more = record {
        size = put.size ∙ F.size;
        after = λ j h. (let k : (v + 1) * Z.condition.states ≡ v * Z.condition.states + Z.condition.states = rw (add-one, suc-mul) in put.outside j (inr (omega arith)) ∙ F.after j (omega arith));
        lower = lowered;
        says = says;
      }

    pub sofar_all : (v : ℕ) (A' : List ℕ) → v ≡ Z.network.marks → Sofar v A' → Advances Z T r A A'
    unfolding right usable
    sofar_all v A' e F m tab acc =
        let fits : Z.network.marks * Z.condition.states ≤ length A' = omega (arith, F.size, size.room) in
        whole A A' (right (D m) (suc r)) (Z.network.marks * Z.condition.states) F.size
        ((area-right (D m).network (D m).condition Z.ask.from (suc r) A' fits).1 (λ u q hu hq. F.says m tab acc u q (rw e hu) hq))
        (λ j h. F.after j (rw e h))
