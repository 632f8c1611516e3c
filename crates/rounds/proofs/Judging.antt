-- The test of the area. At each mark the row that a preparation begins with, lowered by the arcs from words below r, is the row of the area exactly
-- where the local test of the definition passes at that mark; and the area is the right one exactly where it passes at every mark. The step table
-- decides the arcs, so an area that is right for one list of moves is right for every list with the same table.
use Prim.Native.Nat.{ℕ, zero, suc, ◌+◌, ◌*◌, ◌≤◌, ◌<◌, zero-le}
use mathlib.Core.Path.{◌≡◌, refl, sym, ◌∙◌, subst, ap}
use mathlib.Core.Bool.{Bool, true, false, false≢true, not, cond}
use mathlib.Core.List.{List}
use mathlib.Core.Logic.{◌↔◌, ◌⊎◌, inl, inr, ⊎_elim}
use native.Mathlib.Omega.{arith}
use native.Mathlib.Nat.{not-suc-le-zero, le_antisymm}
use lib.Dec.{ltb, eqb}
use lib.ListN.{length, get_or, take}
use borrow.Author.Tests.{eqb-true, eqb-false, ltb-true, ltb-false, not-true}
use Rattle.walk.specs.declared.Question as lent
use Rattle.walk.specs.declared.Move.{Move}
use Rattle.walk.specs.Numbers.{has, ◌and◌}
use Rattle.walk.specs.Network.{Network}
use Rattle.walk.specs.Condition.{Condition, starts}
use Rattle.walk.specs.Question.{Question, usable, pairs, right}
use Rattle.walk.specs.Demands.{Accepted}
use Rattle.walk.specs.Answers.{asked}
use Rattle.walk.proofs.Numbers.{Yes, and_in, and_of, eqb_of, any_below_in, any_below_of}
use Rattle.walk.proofs.Executable.{Sound, Arc, arc_in, leads_in, leads_of}
use Rattle.walk.proofs.Words.{unreached, Local, local_law}
use Rattle.walk.proofs.Areas.{area-right}
use Rattle.tables.specs.Runs.{Cut}
use Rattle.tables.specs.Steps.{Tabled, Leads}
use Rattle.rows.specs.Rows.{row, Sized, opening, Row, differ, Alive}
use Rattle.rows.specs.Offers.{Lowered, Between, OfTie}
use Rattle.rounds.specs.Judged.{Every, IsRight, Tells}
use Rattle.rows.proofs.RowLaws.{row_at, row-length}
use Rattle.rounds.proofs.Offered.{sound, at, From, offered}

-- the local test of the definition, at mark v
pub record At (N : Network) (C : Condition) (s r : ℕ) (A : List ℕ) (v : ℕ) : Type 0 where
  begins : (q : ℕ) → q < C.states → (at C A v q ≡ 0) ↔ ((s ≡ v) × Yes (starts C q))
  comes : (q d : ℕ) → q < C.states → at C A v q ≡ suc d → d < r → (u : ℕ) × (p : ℕ) × Arc N C u p v q × (at C A u p ≡ d)
  goes : (u p q : ℕ) → Arc N C u p v q → at C A u p < r → at C A v q ≤ suc (at C A u p)
  small : (q : ℕ) → q < C.states → (at C A v q ≤ r) ⊎ (at C A v q ≡ unreached)

module _ (N : Network) (C : Condition) (s r : ℕ) (A : List ℕ) (ok : Sound N C) where
  local_at : Local N C s r (at C A) → (v : ℕ) → v < N.marks → At N C s r A v
  local_at L v h = record {
    begins = λ q k. L.begins v q h k;
    comes = λ q d k e l. L.comes v q d h k e l;
    goes = λ u p q x l. L.goes u p v q x l;
    small = λ q k. L.small v q h k;
  }

  at_local : ((v : ℕ) → v < N.marks → At N C s r A v) → Local N C s r (at C A)
  at_local M = record {
    begins = λ v q h k. (M v h).begins q k;
    comes = λ v q d h k e l. (M v h).comes q d k e l;
    goes = λ u p v q x l. (let (_, _, hv, _) = arc_in N C ok u p v q x in (M v hv).goes u p q x l);
    small = λ v q h k. (M v h).small q k;
  }

  module _ (few : r < unreached) (narrow : C.states ≤ 32) (v : ℕ) (o b : List ℕ) (op : Row o C.states (opening s C.start v))
      (low : Lowered (From N C A 0 r v) o b) where
    -- where the row begins: 0 at a start pair, else unreached
    opens : (q : ℕ) → q < C.states → (((s ≡ v) × Yes (starts C q)) × (get_or o q 0 ≡ 0)) ⊎ ((((s ≡ v) × Yes (starts C q)) → ⊥) × (get_or o q 0 ≡ 65535))
    unfolding starts
    opens q h = go (eqb s v and has C.start q) refl (op.says q h)
      where
        go : (t : Bool) → eqb s v and has C.start q ≡ t → get_or o q 0 ≡ cond t 0 65535
            → (((s ≡ v) × Yes (has C.start q)) × (get_or o q 0 ≡ 0)) ⊎ ((((s ≡ v) × Yes (has C.start q)) → ⊥) × (get_or o q 0 ≡ 65535))
        go true e f = let (x, y) = and_in _ _ e in inl ((eqb-true s v x, y), f)
        go false e f = inr (λ (x, y). false≢true (sym e ∙ and_of (eqb_of x) y), f)

    -- a word of the lowered row: as the row begins, or one more than an arc's source
    shape : (q : ℕ) → q < C.states → (get_or b q 0 ≡ get_or o q 0) ⊎ From N C A 0 r v q (get_or b q 0)
    shape q h = low.comes q (omega arith)

    under : (u p q : ℕ) → q < C.states → Arc N C u p v q → at C A u p < r → get_or b q 0 ≤ suc (at C A u p)
    under u p q h x l = low.takes q _ (omega arith) (u, p, x, zero-le, l, refl)

    -- the row passes
    at_of : ((q : ℕ) → q < C.states → at C A v q ≡ get_or b q 0) → At N C s r A v
    at_of E = record { begins = bg; comes = cm; goes = gs; small = sm }
      where
        bg : (q : ℕ) → q < C.states → (at C A v q ≡ 0) ↔ ((s ≡ v) × Yes (starts C q))
        bg q h = (
          λ e. let z = E q h in
              ⊎_elim
              (λ (x : get_or b q 0 ≡ get_or o q 0). ⊎_elim (λ (y, _). y) (λ (_, y). absurd (omega arith)) (opens q h))
              (λ (u, p, x, _, l, f). absurd (omega arith))
              (shape q h),
          λ t. let z = E q h in
              let k = low.keeps q (omega arith) in
              ⊎_elim (λ (_, y). (let w : get_or o q 0 ≡ 0 = y in omega arith)) (λ (y, _). absurd (y t)) (opens q h),
        )

        cm : (q d : ℕ) → q < C.states → at C A v q ≡ suc d → d < r → (u : ℕ) × (p : ℕ) × Arc N C u p v q × (at C A u p ≡ d)
        cm q d h e l =
            let z = E q h in
            ⊎_elim
            (λ (x : get_or b q 0 ≡ get_or o q 0). ⊎_elim (λ (_, y). absurd (let w : get_or o q 0 ≡ 0 = y in omega arith))
            (λ (_, y). absurd (let w : get_or o q 0 ≡ 65535 = y in omega arith)) (opens q h))
            (λ (u, p, x, _, m, f). (u, p, x, omega arith))
            (shape q h)

        gs : (u p q : ℕ) → Arc N C u p v q → at C A u p < r → at C A v q ≤ suc (at C A u p)
        gs u p q x l = let (_, _, _, h) = arc_in N C ok u p v q x in let z = E q h in let k = under u p q h x l in omega arith

        sm : (q : ℕ) → q < C.states → (at C A v q ≤ r) ⊎ (at C A v q ≡ unreached)
        sm q h =
            let z = E q h in
            ⊎_elim
            (λ (x : get_or b q 0 ≡ get_or o q 0). ⊎_elim (λ (_, y). inl (let w : get_or o q 0 ≡ 0 = y in omega arith)) (λ (_, y). inr (z ∙ x ∙ y)) (opens q h))
            (λ (u, p, x, _, m, f). inl (omega arith))
            (shape q h)

    -- the row of a right area passes
    at-is : At N C s r A v → (q : ℕ) → q < C.states → at C A v q ≡ get_or b q 0
    at-is M q h = le_antisymm above below
      where
        above : at C A v q ≤ get_or b q 0
        above =
            ⊎_elim
            (λ (x : get_or b q 0 ≡ get_or o q 0). ⊎_elim
            (λ (y, _). (let z = (M.begins q h).1 y in omega arith))
            (λ (_, y). (let w : get_or o q 0 ≡ 65535 = y in ⊎_elim (λ (g : at C A v q ≤ r). omega arith) (λ (g : at C A v q ≡ 65535). omega arith) (M.small q h)))
            (opens q h))
            (λ (u, p, x, _, l, f). (let k = M.goes u p q x l in omega arith))
            (shape q h)

        begun : at C A v q ≡ 0 → get_or b q 0 ≤ 0
        begun e =
            let k = low.keeps q (omega arith) in
            ⊎_elim (λ (_, y). (let w : get_or o q 0 ≡ 0 = y in omega arith)) (λ (y, _). absurd (y ((M.begins q h).0 e))) (opens q h)

        reached : (d : ℕ) → at C A v q ≡ d → d ≤ r → get_or b q 0 ≤ d
        reached zero f l = begun f
        reached (suc d) f l = let (u, p, x, k) = M.comes q d h f l in let m = under u p q h x (omega arith) in omega arith

        below : get_or b q 0 ≤ at C A v q
        below =
            let k = low.keeps q (omega arith) in
            ⊎_elim
            (λ (g : at C A v q ≤ r). reached (at C A v q) refl g)
            (λ (g : at C A v q ≡ 65535). ⊎_elim (λ (_, y). (let w : get_or o q 0 ≡ 0 = y in omega arith))
            (λ (_, y). (let w : get_or o q 0 ≡ 65535 = y in omega arith)) (opens q h))
            (M.small q h)

module _ (Z : lent.Question) (T A : List ℕ) (r : ℕ) where
  -- the marks before v pass
  abbrev pub Passed : ℕ → Type 0
  Passed v = Every Z T (λ D. (u : ℕ) → u < v → At D.network D.condition D.from r A u)

  pub passed_none : Passed 0
  passed_none m tab acc u h = absurd (not-suc-le-zero h)

  module _ (size : Sized Z.network.marks Z.network.kinds Z.condition.states A) (few : r < 65535) where
    abbrev D : List Move → Question
    D m = asked Z m

    test : (m : List Move) → Accepted (D m) → Local (D m).network (D m).condition Z.ask.from r (at (D m).condition A) ↔ (take (pairs (D m)) A ≡ right (D m) r)
    unfolding right usable
    test m acc =
        let R = area-right (D m).network (D m).condition Z.ask.from r A size.room in
        let L = local_law (D m).network (D m).condition Z.ask.from r (sound (D m) acc) few (at (D m).condition A) in
        (λ l. R.1 (L.0 l), λ e. L.1 (R.0 e))

    -- the table decides the arcs, and so the right area
    module _ (m m' : List Move) (tab : Tabled T (D m).condition) (tab' : Tabled T (D m').condition) (acc : Accepted (D m)) (acc' : Accepted (D m')) where
      same_arc : (u p v q : ℕ) → Arc (D m).network (D m).condition u p v q → Arc (D m').network (D m').condition u p v q
      same_arc u p v q x =
          let ok = sound (D m) acc in
          let (_, hp, _, _) = arc_in (D m).network (D m).condition ok u p v q x in
          let (k, tk, f) = leads_in (D m).network (D m).condition ok x.tie p q x.steps in
          let k32 : k < 32 = omega (arith, ok.kind_in x.tie k tk, size.kinds_few) in
          let p32 : p < 32 = omega (arith, hp, size.narrow) in
          record {
            tie = x.tie;
            tie_in = x.tie_in;
            leaves = x.leaves;
            arrives = x.arrives;
            steps = leads_of (D m').network (D m').condition (sound (D m') acc') x.tie p q k tk (sym (tab' k p q k32 p32) ∙ tab k p q k32 p32 ∙ f);
          }

    pub right-by-table : (m : List Move) → Tabled T (D m).condition → Accepted (D m) → take (pairs (D m)) A ≡ right (D m) r → IsRight Z T r A
    unfolding starts
    right-by-table m tab acc e m' tab' acc' =
        let L = (test m acc).1 e in
        (test m' acc').0 (record {
          begins = L.begins;
          comes = λ v q d h k f l. (let (u, p, x, w) = L.comes v q d h k f l in (u, p, same_arc m m' tab tab' acc acc' u p v q x, w));
          goes = λ u p v q x l. L.goes u p v q (same_arc m' m tab' tab acc' acc u p v q x) l;
          small = L.small;
        })

    pub passed-all : (v : ℕ) → v ≡ Z.network.marks → Passed v → Tells Z T true r A
    passed-all v e P m tab acc =
        (λ _. (test m acc).0 (at_local (D m).network (D m).condition Z.ask.from r A (sound (D m) acc) (λ u h. P m tab acc u (rw (← e) at h))), λ _. refl)

    module _ (S L : List ℕ) (ties : ℕ) (lead : Leads T S Z.condition.states) (liv : Alive L A Z.network.marks Z.condition.states 0 r) (froms : length Z.from.now ≡ ties)
        (v i z : ℕ) (o b W : List ℕ) (hv : v < Z.network.marks)
        (cut : Cut Z.to.now ties v i) (cut' : Cut Z.to.now ties (suc v) z) (op : Row o Z.condition.states (opening Z.ask.from Z.condition.start v))
        (low : Lowered (Between i (OfTie T S L A Z.condition.states Z.from.now Z.kinds.now) z) o b) (eW : W ≡ row A Z.condition.states v) where
      arcs : (m : List Move) → Tabled T (D m).condition → Accepted (D m) → Lowered (From (D m).network (D m).condition A 0 r v) o b
      arcs m tab acc =
          offered (D m).network (D m).condition T S L A 0 r (sound (D m) acc) size.kinds_few size.narrow tab lead liv v i z o b
          (subst (λ (k : ℕ). Cut Z.to.now k v i) (sym froms) cut) (subst (λ (k : ℕ). Cut Z.to.now k (suc v) z) (sym froms) cut') low

      in_row : (q : ℕ) → q < Z.condition.states → get_or W q 0 ≡ get_or A (v * Z.condition.states + q) 0
      in_row q h = ap (λ (l : List ℕ). get_or l q 0) eW ∙ row_at A Z.condition.states v q h

      wide : length W ≡ Z.condition.states
      wide = ap (λ (l : List ℕ). length l) eW ∙ row-length A Z.condition.states v Z.network.marks hv size.room

      passed-more : differ W b (length W) ≡ false → Passed v → Passed (v + 1)
      passed-more e P m tab acc u h = by (ltb u v) refl
        where
          same : (q : ℕ) → q < Z.condition.states → get_or A (v * Z.condition.states + q) 0 ≡ get_or b q 0
          same q l = sym (in_row q l) ∙ go (eqb (get_or W q 0) (get_or b q 0)) refl
            where
              go : (t : Bool) → eqb (get_or W q 0) (get_or b q 0) ≡ t → get_or W q 0 ≡ get_or b q 0
              go true f = eqb-true _ _ f
              go false f = absurd (false≢true (sym e ∙ any_below_of (length W) _ q (omega (arith, wide)) (ap not f)))

          by : (t : Bool) → ltb u v ≡ t → At (D m).network (D m).condition Z.ask.from r A u
          by true f = P m tab acc u (ltb-true u v f)
          by false f =
              let y : v ≡ u = omega (arith, ltb-false u v f) in
              subst (λ (k : ℕ). At (D m).network (D m).condition Z.ask.from r A k) y
              (at_of (D m).network (D m).condition Z.ask.from r A (sound (D m) acc) few size.narrow v o b op (arcs m tab acc) same)

      passed-not : differ W b (length W) ≡ true → Tells Z T false r A
      passed-not e m tab acc = (λ f. absurd (false≢true f), λ f. absurd (wrong f))
        where
          wrong : take (pairs (D m)) A ≡ right (D m) r → ⊥
          wrong f =
              let (q, h, t) = any_below_in (length W) _ e in
              let k : q < Z.condition.states = omega (arith, wide) in
              let M = local_at (D m).network (D m).condition Z.ask.from r A (sound (D m) acc) ((test m acc).1 f) v hv in
              let g = at-is (D m).network (D m).condition Z.ask.from r A (sound (D m) acc) few size.narrow v o b op (arcs m tab acc) M q k in
              eqb-false _ _ (not-true _ t) (in_row q k ∙ g)

      -- the comparison of the row answered x
      pub compared : (x : Bool) → x ≡ differ W b (length W) → (x ≡ false → Passed v → Passed (v + 1)) × (x ≡ true → Tells Z T false r A)
      compared x e = (λ f. passed-more (sym e ∙ f), λ f. passed-not (sym e ∙ f))
