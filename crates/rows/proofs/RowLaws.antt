-- Rows of the area: where a row stands, a part of the area that is a row, and what the loops over a row and over the marks have written. Each row is
-- written once and touches no other, so after the last mark every word below V×Q is as it should be and every other one as it was.
use Prim.Native.Nat.{ℕ, ◌+◌, ◌-◌, ◌*◌, ◌≤◌, ◌<◌}
use mathlib.Core.Path.{◌≡◌, refl, sym, ◌∙◌, subst, ap}
use mathlib.Core.Bool.{Bool, true, false, cond}
use mathlib.Core.List.{List, ◌++◌}
use mathlib.Core.Logic.{◌⊎◌, inl, inr}
use native.Mathlib.Omega.{arith}
use native.Mathlib.Nat.{mul-le-mul, mul-le-mul_right, suc-mul}
use native.Mathlib.Numerals.{add-one}
use lib.Dec.{ltb, eqb}
use lib.ListN.{length, get_or, set, take, drop, length-set, length-drop, take-append-drop, replicate, get_or-replicate, length-replicate}
use lib.Seq.{ext_get_or, get_or-take, get_or-drop, get_or-set_same, get_or-set_other, length-take-le}
use borrow.Author.Tests.{eqb-true, eqb-false, ltb-true, ltb-false, eq-eqb, ne_eqb, lt-ltb, le-ltb}
use Rattle.walk.specs.Ceilings.{ceilings}
use Rattle.walk.specs.Numbers.{has, ◌and◌, any_below}
use Rattle.tables.proofs.StepLaws.{any-more, no_and, yes_and}
use Rattle.tables.specs.Sets.{LowestFrom}
use Rattle.rows.specs.Rows.{row, opening, Row, Put, RowsTo}

-- where a row stands
pub place_in : (v Q n : ℕ) → v < n → n ≤ ceilings.marks → Q ≤ ceilings.states → (v * Q + Q ≤ n * Q) × (n * Q ≤ ceilings.words)
place_in v Q n h m k = (omega (arith, mul-le-mul_right Q h), omega (arith, mul-le-mul m k))

pub row_at : (A : List ℕ) (Q v q : ℕ) → q < Q → get_or (row A Q v) q 0 ≡ get_or A (v * Q + q) 0
row_at A Q v q h = get_or-take Q (drop (v * Q) A) q 0 h ∙ get_or-drop (v * Q) A q 0

pub row_is : (A : List ℕ) (Q v at end : ℕ) → at ≡ v * Q → end ≡ at + Q → take (end - at) (drop at A) ≡ row A Q v
row_is A Q v at end e f = rw (f, e) (ap (λ (n : ℕ). take n (drop (v * Q) A)) (let z : v * Q + Q - v * Q ≡ Q = omega arith in z))

pub row-length : (A : List ℕ) (Q v n : ℕ) → v < n → n * Q ≤ length A → length (row A Q v) ≡ Q
row-length A Q v n h room = length-take-le Q (drop (v * Q) A) (omega (arith, mul-le-mul_right Q h, length-drop (v * Q) A))

-- a row that is filled state by state
pub row_more : (b : List ℕ) (q w : ℕ) (f : ℕ → ℕ) → q < 32 → w ≡ f q → Row b q f → Row (set b q w) (q + 1) f
row_more b q w f h e R = record { size = length-set b q w ∙ R.size; says = λ i l. go i l (eqb i q) refl }
  where
    go : (i : ℕ) → i < q + 1 → (t : Bool) → eqb i q ≡ t → get_or (set b q w) i 0 ≡ f i
    go i l true x = let y = eqb-true i q x in rw y (get_or-set_same b q w 0 (omega (arith, R.size)) ∙ e)
    go i l false x = let ne : ¬ (i ≡ q) = eqb-false i q x in get_or-set_other b q i w 0 (eqb-false i q x) ∙ R.says i (omega arith)

-- the row of a mark other than s for 0 rounds
pub row-blank : (Q s start v : ℕ) → Q ≤ 32 → (v ≡ s → ⊥) → Row (replicate 32 65535) Q (opening s start v)
row-blank Q s start v h ne = record {
  size = length-replicate {A = ℕ} 32 65535;
  says = λ q l. get_or-replicate 32 q 65535 0 (omega arith)
      ∙ sym (ap (λ (t : Bool). cond t 0 65535) (no_and (eqb s v) (has start q) (ne_eqb s v (λ e. ne (sym e)))));
}

-- the row of s while its start states are passed: the words of those below n are 0, and the others 65535
abbrev pub Started : List ℕ → ℕ → ℕ → Type 0
Started b start n = Row b 32 (λ q. cond (ltb q n and has start q) 0 65535)

pub started_none : (start at : ℕ) → at ≡ 0 → Started (replicate 32 65535) start at
started_none start at e = record {
  size = length-replicate {A = ℕ} 32 65535;
  says = λ q l. get_or-replicate 32 q 65535 0 l
      ∙ sym (ap (λ (t : Bool). cond t 0 65535) (no_and (ltb q at) (has start q) (le-ltb q at (omega arith))));
}

pub started_more : (b : List ℕ) (start t at at' n : ℕ) → t ≡ start → LowestFrom t at n → at' ≡ n + 1 → Started b start at → Started (set b n 0) start at'
started_more b start t at at' n k L e S = record { size = length-set b n 0 ∙ S.size; says = λ q l. go q l (eqb q n) refl }
  where
    stands : has start n ≡ true
    stands = rw k at L.stands

    go : (q : ℕ) → q < 32 → (u : Bool) → eqb q n ≡ u → get_or (set b n 0) q 0 ≡ cond (ltb q at' and has start q) 0 65535
    go q l true x =
        let y = eqb-true q n x in
        rw y
        (get_or-set_same b n 0 0 (omega (arith, S.size, L.below))
        ∙ sym (ap (λ (v : Bool). cond v 0 65535) (yes_and (ltb n at') (has start n) (lt-ltb n at' (omega arith)) ∙ stands)))
    go q l false x =
        let ne : ¬ (q ≡ n) = eqb-false q n x in
        get_or-set_other b n q 0 0 (eqb-false q n x) ∙ S.says q l ∙ ap (λ (v : Bool). cond v 0 65535) (others q ne (ltb q at) refl (ltb q at') refl)
      where
        others : (q : ℕ) → ¬ (q ≡ n) → (u : Bool) → ltb q at ≡ u → (v : Bool) → ltb q at' ≡ v
            → (ltb q at and has start q) ≡ (ltb q at' and has start q)
        others q ne true f v g = let m = ltb-true q at f in ap (λ (w : Bool). w and has start q) (f ∙ sym (lt-ltb q at' (omega (arith, L.from))))
        others q ne false f false g = ap (λ (w : Bool). w and has start q) (f ∙ sym g)
        others q ne false f true g =
            let m = ltb-true q at' g in
            let none : has start q ≡ false = rw k at (L.between q (ltb-false q at f) (omega arith)) in
            no_and _ _ f ∙ sym (yes_and _ _ g ∙ none)

pub started_all : (b : List ℕ) (start t at Q : ℕ) → Q ≤ 32 → t ≡ start → ((i : ℕ) → at ≤ i → has t i ≡ false) → Started b start at
    → Row b Q (λ q. cond (has start q) 0 65535)
started_all b start t at Q h k none S =
    record { size = S.size; says = λ q l. S.says q (omega arith) ∙ ap (λ (v : Bool). cond v 0 65535) (all q (ltb q at) refl) }
  where
    all : (q : ℕ) → (u : Bool) → ltb q at ≡ u → (ltb q at and has start q) ≡ has start q
    all q true f = yes_and _ _ f
    all q false f = no_and _ _ f ∙ sym (rw k at (none q (ltb-false q at f)))

-- the row of s
pub row-started : (b : List ℕ) (Q s start v : ℕ) → v ≡ s → Row b Q (λ q. cond (has start q) 0 65535) → Row b Q (opening s start v)
row-started b Q s start v e R = record {
  size = R.size;
  says = λ q l. R.says q l ∙ sym (ap (λ (t : Bool). cond t 0 65535) (yes_and (eqb s v) (has start q) (eq-eqb s v (sym e))));
}

-- a row that is written word by word
pub put-more : (A A' A'' b : List ℕ) (at q : ℕ) → at + q < length A → A'' ≡ set A' (at + q) (get_or b q 0) → Put A A' b at q → Put A A'' b at (q + 1)
put-more A A' A'' b at q room e P = rw e (record { size = length-set A' (at + q) _ ∙ P.size; inside = ins; outside = out })
  where
    ins : (i : ℕ) → i < q + 1 → get_or (set A' (at + q) (get_or b q 0)) (at + i) 0 ≡ get_or b i 0
    ins i l = go (eqb i q) refl
      where
        go : (t : Bool) → eqb i q ≡ t → get_or (set A' (at + q) (get_or b q 0)) (at + i) 0 ≡ get_or b i 0
        go true x = let y = eqb-true i q x in rw y (get_or-set_same A' (at + q) _ 0 (omega (arith, P.size)))
        go false x =
            let ne : ¬ (i ≡ q) = eqb-false i q x in
            get_or-set_other A' (at + q) (at + i) _ 0 (λ z. (let y : at + i ≡ at + q = z in omega arith)) ∙ P.inside i (omega arith)

    out : (i : ℕ) → (i < at) ⊎ (at + (q + 1) ≤ i) → get_or (set A' (at + q) (get_or b q 0)) i 0 ≡ get_or A i 0
    out i (inl h) = get_or-set_other A' (at + q) i _ 0 (λ z. (let y : i ≡ at + q = z in omega arith)) ∙ P.outside i (inl h)
    out i (inr h) = get_or-set_other A' (at + q) i _ 0 (λ z. (let y : i ≡ at + q = z in omega arith)) ∙ P.outside i (inr (omega arith))

-- rows that are written mark by mark
pub rows_more : (A A' A'' b : List ℕ) (Q v at : ℕ) (f : ℕ → ℕ → ℕ) → at ≡ v * Q → RowsTo A A' Q v f → Put A' A'' b at Q → ((q : ℕ) → q < Q → get_or b q 0 ≡ f v q)
    → RowsTo A A'' Q (v + 1) f
rows_more A A' A'' b Q v at f e R P says = record { size = P.size ∙ R.size; before = bf; after = af }
  where
    bf : (u q : ℕ) → u < v + 1 → q < Q → get_or A'' (u * Q + q) 0 ≡ f u q
    bf u q h hq = go (ltb u v) refl
      where
        go : (t : Bool) → ltb u v ≡ t → get_or A'' (u * Q + q) 0 ≡ f u q
        go true x = let l = ltb-true u v x in P.outside (u * Q + q) (inl (omega (arith, mul-le-mul_right Q l))) ∙ R.before u q l hq
        go false x =
            let l = ltb-false u v x in
            let z : v ≡ u = omega arith in
            subst (λ (k : ℕ). get_or A'' (k * Q + q) 0 ≡ f k q) z (ap (λ (k : ℕ). get_or A'' (k + q) 0) (sym e) ∙ P.inside q hq ∙ says q hq)

    af : (i : ℕ) → (v + 1) * Q ≤ i → get_or A'' i 0 ≡ get_or A i 0
    af i h = let m : (v + 1) * Q ≡ v * Q + Q = rw (add-one, suc-mul) in P.outside i (inr (omega arith)) ∙ R.after i (omega arith)

-- an area is its first n words and the rest
pub whole : (A A' X : List ℕ) (n : ℕ) → length A' ≡ length A → take n A' ≡ X → ((i : ℕ) → n ≤ i → get_or A' i 0 ≡ get_or A i 0) → A' ≡ X ++ drop n A
whole A A' X n size e rest = sym (take-append-drop n A') ∙ ap (λ (l : List ℕ). l ++ drop n A') e ∙ ap (λ (l : List ℕ). X ++ l) same
  where
    same : drop n A' ≡ drop n A
    same = ext_get_or 0 (drop n A') (drop n A) (length-drop n A' ∙ ap (λ (k : ℕ). k - n) size ∙ sym (length-drop n A))
        (λ i h. get_or-drop n A' i 0 ∙ rest (n + i) (omega arith) ∙ sym (get_or-drop n A i 0))

-- a search that has passed every number below n without a hit
pub any_none : (n : ℕ) (p : ℕ → Bool) → any_below n p ≡ false → p n ≡ false → any_below (n + 1) p ≡ false
any_none n p h e = any-more n p ∙ rw (e, h)
