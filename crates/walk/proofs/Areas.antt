-- The area as a list: the word at v×Q + q belongs to mark v and state q. So an area is the right one exactly if each pair's word is, and one
-- round takes the right area for r rounds to the right one for r + 1.
use Prim.Native.Nat.{ℕ, zero, suc, ◌+◌, ◌*◌, ◌/◌, ◌%◌, ◌≤◌, ◌<◌}
use mathlib.Core.Bool.{cond}
use mathlib.Core.Path.{◌≡◌, refl, sym, ◌∙◌, ap}
use mathlib.Core.List.{List}
use mathlib.Core.Logic.{◌↔◌}
use native.Mathlib.Nat.{not-suc-le-zero, div-lt_iff_lt-mul, mod-lt, div-add-mod', mul-zero}
use native.Mathlib.Omega.{arith}
use lib.Arith.{digits_lt, digits_div, digits_mod}
use lib.Dec.{leb, eqb}
use lib.ListN.{length, get_or, take}
use lib.Seq.{ext_get_or, get_or-take, length-take-le}
use borrow.Author.Tests.{eqb-true}
use Rattle.walk.specs.Numbers.{◌and◌, table}
use Rattle.walk.specs.Network.{Network}
use Rattle.walk.specs.Condition.{Condition, starts}
use Rattle.walk.specs.Area.{pairs, word, area, pairs_at}
use Rattle.walk.proofs.Numbers.{eqb_of, getD-table, length-table, table-ext, yes_same, tally_in, tally_of}
use Rattle.walk.proofs.Executable.{Sound, arc_in}
use Rattle.walk.proofs.Words.{unreached, Right, comes, comes_in, comes_of, word-zero, word-suc}

-- a place below V×Q belongs to a mark below V and a state below Q
pub pair_in : (m n i : ℕ) → i < m * n → (i / n < m) × (i % n < n)
pair_in m zero i h = absurd (not-suc-le-zero (rw mul-zero at h))
pair_in m (suc n) i h = let p : 0 < suc n = omega arith in ((div-lt_iff_lt-mul p).1 h, mod-lt i p)

module _ (N : Network) (C : Condition) (s : ℕ) where
  pub length-area : (r : ℕ) → length (area N C s r) ≡ pairs N C
  unfolding area
  length-area r = length-table _ _

  area-get : (r i : ℕ) → i < pairs N C → get_or (area N C s r) i 0 ≡ word N C s r (i / C.states) (i % C.states)
  unfolding area
  area-get r i h = getD-table _ _ i 0 h

  pub area-at : (r v q : ℕ) → v < N.marks → q < C.states → get_or (area N C s r) (v * C.states + q) 0 ≡ word N C s r v q
  area-at r v q hv hq = area-get r (v * C.states + q) (digits_lt hv hq) ∙ rw (digits_div v hq, digits_mod v hq) refl

  -- the word of a pair in an area
  abbrev pub at : List ℕ → ℕ → ℕ → ℕ
  at a v q = get_or a (v * C.states + q) 0

  pub area-right : (r : ℕ) (l : List ℕ) → pairs N C ≤ length l → (take (pairs N C) l ≡ area N C s r) ↔ Right N C s r (at l)
  area-right r l h = (to, of)
    where
      to : take (pairs N C) l ≡ area N C s r → Right N C s r (at l)
      to e v q hv hq = sym (get_or-take (pairs N C) l (v * C.states + q) 0 (digits_lt hv hq)) ∙ ap (λ (k : List ℕ). at k v q) e ∙ area-at r v q hv hq

      of : Right N C s r (at l) → take (pairs N C) l ≡ area N C s r
      of R = ext_get_or 0 _ _ (length-take-le _ l h ∙ sym (length-area r)) at_place
        where
          at_place : (i : ℕ) → i < length (take (pairs N C) l) → get_or (take (pairs N C) l) i 0 ≡ get_or (area N C s r) i 0
          at_place i k =
              let b : i < pairs N C = rw (length-take-le (pairs N C) l h) at k in
              let (hv, hq) = pair_in N.marks C.states i b in
              let e : get_or l i 0 ≡ word N C s r (i / C.states) (i % C.states) = rw (div-add-mod' i C.states) at (R (i / C.states) (i % C.states) hv hq) in
              get_or-take (pairs N C) l i 0 b ∙ e ∙ sym (area-get r i b)

  -- the words equal to r are above 0 in number exactly where some pair has the word r
  pub pairs_at_law : (r : ℕ) → (0 < pairs_at N C s r) ↔ ((u : ℕ) × (p : ℕ) × (u < N.marks) × (p < C.states) × (word N C s r u p ≡ r))
  unfolding pairs_at
  pairs_at_law r = (
    λ h. let (i, l, e) = tally_in _ _ h in
        let b : i < pairs N C = rw (length-area r) at l in
        let (hu, hp) = pair_in N.marks C.states i b in
        (i / C.states, i % C.states, hu, hp, sym (area-get r i b) ∙ sym (eqb-true r (get_or (area N C s r) i 0) e)),
    λ (u, p, hu, hp, e). tally_of (eqb r) (area N C s r) (u * C.states + p) (rw (length-area r) (digits_lt hu hp)) (eqb_of {m = r} (sym (area-at r u p hu hp ∙ e))),
  )

  -- what start and a round write
  unfoldable pub begin : ℕ → ℕ
  begin i = cond (eqb s (i / C.states) and starts C (i % C.states)) 0 unreached

  unfoldable pub step : List ℕ → ℕ → ℕ → ℕ
  step a r i = cond (leb (get_or a i 0) r) (get_or a i 0) (cond (comes N C s (at a) r (i / C.states) (i % C.states)) (suc r) unreached)

  module _ (ok : Sound N C) where
    pub begin_law : area N C s 0 ≡ table (pairs N C) begin
    unfolding area begin
    begin_law = table-ext _ _ _ (λ i h. word-zero N C s ok (i / C.states) (i % C.states))

    comes-same : (r v q : ℕ) → comes N C s (at (area N C s r)) r v q ≡ comes N C s (word N C s r) r v q
    comes-same r v q =
        yes_same
        (λ t. let (u, p, x, w) = comes_in N C s ok (at (area N C s r)) r v q t in
        let (hu, hp, _, _) = arc_in N C ok u p v q x in
        comes_of N C s ok (word N C s r) r u p v q x (sym (area-at r u p hu hp) ∙ w))
        (λ t. let (u, p, x, w) = comes_in N C s ok (word N C s r) r v q t in
        let (hu, hp, _, _) = arc_in N C ok u p v q x in
        comes_of N C s ok (at (area N C s r)) r u p v q x (area-at r u p hu hp ∙ w))

    step-at : (r i : ℕ) → suc r < unreached → i < pairs N C → word N C s (suc r) (i / C.states) (i % C.states) ≡ step (area N C s r) r i
    unfolding step
    step-at r i few h = rw (area-get r i h, comes-same r (i / C.states) (i % C.states)) (word-suc N C s ok r (i / C.states) (i % C.states) few)

    -- one round takes the right area for r to the right one for r + 1
    pub step_law : (r : ℕ) → suc r < unreached → area N C s (suc r) ≡ table (pairs N C) (step (area N C s r) r)
    unfolding area
    step_law r few = table-ext _ _ _ (λ i h. step-at r i few h)
