-- The count rule. The round before the last said Going: no chain of its count or fewer ties matches, and some pair has its count as least length.
-- So Found first shows at the least length itself, and None at one more than the greatest least length.
use Prim.Native.Nat.{ℕ, zero, suc, ◌-◌, ◌≤◌, ◌<◌}
use mathlib.Core.Path.{◌≡◌, refl, sym, ◌∙◌, ap}
use mathlib.Core.List.{List}
use mathlib.Core.Logic.{◌⊎◌, inl, inr}
use native.Mathlib.Omega.{arith}
use Rattle.walk.specs.declared.Status.TheVariants.{Found, None}
use Rattle.walk.specs.Question.{Question, usable, status}
use Rattle.walk.specs.Calls.{Progress, progress}
use Rattle.walk.specs.Demands.{PairAt, Made, Counted, CountRule}
use Rattle.walk.proofs.Words.{unreached}
use Rattle.walk.proofs.Lengths.{least_to_law, passed}
use Rattle.walk.proofs.Refusals.{Ready, ready}
use Rattle.walk.proofs.Preparations.{Holds, holds}
use Rattle.walk.proofs.Demand2.{pairs-left, status-is}

module _ (D : Question) (w : List ℕ) {n : ℕ} {p : Progress} {a : List ℕ} (M : Made D w n p a) where
  H : Holds D w n p a
  H = holds D w M

  R : Ready D
  R = ready D H.accepted

  few : n < unreached
  few = let i = H.within in let f = R.few in omega arith

  made : p.done ≡ n
  unfolding progress
  made = ap (λ (x : Progress). x.done) H.says

  says : p.status ≡ status D n
  unfolding progress
  says = ap (λ (x : Progress). x.status) H.says

  found : (d : ℕ) → p.status ≡ Found d → p.done ≡ d
  found d e =
      let (h, L) = ((status-is D R n few).found d).0 (sym says ∙ e) in
      let (c, l, x) = L.met in
      let m = made in
      let not-less : ¬ (d < n) = λ k. (let z = ((status-is D R (n - 1) (omega (arith, few))).going.0 (H.going (n - 1) (omega arith))).0 c x in omega arith) in
      omega arith

  -- at None no pair has a least length of n or more
  short : p.status ≡ None → (d : ℕ) → PairAt D d → d < n
  short e d (v, q, hv, hq, L) =
      let not_more : ¬ (n ≤ d) =
      λ l. ((status-is D R n few).none.0 (sym says ∙ e)).1
      ((pairs-left D R n few).0 (passed (usable D) D.condition D.from R.sound n d v q few l ((least_to_law (usable D) D.condition D.from R.sound d v q).1 L) hv hq)) in
      omega arith

  none : (k : ℕ) → n ≡ k → p.status ≡ None → ((p.done ≡ 0) × ((d : ℕ) → PairAt D d → ⊥)) ⊎ ((d : ℕ) × (p.done ≡ suc d) × PairAt D d × ((e : ℕ) → PairAt D e → e ≤ d))
  none zero z e = inl (made ∙ z, λ d P. (let l = short e d P in omega arith))
  none (suc i) z e =
      let P = ((status-is D R i (omega (arith, few, z))).going.0 (H.going i z)).1 in
      inr (i, made ∙ z, P, λ d Q. (let l = short e d Q in omega arith))

  counted : Counted D n p
  counted = record { made = made; found = found; none = λ e. none n refl e; within = (let m = made in let i = H.within in omega arith) }

pub count_rule : (D : Question) (w : List ℕ) → CountRule D w
count_rule D w n p a M = counted D w M
