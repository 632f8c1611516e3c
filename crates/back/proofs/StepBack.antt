-- Over a right area and with the condition's step table, the step back is the walk's: the words are those of the definition, the table's bits say which
-- state follows which, and numbers past the ties, the kinds or the states add nothing. So the two are one function, and what is said of one is
-- said of the other.
use Prim.Native.Nat.{ℕ, ◌≤◌, ◌<◌}
use mathlib.Core.Path.{◌≡◌, refl, sym, ap, ap₂, ◌∙◌, fun_ext}
use mathlib.Core.Bool.{Bool, true, false}
use mathlib.Core.List.{List}
use native.Mathlib.Omega.{arith}
use lib.Dec.{ltb, eqb}
use lib.ListN.{get_or-eq_default}
use borrow.Author.Tests.{ltb-true, ltb-false}
use Rattle.walk.specs.Numbers.{has, ◌and◌, any_below}
use Rattle.walk.specs.Network.{Network, ties, from_of, kinds_of}
use Rattle.walk.specs.Condition.{Condition, accepts}
use Rattle.walk.specs.Area.{leads}
use Rattle.walk.proofs.Numbers.{Yes, and_in, and_of, any_below_in, any_below_of, yes_same}
use Rattle.walk.proofs.Sets.{set_same}
use Rattle.walk.proofs.Executable.{Sound, leads_in, leads_of, leads-states}
use Rattle.walk.proofs.Words.{Right}
use Rattle.walk.proofs.Areas.{at}
use Rattle.walk.proofs.Back as Back
use Rattle.tables.specs.Steps.{Tabled, steps}
use Rattle.back.specs.Over.{leads_into, over, over_tie, ends_at}

pub same_end : (N : Network) (C : Condition) (s t r : ℕ) (A : List ℕ) → Right N C s r (at N C s A) → t < N.marks → (n : ℕ)
    → ends_at A C.states t C.accept n ≡ Back.at_end N C s t r n
unfolding ends_at Back.at_end accepts
same_end N C s t r A right ht n = set_same C.states _ _ (λ q hq. ap (λ (w : ℕ). eqb w n and has C.accept q) (right t q ht hq))

module _ (N : Network) (C : Condition) (s t r : ℕ) (T A : List ℕ) (ok : Sound N C) (some-mark : 1 ≤ N.marks) (kinds : N.kinds ≤ 32)
    (states : C.states ≤ 32) (tab : Tabled T C) (right : Right N C s r (at N C s A)) where
  leads_on : (e p S : ℕ) → p < C.states → leads_into T (kinds_of N e) S p ≡ any_below C.states (λ q. leads N C e p q and has S q)
  unfolding leads_into steps
  leads_on e p S hp =
      yes_same
      (λ y. let (q, hq, x) = any_below_in _ _ y in
      let (a, b) = and_in _ _ x in
      let (k, hk, z) = any_below_in _ _ a in
      let (c, d) = and_in _ _ z in
      let l : Yes (leads N C e p q) = leads_of N C ok e p q k c (sym (tab k p q hk (omega arith)) ∙ d) in
      any_below_of _ _ q (leads-states N C ok e p q l).1 (and_of l b))
      (λ y. let (q, hq, x) = any_below_in _ _ y in
      let (l, b) = and_in _ _ x in
      let (k, c, f) = leads_in N C ok e p q l in
      let hk = ok.kind_in e k c in
      any_below_of _ _ q (omega arith) (and_of (any_below_of _ _ k (omega arith) (and_of c (tab k p q (omega arith) (omega arith) ∙ f))) b))

  -- every number names a mark that is left: past the ties it is the first
  from_in : (e : ℕ) → from_of N e < N.marks
  from_in e = go (ltb e (ties N)) refl
    where
      go : (b : Bool) → ltb e (ties N) ≡ b → from_of N e < N.marks
      go true b = ok.from_in e (ltb-true _ _ b)
      go false b = rw (get_or-eq_default N.froms 0 {n = e} (ltb-false _ _ b)) (omega arith)

  pub same_back : over_tie T A C.states N.froms N.sets ≡ Back.back N C s t r
  unfolding over Back.back
  same_back = fun_ext (λ e. fun_ext (λ i. fun_ext (λ S. set_same C.states _ _ (λ p hp. ap₂ ◌and◌
      (ap (λ (w : ℕ). eqb w i) (right (from_of N e) p (from_in e) hp)) (leads_on e p S hp)))))
