-- What the ties between two cuts offer to a mark is what the walk paper's steps lead to: an offer is an arc from a state alive, and every such arc is
-- offered, by its own tie, kind and state. So a row that the loops have lowered is lowered by the arcs into its mark.
use Prim.Native.Nat.{ℕ, suc, ◌+◌, ◌*◌, ◌≤◌, ◌<◌}
use mathlib.Core.Path.{◌≡◌, refl, sym, ◌∙◌, subst, ap}
use mathlib.Core.List.{List}
use native.Mathlib.Omega.{arith}
use native.Mathlib.Numerals.{add-one}
use lib.Bits.{bit_and}
use lib.ListN.{get_or}
use borrow.Author.Tests.{lt-ltb}
use Rattle.walk.specs.Numbers.{has}
use Rattle.walk.specs.Network.{Network, ties, from_of, to_of}
use Rattle.walk.specs.Condition.{Condition, follows}
use Rattle.walk.specs.Question.{Question, usable}
use Rattle.walk.specs.Demands.{Accepted}
use Rattle.walk.proofs.Numbers.{Yes, and_in, and_of}
use Rattle.walk.proofs.Executable.{Sound, Arc, arc_in, leads_in, leads_of}
use Rattle.walk.proofs.Refusals.{ready}
use Rattle.tables.specs.Runs.{Cut}
use Rattle.tables.specs.Steps.{Tabled, Leads}
use Rattle.tables.proofs.SetLaws.{has-and}
use Rattle.rows.specs.Rows.{Alive}
use Rattle.rows.specs.Offers.{Lowered, Between, OfTie}
use Rattle.rows.proofs.RowLaws.{row_at}
use Rattle.rows.proofs.AliveLaws.{alive_in, between_yes}
use Rattle.rows.proofs.Lowering.{lowered_as}

-- over an accepted question all that is named is there
pub sound : (D : Question) → Accepted D → Sound D.network D.condition
unfolding usable
sound D acc = (ready D acc).sound

-- the word of a pair
abbrev pub at : Condition → List ℕ → ℕ → ℕ → ℕ
at C A v q = get_or A (v * C.states + q) 0

-- one more than the word of a pair, from which an arc leads to v and q and whose word lies in the range
abbrev pub From : Network → Condition → List ℕ → ℕ → ℕ → ℕ → ℕ → ℕ → Type 0
From N C A lo hi v q w = (u : ℕ) × (p : ℕ) × Arc N C u p v q × (lo ≤ at C A u p) × (at C A u p < hi) × (w ≡ suc (at C A u p))

module _ (N : Network) (C : Condition) (T S L A : List ℕ) (lo hi : ℕ) (ok : Sound N C) (kinds : N.kinds ≤ 32) (narrow : C.states ≤ 32)
    (tab : Tabled T C) (lead : Leads T S C.states) (liv : Alive L A N.marks C.states lo hi) where
  abbrev Offer : ℕ → ℕ → ℕ → Type 0
  Offer = OfTie T S L A C.states N.froms N.sets

  offer_arc : (e v q w : ℕ) → e < ties N → to_of N e ≡ v → Offer e q w → From N C A lo hi v q w
  offer_arc e v q w he hv (k, hk, tk, (p, hp, tp, (i, _, ti, (eq, ew)))) =
      let u = from_of N e in
      let (lv, _) = and_in _ _ (sym (has-and (get_or L u 0) (get_or S k 0) p) ∙ tp) in
      let (a, b, c) = alive_in L A N.marks C.states lo hi u p liv (ok.from_in e he) lv in
      let f : Yes (follows C p k q) = subst (λ (n : ℕ). Yes (follows C p k n)) (sym eq) (sym (tab k p i hk hp) ∙ ti) in (
        u,
        p,
        record { tie = e; tie_in = he; leaves = refl; arrives = hv; steps = leads_of N C ok e p q k tk f },
        b,
        c,
        ew ∙ ap (λ (n : ℕ). n + 1)
            (row_at A C.states u p a) ∙ add-one _,
      )

  arc_offer : (u p v q : ℕ) (x : Arc N C u p v q) → lo ≤ at C A u p → at C A u p < hi → Offer x.tie q (suc (at C A u p))
  arc_offer u p v q x l h =
      let e = x.tie in
      let (hu, hp, hv, hq) = arc_in N C ok u p v q x in
      let (k, tk, f) = leads_in N C ok e p q x.steps in
      let hk = ok.kind_in e k tk in
      let k32 : k < 32 = omega arith in
      let p32 : p < 32 = omega arith in
      let st : Yes (has (get_or T (k * 32 + p) 0) q) = tab k p q k32 p32 ∙ f in
      let lv : Yes (has (get_or L u 0) p) = liv u p hu ∙ and_of (lt-ltb p C.states hp) (between_yes lo hi (at C A u p) l h) in
      let both : Yes (has (bit_and (get_or L u 0) (get_or S k 0)) p) = has-and (get_or L u 0) (get_or S k 0) p ∙ and_of lv (lead.covers k p q k32 p32 st) in
      rw x.leaves (k, k32, tk, (p, p32, both, (q, omega arith, st, (refl, sym (add-one _) ∙ ap (λ (n : ℕ). n + 1) (sym (row_at A C.states u p hp))))))

  pub offered : (v a z : ℕ) (b b' : List ℕ) → Cut N.tos (ties N) v a → Cut N.tos (ties N) (suc v) z → Lowered (Between a Offer z) b b'
      → Lowered (From N C A lo hi v) b b'
  offered v a z b b' cut cut' low = lowered_as (Between a Offer z) (From N C A lo hi v) b b' low arc_into into_arc
    where
      into_arc : (q w : ℕ) → Between a Offer z q w → From N C A lo hi v q w
      into_arc q w (e, l, m, x) =
          let h : e < ties N = omega (arith, cut'.within) in
          let above = cut.after e l h in
          let below = cut'.before e m in
          offer_arc e v q w h (let y : to_of N e ≡ v = omega arith in y) x

      arc_into : (q w : ℕ) → From N C A lo hi v q w → Between a Offer z q w
      arc_into q w (u, p, x, l, h, e) =
          let i = x.tie in
          let t = x.arrives in
          let no_less : ¬ (i < a) = λ m. let y = cut.before i m in omega arith in
          let no_more : ¬ (z ≤ i) = λ m. let y = cut'.after i m x.tie_in in omega arith in
          (i, omega arith, omega arith, subst (λ (n : ℕ). Offer i q n) (sym e) (arc_offer u p v q x l h))
