-- The locals past a function's first parameters, where those parameters are any list: what a walk needs that is made for every list of parameters at once.
-- The locals are the result's, of the type ρ; those of the first parameters, ps, which hold ws; and then ls, which hold us. A local of ls is named by its place k in ls, and is local `suc (past ps k)` of the function.
--     frame, held                          the function's locals, and what they hold, r being what the result's holds
--     at-past, fills_past, arg_past        `Locals.antt`'s `at_local`, `fills` and `arg` for a local of ls
--     fit_past, home_past, holding-past    what is known of ls from what is known of all
--     lends_on                             a `&mut [R]` that is a local of ls is lent on, by two statements: its pointer is taken, and then the slice is made of that and of the length (`lending`)
--     lends_out_past, takes-back-past      the cell of a local of ls, out of the locals and back
-- Assumes `Logic`.
use mathlib.Core.Path.{◌≡◌, refl, sym, ◌∙◌, ap, subst}
use Prim.Native.Nat.{ℕ, zero, suc}
use mathlib.Core.List.{List, [], ◌∷◌, ◌++◌}
use lib.Dec.{T}
use lib.ListN.{get_or, set}
use seplogic.Ra.Ura.{Ura}
use base.Fraction.{full_share}
use mir.Syntax.{Lifetime, erased, mut, Ty, ty_ref, ty_enum, ttnil, Local, local, value_local, Body, place, copy, field, deref, seq, assign, addr_of, aggregate}
use mir.Val.{Val, vptr, WT, has_ty}
use base.Fml.{fat, froom}
use prog.Memory.{field_of}
use prog.Wp.{spot_of, no_local, Calls, Loops}
use types.Logic.{Logic}
use types.Kit.{Item, ‵, nth, put, Post, Goal, runs, Step, step, ◌$◌, rewrite}
use types.Part.{Part, agg, sub, look_in}
use types.Run.{Writes, Opd, stop, hop, fld, from, load, addr, and_then, no_more, assigns}
use denote.Slice.{slice_ty, slice_val}
use Rattle.byhand.proofs.Locals.{Cell, empty, full, away, Locals, at_local, arg, fills, Blocks, at_blocks, holding, Fit, AllHome, lends_out, takes_back}

-- lists
abbrev pub past : List Local → ℕ → ℕ
past [] k = k
past (p ∷ ps) k = suc (past ps k)

abbrev pub Same : List Local → List Val → Type 0
Same [] [] = Unit {0}
Same [] (w ∷ ws) = ⊥
Same (p ∷ ps) [] = ⊥
Same (p ∷ ps) (w ∷ ws) = Same ps ws

abbrev pub fulls : List Val → List Cell
fulls [] = []
fulls (w ∷ ws) = full w ∷ fulls ws

abbrev mir_types : List Local → List Ty
mir_types [] = []
mir_types (local τ h ∷ ls) = τ ∷ mir_types ls

pub holding-past : (ps : List Local) (ws : List Val) → Same ps ws → (ls : List Local) (vs : List Val) → holding (ps ++ ls) (ws ++ vs) ≡ fulls ws ++ holding ls vs
holding-past [] [] s ls vs = refl
holding-past [] (w ∷ ws) s ls vs = absurd s
holding-past (p ∷ ps) [] s ls vs = absurd s
holding-past (p ∷ ps) (w ∷ ws) s ls vs = ap (λ (us : List Cell). full w ∷ us) (holding-past ps ws s ls vs)

get-past : (ps : List Local) (ws : List Val) → Same ps ws → (us : List Cell) (k : ℕ) → get_or (fulls ws ++ us) (past ps k) away ≡ get_or us k away
get-past [] [] s us k = refl
get-past [] (w ∷ ws) s us k = absurd s
get-past (p ∷ ps) [] s us k = absurd s
get-past (p ∷ ps) (w ∷ ws) s us k = get-past ps ws s us k

set_past : (ps : List Local) (ws : List Val) → Same ps ws → (us : List Cell) (k : ℕ) (c : Cell) → set (fulls ws ++ us) (past ps k) c ≡ fulls ws ++ set us k c
set_past [] [] s us k c = refl
set_past [] (w ∷ ws) s us k c = absurd s
set_past (p ∷ ps) [] s us k c = absurd s
set_past (p ∷ ps) (w ∷ ws) s us k c = ap (λ (vs : List Cell). full w ∷ vs) (set_past ps ws s us k c)

pub home_past : (ws : List Val) (us : List Cell) → AllHome us → AllHome (fulls ws ++ us)
home_past [] us h = h
home_past (w ∷ ws) us h = home_past ws us h

type_at : (ls : List Local) (bs : Blocks ls) (k : ℕ) (d : Ty × ℕ) → (get_or (at_blocks ls bs) k d).0 ≡ get_or (mir_types ls) k d.0
type_at [] bs k d = refl
type_at (local τ h ∷ ls) bs zero d = refl
type_at (local τ h ∷ ls) bs (suc k) d = type_at ls bs.1 k d

type_past : (ps ls : List Local) (bs : Blocks (ps ++ ls)) (k : ℕ) (d : Ty × ℕ) → (get_or (at_blocks (ps ++ ls) bs) (past ps k) d).0 ≡ get_or (mir_types ls) k d.0
type_past [] ls bs k d = type_at ls bs k d
type_past (local τ h ∷ ps) ls bs k d = type_past ps ls bs.1 k d

pub fit_past : (ps : List Local) (ws : List Val) → Same ps ws → (ls : List Local) (vs : List Val) → Fit (ps ++ ls) (ws ++ vs) → Fit ls vs
fit_past [] [] s ls vs f = f
fit_past [] (w ∷ ws) s ls vs f = absurd s
fit_past (p ∷ ps) [] s ls vs f = absurd s
fit_past (local τ h ∷ ps) (w ∷ ws) s ls vs f = fit_past ps ws s ls vs f.1

abbrev pub mir_type : List Local → ℕ → Ty
mir_type ls k = get_or (mir_types ls) k (ty_enum [] ttnil)

abbrev pub frame : Ty → List Local → List Local → List Local
frame ρ ps ls = local ρ value_local ∷ ps ++ ls

abbrev pub held : List Val → Cell → List Cell → List Cell
held ws r us = r ∷ fulls ws ++ us

abbrev pub pointer : ℕ × ℕ → Val
pointer p = vptr p.0 p.1

-- two statements, and then the rest
abbrev pub lending : List Local → Ty → ℕ → Body → Body
lending ps el y rest = seq (assign (place (suc (past ps (suc y))) []) (addr_of (place (suc (past ps 0)) (field 0 ∷ deref el ∷ []))))
    (seq (assign (place (suc (past ps (suc (suc y)))) []) (aggregate (copy (place (suc (past ps (suc y))) []) ∷ copy (place (suc (past ps 0)) (field 1 ∷ [])) ∷ []))) rest)

-- the rules
module _ (ρ : Ty) (ps ls : List Local) (bs : Blocks (frame ρ ps ls)) (ws : List Val) (same : Same ps ws) where
  abbrev env : List (Ty × ℕ)
  env = at_blocks (frame ρ ps ls) bs

  abbrev block : ℕ → ℕ
  block k = (get_or env (suc (past ps k)) (ty_enum [] ttnil, zero)).1

  module _ {M : Type 1} {𝓤 : Ura M} {𝓛 : Logic 𝓤} {K : Type 0} where
    open 𝓛 use {H}

    module _ (us : List Cell) where
      pub at-past : K → (k : ℕ) {r : Cell} {v : Val} → get_or us k away ≡ full v
          → Part K 𝓛 (‵ (Locals env (held ws r us))) full_share (mir_type ls k) (block k) zero v (λ w. ‵ (Locals env (set (held ws r us) (suc (past ps k)) (full w))))
      at-past t k {r} {v} e =
          subst (λ (τ : Ty). Part K 𝓛 (‵ (Locals env (held ws r us))) full_share τ (block k) zero v (λ w. ‵ (Locals env (set (held ws r us) (suc (past ps k)) (full w)))))
          (type_past ps ls bs.1 k (no_local 𝓤 H)) (at_local t (suc (past ps k)) (get-past ps ws same us k ∙ e))

      module _ {Γ : List (Item 𝓤)} where
        pub fills_past : K → (n k : ℕ) {r : Cell} {v : Val} → nth 𝓛 n Γ ≡ ‵ (Locals env (held ws r us)) → get_or us k away ≡ empty → T (has_ty (mir_type ls k) v) × WT v
            → Writes K 𝓛 Γ (spot_of 𝓤 H env (suc (past ps k))).0 (block k) zero v (put 𝓛 n (‵ (Locals env (held ws r (set us k (full v))))) Γ)
        fills_past t n k {r} {v} at_n e wt =
            subst (λ (vs : List Cell). Writes K 𝓛 Γ (spot_of 𝓤 H env (suc (past ps k))).0 (block k) zero v (put 𝓛 n (‵ (Locals env (r ∷ vs))) Γ))
            (set_past ps ws same us k (full v)) (fills t n (suc (past ps k)) at_n (get-past ps ws same us k ∙ e) (subst (λ (τ : Ty). T (has_ty τ v) × WT v) (sym (type_past ps ls bs.1 k (no_local 𝓤 H))) wt))

        pub arg_past : K → (n k : ℕ) {r : Cell} {v : Val} → nth 𝓛 n Γ ≡ ‵ (Locals env (held ws r us)) → get_or us k away ≡ full v → Opd K 𝓛 Γ env (copy (place (suc (past ps k)) [])) v
        arg_past t n k at_n e = arg t n (suc (past ps k)) at_n (get-past ps ws same us k ∙ e)

    -- the first of ls, which holds the slice at ptr of the length len, is lent on by way of the locals y + 1 and y + 2 of ls
    module _ (ℓ : Lifetime) (el : Ty) (ptr : ℕ × ℕ) (len : ℕ) (slice_is : mir_type ls 0 ≡ slice_ty (ty_ref ℓ mut el)) where
      first_part : K → (us : List Cell) {r : Cell} → Part K 𝓛 (‵ (Locals env (held ws r (full (slice_val ptr len) ∷ us)))) full_share (slice_ty (ty_ref ℓ mut el)) (block 0) zero (slice_val ptr len)
          (λ w. ‵ (Locals env (set (held ws r (full (slice_val ptr len) ∷ us)) (suc (past ps 0)) (full w))))
      first_part t us {r} =
          subst (λ (τ : Ty). Part K 𝓛 (‵ (Locals env (held ws r (full (slice_val ptr len) ∷ us)))) full_share τ (block 0) zero (slice_val ptr len)
          (λ w. ‵ (Locals env (set (held ws r (full (slice_val ptr len) ∷ us)) (suc (past ps 0)) (full w))))) slice_is (at-past (full (slice_val ptr len) ∷ us) t 0 refl)

      pub lends_on : K → (us : List Cell) (y : ℕ) → mir_type ls (suc y) ≡ ty_ref erased mut el → mir_type ls (suc (suc y)) ≡ slice_ty (ty_ref erased mut el) → WT (slice_val ptr len)
          → get_or us y away ≡ empty → get_or (set us y (full (pointer ptr))) y away ≡ full (pointer ptr) → get_or (set us y (full (pointer ptr))) (suc y) away ≡ empty
          → {Γ : List (Item 𝓤)} {C : Calls 𝓤 H} {Λ : Loops 𝓤 H} {q : Post 𝓤 H} {rest : Body} {r : Cell}
          → Step K 𝓛 (‵ (Locals env (held ws r (full (slice_val ptr len) ∷ set (set us y (full (pointer ptr))) (suc y) (full (slice_val ptr len))))) ∷ Γ) (runs C Λ env rest q)
          (‵ (Locals env (held ws r (full (slice_val ptr len) ∷ us))) ∷ Γ) (runs C Λ env (lending ps el y rest) q)
      lends_on t us y y-is z-is wt y-empty y-full z-empty = step (λ s.
          assigns t (addr t (from t (fld t (ap (λ (τ : Ty). field_of τ 0) (type_past ps ls bs.1 0 (no_local 𝓤 H) ∙ slice_is)) (hop t (look_in t 0 (sub t 0 refl (first_part t us))) (stop t)))))
          (from t (stop t)) (fills_past (full (slice_val ptr len) ∷ us) t 0 (suc y) refl y-empty (subst (λ (τ : Ty). T (has_ty τ (pointer ptr)) × WT (pointer ptr)) (sym y-is) (tt, tt))) $
          assigns t (agg t (and_then t (arg_past (full (slice_val ptr len) ∷ set us y (full (pointer ptr))) t 0 (suc y) refl y-full)
          (and_then t (load t (from t (fld t (ap (λ (τ : Ty). field_of τ 1) (type_past ps ls bs.1 0 (no_local 𝓤 H) ∙ slice_is)) (stop t))) (look_in t 0 (sub t 1 refl (first_part t (set us y (full (pointer ptr))))))) (no_more t))))
          (from t (stop t)) (fills_past (full (slice_val ptr len) ∷ set us y (full (pointer ptr))) t 0 (suc (suc y)) refl z-empty (subst (λ (τ : Ty). T (has_ty τ (slice_val ptr len)) × WT (slice_val ptr len)) (sym z-is) (tt, wt))) $ s)

    -- the cell of a local of ls, lent out and brought back
    module _ (us : List Cell) (k : ℕ) {r : Cell} {Γ : List (Item 𝓤)} {G : Goal 𝓤 H} where
      pub lends_out_past : K → {v : Val} → get_or us k away ≡ full v → Step K 𝓛 (‵ (fat full_share (mir_type ls k) (block k) zero v) ∷ ‵ (Locals env (held ws r (set us k away))) ∷ Γ) G (‵ (Locals env (held ws r us)) ∷ Γ) G
      lends_out_past t {v} e = step (λ s. lends_out t (suc (past ps k)) (get-past ps ws same us k ∙ e) $
          rewrite t 0 (λ (τ : Ty). ‵ (fat full_share τ (block k) zero v)) (type_past ps ls bs.1 k (no_local 𝓤 H)) refl $
          rewrite t 1 (λ (vs : List Cell). ‵ (Locals env (r ∷ vs))) (set_past ps ws same us k away) refl $ s)

      pub takes-back-past : K → get_or us k away ≡ away → Step K 𝓛 (‵ (Locals env (held ws r (set us k empty))) ∷ Γ) G (‵ (froom (mir_type ls k) (block k) zero) ∷ ‵ (Locals env (held ws r us)) ∷ Γ) G
      takes-back-past t e = step (λ s. rewrite t 0 (λ (τ : Ty). ‵ (froom τ (block k) zero)) (sym (type_past ps ls bs.1 k (no_local 𝓤 H))) refl $
          takes_back t (suc (past ps k)) (get-past ps ws same us k ∙ e) $ rewrite t 0 (λ (vs : List Cell). ‵ (Locals env (r ∷ vs))) (set_past ps ws same us k empty) refl $ s)
