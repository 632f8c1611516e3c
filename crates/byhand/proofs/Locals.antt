-- The locals of a function as one entry of the context of a walk, so that a walk names a local by its number and not by where its cell stands.
--     Cell                                  what a local holds: nothing yet (`empty`), a value (`full v`), or its cell is lent out (`away`)
--     Locals E us                           the cells of the locals E, with what they hold, us, and the right to free each
--     enters                                a function is entered: its locals hold its arguments, each being of its parameter's type (`Fit`), and else nothing
--     at_local i                            the cell of local i, for `look_in` and `store_in`
--     fills n i                             a first value for local i, where the locals are entry n of the context
--     arg n i, arg_part n i k, args n is    the operands `copy _i` and `copy _i.k`, and one `copy _i` for each i of is
--     up i k                                the numbers of k locals, from i on
--     forgets is                            the locals is, which hold values, hold nothing
--     lends_out, takes_back, takes_in       the cell of a local, out of the locals and back, empty or full
--     leaves                                the function returns what local 0 holds, and its locals are freed
-- Assumes `Logic`.
use mathlib.Core.Path.{◌≡◌, refl, sym, ◌∙◌, ap, subst}
use Prim.Native.Nat.{ℕ, zero, suc}
use mathlib.Core.Option.{some}
use mathlib.Core.List.{List, [], ◌∷◌}
use lib.Dec.{T}
use lib.ListN.{get_or, set}
use seplogic.Ra.Ura.{Ura}
use base.Fraction.{full_share}
use mir.Syntax.{Sym, Ty, ty_struct, Tys, ty_enum, ttnil, place, field, Opd as Operand, copy, Local, local, Fn, return}
use mir.Fields.{get_v}
use mir.Val.{Val, vunit, vstruct, Vals, WT, has_ty}
use base.Logic.{SProp, ent, sep, wand, all, via, assoc∗, mono_l, mono_r, wand_i, apply∗, all_e, guard_i, never_e, fst∗}
use base.Fml.{Fml, ftrue, ffalse, feq, fsep, fat, froom, fdies}
use prog.Memory.{field_at, field_of}
use prog.Wp.{Env, spot_of, Calls, Loops, WpFn}
use types.Logic.{Logic, sem}
use types.Kit.{Item, ‵, raw, ◌⊛◌, mean, ⋆, nth, del, put, pull, fill, pop, Goal, aim, prop, runs, allocs, params', passes, frees, at_ret, Seq, Step, step, ◌$◌, ◌∵◌, !, qed, move, drop, use1, use2, split, fsplit, fsplit3, fjoin, fjoin3, feq_i, assume, frame, each, done}
use types.Part.{Part, sub, look_in}
use types.Run.{Writes, Opd, Opds, init, forget, stop, fld, from, load, and_then, no_more, returns, enter, alloc1, alloc0, params1, pass1, pass0, free1, free0}
use denote.Steps.{nothing}

pub data Cell : Type 0 where
  empty : Cell
  full : Val → Cell
  away : Cell

abbrev holds : Ty × ℕ → Cell → Fml
holds e empty = froom e.0 e.1 zero
holds e (full v) = fat full_share e.0 e.1 zero v
holds e away = ftrue

unfoldable pub Cells : List (Ty × ℕ) → List Cell → Fml
Cells [] [] = ftrue
Cells [] (u ∷ us) = ffalse
Cells (e ∷ E) [] = ffalse
Cells (e ∷ E) (u ∷ us) = fsep (holds e u) (fsep (fdies e.0 e.1) (Cells E us))

-- the equation says nothing: it stands there so that antt reads E and us off the formula
abbrev pub Locals : List (Ty × ℕ) → List Cell → Fml
Locals E us = fsep (feq (List (Ty × ℕ) × List Cell) (E, us) (E, us)) (Cells E us)

set_same : (us : List Cell) (i : ℕ) → set us i (get_or us i away) ≡ us
set_same [] i = refl
set_same (u ∷ us) zero = refl
set_same (u ∷ us) (suc i) = ap (λ (ws : List Cell). u ∷ ws) (set_same us i)

-- one cell, out of the locals and back
-- local i, with its block
abbrev spot : List (Ty × ℕ) → ℕ → Ty × ℕ
spot E i = get_or E i (ty_enum [] ttnil, zero)

module _ {M : Type 1} {𝓤 : Ura M} (𝓛 : Logic 𝓤) where
  abbrev Way : List (Ty × ℕ) → List Cell → ℕ → Cell → SProp 𝓤
  Way E us i u = wand 𝓤 (sem 𝓛 (holds (spot E i) u)) (sem 𝓛 (Cells E (set us i u)))

  -- the same of the locals
  abbrev Back : List (Ty × ℕ) → List Cell → ℕ → Cell → SProp 𝓤
  Back E us i u = wand 𝓤 (sem 𝓛 (holds (spot E i) u)) (sem 𝓛 (Locals E (set us i u)))

module _ {M : Type 1} {𝓤 : Ura M} (𝓛 : Logic 𝓤) where
  cell_out : (E : List (Ty × ℕ)) (us : List Cell) (i : ℕ) → ent 𝓤 (sem 𝓛 (Cells E us)) (sep 𝓤 (sem 𝓛 (holds (spot E i) (get_or us i away))) (all 𝓤 (Way 𝓛 E us i)))
  unfolding Cells
  cell_out [] [] i = qed 𝓛 (‵ ftrue ∷ []) ∵ frame ! $ each ! (Way 𝓛 [] [] i) (λ u. assume ! (‵ (holds (spot [] i) u)) $ drop ! $ done !)
  cell_out [] (u ∷ us) i = never_e 𝓤 _
  cell_out (e ∷ E) [] i = never_e 𝓤 _
  cell_out (e ∷ E) (u ∷ us) zero = qed 𝓛 (‵ (Cells (e ∷ E) (u ∷ us)) ∷ []) ∵ fsplit ! $ frame ! $ each ! (Way 𝓛 (e ∷ E) (u ∷ us) zero) (λ w. assume ! (‵ (holds e w)) $ done !)
  cell_out (e ∷ E) (u ∷ us) (suc i) =
      qed 𝓛 (‵ (Cells (e ∷ E) (u ∷ us)) ∷ []) ∵ fsplit3 ! $ move ! (2 ∷ []) $ use1 𝓛 (‵ (holds (spot E i) (get_or us i away)) ⊛ raw (all 𝓤 (Way 𝓛 E us i))) (cell_out E us i) $ split ! $ frame ! $
      each ! (Way 𝓛 (e ∷ E) (u ∷ us) (suc i)) (λ w. assume ! (‵ (holds (spot E i) w)) $ move ! (1 ∷ []) $ use1 𝓛 (raw (Way 𝓛 E us i w)) (all_e 𝓤 (Way 𝓛 E us i) w) $ move ! (1 ∷ 0 ∷ []) $
      use2 𝓛 (‵ (Cells E (set us i w))) (apply∗ 𝓤 (sem 𝓛 (holds (spot E i) w)) (sem 𝓛 (Cells E (set us i w)))) $ move ! (1 ∷ 2 ∷ 0 ∷ []) $ done !)

  one_out : (E : List (Ty × ℕ)) (us : List Cell) (i : ℕ) {c : Cell} → get_or us i away ≡ c → ent 𝓤 (sem 𝓛 (Locals E us)) (sep 𝓤 (sem 𝓛 (holds (spot E i) c)) (all 𝓤 (Back 𝓛 E us i)))
  one_out E us i {c} e =
      qed 𝓛 (‵ (Locals E us) ∷ []) ∵ fsplit ! $ drop ! $
      use1 𝓛 (‵ (holds (spot E i) c) ⊛ raw (all 𝓤 (Way 𝓛 E us i))) (subst (λ (d : Cell). ent 𝓤 (sem 𝓛 (Cells E us)) (sep 𝓤 (sem 𝓛 (holds (spot E i) d)) (all 𝓤 (Way 𝓛 E us i)))) e (cell_out E us i)) $ split ! $ frame ! $
      each ! (Back 𝓛 E us i) (λ w. assume ! (‵ (holds (spot E i) w)) $ move ! (1 ∷ []) $ use1 𝓛 (raw (Way 𝓛 E us i w)) (all_e 𝓤 (Way 𝓛 E us i) w) $ move ! (1 ∷ 0 ∷ []) $
      use2 𝓛 (‵ (Cells E (set us i w))) (apply∗ 𝓤 (sem 𝓛 (holds (spot E i) w)) (sem 𝓛 (Cells E (set us i w)))) $ feq_i ! _ _ _ refl $ done !)

  put_back : (E : List (Ty × ℕ)) (us : List Cell) (i : ℕ) (c : Cell) → ent 𝓤 (sep 𝓤 (sem 𝓛 (holds (spot E i) c)) (all 𝓤 (Back 𝓛 E us i))) (sem 𝓛 (Locals E (set us i c)))
  put_back E us i c =
      qed 𝓛 (‵ (holds (spot E i) c) ∷ raw (all 𝓤 (Back 𝓛 E us i)) ∷ []) ∵ move ! (1 ∷ []) $ use1 𝓛 (raw (Back 𝓛 E us i c)) (all_e 𝓤 (Back 𝓛 E us i) c) $ move ! (1 ∷ 0 ∷ []) $
      use2 𝓛 (‵ (Locals E (set us i c))) (apply∗ 𝓤 (sem 𝓛 (holds (spot E i) c)) (sem 𝓛 (Locals E (set us i c)))) $ done !

-- reading and writing
-- the cell holds a value, and X
abbrev FullAnd : Cell → Type 0 → Type 0
FullAnd empty X = ⊥
FullAnd (full v) X = X
FullAnd away X = ⊥

abbrev content : Cell → Val
content empty = vunit
content (full v) = v
content away = vunit

full_is : (u : Cell) (X : Type 0) → FullAnd u X → u ≡ full (content u)
full_is empty X f = absurd f
full_is (full v) X f = refl
full_is away X f = absurd f

full_then : (u : Cell) (X : Type 0) → FullAnd u X → X
full_then empty X f = absurd f
full_then (full v) X f = f
full_then away X f = absurd f

-- the locals is, read one after the other
abbrev pub AllFull : List Cell → List ℕ → Type 0
AllFull us [] = Unit {0}
AllFull us (i ∷ is) = FullAnd (get_or us i away) (AllFull us is)

-- k numbers, from i on
abbrev pub up : ℕ → ℕ → List ℕ
up i zero = []
up i (suc k) = i ∷ up (suc i) k

abbrev pub copies : List ℕ → List Operand
copies [] = []
copies (i ∷ is) = copy (place i []) ∷ copies is

abbrev pub contents : List Cell → List ℕ → List Val
contents us [] = []
contents us (i ∷ is) = content (get_or us i away) ∷ contents us is

module _ {M : Type 1} {𝓤 : Ura M} {𝓛 : Logic 𝓤} {K : Type 0} {E : Env 𝓤 𝓛.H} {us : List Cell} where
  open 𝓛 use {H}

  pub at_local : K → (i : ℕ) {v : Val} → get_or us i away ≡ full v → Part K 𝓛 (‵ (Locals E us)) full_share (spot_of 𝓤 H E i).0 (spot_of 𝓤 H E i).1 zero v (λ u. ‵ (Locals E (set us i (full u))))
  at_local t i {v} e = record {
    out = qed 𝓛 (‵ (Locals E us) ∷ []) ∵ use1 𝓛 (‵ (holds (spot E i) (full v)) ⊛ raw (all 𝓤 (Back 𝓛 E us i))) (one_out 𝓛 E us i e) $ split ! $ frame ! $
        each ! (λ (u : Val). Back 𝓛 E us i (full u)) (λ u. use1 𝓛 (raw (Back 𝓛 E us i (full u))) (all_e 𝓤 (Back 𝓛 E us i) (full u)) $ done !);
    same = ap (λ (ws : List Cell). ‵ (Locals E ws)) (subst (λ (c : Cell). set us i c ≡ us) e (set_same us i));
  }

  module _ {Γ : List (Item 𝓤)} where
    pub fills : K → (n i : ℕ) {v : Val} → nth 𝓛 n Γ ≡ ‵ (Locals E us) → get_or us i away ≡ empty → T (has_ty (spot_of 𝓤 H E i).0 v) × WT v
        → Writes K 𝓛 Γ (spot_of 𝓤 H E i).0 (spot_of 𝓤 H E i).1 zero v (put 𝓛 n (‵ (Locals E (set us i (full v)))) Γ)
    fills t n i {v} at_n e wt = record {
      go = λ P h.
          let Δ : SProp 𝓤 = ⋆ 𝓛 (del 𝓛 n Γ) in
          let room : SProp 𝓤 = sem 𝓛 (holds (spot E i) empty) in
          let cell : SProp 𝓤 = sem 𝓛 (holds (spot E i) (full v)) in
          let ways : SProp 𝓤 = all 𝓤 (Back 𝓛 E us i) in
          let now : SProp 𝓤 = sem 𝓛 (Locals E (set us i (full v))) in
          via 𝓤 (sep 𝓤 room (wand 𝓤 cell P))
          (via 𝓤 (sep 𝓤 room (sep 𝓤 ways Δ))
          (via 𝓤 (sep 𝓤 (sem 𝓛 (Locals E us)) Δ) (subst (λ (j : Item 𝓤). ent 𝓤 (⋆ 𝓛 Γ) (sep 𝓤 (mean 𝓛 j) Δ)) at_n (pull 𝓛 n Γ))
          (via 𝓤 (sep 𝓤 (sep 𝓤 room ways) Δ) (mono_l 𝓤 Δ (one_out 𝓛 E us i e)) (assoc∗ 𝓤 room ways Δ)))
          (mono_r 𝓤 room (wand_i 𝓤 (sep 𝓤 ways Δ) cell P
          (via 𝓤 (sep 𝓤 now Δ)
          (qed 𝓛 ((raw ways ⊛ raw Δ) ∷ ‵ (holds (spot E i) (full v)) ∷ []) ∵ split ! $ move ! (2 ∷ 0 ∷ []) $ use2 𝓛 (‵ (Locals E (set us i (full v)))) (put_back 𝓛 E us i (full v)) $ done !)
          (via 𝓤 (⋆ 𝓛 (put 𝓛 n (‵ (Locals E (set us i (full v)))) Γ)) (fill 𝓛 n (‵ (Locals E (set us i (full v)))) Γ) h)))))
          (guard_i 𝓤 (T (has_ty (spot_of 𝓤 H E i).0 v) × WT v) (sep 𝓤 room (wand 𝓤 cell P)) wt);
    }

    pub arg : K → (n i : ℕ) {v : Val} → nth 𝓛 n Γ ≡ ‵ (Locals E us) → get_or us i away ≡ full v → Opd K 𝓛 Γ E (copy (place i [])) v
    arg t n i {v} at_n e = load t (from t (stop t)) (look_in t n (subst (λ (j : Item 𝓤). Part K 𝓛 j full_share (spot_of 𝓤 H E i).0 (spot_of 𝓤 H E i).1 zero v (λ u. ‵ (Locals E (set us i (full u))))) (sym at_n) (at_local t i e)))

    pub arg_part : K → (n i k : ℕ) {ν : Sym} {τs : Tys} {vs : Vals} {τ : Ty} {d : ℕ} → nth 𝓛 n Γ ≡ ‵ (Locals E us) → get_or us i away ≡ full (vstruct vs) → (spot_of 𝓤 H E i).0 ≡ ty_struct ν τs → field_at zero τs k ≡ some (τ, d) → Opd K 𝓛 Γ E (copy (place i (field k ∷ []))) (get_v vs k)
    arg_part t n i k {ν} {τs} {vs} at_n e σ at-k =
        load t (from t (fld t (ap (λ (ρ : Ty). field_of ρ k) σ ∙ at-k) (stop t))) (look_in t n (sub t k at-k (subst (λ (ρ : Ty). Part K 𝓛 (nth 𝓛 n Γ) full_share ρ (spot_of 𝓤 H E i).1 zero (vstruct vs) (λ u. ‵ (Locals E (set us i (full u))))) σ
        (subst (λ (j : Item 𝓤). Part K 𝓛 j full_share (spot_of 𝓤 H E i).0 (spot_of 𝓤 H E i).1 zero (vstruct vs) (λ u. ‵ (Locals E (set us i (full u))))) (sym at_n) (at_local t i e)))))

    pub args : K → (n : ℕ) (is : List ℕ) → nth 𝓛 n Γ ≡ ‵ (Locals E us) → AllFull us is → Opds K 𝓛 Γ E (copies is) (contents us is)
    args t n [] at_n fs = no_more t
    args t n (i ∷ is) at_n fs = and_then t (arg t n i at_n (full_is (get_or us i away) (AllFull us is) fs)) (args t n is at_n (full_then (get_or us i away) (AllFull us is) fs))

-- the locals is hold values, and are emptied one after the other
abbrev pub Emptied : List Cell → List ℕ → Type 0
Emptied us [] = Unit {0}
Emptied us (i ∷ is) = FullAnd (get_or us i away) (Emptied (set us i empty) is)

abbrev pub emptied : List Cell → List ℕ → List Cell
emptied us [] = us
emptied us (i ∷ is) = emptied (set us i empty) is

-- entering and leaving
-- the blocks of the locals ls, and the locals at those
abbrev pub Blocks : List Local → Type 0
Blocks [] = Unit {0}
Blocks (l ∷ ls) = ℕ × Blocks ls

abbrev pub at_blocks : (ls : List Local) → Blocks ls → List (Ty × ℕ)
at_blocks [] bs = []
at_blocks (local τ h ∷ ls) bs = (τ, bs.0) ∷ at_blocks ls bs.1

-- what the locals hold on entry: the first ones the arguments vs, and the others nothing
abbrev pub blank : List Local → List Cell
blank [] = []
blank (l ∷ ls) = empty ∷ blank ls

abbrev pub holding : List Local → List Val → List Cell
holding ls [] = blank ls
holding [] (v ∷ vs) = []
holding (l ∷ ls) (v ∷ vs) = full v ∷ holding ls vs

-- each argument is of its local's type
abbrev pub Fit : List Local → List Val → Type 0
Fit ls [] = Unit {0}
Fit [] (v ∷ vs) = ⊥
Fit (local τ h ∷ ls) (v ∷ vs) = (T (has_ty τ v) × WT v) × Fit ls vs

-- local 0 is the result's
abbrev pub result_first : List Local → List Val → List Cell
result_first [] vs = []
result_first (l ∷ ls) vs = empty ∷ holding ls vs

abbrev pub FitAfter : List Local → List Val → Type 0
FitAfter [] vs = ⊥
FitAfter (l ∷ ls) vs = Fit ls vs

-- none is lent out
abbrev pub AllHome : List Cell → Type 0
AllHome [] = Unit {0}
AllHome (empty ∷ us) = AllHome us
AllHome (full v ∷ us) = AllHome us
AllHome (away ∷ us) = ⊥

module _ {M : Type 1} {𝓤 : Ura M} {𝓛 : Logic 𝓤} {K : Type 0} where
  open 𝓛 use {H}

  allocated : K → (ls : List Local) {Γ : List (Item 𝓤)} {Kt : Env 𝓤 H → Goal 𝓤 H} → ((bs : Blocks ls) → Seq K 𝓛 (‵ (Cells (at_blocks ls bs) (blank ls)) ∷ Γ) (Kt (at_blocks ls bs))) → Seq K 𝓛 Γ (allocs ls Kt)
  unfolding Cells
  allocated t [] k = alloc0 t $ nothing t $ k tt
  allocated t (local τ h ∷ ls) k = alloc1 t (λ b. allocated t ls (λ bs. move t (1 ∷ 2 ∷ 0 ∷ []) $ fjoin3 t $ k (b, bs)))

  passed : K → (ls : List Local) (bs : Blocks ls) (vs : List Val) → Fit ls vs → {Γ : List (Item 𝓤)} {g : Goal 𝓤 H} → Seq K 𝓛 (‵ (Cells (at_blocks ls bs) (holding ls vs)) ∷ Γ) g → Seq K 𝓛 (‵ (Cells (at_blocks ls bs) (blank ls)) ∷ Γ) (passes (at_blocks ls bs) vs g)
  unfolding Cells
  passed t ls bs [] fit s = pass0 t $ s
  passed t [] bs (v ∷ vs) fit s = absurd fit
  passed t (local τ h ∷ ls) bs (v ∷ vs) fit s = fsplit3 t $ pass1 t (init t 0 refl fit.0) $ move t (2 ∷ []) $ passed t ls bs.1 vs fit.1 (move t (1 ∷ 2 ∷ 0 ∷ []) $ fjoin3 t $ s)

  entered : K → (ls : List Local) (vs : List Val) → FitAfter ls vs → {Γ : List (Item 𝓤)} {Kt : Env 𝓤 H → Goal 𝓤 H}
      → ((bs : Blocks ls) → Seq K 𝓛 (‵ (Locals (at_blocks ls bs) (result_first ls vs)) ∷ Γ) (Kt (at_blocks ls bs))) → Seq K 𝓛 Γ (allocs ls (λ E. params' E vs (Kt E)))
  unfolding Cells
  entered t [] vs fit k = absurd fit
  entered t (local τ h ∷ ls) vs fit k = allocated t (local τ h ∷ ls) (λ bs. params1 t $ fsplit3 t $ move t (2 ∷ []) $ passed t ls bs.1 vs fit (move t (1 ∷ 2 ∷ 0 ∷ []) $ fjoin3 t $ feq_i t _ _ _ refl $ fjoin t $ k bs))

  pub enters : K → {Γ : List (Item 𝓤)} (C : Calls 𝓤 H) (Λ : Loops 𝓤 H) (f : Fn) (vs : List Val) (Kf : Val → SProp 𝓤) → FitAfter f.locals vs
      → ((bs : Blocks f.locals) → Seq K 𝓛 (‵ (Locals (at_blocks f.locals bs) (result_first f.locals vs)) ∷ Γ) (runs C Λ (at_blocks f.locals bs) f.body (at_ret (at_blocks f.locals bs) Kf)))
      → Seq K 𝓛 Γ (prop (WpFn 𝓤 H C Λ f vs Kf))
  enters t C Λ f vs Kf fit k = enter t C Λ f vs Kf $ entered t f.locals vs fit k

  clash : K → {Γ : List (Item 𝓤)} {G : Goal 𝓤 H} → Seq K 𝓛 (‵ ffalse ∷ Γ) G
  clash t {Γ} {G} = record { prf = via 𝓤 (sep 𝓤 (sem 𝓛 ffalse) (⋆ 𝓛 Γ)) (pop 𝓛 (‵ ffalse) Γ) (via 𝓤 (sem 𝓛 ffalse) (fst∗ 𝓤 (sem 𝓛 ffalse) (⋆ 𝓛 Γ)) (never_e 𝓤 (aim 𝓤 H G))) }

  freed : K → (E : Env 𝓤 H) (us : List Cell) → AllHome us → {Γ : List (Item 𝓤)} {g : Goal 𝓤 H} → Seq K 𝓛 Γ g → Seq K 𝓛 (‵ (Cells E us) ∷ Γ) (frees E g)
  unfolding Cells
  freed t [] [] home s = drop t $ free0 t $ s
  freed t [] (u ∷ us) home s = clash t
  freed t (e ∷ E) [] home s = clash t
  freed t (e ∷ E) (empty ∷ us) home s = fsplit3 t $ free1 t $ freed t E us home s
  freed t (e ∷ E) (full v ∷ us) home s = fsplit3 t $ forget t 0 refl $ free1 t $ freed t E us home s
  freed t (e ∷ E) (away ∷ us) home s = absurd home

  pub leaves : K → {E : Env 𝓤 H} {us : List Cell} {Γ : List (Item 𝓤)} {C : Calls 𝓤 H} {Λ : Loops 𝓤 H} {Kf : Val → SProp 𝓤} {v : Val} → get_or us zero away ≡ full v → AllHome us
      → Step K 𝓛 Γ (prop (Kf v)) (‵ (Locals E us) ∷ Γ) (runs C Λ E return (at_ret E Kf))
  leaves t {E} {us} e home = step (λ s. returns t (look_in t 0 (at_local t 0 e)) $ fsplit t $ drop t $ freed t E us home s)

  -- a local's cell, lent out and brought back
  pub lends_out : K → {E : Env 𝓤 H} {us : List Cell} {Γ : List (Item 𝓤)} {G : Goal 𝓤 H} (i : ℕ) {v : Val} → get_or us i away ≡ full v
      → Step K 𝓛 (‵ (fat full_share (spot_of 𝓤 H E i).0 (spot_of 𝓤 H E i).1 zero v) ∷ ‵ (Locals E (set us i away)) ∷ Γ) G (‵ (Locals E us) ∷ Γ) G
  lends_out t {E} {us} i {v} e = step (λ s. use1 𝓛 (‵ (holds (spot E i) (full v)) ⊛ raw (all 𝓤 (Back 𝓛 E us i))) (one_out 𝓛 E us i e) $ split t $ nothing t $ move t (0 ∷ 2 ∷ []) $
      use2 𝓛 (‵ (Locals E (set us i away))) (put_back 𝓛 E us i away) $ move t (1 ∷ 0 ∷ []) $ s)

  taken : K → {E : Env 𝓤 H} {us : List Cell} {Γ : List (Item 𝓤)} {G : Goal 𝓤 H} (i : ℕ) (c : Cell) → get_or us i away ≡ away → Step K 𝓛 (‵ (Locals E (set us i c)) ∷ Γ) G (‵ (holds (spot E i) c) ∷ ‵ (Locals E us) ∷ Γ) G
  taken t {E} {us} i c e = step (λ s. move t (1 ∷ []) $ use1 𝓛 (‵ ftrue ⊛ raw (all 𝓤 (Back 𝓛 E us i))) (one_out 𝓛 E us i e) $ split t $ drop t $ move t (1 ∷ 0 ∷ []) $
      use2 𝓛 (‵ (Locals E (set us i c))) (put_back 𝓛 E us i c) $ s)

  pub takes_back : K → {E : Env 𝓤 H} {us : List Cell} {Γ : List (Item 𝓤)} {G : Goal 𝓤 H} (i : ℕ) → get_or us i away ≡ away
      → Step K 𝓛 (‵ (Locals E (set us i empty)) ∷ Γ) G (‵ (froom (spot_of 𝓤 H E i).0 (spot_of 𝓤 H E i).1 zero) ∷ ‵ (Locals E us) ∷ Γ) G
  takes_back t i e = taken t i empty e

  pub takes_in : K → {E : Env 𝓤 H} {us : List Cell} {Γ : List (Item 𝓤)} {G : Goal 𝓤 H} (i : ℕ) {v : Val} → get_or us i away ≡ away
      → Step K 𝓛 (‵ (Locals E (set us i (full v))) ∷ Γ) G (‵ (fat full_share (spot_of 𝓤 H E i).0 (spot_of 𝓤 H E i).1 zero v) ∷ ‵ (Locals E us) ∷ Γ) G
  takes_in t i {v} e = taken t i (full v) e

  pub forgets : K → {E : Env 𝓤 H} {us : List Cell} {Γ : List (Item 𝓤)} {G : Goal 𝓤 H} (is : List ℕ) → Emptied us is → Step K 𝓛 (‵ (Locals E (emptied us is)) ∷ Γ) G (‵ (Locals E us) ∷ Γ) G
  forgets t [] f = step (λ s. s)
  forgets t {E} {us} (i ∷ is) f = step (λ s. use1 𝓛 (‵ (holds (spot E i) (full (content (get_or us i away)))) ⊛ raw (all 𝓤 (Back 𝓛 E us i))) (one_out 𝓛 E us i (full_is (get_or us i away) (Emptied (set us i empty) is) f)) $ split t $
      forget t 0 refl $ use2 𝓛 (‵ (Locals E (set us i empty))) (put_back 𝓛 E us i empty) $ forgets t is (full_then (get_or us i away) (Emptied (set us i empty) is) f) $ s)
