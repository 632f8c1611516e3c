-- A public call that has its moves gathered and passes what is gathered on, with its other parameters, to an inner call:
--     fn X(before, moves: &[Move], between, last: &mut [R]) -> Answer { X_in(before, moves::gather(moves), between, last) }
-- proved once, over the lists of its parameters, `before` being bs and `between` cs, and over the inner call. For a walk by hand: the calls here need none.
--     params                    its parameters
--     inner_args, inner_vals    what the inner call is passed, and its machine values
--     passes_on                 what the inner call promises of what is gathered, such a call promises of the moves
-- Assumes `Logic`, and that `gather` and the inner call meet their contracts.
use mathlib.Core.Path.{◌≡◌, refl, subst}
use Prim.Native.Nat.{ℕ, suc, ◌+◌}
use mathlib.Core.List.{List, [], ◌∷◌, ◌++◌}
use lib.ListN.{length, get_or}
use seplogic.Ra.Ura.{Ura}
use mir.Syntax.{Callee, named, erased, mut, Ty, ty_ref, Local, local, value_local, Fn, place, seq, call, return}
use mir.Val.{Val}
use base.Logic.{SProp, ent, sep, ex, emp, id⊢}
use base.Fml.{Fml, ftrue, flft}
use prog.Memory.{Memory}
use prog.Routine.{Routine}
use prog.Wp.{WpFn, Tables}
use types.Logic.{Logic, sem}
use contract.Lifetimes.{Lfts, Shares, toks}
use contract.Monad.{Fun, fact}
use types.Kit.{Item, ‵, raw, ◌⊛◌, ⋆, some, later, ◌$◌, ◌∵◌, !, qed, by, move, keep, use1, use2, split, join, pick, rewrite, fsplit, fjoin, frame as framed, show, updating, now as at_once, await, done}
use types.Run.{stop, from, and_then, no_more, land}
use sound.WpLaws.{FmC, fm_of}
use denote.RattleType.{RattleType, Denots, Valss, owns}
use denote.Exit.{yes, left}
use denote.Laws.{Typed, Is, shows}
use denote.Memory.{lone, pointee}
use denote.Ref.{Bor, MutBor}
use denote.Slice.{slice_ty}
use denote.Steps.{peeks, heard}
use denote.Triple.Statement.{Triple}
use denote.Triple.Call.{calls_from}
use denote.Triple.Walked.{says}
use Rattle.walk.specs.declared.Move.{Move}
use Rattle.walk.specs.contracts.Move as Mv
use Rattle.moves.specs.Gathering.{gathered}
use Rattle.tables.specs.declared.gathered.Gathered.{Gathered}
use Rattle.tables.specs.contracts.gathered.Gathered as G
use Rattle.tables.proofs.gathered.Gathered.TheLaws as G'
use Rattle.moves.proofs.Gathers.{Gather, gathers}
use Rattle.moves.proofs.gather.Symbol.{name as #gather}
use Rattle.byhand.proofs.Arguments.{lfts, share, shares, token_out, token_in, owns_split, owns_join, after, early, middle, late, last, after_args, after_vals, args_with, vals_with, Ends, end, end_said}
use Rattle.byhand.proofs.Locals.{Cell, empty, full, away, Locals, AllFull, up, copies, contents, arg, args, fills, at_blocks, Fit, enters, leaves}
use Rattle.byhand.proofs.Calls.{Leaves}
use Rattle.byhand.proofs.Params.{lft, Param, shared, lent, slice, mut_slice, rows, locals_of, vals, valss, Curried, applied, Every, every_at}
use Rattle.byhand.proofs.Past.{past, Same, fit_past, home_past, holding-past, frame, held, pointer, lending, fills_past, lends_on}

-- the call. Its lifetimes are n + 1, of which the moves' is number j and the last parameter's number n
module _ (n j : ℕ) (κs : Lfts (suc n)) (bs cs : List Param) (R : RattleType) where
  abbrev moves : Param
  moves = shared n j κs Mv.the_row

  abbrev buffer : Param
  buffer = lent n n κs R

  abbrev pub params : List Param
  params = bs ++ moves ∷ cs ++ buffer ∷ []

  -- its locals: the answer's, those of the parameters but the last, and then those of the last, of what is gathered, and of the pointer and the slice by which the last is lent on
  abbrev ps : List Local
  ps = locals_of (bs ++ moves ∷ cs)

  abbrev ls : List Local
  ls = locals_of (buffer ∷ []) ++ local G'.mir value_local ∷ local (ty_ref erased mut (pointee R.written)) value_local ∷ local (slice_ty (ty_ref erased mut (pointee R.written))) value_local ∷ []

  -- the numbers of the locals that are passed to the inner call
  abbrev passed_on : List ℕ
  passed_on = up 1 (length bs) ++ suc (past ps 1) ∷ up (length bs + 2) (length cs) ++ suc (past ps 3) ∷ []

  abbrev function : Param → Callee → Fn
  function answer c = record {
    lifetimes = suc n;
    outlives = [];
    ty_params = [];
    givens = 0;
    params = suc (past ps 0);
    locals = frame (lone answer.row.mir) ps ls;
    body = seq (call #gather (copies (suc (length bs) ∷ [])) (place (suc (past ps 1)) [])) (lending ps (pointee R.written) 1 (seq (call c (copies passed_on) (place 0 [])) return));
  }

  -- its arguments, and those of the inner call
  module _ (a : Denots (rows bs ++ moves.row ∷ after cs buffer)) where
    abbrev es : Denots (rows bs)
    es = early bs cs buffer (moves.row ∷ []) a

    abbrev ms : Bor (List Move)
    ms = (middle bs cs buffer (moves.row ∷ []) a).0

    abbrev ds : Denots (rows cs)
    ds = late bs cs buffer (moves.row ∷ []) a

    abbrev x : MutBor (List R.Denot)
    x = last bs cs buffer (moves.row ∷ []) a

    abbrev later_args : Denots (after cs buffer)
    later_args = after_args bs cs buffer (moves.row ∷ []) a

    abbrev later_vals : Valss (after cs buffer)
    later_vals = after_vals bs cs buffer (moves.row ∷ []) a

    abbrev own_args : Denots (rows bs ++ moves.row ∷ after cs buffer)
    own_args = args_with bs cs buffer (moves.row ∷ []) a (moves.row ∷ []) (ms, tt)

    abbrev own_vals : Valss (rows bs ++ moves.row ∷ after cs buffer)
    own_vals = vals_with bs cs buffer (moves.row ∷ []) a (moves.row ∷ []) (slice ms ∷ [], tt)

    abbrev pub inner_args : Gathered → Denots (rows bs ++ G.the_row ∷ after cs buffer)
    inner_args g = args_with bs cs buffer (moves.row ∷ []) a (G.the_row ∷ []) (g, tt)

    abbrev pub inner_vals : Val → Valss (rows bs ++ G.the_row ∷ after cs buffer)
    inner_vals u = vals_with bs cs buffer (moves.row ∷ []) a (G.the_row ∷ []) (u ∷ [], tt)

    -- the machine values of all but the last
    abbrev ws : List Val
    ws = vals bs es ++ slice ms ∷ vals cs ds

    -- what the locals hold on entry, and as the inner call is called with what is gathered, at u
    abbrev entered : List Cell
    entered = held ws empty (full (mut_slice x) ∷ empty ∷ empty ∷ empty ∷ [])

    abbrev ready : Val → List Cell
    ready u = held ws empty (full (mut_slice x) ∷ full u ∷ full (pointer x.ref_ptr) ∷ full (mut_slice x) ∷ [])

    -- the walk
    module _ {M : Type 1} {𝓤 : Ura M} (𝓛 : Logic 𝓤) (mem : Memory → SProp 𝓤) (run : Routine → Fun 𝓤) (𝓣 : Tables 𝓤 𝓛.H) (c : Callee) (qs : Shares (suc n))
        -- the answer's type, and what the inner call and the public one promise: of what a contract names of the arguments, of the answer, and of the last parameter's list at exit
        (answer : Param) (Said : Curried bs (Gathered → Curried cs (List R.Denot → answer.row.Denot → List R.Denot → Type 0))) (Told : Curried bs (List Move → Curried cs (List R.Denot → answer.row.Denot → List R.Denot → Type 0))) where
      open 𝓛 use {H}

      abbrev said : Gathered → List R.Denot → answer.row.Denot → List R.Denot → Type 0
      said g = applied cs (applied bs Said es g) ds

      abbrev told : List R.Denot → answer.row.Denot → List R.Denot → Type 0
      told = applied cs (applied bs Told es ms.now) ds

      -- all tokens, the moves', and the others
      abbrev tokens : SProp 𝓤
      tokens = toks 𝓛 (suc n) κs qs

      abbrev token : Item 𝓤
      token = ‵ (flft (lft n j κs) (share n j qs))

      abbrev Rest : SProp 𝓤
      Rest = toks 𝓛 n (lfts n j κs) (shares n j qs)

      -- what is said of the last parameter at exit
      abbrev k : ℕ
      k = length bs + suc (length cs)

      abbrev lasts : Ends k (List R.Denot) → Fml
      lasts = end_said k (λ z. left (buffer.row.exit yes) x z)

      -- what a call leaves, with the tokens P and the promise Q
      abbrev Left : SProp 𝓤 → (List R.Denot → answer.row.Denot → List R.Denot → Type 0) → Val → SProp 𝓤
      Left P Q w = Leaves 𝓛 P answer.row lasts (λ (r : answer.row.Denot) (zs : Ends k (List R.Denot)). Q x.now r (end k zs)) w

      -- what the inner call asks, with what is gathered, at u
      abbrev Asks : Gathered → Val → SProp 𝓤
      Asks g u = sep 𝓤 (sep 𝓤 Rest (sem 𝓛 (owns (rows bs ++ G.the_row ∷ after cs buffer) (inner_args g) (inner_vals u)))) (emp 𝓤)

      module _ (result-is : answer.row.mir ≡ lone answer.row.mir ∷ []) (same : Same ps ws) (fit : Fit (ps ++ ls) (ws ++ mut_slice x ∷ [])) (moves-at : get_or entered (suc (length bs)) away ≡ full (slice ms)) (all-full : (u : Val) → AllFull (ready u) passed_on)
          (known-gather : Triple 𝓤 (𝓣.C #gather) (Gather 𝓛 mem run)) (known : (g : Gathered) (u : Val) → ent 𝓤 (Asks g u) (𝓣.C c (contents (ready u) passed_on) (Left Rest (said g))))
          (law : Every bs (λ S T. (m : List Move) → Every cs (λ S' T'. (y : List R.Denot) (r : answer.row.Denot) (z : List R.Denot) → S' y r z → T' y r z) (S (gathered m)) (T m)) Said Told) where
        leads : (y : List R.Denot) (r : answer.row.Denot) (z : List R.Denot) → said (gathered ms.now) y r z → told y r z
        leads = every_at cs _ (applied bs Said es (gathered ms.now)) (applied bs Told es ms.now) (every_at bs _ Said Told law es ms.now) ds

        exits : (g : Gathered) → g ≡ gathered ms.now → (r : answer.row.Denot) (w : Val) (zs : Ends k (List R.Denot)) → said g x.now r (end k zs) → ent 𝓤 (⋆ 𝓛 (‵ (answer.row.own_val r (w ∷ [])) ∷ raw Rest ∷ ‵ (lasts zs) ∷ token ∷ [])) (Left tokens told w)
        exits g e r w zs h =
            qed 𝓛 (‵ (answer.row.own_val r (w ∷ [])) ∷ raw Rest ∷ ‵ (lasts zs) ∷ token ∷ []) ∵ updating ! $ at_once ! $
            show ! (λ (r' : answer.row.Denot). sep 𝓤 (sep 𝓤 tokens (sem 𝓛 (answer.row.own_val r' (w ∷ [])))) (ex 𝓤 (λ (ys : Ends k (List R.Denot)). sep 𝓤 (sem 𝓛 (lasts ys)) (fact 𝓤 (told x.now r' (end k ys)))))) r $
            move ! (3 ∷ 1 ∷ []) $ use2 𝓛 (raw tokens) (token_in 𝓛 n j κs qs) $ join ! $ framed ! $
            show ! (λ (ys : Ends k (List R.Denot)). sep 𝓤 (sem 𝓛 (lasts ys)) (fact 𝓤 (told x.now r (end k ys)))) zs $ says ! (leads x.now r (end k zs) (subst (λ (h : Gathered). said h x.now r (end k zs)) e h)) $ done !

        pub passes_on : ent 𝓤 (sep 𝓤 (sep 𝓤 tokens (sem 𝓛 (owns (rows bs ++ moves.row ∷ after cs buffer) own_args own_vals))) (emp 𝓤)) (WpFn 𝓤 H 𝓣.C 𝓣.Λ (function answer c) (ws ++ mut_slice x ∷ []) (Left tokens told))
        passes_on =
            qed 𝓛 ((raw tokens ⊛ ‵ (owns (rows bs ++ moves.row ∷ after cs buffer) own_args own_vals)) ∷ ‵ ftrue ∷ []) ∵ split ! $ use1 𝓛 (token ⊛ raw Rest) (token_out 𝓛 n j κs qs) $ split ! $ move ! (2 ∷ []) $
            use1 𝓛 (Early ⊛ ‵ (owns (moves.row ∷ after cs buffer) (ms, later_args) (slice ms ∷ [], later_vals))) (owns_split 𝓛 (moves.row ∷ after cs buffer) (rows bs) es (ms, later_args) (valss bs es) (slice ms ∷ [], later_vals)) $ split ! $ move ! (1 ∷ []) $ fsplit ! $
            enters ! 𝓣.C 𝓣.Λ (function answer c) (ws ++ mut_slice x ∷ []) (Left tokens told) fit (λ bk. rewrite ! 0 (λ (us : List Cell). ‵ (Locals (at_blocks (frame ρ ps ls) bk) (empty ∷ us))) (holding-past ps ws same ls (mut_slice x ∷ [])) refl $ move ! (4 ∷ 1 ∷ 2 ∷ 3 ∷ 5 ∷ 6 ∷ []) $
            -- [the moves' token; what the moves own; what the later arguments own; what the early ones own; the other tokens; nothing; the locals]
            gathers 𝓛 mem run (lft n j κs) (share n j qs) ms ! fm known-gather (and_then ! (arg ! 6 (suc (length bs)) refl moves-at) (no_more !)) (λ g u e wt.
            -- [what g owns; and the same]
            land ! (from ! (stop !)) (fills_past ρ ps ls bk ws same (full (mut_slice x) ∷ empty ∷ empty ∷ empty ∷ []) ! 7 1 refl refl wt) $ move ! (7 ∷ []) $
            lends_on ρ ps ls bk ws same (named n) (pointee R.written) x.ref_ptr (length x.now) refl ! (full u ∷ empty ∷ empty ∷ []) 1 refl refl (fit_past ps ws same ls (mut_slice x ∷ []) fit).0.1 refl refl refl $
            -- [the locals; what g owns; the moves' token; what the moves own; what the later arguments own; what the early ones own; the other tokens; nothing]
            move ! (1 ∷ 4 ∷ []) $ fjoin ! $ move ! (4 ∷ 0 ∷ []) $
            use2 𝓛 (‵ (owns (rows bs ++ G.the_row ∷ after cs buffer) (inner_args g) (inner_vals u))) (owns_join 𝓛 (G.the_row ∷ after cs buffer) (rows bs) es (g, later_args) (valss bs es) (u ∷ [], later_vals)) $
            move ! (4 ∷ 0 ∷ []) $ join ! $ move ! (0 ∷ 4 ∷ []) $ join ! $
            -- [what the inner call asks; the locals; the moves' token; what the moves own]
            calls_from ! fm _ (contents (ready u) passed_on) (Left Rest (said g)) (known g u) (args ! 1 passed_on refl (all-full u)) (λ w.
            use1 𝓛 (later (some (λ (r : answer.row.Denot). (raw Rest ⊛ ‵ (answer.row.own_val r (w ∷ []))) ⊛ some (λ (zs : Ends k (List R.Denot)). ‵ (lasts zs) ⊛ raw (fact 𝓤 (said g x.now r (end k zs))))))) (id⊢ 𝓤 _) $ await ! tt $
            pick ! (λ r. split ! $ split ! $ move ! (2 ∷ []) $ pick ! (λ zs. split ! $ move ! (1 ∷ []) $ heard ! (said g x.now r (end k zs)) (λ h. move ! (2 ∷ []) $
            -- [what the answer owns; what is said of the last parameter; the other tokens; the locals; the moves' token; what the moves own]
            peeks ! answer.row (Is answer.row) (shows 𝓛 answer.row) r (w ∷ []) (λ is.
            land ! (from ! (stop !)) (fills ! 3 0 refl refl (subst (λ (τs : List Ty). Typed τs (w ∷ [])) result-is ((answer.lawful 𝓛).typed r (w ∷ []) is)).0) $
            move ! (3 ∷ []) $ leaves ! refl (home_past ws (full (mut_slice x) ∷ full u ∷ full (pointer x.ref_ptr) ∷ full (mut_slice x) ∷ []) tt) $ keep ! (0 ∷ 2 ∷ 1 ∷ 3 ∷ []) $ by ! (exits g e r w zs h))))))))
          where
            ρ : Ty
            ρ = lone answer.row.mir

            Early : Item 𝓤
            Early = ‵ (owns (rows bs) es (valss bs es))

            fm : FmC 𝓤 H 𝓛.laws 𝓣.C
            fm = fm_of 𝓤 H 𝓛.laws 𝓣
