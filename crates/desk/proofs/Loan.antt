-- A call over an array of moves that the caller holds, which lends its first rows to a public call:
--     fn X(before, rows: [Move; N], count: usize, between, last: &mut [R]) -> Answer    requires count ≤ length rows  { Y(before, &rows[..count], between, last) }
-- proved once, over the lists of its parameters, `before` being bs and `between` cs, and over the public call. For a walk by hand: the calls here need none.
--     params                                  its parameters
--     lent_args, lent_vals                    what the public call is passed, at the lifetime κ and the moves s, and its machine values
--     lends                                   what the public call promises of the moves lent, such a call promises of the first rows
-- Assumes `Logic`, and that the public call meets its contract.
use mathlib.Core.Path.{◌≡◌, refl, sym, subst}
use Prim.Native.Nat.{ℕ, suc, ◌+◌, ◌≤◌, ◌^◌}
use native.Mathlib.Omega.{arith}
use mathlib.Core.List.{List, [], ◌∷◌, ◌++◌}
use lib.Dec.{T as Holds, ltb, ltb→lt}
use lib.ListN.{length, get_or, take}
use seplogic.Ra.Ura.{Ura}
use base.Fraction.{full_share}
use mir.Syntax.{Callee, named, erased, imm, mut, w64, Ty, ty_ref, Local, local, value_local, memory_slot, Fn, place, copy, rv_opd, seq, assign, addr_of, aggregate, call, return}
use mir.Val.{Val, vint}
use base.Logic.{SProp, ent, sep, ex, emp, id⊢}
use base.Fml.{Lft, Fml, flft, froom}
use prog.Wp.{spot_of, WpFn, Tables}
use types.Logic.{Logic, sem}
use contract.Lifetimes.{Lfts, Shares, toks}
use contract.Monad.{fact}
use types.Kit.{Item, ‵, raw, ◌⊛◌, ⋆, some, later, ◌$◌, ◌∵◌, !, qed, by, move, keep, use1, use2, split, join, pick, rewrite, fsplit, fjoin, frame as framed, show, updating, now as at_once, await, done}
use types.Part.{agg}
use types.Run.{stop, from, addr, of_opd, and_then, no_more, assigns, land}
use types.Tokens.{lft_new, lft_end}
use sound.WpLaws.{FmC, fm_of}
use denote.RattleType.{RattleType, Denots, Valss, owns}
use denote.Exit.{yes, left}
use denote.Laws.{Typed, Is, shows}
use denote.Memory.{lone, pointee}
use denote.Ref.{Bor, MutBor}
use denote.Slice.{slice_ty, slice_val, ShrSlice, Room}
use denote.Steps.{peeks, heard, nothing}
use denote.Struct.Laws.{copied}
use denote.Triple.Call.{calls_from}
use denote.Triple.Walked.{says}
use lib.Seq.{length-take-le}
use Rattle.walk.specs.declared.Move.{Move}
use Rattle.walk.specs.contracts.Move as Mv
use Rattle.walk.proofs.Move.TheLaws as Mv'
use Rattle.byhand.proofs.Arguments.{lft_put, share_put, token-put, token_take, owns_split, owns_join, after, early, middle, late, last, after_args, after_vals, args_with, vals_with, Ends, end, ends, end_is, end_said, end_out, end_in}
use Rattle.byhand.proofs.LentPart.{Way, lends_rows, rows_back}
use Rattle.byhand.proofs.Locals.{Cell, empty, full, away, Locals, AllFull, up, copies, contents, arg, args, fills, Blocks, at_blocks, Fit, enters, leaves}
use Rattle.byhand.proofs.Calls.{Leaves}
use Rattle.byhand.proofs.Params.{Param, struct, array, number, lent, slice, mut_slice, rows, locals_of, vals, valss, Curried, applied}
use Rattle.byhand.proofs.Past.{past, Same, fit_past, home_past, holding-past, frame, held, pointer, lending, fills_past, arg_past, lends_on, lends_out_past, takes-back-past}

-- the call. Its lifetimes are n + 1, of which the last parameter's is number n; the public call has one more, the moves', as number j
module _ (N n j : ℕ) (κs : Lfts (suc n)) (bs cs : List Param) (R : RattleType) where
  abbrev rows_held : Param
  rows_held = array (struct Mv.the_type Mv'.the_laws) N

  abbrev buffer : Param
  buffer = lent n n κs R

  abbrev pub params : List Param
  params = bs ++ rows_held ∷ number ∷ cs ++ buffer ∷ []

  -- its locals: the answer's, those of the parameters but the last, and then those of the last, of the array as it is lent, of its address, of the slice of its first rows, and of the pointer and the slice by which the last parameter is lent on
  abbrev ps : List Local
  ps = locals_of (bs ++ rows_held ∷ number ∷ cs)

  abbrev ls : List Local
  ls =
      locals_of (buffer ∷ []) ++ local (lone rows_held.row.mir) memory_slot ∷ local (ty_ref erased imm (pointee rows_held.row.written)) value_local ∷ local (slice_ty (ty_ref erased imm (pointee (Mv.the_row).written))) value_local
      ∷ local (ty_ref erased mut (pointee R.written)) value_local ∷ local (slice_ty (ty_ref erased mut (pointee R.written))) value_local ∷ []

  -- the numbers of the locals that are passed to the public call
  abbrev passed_on : List ℕ
  passed_on = up 1 (length bs) ++ suc (past ps 3) ∷ up (length bs + 3) (length cs) ++ suc (past ps 5) ∷ []

  abbrev function : Param → Callee → Fn
  function answer c = record {
    lifetimes = suc n;
    outlives = [];
    ty_params = [];
    givens = 0;
    params = suc (past ps 0);
    locals = frame (lone answer.row.mir) ps ls;
    body = seq (assign (place (suc (past ps 1)) []) (rv_opd (copy (place (suc (length bs)) []))))
        (seq (assign (place (suc (past ps 2)) []) (addr_of (place (suc (past ps 1)) [])))
        (seq (assign (place (suc (past ps 3)) []) (aggregate (copy (place (suc (past ps 2)) []) ∷ copy (place (suc (suc (length bs))) []) ∷ [])))
        (lending ps (pointee R.written) 3 (seq (call c (copies passed_on) (place 0 [])) return))));
  }

  -- its arguments, and those of the public call
  abbrev Held : List RattleType
  Held = rows_held.row ∷ number.row ∷ []

  module _ (a : Denots (rows bs ++ rows_held.row ∷ number.row ∷ after cs buffer)) where
    abbrev es : Denots (rows bs)
    es = early bs cs buffer Held a

    abbrev xs : List Move
    xs = (middle bs cs buffer Held a).0

    abbrev m : ℕ
    m = (middle bs cs buffer Held a).1.0

    abbrev ds : Denots (rows cs)
    ds = late bs cs buffer Held a

    abbrev x : MutBor (List R.Denot)
    x = last bs cs buffer Held a

    abbrev later_args : Denots (after cs buffer)
    later_args = after_args bs cs buffer Held a

    abbrev later_vals : Valss (after cs buffer)
    later_vals = after_vals bs cs buffer Held a

    abbrev own_args : Denots (rows bs ++ rows_held.row ∷ number.row ∷ after cs buffer)
    own_args = args_with bs cs buffer Held a Held (xs, (m, tt))

    abbrev own_vals : Valss (rows bs ++ rows_held.row ∷ number.row ∷ after cs buffer)
    own_vals = vals_with bs cs buffer Held a Held (rows_held.val xs ∷ [], (vint w64 m ∷ [], tt))

    abbrev pub lent_args : (κ : Lft) → Bor (List Move) → Denots (rows bs ++ ShrSlice (named j) κ Mv.the_row ∷ after cs buffer)
    lent_args κ s = args_with bs cs buffer Held a (ShrSlice (named j) κ Mv.the_row ∷ []) (s, tt)

    abbrev pub lent_vals : (κ : Lft) → Bor (List Move) → Valss (rows bs ++ ShrSlice (named j) κ Mv.the_row ∷ after cs buffer)
    lent_vals κ s = vals_with bs cs buffer Held a (ShrSlice (named j) κ Mv.the_row ∷ []) (slice s ∷ [], tt)

    -- the machine values of all but the last
    abbrev ws : List Val
    ws = vals bs es ++ rows_held.val xs ∷ vint w64 m ∷ vals cs ds

    -- what the locals hold past those: the array's cell, its address, the slice of its rows, and the last parameter as it is lent on
    abbrev past_rows : Cell → Cell → Cell → Cell → Cell → List Cell
    past_rows t u v y z = full (mut_slice x) ∷ t ∷ u ∷ v ∷ y ∷ z ∷ []

    -- as the public call is called with the moves s
    abbrev ready : Bor (List Move) → List Cell
    ready s = held ws empty (past_rows away (full (pointer s.ref_ptr)) (full (slice s)) (full (pointer x.ref_ptr)) (full (mut_slice x)))

    -- the walk
    module _ {M : Type 1} {𝓤 : Ura M} (𝓛 : Logic 𝓤) (𝓣 : Tables 𝓤 𝓛.H) (c : Callee) (qs : Shares (suc n))
        -- the answer's type, and what the public call promises: of what a contract names of the arguments, of the answer, and of the last parameter's list at exit
        (answer : Param) (Told : Curried bs (List Move → Curried cs (List R.Denot → answer.row.Denot → List R.Denot → Type 0))) where
      open 𝓛 use {H}

      abbrev told : List Move → List R.Denot → answer.row.Denot → List R.Denot → Type 0
      told ms = applied cs (applied bs Told es ms) ds

      -- the tokens, and those with one more, of the lifetime κ
      abbrev tokens : SProp 𝓤
      tokens = toks 𝓛 (suc n) κs qs

      abbrev more : Lft → SProp 𝓤
      more κ = toks 𝓛 (suc (suc n)) (lft_put (suc n) j κ κs) (share_put (suc n) j full_share qs)

      -- what is said of the last parameter at exit, and how many parameters stand before it: in the public call, and here
      abbrev last_said : List R.Denot → Fml
      last_said z = left (buffer.row.exit yes) x z

      abbrev k : ℕ
      k = length bs + suc (length cs)

      abbrev k' : ℕ
      k' = length bs + suc (suc (length cs))

      -- what a call leaves, with the tokens P and the moves ms
      abbrev Left : ℕ → SProp 𝓤 → List Move → Val → SProp 𝓤
      Left i P ms w = Leaves 𝓛 P answer.row (end_said i last_said) (λ (r : answer.row.Denot) (zs : Ends i (List R.Denot)). told ms x.now r (end i zs)) w

      -- what the public call asks, at the lifetime κ and the moves s
      abbrev Asks : Lft → Bor (List Move) → SProp 𝓤
      Asks κ s = sep 𝓤 (sep 𝓤 (more κ) (sem 𝓛 (owns (rows bs ++ ShrSlice (named j) κ Mv.the_row ∷ after cs buffer) (lent_args κ s) (lent_vals κ s)))) (emp 𝓤)

      module _ (few : Holds (ltb N (2 ^ 16))) (result-is : answer.row.mir ≡ lone answer.row.mir ∷ []) (same : Same ps ws) (fit : Fit (ps ++ ls) (ws ++ mut_slice x ∷ [])) (rows_at : get_or (held ws empty (past_rows empty empty empty empty empty)) (suc (length bs)) away ≡ full (rows_held.val xs))
          (count_at : (t u : Cell) → get_or (held ws empty (past_rows t u empty empty empty)) (suc (suc (length bs))) away ≡ full (vint w64 m)) (all-full : (s : Bor (List Move)) → AllFull (ready s) passed_on)
          (known : (κ : Lft) (s : Bor (List Move)) → ent 𝓤 (Asks κ s) (𝓣.C c (contents (ready s) passed_on) (Left k (more κ) s.now))) where
        exits : (r : answer.row.Denot) (w : Val) (z : List R.Denot) → told (take m xs) x.now r z → ent 𝓤 (⋆ 𝓛 (‵ (answer.row.own_val r (w ∷ [])) ∷ raw tokens ∷ ‵ (last_said z) ∷ [])) (Left k' tokens (take m xs) w)
        exits r w z h =
            qed 𝓛 (‵ (answer.row.own_val r (w ∷ [])) ∷ raw tokens ∷ ‵ (last_said z) ∷ []) ∵ updating ! $ at_once ! $
            show ! (λ (r' : answer.row.Denot). sep 𝓤 (sep 𝓤 tokens (sem 𝓛 (answer.row.own_val r' (w ∷ [])))) (ex 𝓤 (λ (ys : Ends k' (List R.Denot)). sep 𝓤 (sem 𝓛 (end_said k' last_said ys)) (fact 𝓤 (told (take m xs) x.now r' (end k' ys)))))) r $
            move ! (1 ∷ 0 ∷ []) $ join ! $ framed ! $ use1 𝓛 (‵ (end_said k' last_said (ends k' z))) (end_in 𝓛 k' last_said z) $
            show ! (λ (ys : Ends k' (List R.Denot)). sep 𝓤 (sem 𝓛 (end_said k' last_said ys)) (fact 𝓤 (told (take m xs) x.now r (end k' ys)))) (ends k' z) $
            says ! (subst (λ (y : List R.Denot). told (take m xs) x.now r y) (sym (end_is k' z)) h) $ done !

        pub lends : ent 𝓤 (sep 𝓤 (sep 𝓤 tokens (sem 𝓛 (owns (rows bs ++ rows_held.row ∷ number.row ∷ after cs buffer) own_args own_vals))) (fact 𝓤 (m ≤ length xs))) (WpFn 𝓤 H 𝓣.C 𝓣.Λ (function answer c) (ws ++ mut_slice x ∷ []) (Left k' tokens (take m xs)))
        lends =
            qed 𝓛 ((raw tokens ⊛ ‵ (owns (rows bs ++ rows_held.row ∷ number.row ∷ after cs buffer) own_args own_vals)) ∷ raw (fact 𝓤 (m ≤ length xs)) ∷ []) ∵ move ! (1 ∷ []) $ heard ! (m ≤ length xs) (λ small. split ! $ move ! (1 ∷ []) $
            use1 𝓛 (Early ⊛ ‵ (owns (rows_held.row ∷ number.row ∷ after cs buffer) (xs, (m, later_args)) (rows_held.val xs ∷ [], (vint w64 m ∷ [], later_vals))))
            (owns_split 𝓛 (rows_held.row ∷ number.row ∷ after cs buffer) (rows bs) es (xs, (m, later_args)) (valss bs es) (rows_held.val xs ∷ [], (vint w64 m ∷ [], later_vals))) $ split ! $ move ! (1 ∷ []) $ fsplit ! $ move ! (1 ∷ []) $ fsplit ! $
            -- [what the count owns; what the later arguments own; what the rows own; what the early arguments own; the tokens]
            peeks ! number.row (Is number.row) (shows 𝓛 number.row) m (vint w64 m ∷ []) (λ ism. move ! (2 ∷ []) $ peeks ! rows_held.row (Is rows_held.row) (shows 𝓛 rows_held.row) xs (rows_held.val xs ∷ []) (λ isr.
            enters ! 𝓣.C 𝓣.Λ (function answer c) (ws ++ mut_slice x ∷ []) (Left k' tokens (take m xs)) fit (λ bk. rewrite ! 0 (λ (us : List Cell). ‵ (Locals (at_blocks (frame ρ ps ls) bk) (empty ∷ us))) (holding-past ps ws same ls (mut_slice x ∷ [])) refl $
            -- [the locals; what the rows own; what the count owns; what the later arguments own; what the early ones own; the tokens]
            -- the array is copied, and the slice of its first rows is made; the last parameter is lent on
            assigns ! (of_opd ! (arg ! 0 (suc (length bs)) refl rows_at)) (from ! (stop !)) (fills_past ρ ps ls bk ws same (past_rows empty empty empty empty empty) ! 0 1 refl refl ((rows_held.lawful 𝓛).typed xs _ isr).0) $
            assigns ! (addr ! (from ! (stop !))) (from ! (stop !)) (fills_past ρ ps ls bk ws same (past_rows (full (rows_held.val xs)) empty empty empty empty) ! 0 2 refl refl (tt, tt)) $
            assigns ! (agg ! (and_then ! (arg_past ρ ps ls bk ws same (past_rows (full (rows_held.val xs)) (full (pointer (l bk, 0))) empty empty empty) ! 0 2 refl refl) (and_then ! (arg ! 0 (suc (suc (length bs))) refl (count_at (full (rows_held.val xs)) (full (pointer (l bk, 0))))) (no_more !))))
            (from ! (stop !)) (fills_past ρ ps ls bk ws same (past_rows (full (rows_held.val xs)) (full (pointer (l bk, 0))) empty empty empty) ! 0 3 refl refl (tt, (tt, (record { fits = ism.1 }, tt)))) $
            rewrite ! 0 (λ (i : ℕ). ‵ (Locals (at_blocks (frame ρ ps ls) bk) (held ws empty (past_rows (full (rows_held.val xs)) (full (pointer (l bk, 0))) (full (slice_val (l bk, 0) i)) empty empty)))) (sym (taken small)) refl $
            lends_on ρ ps ls bk ws same (named n) (pointee R.written) x.ref_ptr (length x.now) refl ! (full (rows_held.val xs) ∷ full (pointer (l bk, 0)) ∷ full (slice_val (l bk, 0) (length (take m xs))) ∷ empty ∷ empty ∷ []) 3 refl refl (fit_past ps ws same ls (mut_slice x ∷ []) fit).0.1 refl refl refl $
            -- the array is lent for a lifetime that is made for the call
            lends_out_past ρ ps ls bk ws same (past_rows (full (rows_held.val xs)) (full (pointer (l bk, 0))) (full (slice_val (l bk, 0) (length (take m xs)))) (full (pointer x.ref_ptr)) (full (mut_slice x))) 1 ! refl $
            lft_new ! tt (λ α. move ! (1 ∷ 3 ∷ []) $
            use2 𝓛 (later (‵ ((ShrSlice (named j) (α ∷ []) Mv.the_row).own_val (s bk) (slice (s bk) ∷ [])) ⊛ ‵ (Way Mv.the_row N xs m (α ∷ []) (l bk)))) (lends_rows Mv.the_row N xs m (α ∷ []) (l bk) 𝓛 (named j) tt ((copied Mv.the_type Mv'.the_copy 𝓛).lends full_share) (rows_held.val xs) (room small isr.1.0.1)) $
            await ! tt $ split ! $
            -- [what the moves lent own; the way back; the new token; the locals; what the count owns; what the later arguments own; what the early ones own; the tokens]
            move ! (0 ∷ 5 ∷ []) $ fjoin ! $ move ! (5 ∷ 0 ∷ []) $
            use2 𝓛 (‵ (owns (rows bs ++ ShrSlice (named j) (α ∷ []) Mv.the_row ∷ after cs buffer) (lent_args (α ∷ []) (s bk)) (lent_vals (α ∷ []) (s bk)))) (owns_join 𝓛 (ShrSlice (named j) (α ∷ []) Mv.the_row ∷ after cs buffer) (rows bs) es (s bk, later_args) (valss bs es) (slice (s bk) ∷ [], later_vals)) $
            move ! (2 ∷ 5 ∷ []) $ use2 𝓛 (raw (more (α ∷ []))) (token-put 𝓛 (suc n) j (α ∷ []) full_share κs qs) $ join ! $ nothing ! $ move ! (1 ∷ 0 ∷ []) $ join ! $
            -- [what the public call asks; the way back; the locals; what the count owns]
            calls_from ! fm _ (contents (ready (s bk)) passed_on) (Left k (more (α ∷ [])) (take m xs)) (known (α ∷ []) (s bk)) (args ! 2 passed_on refl (all-full (s bk))) (λ w.
            use1 𝓛 (later (some (λ (r : answer.row.Denot). (raw (more (α ∷ [])) ⊛ ‵ (answer.row.own_val r (w ∷ []))) ⊛ some (λ (zs : Ends k (List R.Denot)). ‵ (end_said k last_said zs) ⊛ raw (fact 𝓤 (told (take m xs) x.now r (end k zs))))))) (id⊢ 𝓤 _) $ await ! tt $
            pick ! (λ r. split ! $ split ! $ move ! (2 ∷ []) $ pick ! (λ zs. split ! $ move ! (1 ∷ []) $ heard ! (told (take m xs) x.now r (end k zs)) (λ h. use1 𝓛 (‵ (last_said (end k zs))) (end_out 𝓛 k last_said zs) $ move ! (2 ∷ []) $
            -- [what the answer owns; what is said of the last parameter; the tokens, with the new one; the way back; the locals; what the count owns]
            peeks ! answer.row (Is answer.row) (shows 𝓛 answer.row) r (w ∷ []) (λ is.
            land ! (from ! (stop !)) (fills ! 4 0 refl refl (subst (λ (τs : List Ty). Typed τs (w ∷ [])) result-is ((answer.lawful 𝓛).typed r (w ∷ []) is)).0) $
            -- the lifetime ends, and the array comes back
            move ! (2 ∷ []) $ use1 𝓛 (‵ (flft (α ∷ []) full_share) ⊛ raw tokens) (token_take 𝓛 (suc n) j (α ∷ []) full_share κs qs) $ split ! $ lft_end ! tt $ move ! (0 ∷ 4 ∷ []) $
            use2 𝓛 (later (‵ (froom (lone rows_held.row.mir) (l bk) 0))) (rows_back Mv.the_row N xs m (α ∷ []) (l bk) 𝓛 (named j) tt isr.1.0.1) $ await ! tt $ move ! (0 ∷ 4 ∷ []) $
            takes-back-past ρ ps ls bk ws same (past_rows away (full (pointer (l bk, 0))) (full (slice (s bk))) (full (pointer x.ref_ptr)) (full (mut_slice x))) 1 ! refl $
            -- [the locals; the tokens; what the answer owns; what is said of the last parameter; what the count owns]
            leaves ! refl (home_past ws (past_rows empty (full (pointer (l bk, 0))) (full (slice (s bk))) (full (pointer x.ref_ptr)) (full (mut_slice x))) tt) $ keep ! (1 ∷ 0 ∷ 2 ∷ []) $ by ! (exits r w (end k zs) h)))))))))))
          where
            ρ : Ty
            ρ = lone answer.row.mir

            Early : Item 𝓤
            Early = ‵ (owns (rows bs) es (valss bs es))

            fm : FmC 𝓤 H 𝓛.laws 𝓣.C
            fm = fm_of 𝓤 H 𝓛.laws 𝓣

            -- the array's block, and the slice of its first rows
            l : Blocks (frame ρ ps ls) → ℕ
            l bk = (spot_of 𝓤 H (at_blocks (frame ρ ps ls) bk) (suc (past ps 1))).1

            s : Blocks (frame ρ ps ls) → Bor (List Move)
            s bk = record { ref_ptr = (l bk, 0); now = take m xs }

            taken : m ≤ length xs → length (take m xs) ≡ m
            taken small = length-take-le m xs small

            room : m ≤ length xs → length xs ≡ N → Room Mv.the_row (length (take m xs))
            room small e = let b = ltb→lt N (2 ^ 16) few in (omega (arith, taken small, small, e, b), omega (arith, taken small, small, e, b))
