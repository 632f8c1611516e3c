-- A local array of 16-bit numbers as it lies in memory, so that it can be lent whole, `&mut numbers`, for a call, and comes back.
--     Words n, value      the array's type, and its machine value
--     to_lend             the array's cell, at a machine value that is the array's   ⊢   the array lies at l
--     come_back           the array lies at l   ⊢   the array's cell, and its machine value is the array's
--     lends, lent_back    local i, which is such an array, is lent for a lifetime that is made for it; and once that is over it is a local again, at the loan's last value
-- Assumes `Logic`.
use mathlib.Core.Path.{◌≡◌, refl, sym, subst}
use Prim.Native.Nat.{ℕ}
use mathlib.Core.List.{List, [], ◌∷◌, map}
use lib.ListN.{get_or, set}
use seplogic.Ra.Ura.{Ura}
use base.Fraction.{full_share}
use mir.Syntax.{Ty, named, ty_array, ty_int, w16}
use mir.Val.{Val, vint, vptr}
use base.Logic.{ent, guard, guard_i}
use base.Fml.{GName, fsep, fat, flft, fres, flent}
use prog.Wp.{Env, spot_of}
use types.Logic.{Logic, sem}
use types.Kit.{Item, ‵, ◌⊛◌, some, later, given, learn, Goal, Soaks, Seq, ◌$◌, ◌∵◌, !, qed, by, move, use1, use3, split, pick, rewrite, fsplit, fjoin, fpick, fpack, await, done}
use types.SemTy.{Body}
use types.Tokens.{lft_new, lft_end}
use denote.RattleType.{RattleType}
use denote.Laws.{Is, shows}
use denote.Array.{Array, array_val, Array-Makes, Array-Tells}
use denote.Builtin.{u16}
use denote.Lend.{lends_ref, ref_back}
use denote.Memory.{cell_at, mem, part_of, part_at}
use denote.Ref.{MutBor, MutRef}
use denote.Plain.{uint_vals, uint_Tells, uint_Makes}
use denote.Steps.{owned, facts}
use Rattle.byhand.proofs.Locals.{Cell, full, away, Locals, lends_out, takes_in}

module _ (n : ℕ) where
  abbrev pub Words : RattleType
  Words = Array u16 n

  abbrev pub words : Ty
  words = ty_array (ty_int w16) n

  abbrev pub value : List ℕ → Val
  value ws = array_val (map (λ (x : ℕ). vint w16 x) ws)

  module _ {M : Type 1} {𝓤 : Ura M} (𝓛 : Logic 𝓤) (ws : List ℕ) (l : ℕ) where
    open 𝓛 use {H}

    to_lend : Is Words ws (value ws ∷ []) → ent 𝓤 (H.at full_share words l 0 (value ws)) (sem 𝓛 ((mem Words).own_at ws l 0))
    unfolding part_of
    to_lend is =
        qed 𝓛 (‵ (fat full_share words l 0 (value ws)) ∷ []) ∵ use1 𝓛 (‵ (cell_at full_share (words ∷ []) (value ws ∷ []) l 0)) (𝓛.laws.at_raw full_share words l 0 (value ws)) $
        owned ! Words (Is Words) (Array-Makes 𝓛 u16 (uint_Makes 𝓛 w16) n) ws _ is $ move ! (1 ∷ 0 ∷ []) $ fjoin ! $
        fpack ! (List Val) (λ vs. fsep (cell_at full_share (words ∷ []) vs l 0) (Words.own_val ws vs)) (value ws ∷ []) $ done !

    come_back : ent 𝓤 (sem 𝓛 ((mem Words).own_at ws l 0)) (guard 𝓤 (Is Words ws (value ws ∷ [])) (H.at full_share words l 0 (value ws)))
    unfolding part_of
    come_back =
        qed 𝓛 (‵ (part_at Words full_share ws l 0) ∷ []) ∵ fpick ! (λ vs. fsplit ! $ move ! (1 ∷ []) $ facts ! Words (Is Words) (shows 𝓛 Words) ws vs (λ is.
        rewrite ! 0 (λ (us : List Val). ‵ (cell_at full_share (words ∷ []) us l 0)) (Array-Tells u16 (uint_vals w16) (uint_Tells w16) n ws vs is) refl $
        use1 𝓛 (‵ (fat full_share words l 0 (value ws))) (𝓛.laws.raw_at full_share words l 0 (value ws)) $ by ! (guard_i 𝓤 _ _ (subst (Is Words ws) (Array-Tells u16 (uint_vals w16) (uint_Tells w16) n ws vs is) is))))

  -- the loan of the numbers ws at l, under the name δ
  abbrev pub loan : ℕ → GName → List ℕ → MutBor (List ℕ)
  loan l δ ws = record { ref_ptr = (l, 0); ghost_name = δ; now = ws }

  module _ {M : Type 1} {𝓤 : Ura M} {𝓛 : Logic 𝓤} {K : Type 0} {Γ : List (Item 𝓤)} {G : Goal 𝓤 𝓛.H} {E : Env 𝓤 𝓛.H} {us : List Cell} where
    open 𝓛 use {H}

    pub lends : K → Soaks G → (i : ℕ) (ws : List ℕ) → (spot_of 𝓤 H E i).0 ≡ words → Is Words ws (value ws ∷ []) → get_or us i away ≡ full (value ws)
        → ((α : ℕ) (δ : GName) → Seq K 𝓛 (‵ (flft (α ∷ []) full_share) ∷ ‵ ((MutRef (named 0) (α ∷ []) Words).own_val (loan (spot_of 𝓤 H E i).1 δ ws) (vptr (spot_of 𝓤 H E i).1 0 ∷ [])) ∷ ‵ (Locals E (set us i away)) ∷ ‵ (flent (α ∷ []) (Body (mem Words) (spot_of 𝓤 H E i).1 0 δ)) ∷ Γ) G) → Seq K 𝓛 (‵ (Locals E us) ∷ Γ) G
    lends t z i ws τ is e k =
        let l : ℕ = (spot_of 𝓤 H E i).1 in
        lends_out t i e $ rewrite t 0 (λ (σ : Ty). ‵ (fat full_share σ l 0 (value ws))) τ refl $ use1 𝓛 (‵ ((mem Words).own_at ws l 0)) (to_lend 𝓛 ws l is) $ lft_new t z (λ α. move t (1 ∷ []) $
        use1 𝓛 (later (some (λ (δ : GName). ‵ ((MutRef (named 0) (α ∷ []) Words).own_val (loan l δ ws) (vptr l 0 ∷ [])) ⊛ ‵ (flent (α ∷ []) (Body (mem Words) l 0 δ))))) (lends_ref 𝓛 Words (named 0) (α ∷ []) ws l 0) $ await t z $ pick t (λ δ. split t $ move t (2 ∷ 0 ∷ 3 ∷ []) $ k α δ))

    pub lent_back : K → Soaks G → (i : ℕ) (ws : List ℕ) {α : ℕ} {δ : GName} → (spot_of 𝓤 H E i).0 ≡ words → get_or us i away ≡ away → (Is Words ws (value ws ∷ []) → Seq K 𝓛 (‵ (Locals E (set us i (full (value ws)))) ∷ Γ) G)
        → Seq K 𝓛 (‵ (flft (α ∷ []) full_share) ∷ ‵ (fres δ (Words.coded.code ws)) ∷ ‵ (Locals E us) ∷ ‵ (flent (α ∷ []) (Body (mem Words) (spot_of 𝓤 H E i).1 0 δ)) ∷ Γ) G
    lent_back t z i ws {α} {δ} τ e k =
        let l : ℕ = (spot_of 𝓤 H E i).1 in
        lft_end t z $ move t (0 ∷ 3 ∷ 1 ∷ []) $ use3 𝓛 (later (‵ ((mem Words).own_at ws l 0))) (ref_back 𝓛 Words (α ∷ []) δ ws l 0) $ await t z $
        use1 𝓛 (given (Is Words ws (value ws ∷ [])) (‵ (fat full_share words l 0 (value ws)))) (come_back 𝓛 ws l) $ learn t (λ is. rewrite t 0 (λ (σ : Ty). ‵ (fat full_share σ l 0 (value ws))) (sym τ) refl $ takes_in t i e $ k is)
