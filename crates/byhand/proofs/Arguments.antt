-- What a function's arguments own, taken apart and put together again, and the tokens of its lifetimes: how a call passes its own arguments on, with another one in the place of some.
--     lfts, share, shares                     the lifetimes but the one numbered j; its share; the others' shares
--     lft_put, share_put                      one more, as number j
--     token_out, token_in, token-put, token_take    their tokens
--     front, back, joined                     the first arguments, the others, and both again
--     owns_split, owns_join                   what they own
--     early, middle, late, last               the arguments of a call, whose parameters are bs, some of the types Xs, cs, and a last one
--     args_with, vals_with                    the same with others in the place of the middle, and their machine values
--     Ends, end, ends, end_said               the last values of a call of k + 1 parameters whose last one is its one `&mut`, and what is said of them
--     end_out, end_in                         from what is said of the last one, and back
-- Assumes `Logic`.
use mathlib.Core.Path.{◌≡◌, refl}
use Prim.Native.Nat.{ℕ, zero, suc}
use mathlib.Core.List.{List, [], ◌∷◌, ◌++◌}
use seplogic.Ra.Ura.{Ura}
use base.Logic.{ent, sep, id⊢, emp∗}
use base.Fml.{Lft, Share, Fml, ftrue, fsep, flft}
use types.Logic.{Logic, sem}
use contract.Lifetimes.{Lfts, Shares, toks}
use types.Kit.{‵, raw, ◌⊛◌, ◌$◌, ◌∵◌, !, qed, by, move, keep, drop, use1, use2, split, fsplit, fjoin, frame, done}
use denote.RattleType.{RattleType, Denots, Valss, owns}
use denote.Steps.{nothing}
use Rattle.byhand.proofs.Params.{lft, Param, rows, valss}

-- one lifetime of several, and the others
abbrev pub lfts : (n j : ℕ) → Lfts (suc n) → Lfts n
lfts zero j κs = tt
lfts (suc n) zero κs = κs.1
lfts (suc n) (suc j) κs = (κs.0, lfts n j κs.1)

abbrev pub share : (n j : ℕ) → Shares (suc n) → Share
share zero j qs = qs.0
share (suc n) zero qs = qs.0
share (suc n) (suc j) qs = share n j qs.1

abbrev pub shares : (n j : ℕ) → Shares (suc n) → Shares n
shares zero j qs = tt
shares (suc n) zero qs = qs.1
shares (suc n) (suc j) qs = (qs.0, shares n j qs.1)

-- one more, as number j
abbrev pub lft_put : (n j : ℕ) → Lft → Lfts n → Lfts (suc n)
lft_put zero j κ κs = (κ, tt)
lft_put (suc n) zero κ κs = (κ, κs)
lft_put (suc n) (suc j) κ κs = (κs.0, lft_put n j κ κs.1)

abbrev pub share_put : (n j : ℕ) → Share → Shares n → Shares (suc n)
share_put zero j q qs = (q, tt)
share_put (suc n) zero q qs = (q, qs)
share_put (suc n) (suc j) q qs = (qs.0, share_put n j q qs.1)

-- the first arguments, and the others
module _ (Xs : List RattleType) where
  abbrev pub front : (Bs : List RattleType) → Denots (Bs ++ Xs) → Denots Bs
  front [] a = tt
  front (B ∷ Bs) a = (a.0, front Bs a.1)

  abbrev pub back : (Bs : List RattleType) → Denots (Bs ++ Xs) → Denots Xs
  back [] a = a
  back (B ∷ Bs) a = back Bs a.1

  abbrev pub joined : (Bs : List RattleType) → Denots Bs → Denots Xs → Denots (Bs ++ Xs)
  joined [] a b = b
  joined (B ∷ Bs) a b = (a.0, joined Bs a.1 b)

  abbrev pub joined_vals : (Bs : List RattleType) → Valss Bs → Valss Xs → Valss (Bs ++ Xs)
  joined_vals [] vss uss = uss
  joined_vals (B ∷ Bs) vss uss = (vss.0, joined_vals Bs vss.1 uss)

-- the arguments of a call
module _ (cs : List Param) (l : Param) where
  abbrev pub after : List RattleType
  after = rows cs ++ l.row ∷ []

module _ (bs cs : List Param) (l : Param) (Xs : List RattleType) (a : Denots (rows bs ++ (Xs ++ after cs l))) where
  abbrev pub early : Denots (rows bs)
  early = front (Xs ++ after cs l) (rows bs) a

  abbrev pub middle : Denots Xs
  middle = front (after cs l) Xs (back (Xs ++ after cs l) (rows bs) a)

  abbrev pub late : Denots (rows cs)
  late = front (l.row ∷ []) (rows cs) (back (after cs l) Xs (back (Xs ++ after cs l) (rows bs) a))

  abbrev pub last : l.row.Denot
  last = (back (l.row ∷ []) (rows cs) (back (after cs l) Xs (back (Xs ++ after cs l) (rows bs) a))).0

  abbrev pub after_args : Denots (after cs l)
  after_args = joined (l.row ∷ []) (rows cs) late (last, tt)

  abbrev pub after_vals : Valss (after cs l)
  after_vals = joined_vals (l.row ∷ []) (rows cs) (valss cs late) (l.val last ∷ [], tt)

  abbrev pub args_with : (Ys : List RattleType) → Denots Ys → Denots (rows bs ++ (Ys ++ after cs l))
  args_with Ys b = joined (Ys ++ after cs l) (rows bs) early (joined (after cs l) Ys b after_args)

  abbrev pub vals_with : (Ys : List RattleType) → Valss Ys → Valss (rows bs ++ (Ys ++ after cs l))
  vals_with Ys uss = joined_vals (Ys ++ after cs l) (rows bs) (valss bs early) (joined_vals (after cs l) Ys uss after_vals)

-- what is said at exit, where k parameters of which nothing is said stand before the last, of which F is said
abbrev pub Ends : ℕ → Type 0 → Type 0
Ends zero Z = Z × Unit {0}
Ends (suc k) Z = Unit {0} × Ends k Z

module _ {Z : Type 0} where
  abbrev pub end : (k : ℕ) → Ends k Z → Z
  end zero zs = zs.0
  end (suc k) zs = end k zs.1

  abbrev pub ends : (k : ℕ) → Z → Ends k Z
  ends zero z = (z, tt)
  ends (suc k) z = (tt, ends k z)

  pub end_is : (k : ℕ) (z : Z) → end k (ends k z) ≡ z
  end_is zero z = refl
  end_is (suc k) z = end_is k z

  abbrev pub end_said : (k : ℕ) → (Z → Fml) → Ends k Z → Fml
  end_said zero F zs = fsep (F zs.0) ftrue
  end_said (suc k) F zs = fsep ftrue (end_said k F zs.1)

-- what is owned
module _ {M : Type 1} {𝓤 : Ura M} (𝓛 : Logic 𝓤) where
  pub owns_split : (Xs Bs : List RattleType) (a : Denots Bs) (b : Denots Xs) (vss : Valss Bs) (uss : Valss Xs) → ent 𝓤 (sem 𝓛 (owns (Bs ++ Xs) (joined Xs Bs a b) (joined_vals Xs Bs vss uss))) (sep 𝓤 (sem 𝓛 (owns Bs a vss)) (sem 𝓛 (owns Xs b uss)))
  owns_split Xs [] a b vss uss = emp∗ 𝓤 _
  owns_split Xs (B ∷ Bs) a b vss uss =
      qed 𝓛 (‵ (owns (B ∷ Bs ++ Xs) (joined Xs (B ∷ Bs) a b) (joined_vals Xs (B ∷ Bs) vss uss)) ∷ []) ∵ fsplit ! $ move ! (1 ∷ []) $
      use1 𝓛 (‵ (owns Bs a.1 vss.1) ⊛ ‵ (owns Xs b uss)) (owns_split Xs Bs a.1 b vss.1 uss) $ split ! $ move ! (2 ∷ 0 ∷ []) $ fjoin ! $ done !

  pub owns_join : (Xs Bs : List RattleType) (a : Denots Bs) (b : Denots Xs) (vss : Valss Bs) (uss : Valss Xs) → ent 𝓤 (sep 𝓤 (sem 𝓛 (owns Bs a vss)) (sem 𝓛 (owns Xs b uss))) (sem 𝓛 (owns (Bs ++ Xs) (joined Xs Bs a b) (joined_vals Xs Bs vss uss)))
  owns_join Xs [] a b vss uss = qed 𝓛 (‵ ftrue ∷ ‵ (owns Xs b uss) ∷ []) ∵ drop ! $ done !
  owns_join Xs (B ∷ Bs) a b vss uss =
      qed 𝓛 (‵ (owns (B ∷ Bs) a vss) ∷ ‵ (owns Xs b uss) ∷ []) ∵ fsplit ! $ move ! (1 ∷ 2 ∷ []) $ use2 𝓛 (‵ (owns (Bs ++ Xs) (joined Xs Bs a.1 b) (joined_vals Xs Bs vss.1 uss))) (owns_join Xs Bs a.1 b vss.1 uss) $ move ! (1 ∷ 0 ∷ []) $ done !

  pub token_out : (n j : ℕ) (κs : Lfts (suc n)) (qs : Shares (suc n)) → ent 𝓤 (toks 𝓛 (suc n) κs qs) (sep 𝓤 (sem 𝓛 (flft (lft n j κs) (share n j qs))) (toks 𝓛 n (lfts n j κs) (shares n j qs)))
  token_out zero j κs qs = id⊢ 𝓤 _
  token_out (suc n) zero κs qs = id⊢ 𝓤 _
  token_out (suc n) (suc j) κs qs =
      qed 𝓛 (‵ (flft κs.0 qs.0) ∷ raw (toks 𝓛 (suc n) κs.1 qs.1) ∷ []) ∵ move ! (1 ∷ []) $
      use1 𝓛 (‵ (flft (lft n j κs.1) (share n j qs.1)) ⊛ raw (toks 𝓛 n (lfts n j κs.1) (shares n j qs.1))) (token_out n j κs.1 qs.1) $ split ! $ move ! (0 ∷ 2 ∷ 1 ∷ []) $ done !

  pub token_in : (n j : ℕ) (κs : Lfts (suc n)) (qs : Shares (suc n)) → ent 𝓤 (sep 𝓤 (sem 𝓛 (flft (lft n j κs) (share n j qs))) (toks 𝓛 n (lfts n j κs) (shares n j qs))) (toks 𝓛 (suc n) κs qs)
  token_in zero j κs qs = id⊢ 𝓤 _
  token_in (suc n) zero κs qs = id⊢ 𝓤 _
  token_in (suc n) (suc j) κs qs =
      qed 𝓛 (‵ (flft (lft n j κs.1) (share n j qs.1)) ∷ (‵ (flft κs.0 qs.0) ⊛ raw (toks 𝓛 n (lfts n j κs.1) (shares n j qs.1))) ∷ []) ∵ move ! (1 ∷ []) $ split ! $ frame ! $ move ! (1 ∷ 0 ∷ []) $ by ! (token_in n j κs.1 qs.1)

  -- one more token, and the others again
  pub token-put : (n j : ℕ) (κ : Lft) (q : Share) (κs : Lfts n) (qs : Shares n) → ent 𝓤 (sep 𝓤 (sem 𝓛 (flft κ q)) (toks 𝓛 n κs qs)) (toks 𝓛 (suc n) (lft_put n j κ κs) (share_put n j q qs))
  token-put zero j κ q κs qs = id⊢ 𝓤 _
  token-put (suc n) zero κ q κs qs = id⊢ 𝓤 _
  token-put (suc n) (suc j) κ q κs qs =
      qed 𝓛 (‵ (flft κ q) ∷ (‵ (flft κs.0 qs.0) ⊛ raw (toks 𝓛 n κs.1 qs.1)) ∷ []) ∵ move ! (1 ∷ []) $ split ! $ frame ! $ move ! (1 ∷ 0 ∷ []) $ by ! (token-put n j κ q κs.1 qs.1)

  pub token_take : (n j : ℕ) (κ : Lft) (q : Share) (κs : Lfts n) (qs : Shares n) → ent 𝓤 (toks 𝓛 (suc n) (lft_put n j κ κs) (share_put n j q qs)) (sep 𝓤 (sem 𝓛 (flft κ q)) (toks 𝓛 n κs qs))
  token_take zero j κ q κs qs = id⊢ 𝓤 _
  token_take (suc n) zero κ q κs qs = id⊢ 𝓤 _
  token_take (suc n) (suc j) κ q κs qs =
      qed 𝓛 (‵ (flft κs.0 qs.0) ∷ raw (toks 𝓛 (suc n) (lft_put n j κ κs.1) (share_put n j q qs.1)) ∷ []) ∵ move ! (1 ∷ []) $
      use1 𝓛 (‵ (flft κ q) ⊛ raw (toks 𝓛 n κs.1 qs.1)) (token_take n j κ q κs.1 qs.1) $ split ! $ move ! (0 ∷ 2 ∷ 1 ∷ []) $ done !

  -- what is said of the last parameter, from among the others and back
  pub end_out : {Z : Type 0} (k : ℕ) (F : Z → Fml) (zs : Ends k Z) → ent 𝓤 (sem 𝓛 (end_said k F zs)) (sem 𝓛 (F (end k zs)))
  end_out zero F zs = qed 𝓛 (‵ (end_said zero F zs) ∷ []) ∵ fsplit ! $ keep ! (0 ∷ []) $ done !
  end_out (suc k) F zs = qed 𝓛 (‵ (end_said (suc k) F zs) ∷ []) ∵ fsplit ! $ drop ! $ by ! (end_out k F zs.1)

  pub end_in : {Z : Type 0} (k : ℕ) (F : Z → Fml) (z : Z) → ent 𝓤 (sem 𝓛 (F z)) (sem 𝓛 (end_said k F (ends k z)))
  end_in zero F z = qed 𝓛 (‵ (F z) ∷ []) ∵ nothing ! $ move ! (1 ∷ 0 ∷ []) $ done !
  end_in (suc k) F z = qed 𝓛 (‵ (F z) ∷ []) ∵ use1 𝓛 (‵ (end_said k F (ends k z))) (end_in k F z) $ nothing ! $ done !
