-- A turn of the loop that fills. Where a usable tie is sure to stand, the tie picked is the lowest, with the states alive before it; writing it puts
-- it before the words that follow, and that is one unfolding of `fill`.
use Prim.Native.Nat.{ℕ, suc, ◌<◌}
use mathlib.Core.Path.{◌≡◌, refl, subst, ap, ap₂, ◌∙◌}
use mathlib.Core.Bool.{Bool, true, false, cond}
use mathlib.Core.List.{List, ◌∷◌}
use native.Mathlib.Omega.{arith}
use lib.Dec.{ltb}
use lib.ListN.{length, drop, set, length-set}
use lib.Seq.{drop-cons, get_or-set_same, drop-set-lt}
use borrow.Author.Tests.{ltb-true, lt-ltb}
use Rattle.walk.specs.Network.{Network, ties, from_of}
use Rattle.walk.proofs.Numbers.{clash}
use Rattle.walk.proofs.Back.{lowest, fill}
use Rattle.std.specs.Prelude.{Some, None}
use Rattle.back.specs.declared.ground.Taken.{Taken}
use Rattle.back.specs.Picked.{taken, picked}
use Rattle.back.specs.Chain.{Fillable, Surely}

-- a word is written: what stands from its place on
pub drop_set : (l : List ℕ) (j e : ℕ) → j < length l → drop j (set l j e) ≡ e ∷ drop (suc j) l
drop_set l j e h =
    drop-cons (set l j e) j 0 (let z = length-set l j e in omega arith)
    ∙ ap₂ {B = List ℕ} (λ (x : ℕ) (y : List ℕ). x ∷ y) (get_or-set_same l j e 0 h) (drop-set-lt (suc j) l j e (omega arith))

-- where some tie is usable, one is picked
module _ (N : Network) (back : ℕ → ℕ → ℕ → ℕ) (u i S : ℕ) where
  pub surely_is : (t : Taken) → picked N back 0 u i S ≡ Some t → Surely N back u i S t.tie.0 t.alive
  unfolding picked
  surely_is t h = go (ltb (lowest N back 0 u i S) (ties N)) refl h
    where
      x : ℕ
      x = lowest N back 0 u i S

      go : (b : Bool) → ltb x (ties N) ≡ b → cond b (Some (taken x (back x i S))) None ≡ Some t → Surely N back u i S t.tie.0 t.alive
      go true b h =
          let f : taken x (back x i S) ≡ t = cc in
          subst (λ (y : Taken). Surely N back u i S y.tie.0 y.alive) f (record { is = refl; alive = refl; tie_in = ltb-true x (ties N) b })
      go false b h = clash cc

  pub surely_there : lowest N back 0 u i S < ties N → picked N back 0 u i S ≡ Some (taken (lowest N back 0 u i S) (back (lowest N back 0 u i S) i S))
  unfolding picked
  surely_there l = rw (lt-ltb (lowest N back 0 u i S) (ties N) l)

module _ (N : Network) (back : ℕ → ℕ → ℕ → ℕ) where
  pub fillable-first : (i j u S : ℕ) → i ≡ suc j → Fillable N back i u S → lowest N back 0 u j S < ties N
  fillable-first i j u S e F = (rw e at F).0

  pub fillable-rest : (i j u S x s : ℕ) → i ≡ suc j → Fillable N back i u S → Surely N back u j S x s → Fillable N back j (from_of N x) s
  fillable-rest i j u S x s e F P = rw (P.alive, P.is) (rw e at F).1

  pub fill_more : (c : List ℕ) (i j u S x s : ℕ) → i ≡ suc j → j < length c → Surely N back u j S x s
      → fill N back j (from_of N x) s (drop j (set c j x)) ≡ fill N back i u S (drop i c)
  unfolding fill
  fill_more c i j u S x s e l P =
      rw (drop_set c j x l, P.alive, e) (ap (λ (y : ℕ). fill N back j (from_of N y) (back y j S) (y ∷ drop (suc j) c)) P.is)

  pub fill_none : (c : List ℕ) (u S i : ℕ) → i ≡ 0 → fill N back i u S (drop i c) ≡ c
  unfolding fill
  fill_none c u S i e = rw e
