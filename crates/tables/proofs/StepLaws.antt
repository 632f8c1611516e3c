-- The laws of the step table. Putting a move sets one bit, so after the first j moves a bit stands exactly where one of them says so; at the end
-- that is `follows`. A walk over the kinds of a tie unites what stands at the kinds passed; kinds that are not in the set change nothing, so at
-- its end that is `steps`.
use Prim.Native.Nat.{ℕ, zero, suc, ◌+◌, ◌*◌, ◌^◌, ◌≤◌, ◌<◌}
use mathlib.Core.Path.{◌≡◌, refl, sym, ap, ap₂, ◌∙◌}
use mathlib.Core.Bool.{Bool, true, false, ◌||◌, false≢true, or_comm}
use mathlib.Core.List.{List}
use mathlib.Core.Logic.{⊎_elim}
use mathlib.Mathlib.Data.Bool.Basic.{or_inl, or_inr}
use native.Mathlib.Numerals.{add-one}
use native.Mathlib.Omega.{arith}
use lib.Bits.{bit_or}
use lib.Dec.{eqb}
use lib.ListN.{length, get_or, set, replicate, length-set, length-replicate}
use lib.Seq.{get_or-set_same, get_or-set_other}
use borrow.Author.Tests.{eqb-true, eqb-false}
use Rattle.walk.specs.declared.Move.{Move}
use Rattle.walk.specs.Ceilings.{ceilings}
use Rattle.walk.specs.Numbers.{has, ◌and◌, any_below}
use Rattle.walk.specs.Condition.{Condition, no_move, move_at, follows}
use Rattle.walk.proofs.Numbers.{Yes, and_in, and_of, or_in, eqb_of, any_below_in, any_below_of, length-table, getD-table, yes_same}
use Rattle.tables.specs.Lent.{move_of, moves_of}
use Rattle.tables.specs.Steps.{Clear, InRange, Filled, steps}
use Rattle.tables.specs.Sets.{LowestFrom}
use Rattle.tables.proofs.SetLaws.{has-or, has-none, one_is}

-- tests
pub any-more : (n : ℕ) (p : ℕ → Bool) → any_below (n + 1) p ≡ (p n || any_below n p)
unfolding any_below
any-more n p = rw add-one

pub any_same : (n : ℕ) (p r : ℕ → Bool) → ((i : ℕ) → i < n → p i ≡ r i) → any_below n p ≡ any_below n r
any_same n p r h =
    yes_same
    (λ t. let (i, l, y) = any_below_in n p t in any_below_of n r i l (sym (h i l) ∙ y))
    (λ t. let (i, l, y) = any_below_in n r t in any_below_of n p i l (h i l ∙ y))

-- numbers that do not pass may be left out
any_skip : (a b : ℕ) (p : ℕ → Bool) → a ≤ b → ((i : ℕ) → a ≤ i → i < b → p i ≡ false) → any_below b p ≡ any_below a p
any_skip a b p l h =
    yes_same
    (λ t. let (i, m, y) = any_below_in b p t in
    let low : i < a = let no : ¬ (a ≤ i) = λ g. false≢true (sym (h i g m) ∙ y) in omega arith in
    any_below_of a p i low y)
    (λ t. let (i, m, y) = any_below_in a p t in any_below_of b p i (omega arith) y)

pub no_and : (a b : Bool) → a ≡ false → a and b ≡ false
unfolding ◌and◌
no_and a b e = rw e

pub yes_and : (a b : Bool) → a ≡ true → a and b ≡ b
unfolding ◌and◌
yes_and a b e = rw e

-- the walk over the kinds of a tie: q follows p by kind k of the set
abbrev pub by : List ℕ → ℕ → ℕ → ℕ → ℕ → Bool
by T kinds p q k = has kinds k and has (get_or T (k * 32 + p) 0) q

pub next_more : (T : List ℕ) (kinds p set k n : ℕ) → LowestFrom kinds k n → ((q : ℕ) → has set q ≡ any_below k (by T kinds p q))
    → (q : ℕ) → has (bit_or set (get_or T (n * 32 + p) 0)) q ≡ any_below (n + 1) (by T kinds p q)
next_more T kinds p set k n L h q =
    has-or set _ q
    ∙ or_comm (has set q) (has (get_or T (n * 32 + p) 0) q)
    ∙ ap₂ ◌||◌ (sym (yes_and _ _ L.stands)) (h q ∙ sym (any_skip k n (by T kinds p q) L.from (λ i l m. no_and _ _ (L.between i l m))))
    ∙ sym (any-more n (by T kinds p q))

pub next-end : (T : List ℕ) (kinds p set k : ℕ) → k ≤ 32 → ((i : ℕ) → k ≤ i → has kinds i ≡ false) → ((q : ℕ) → has set q ≡ any_below k (by T kinds p q))
    → (q : ℕ) → has set q ≡ steps T kinds p q
unfolding steps
next-end T kinds p set k l e h q = h q ∙ sym (any_skip k 32 (by T kinds p q) l (λ i m _. no_and _ _ (e i m)))

pub next-none : (T : List ℕ) (kinds p q : ℕ) → has 0 q ≡ any_below 0 (by T kinds p q)
unfolding any_below
next-none T kinds p q = has-none q

-- move j is in range
pub record MoveIn (numbers : List ℕ) (K Q j : ℕ) : Type 0 where
  pub few : j < ceilings.moves
  pub from_in : get_or numbers (3 * j) 0 < Q
  pub kind_in : get_or numbers (3 * j + 1) 0 < K
  pub to_in : get_or numbers (3 * j + 2) 0 < Q

module _ (C : Condition) (n : ℕ) (numbers : List ℕ) (e : C.moves ≡ moves_of n numbers) where
  move-is : (j : ℕ) → j < n → move_at C j ≡ move_of numbers j
  move-is j l = ap (λ (m : List Move). get_or m j no_move) e ∙ getD-table n _ j no_move l

  count_is : length C.moves ≡ n
  count_is = ap length e ∙ length-table n _

  pub move_in : {K : ℕ} → InRange K C → (j : ℕ) → j < n → MoveIn numbers K C.states j
  move_in R j l =
      let m = move-is j l in
      let c : j < length C.moves = omega (arith, count_is) in
      record {
        few = omega (arith, R.few);
        from_in = omega (arith, R.from_in j c, ap (λ (x : Move). x.from) m);
        kind_in = omega (arith, R.kind_in j c, ap (λ (x : Move). x.kind) m);
        to_in = omega (arith, R.to_in j c, ap (λ (x : Move). x.to) m);
      }

-- the loop that fills
pub clear_new : (n : ℕ) → Clear (replicate n 0) n
clear_new n = record { size = length-replicate n 0; zero = all n }
  where
    all : (n i : ℕ) → get_or {A = ℕ} (replicate n 0) i 0 ≡ 0
    all zero i = refl
    all (suc n) zero = refl
    all (suc n) (suc i) = all n i

-- n is put into the set that stands at `at`: what the code wrote is that, and which bits stand then
pub put_is : (T : List ℕ) {at i word m n : ℕ} → at ≡ i → m ≡ n → word ≡ bit_or (get_or T at 0) (2 ^ m) → set T at word ≡ set T i (bit_or (get_or T i 0) (2 ^ n))
put_is T e f h = cc

put_has : (T : List ℕ) (at n : ℕ) → at < length T → (i q : ℕ) → has (get_or (set T at (bit_or (get_or T at 0) (2 ^ n))) i 0) q ≡ ((eqb at i and eqb n q) || has (get_or T i 0) q)
unfolding ◌and◌
put_has T at n h i q = go (eqb at i) refl
  where
    go : (x : Bool) → eqb at i ≡ x → has (get_or (set T at (bit_or (get_or T at 0) (2 ^ n))) i 0) q ≡ ((x and eqb n q) || has (get_or T i 0) q)
    go true e =
        rw (← eqb-true at i e)
        (ap (λ (m : ℕ). has m q) (get_or-set_same T at _ 0 h)
        ∙ has-or (get_or T at 0) (2 ^ n) q
        ∙ or_comm (has (get_or T at 0) q) (has (2 ^ n) q)
        ∙ ap (λ (b : Bool). b || has (get_or T at 0) q) (one_is n q))
    go false e = ap (λ (m : ℕ). has m q) (get_or-set_other T at i _ 0 (λ x. eqb-false at i e (sym x)))

-- move j goes from p by kind a to q
abbrev pub goes : List ℕ → ℕ → ℕ → ℕ → ℕ → Bool
goes numbers p a q j = eqb (get_or numbers (3 * j) 0) p and eqb (get_or numbers (3 * j + 1) 0) a and eqb (get_or numbers (3 * j + 2) 0) q

-- the place of a kind and a state is that of no other pair
place_is : (a b d x p q : ℕ) → a < 32 → p < 32 → (eqb (b * 32 + a) (x * 32 + p) and eqb d q) ≡ (eqb a p and eqb b x and eqb d q)
place_is a b d x p q ha hp = yes_same there back
  where
    there : Yes (eqb (b * 32 + a) (x * 32 + p) and eqb d q) → Yes (eqb a p and eqb b x and eqb d q)
    there y =
        let (u, w) = and_in _ _ y in
        let e : b * 32 + a ≡ x * 32 + p = eqb-true _ _ u in
        and_of (eqb_of {m = a} {n = p} (omega arith)) (and_of (eqb_of {m = b} {n = x} (omega arith)) w)

    back : Yes (eqb a p and eqb b x and eqb d q) → Yes (eqb (b * 32 + a) (x * 32 + p) and eqb d q)
    back y =
        let (u, w) = and_in _ _ y in
        let (v, z) = and_in _ _ w in
        and_of (eqb_of (ap₂ (λ (m n : ℕ). m * 32 + n) (eqb-true b x v) (eqb-true a p u))) z

-- the table and the sources of the first j moves
pub record UpTo (T S numbers : List ℕ) (j : ℕ) : Type 0 where
  pub size : length T ≡ ceilings.kinds * ceilings.states
  pub sources : length S ≡ ceilings.kinds
  pub says : (a p q : ℕ) → a < 32 → p < 32 → has (get_or T (a * 32 + p) 0) q ≡ any_below j (goes numbers p a q)
  pub covers : (a p q : ℕ) → a < 32 → p < 32 → Yes (has (get_or T (a * 32 + p) 0) q) → Yes (has (get_or S a 0) p)

pub up-to-none : (T S numbers : List ℕ) → Clear T (ceilings.kinds * ceilings.states) → Clear S ceilings.kinds → UpTo T S numbers 0
unfolding any_below
up-to-none T S numbers z s = record {
  size = z.size;
  sources = s.size;
  says = λ a p q _ _. empty a p q;
  covers = λ a p q _ _ y. absurd
      (false≢true (sym (empty a p q) ∙ y));
}
  where
    empty : (a p q : ℕ) → has (get_or T (a * 32 + p) 0) q ≡ false
    empty a p q = ap (λ (n : ℕ). has n q) (z.zero (a * 32 + p)) ∙ has-none q

pub up-to-more : (T S numbers T' S' : List ℕ) (j a b d : ℕ) → a ≡ get_or numbers (3 * j) 0 → b ≡ get_or numbers (3 * j + 1) 0
    → d ≡ get_or numbers (3 * j + 2) 0 → a < 32 → b < 32
    → T' ≡ set T (b * 32 + a) (bit_or (get_or T (b * 32 + a) 0) (2 ^ d)) → S' ≡ set S b (bit_or (get_or S b 0) (2 ^ a))
    → UpTo T S numbers j → UpTo T' S' numbers (j + 1)
up-to-more T S numbers T' S' j a b d ea eb ed ha hb eT eS U =
    record { size = ap length eT ∙ length-set T (b * 32 + a) _ ∙ U.size; sources = ap length eS ∙ length-set S b _ ∙ U.sources; says = says; covers = covers }
  where
    put : (x p q : ℕ) → p < 32 → has (get_or T' (x * 32 + p) 0) q ≡ ((eqb a p and eqb b x and eqb d q) || has (get_or T (x * 32 + p) 0) q)
    put x p q hp =
        rw eT (put_has T (b * 32 + a) d (omega (arith, U.size)) (x * 32 + p) q ∙ ap (λ (y : Bool). y || has (get_or T (x * 32 + p) 0) q) (place_is a b d x p q ha hp))

    says : (x p q : ℕ) → x < 32 → p < 32 → has (get_or T' (x * 32 + p) 0) q ≡ any_below (j + 1) (goes numbers p x q)
    says x p q hx hp =
        let e : eqb a p and eqb b x and eqb d q ≡ goes numbers p x q j = cc in
        put x p q hp
        ∙ ap₂ ◌||◌ e (U.says x p q hx hp)
        ∙ sym (any-more j (goes numbers p x q))

    source : (x p : ℕ) → has (get_or S' x 0) p ≡ ((eqb b x and eqb a p) || has (get_or S x 0) p)
    source x p = rw eS (put_has S b a (omega (arith, U.sources)) x p)

    covers : (x p q : ℕ) → x < 32 → p < 32 → Yes (has (get_or T' (x * 32 + p) 0) q) → Yes (has (get_or S' x 0) p)
    covers x p q hx hp y =
        source x p
        ∙ ⊎_elim
        (λ w. let (u, v) = and_in _ _ w in or_inl (eqb b x and eqb a p) (has (get_or S x 0) p) (and_of (and_in _ _ v).0 u))
        (λ w. or_inr (eqb b x and eqb a p) (has (get_or S x 0) p) (U.covers x p q hx hp w))
        (or_in (eqb a p and eqb b x and eqb d q) (has (get_or T (x * 32 + p) 0) q) (sym (put x p q hp) ∙ y))

pub up-to-all : {K : ℕ} (C : Condition) (T S numbers : List ℕ) (n : ℕ) → C.moves ≡ moves_of n numbers → InRange K C → UpTo T S numbers n → Filled T S C
unfolding follows
up-to-all C T S numbers n e R U = record { tabled = λ a p q ha hp. U.says a p q ha hp ∙ same a p q; leads = record { narrow = narrow; covers = U.covers } }
  where
    same : (a p q : ℕ) → any_below n (goes numbers p a q) ≡ follows C p a q
    same a p q =
        any_same n _ _ (λ j l. ap (λ (m : Move). eqb m.from p and eqb m.kind a and eqb m.to q) (sym (move-is C n numbers e j l)))
        ∙ ap (λ (m : ℕ). any_below m (λ j. eqb (move_at C j).from p and eqb (move_at C j).kind a and eqb (move_at C j).to q)) (sym (count_is C n numbers e))

    narrow : (a p q : ℕ) → a < 32 → p < 32 → Yes (has (get_or T (a * 32 + p) 0) q) → q < C.states
    narrow a p q ha hp y =
        let (j, l, w) = any_below_in n (goes numbers p a q) (sym (U.says a p q ha hp) ∙ y) in
        let (u, v) = and_in _ _ w in
        omega (arith, eqb-true (get_or numbers (3 * j + 2) 0) q (and_in _ _ v).1, (move_in C n numbers e R j l).to_in)
