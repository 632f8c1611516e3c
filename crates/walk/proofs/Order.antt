-- The order of chains, and lists that rise in it. All rows of a length rise, so what is sieved from them does, and in such a list the row after c
-- is the one that comes after c with none between.
use Prim.Native.Nat.{ℕ, zero, suc, ◌<◌}
use mathlib.Core.Path.{◌≡◌, refl, sym, ◌∙◌, ap}
use mathlib.Core.Bool.{Bool, true, false, false≢true, cond}
use mathlib.Core.List.Memᴰ
use mathlib.Core.List.{List, [], ◌∷◌, ◌++◌, flat_map, head-eq_of_cons-eq, tail-eq_of_cons-eq, Memᴰ, head?}
use mathlib.Core.Option.{none, some}
use mathlib.Mathlib.Data.Bool.Basic.{or_inl, or_inr, Bool-eq-false}
use mathlib.Core.Logic.{◌↔◌, ◌⊎◌, inl, inr, ⊎_elim}
use native.Mathlib.Nat.{not-suc-le-zero, le_of_suc-le-suc}
use native.Mathlib.Omega.{arith}
use lib.ListN.{length, take, drop}
use lib.Seq.{take_at, drop_at}
use borrow.Author.Tests.{ltb-true, lt-ltb}
use Rattle.walk.specs.Numbers.{table, same}
use Rattle.walk.specs.Chains.{before, rows, sieve, member, after_of}
use Rattle.walk.specs.Demands.{Rises}
use Rattle.walk.proofs.Numbers.{Yes, and_in, and_of, or_in, same_refl, same-eq, same_of}

-- the order
pub before_irrefl : (c : List ℕ) → Yes (before c c) → ⊥
unfolding before
before_irrefl [] t = false≢true t
before_irrefl (x ∷ xs) t =
    ⊎_elim (λ h. before_irrefl xs h) (λ h. let l = ltb-true x x (and_in _ _ h).1 in omega arith) (or_in (before xs xs) _ t)

pub before_asym : (c d : List ℕ) → Yes (before c d) → Yes (before d c) → ⊥
unfolding before
before_asym [] d t u = false≢true t
before_asym (x ∷ xs) [] t u = false≢true t
before_asym (x ∷ xs) (y ∷ ys) t u =
    ⊎_elim
    (λ h. ⊎_elim (λ k. before_asym xs ys h k) (λ k. let e : ys ≡ xs = same-eq ys xs (and_in _ _ k).0 in before_irrefl xs (rw e at h)) (or_in (before ys xs) _ u))
    (λ h. ⊎_elim
    (λ k. let e : ys ≡ xs = sym (same-eq xs ys (and_in _ _ h).0) in before_irrefl xs (rw e at k))
    (λ k. let l = ltb-true x y (and_in _ _ h).1 in let m = ltb-true y x (and_in _ _ k).1 in omega arith)
    (or_in (before ys xs) _ u))
    (or_in (before xs ys) _ t)

-- lists that rise
rises-append : (xs ys : List (List ℕ)) → Rises xs → Rises ys → ((x y : List ℕ) → Memᴰ x xs → Memᴰ y ys → Yes (before x y)) → Rises (xs ++ ys)
rises-append [] ys a b h = b
rises-append (x ∷ xs) ys a b h =
    (λ y m. ⊎_elim (λ k. a.0 y k) (λ k. h x y (Memᴰ.head refl) k) (Memᴰ.append_cases xs m), rises-append xs ys a.1 b (λ c d k l. h c d (Memᴰ.tail k) l))

table-mem : (n : ℕ) (f : ℕ → List ℕ) (y : List ℕ) → Memᴰ y (table n f) → (i : ℕ) × (i < n) × (y ≡ f i)
unfolding table
table-mem zero f y m = absurd (Memᴰ.not-nil m)
table-mem (suc n) f y m =
    ⊎_elim (λ e. (0, omega arith, e)) (λ k. let (i, h, e) = table-mem n (λ j. f (suc j)) y k in (suc i, omega arith, e)) (Memᴰ.cases_cons m)

mem-table : (n : ℕ) (f : ℕ → List ℕ) (i : ℕ) → i < n → Memᴰ (f i) (table n f)
unfolding table
mem-table zero f i h = absurd (not-suc-le-zero h)
mem-table (suc n) f zero h = Memᴰ.head refl
mem-table (suc n) f (suc i) h = Memᴰ.tail (mem-table n (λ j. f (suc j)) i (le_of_suc-le-suc h))

rises-table : (n : ℕ) (f : ℕ → List ℕ) → ((i j : ℕ) → i < j → Yes (before (f i) (f j))) → Rises (table n f)
unfolding table
rises-table zero f h = tt
rises-table (suc n) f h =
    (λ y m. let (i, _, e) = table-mem n (λ j. f (suc j)) y m in rw e (h 0 (suc i) (omega arith)), rises-table n (λ j. f (suc j)) (λ i j l. h (suc i) (suc j) (omega arith)))

-- all rows
module _ (b : ℕ) where
  -- each first number before the row c
  abbrev heads : List ℕ → List (List ℕ)
  heads c = table b (λ e. e ∷ c)

  heads-mem : (c y : List ℕ) → Memᴰ y (heads c) → (e : ℕ) × (e < b) × (y ≡ e ∷ c)
  heads-mem c y m = table-mem b _ y m

  rises-heads : (c : List ℕ) → Rises (heads c)
  unfolding before
  rises-heads c = rises-table b _ (λ i j l. or_inr (before c c) _ (and_of (same_refl c) (lt-ltb i j l)))

  all-mem : (l : List (List ℕ)) (y : List ℕ) → Memᴰ y (flat_map heads l) → (c : List ℕ) × Memᴰ c l × Memᴰ y (heads c)
  unfolding flat_map
  all-mem [] y m = absurd (Memᴰ.not-nil m)
  all-mem (x ∷ xs) y m =
      ⊎_elim (λ k. (x, Memᴰ.head refl, k)) (λ k. let (c, h, i) = all-mem xs y k in (c, Memᴰ.tail h, i)) (Memᴰ.append_cases (heads x) m)

  mem-all : (l : List (List ℕ)) (c y : List ℕ) → Memᴰ c l → Memᴰ y (heads c) → Memᴰ y (flat_map heads l)
  unfolding flat_map
  mem-all [] c y m k = absurd (Memᴰ.not-nil m)
  mem-all (x ∷ xs) c y m k =
      ⊎_elim (λ e. Memᴰ.append_left _ (rw e at k)) (λ h. Memᴰ.append_right (heads x) (mem-all xs c y h k)) (Memᴰ.cases_cons m)

  rises-all : (l : List (List ℕ)) → Rises l → Rises (flat_map heads l)
  unfolding flat_map before
  rises-all [] h = tt
  rises-all (x ∷ xs) h = rises-append (heads x) _ (rises-heads x) (rises-all xs h.1) cross
    where
      cross : (c d : List ℕ) → Memᴰ c (heads x) → Memᴰ d (flat_map heads xs) → Yes (before c d)
      cross c d m k =
          let (e, _, ce) = heads-mem x c m in
          let (y, ym, yk) = all-mem xs d k in
          let (f, _, de) = heads-mem y d yk in
          rw (ce, de) (or_inl (before x y) _ (h.0 y ym))

  pub rises-rows : (n : ℕ) → Rises (rows b n)
  unfolding rows
  rises-rows zero = (λ y m. absurd (Memᴰ.not-nil m), tt)
  rises-rows (suc n) = rises-all (rows b n) (rises-rows n)

  -- each number of the row is below b
  abbrev pub Below : List ℕ → Type 0
  Below [] = Unit {0}
  Below (e ∷ c) = (e < b) × Below c

  pub mem-rows : (c : List ℕ) → Below c → Memᴰ c (rows b (length c))
  unfolding rows
  mem-rows [] h = Memᴰ.head refl
  mem-rows (e ∷ c) h = mem-all (rows b (length c)) c (e ∷ c) (mem-rows c h.1) (mem-table b (λ x. x ∷ c) e h.0)

  pub rows-mem : (n : ℕ) (c : List ℕ) → Memᴰ c (rows b n) → length c ≡ n
  unfolding rows
  rows-mem zero c m = ap length (Memᴰ.eq_of_singleton m)
  rows-mem (suc n) c m =
      let (d, dm, dk) = all-mem (rows b n) c m in
      let (e, _, ce) = heads-mem d c dk in
      ap length ce ∙ ap suc (rows-mem n d dm)

-- those that pass
module _ (p : List ℕ → Bool) where
  pub sieve-mem : (l : List (List ℕ)) (y : List ℕ) → Memᴰ y (sieve p l) → Memᴰ y l × Yes (p y)
  unfolding sieve
  sieve-mem [] y m = absurd (Memᴰ.not-nil m)
  sieve-mem (x ∷ xs) y m = go (p x) refl m (λ k. sieve-mem xs y k)
    where
      go : (t : Bool) → p x ≡ t → Memᴰ y (cond t (x ∷ sieve p xs) (sieve p xs)) → (Memᴰ y (sieve p xs) → Memᴰ y xs × Yes (p y))
          → Memᴰ y (x ∷ xs) × Yes (p y)
      go true e m ih = ⊎_elim (λ k. (Memᴰ.head k, rw k e)) (λ k. (Memᴰ.tail (ih k).0, (ih k).1)) (Memᴰ.cases_cons m)
      go false e m ih = (Memᴰ.tail (ih m).0, (ih m).1)

  pub mem-sieve : (l : List (List ℕ)) (y : List ℕ) → Memᴰ y l → Yes (p y) → Memᴰ y (sieve p l)
  unfolding sieve
  mem-sieve [] y m t = absurd (Memᴰ.not-nil m)
  mem-sieve (x ∷ xs) y m t = go (p x) refl (Memᴰ.cases_cons m) (λ k. mem-sieve xs y k t)
    where
      go : (u : Bool) → p x ≡ u → (y ≡ x) ⊎ Memᴰ y xs → (Memᴰ y xs → Memᴰ y (sieve p xs)) → Memᴰ y (cond u (x ∷ sieve p xs) (sieve p xs))
      go true e (inl k) ih = Memᴰ.head k
      go true e (inr k) ih = Memᴰ.tail (ih k)
      go false e (inl k) ih = absurd (false≢true (sym e ∙ ap p (sym k) ∙ t))
      go false e (inr k) ih = ih k

  pub rises-sieve : (l : List (List ℕ)) → Rises l → Rises (sieve p l)
  unfolding sieve
  rises-sieve [] h = tt
  rises-sieve (x ∷ xs) h = go (p x) (rises-sieve xs h.1)
    where
      go : (t : Bool) → Rises (sieve p xs) → Rises (cond t (x ∷ sieve p xs) (sieve p xs))
      go true s = (λ y m. h.0 y (sieve-mem xs y m).0, s)
      go false s = s

-- the first and the next of a sorted list
pub first-is : (l : List (List ℕ)) (c : List ℕ) → Rises l → Memᴰ c l → ((d : List ℕ) → Memᴰ d l → Yes (before d c) → ⊥) → head? l ≡ some c
first-is [] c h m n = absurd (Memᴰ.not-nil m)
first-is (x ∷ xs) c h m n = ⊎_elim (λ e. ap some (sym e)) (λ k. absurd (n x (Memᴰ.head refl) (h.0 c k))) (Memᴰ.cases_cons m)

after-step : (c x : List ℕ) (xs : List (List ℕ)) → ¬ (x ≡ c) → after_of c (x ∷ xs) ≡ after_of c xs
unfolding after_of
after-step c x xs n = rw (Bool-eq-false (λ e. n (same-eq x c e)))

after_here : (c : List ℕ) (xs : List (List ℕ)) → after_of c (c ∷ xs) ≡ head? xs
unfolding after_of
after_here c xs = rw (same_refl c)

-- in a list that rises, each row stands once, and the row after c is the first of what stands behind it
pub stands-once : (xs : List (List ℕ)) (c : List ℕ) (ys : List (List ℕ)) → Rises (xs ++ (c ∷ ys)) → (Memᴰ c xs → ⊥) × (Memᴰ c ys → ⊥)
stands-once [] c ys h = (λ m. Memᴰ.not-nil m, λ m. before_irrefl c (h.0 c m))
stands-once (x ∷ xs) c ys h =
    let (f, g) = stands-once xs c ys h.1 in
    (λ m. ⊎_elim (λ e. before_irrefl x (rw e at (h.0 c (Memᴰ.append_right xs (Memᴰ.head refl))))) f (Memᴰ.cases_cons m), g)

pub after_split : (xs : List (List ℕ)) (c : List ℕ) (ys : List (List ℕ)) → Rises (xs ++ (c ∷ ys)) → after_of c (xs ++ (c ∷ ys)) ≡ head? ys
after_split [] c ys h = after_here c ys
after_split (x ∷ xs) c ys h = after-step c x (xs ++ (c ∷ ys)) (λ e. (stands-once (x ∷ xs) c ys h).0 (Memᴰ.head (sym e))) ∙ after_split xs c ys h.1

pub next-is : (l : List (List ℕ)) (c d : List ℕ) → Rises l → Memᴰ c l → Memᴰ d l → Yes (before c d)
    → ((x : List ℕ) → Memᴰ x l → Yes (before c x) → Yes (before x d) → ⊥) → after_of c l ≡ some d
next-is [] c d h m k b n = absurd (Memᴰ.not-nil m)
next-is (x ∷ xs) c d h m k b n = go (Memᴰ.cases_cons m) (Memᴰ.cases_cons k) (λ i j. next-is xs c d h.1 i j b (λ y ym. n y (Memᴰ.tail ym)))
  where
    go : (c ≡ x) ⊎ Memᴰ c xs → (d ≡ x) ⊎ Memᴰ d xs → (Memᴰ c xs → Memᴰ d xs → after_of c xs ≡ some d) → after_of c (x ∷ xs) ≡ some d
    go (inl e) (inl f) ih = absurd (before_irrefl x (rw (e, f) at b))
    go (inl e) (inr f) ih = rw e (after_here x xs ∙ first-is xs d h.1 f (λ y ym yb. n y (Memᴰ.tail ym) (rw e (h.0 y ym)) yb))
    go (inr e) (inl f) ih = absurd (before_asym x c (h.0 c e) (rw f at b))
    go (inr e) (inr f) ih = after-step c x xs (λ g. before_irrefl c (rw g at (h.0 c e))) ∙ ih e f

pub next-none : (l : List (List ℕ)) (c : List ℕ) → Rises l → Memᴰ c l → ((x : List ℕ) → Memᴰ x l → Yes (before c x) → ⊥) → after_of c l ≡ none
next-none [] c h m n = absurd (Memᴰ.not-nil m)
next-none (x ∷ xs) c h m n = go (Memᴰ.cases_cons m) (λ i. next-none xs c h.1 i (λ y ym. n y (Memᴰ.tail ym)))
  where
    empty : (l : List (List ℕ)) → ((y : List ℕ) → Memᴰ y l → ⊥) → head? l ≡ none
    empty [] f = refl
    empty (y ∷ ys) f = absurd (f y (Memᴰ.head refl))

    go : (c ≡ x) ⊎ Memᴰ c xs → (Memᴰ c xs → after_of c xs ≡ none) → after_of c (x ∷ xs) ≡ none
    go (inl e) ih = rw e (after_here x xs ∙ empty xs (λ y ym. n y (Memᴰ.tail ym) (rw e (h.0 y ym))))
    go (inr e) ih = after-step c x xs (λ g. before_irrefl c (rw g at (h.0 c e))) ∙ ih e

-- the test for a row of a list
pub member_law : (c : List ℕ) (l : List (List ℕ)) → Yes (member c l) ↔ Memᴰ c l
unfolding member
member_law c [] = (λ h. absurd (false≢true h), λ m. absurd (Memᴰ.not-nil m))
member_law c (x ∷ xs) = (
  λ h. ⊎_elim (λ k. Memᴰ.head (sym (same-eq x c k))) (λ k. Memᴰ.tail ((member_law c xs).0 k)) (or_in (same x c) _ h),
  λ m. ⊎_elim (λ e. or_inl (same x c) _ (same_of (sym e))) (λ k. or_inr (same x c) _ ((member_law c xs).1 k)) (Memᴰ.cases_cons m),
)

-- the order at a place: with one end d, the smaller number before it comes first
pub before_at : (g h : List ℕ) (x y : ℕ) (d : List ℕ) → length g ≡ length h → x < y → Yes (before (g ++ (x ∷ d)) (h ++ (y ∷ d)))
unfolding before
before_at [] [] x y d e l = or_inr (before d d) _ (and_of (same_refl d) (lt-ltb x y l))
before_at [] (b ∷ h) x y d e l = absurd (omega arith)
before_at (a ∷ g) [] x y d e l = absurd (omega arith)
before_at (a ∷ g) (b ∷ h) x y d e l = or_inl (before (g ++ (x ∷ d)) (h ++ (y ∷ d))) _ (before_at g h x y d (omega arith) l)

append_inj : (h f u v : List ℕ) → length h ≡ length f → h ++ u ≡ f ++ v → (h ≡ f) × (u ≡ v)
append_inj h f u v l e = (
  sym (take_at h u _ l) ∙ ap (take (length f)) e ∙ take_at f v _ refl,
  sym (drop_at h u _ l) ∙ ap (drop (length f)) e ∙ drop_at f v _ refl,
)

-- the ends decide, and where they are equal the beginnings
pub before_split : (h f u v : List ℕ) → length h ≡ length f → Yes (before (h ++ u) (f ++ v)) → Yes (before u v) ⊎ ((u ≡ v) × Yes (before h f))
unfolding before
before_split [] [] u v l o = inl o
before_split [] (b ∷ f) u v l o = absurd (omega arith)
before_split (a ∷ h) [] u v l o = absurd (omega arith)
before_split (a ∷ h) (b ∷ f) u v l o =
    ⊎_elim
    (λ k. ⊎_elim (λ m. inl m) (λ m. inr (m.0, or_inl (before h f) _ m.1)) (before_split h f u v (omega arith) k))
    (λ k. let (p, q) = and_in _ _ k in
    let (x, y) = append_inj h f u v (omega arith) (same-eq (h ++ u) (f ++ v) p) in
    inr (y, or_inr (before h f) _ (and_of (same_of x) q)))
    (or_in (before (h ++ u) (f ++ v)) _ o)

pub before-cons : (x y : ℕ) (d e : List ℕ) → Yes (before (x ∷ d) (y ∷ e)) → Yes (before d e) ⊎ ((d ≡ e) × (x < y))
unfolding before
before-cons x y d e o = ⊎_elim (λ h. inl h) (λ h. let (p, q) = and_in _ _ h in inr (same-eq d e p, ltb-true x y q)) (or_in (before d e) _ o)

-- what is left for a row with y and e at its end between rows with x and d, and with z and d
abbrev pub Squeezed : ℕ → ℕ → ℕ → List ℕ → List ℕ → Type 0
Squeezed x y z d e = (◌≡◌ {A = List ℕ} (x ∷ d) (y ∷ e)) ⊎ ((d ≡ e) × (x < y) × ((y < z) ⊎ (y ≡ z)))

-- a row f y e that stands after h x d, and before g z d
pub squeeze : (h f g : List ℕ) (x y z : ℕ) (d e : List ℕ) → length h ≡ length f → length f ≡ length g
    → Yes (before (h ++ (x ∷ d)) (f ++ (y ∷ e))) → Yes (before (f ++ (y ∷ e)) (g ++ (z ∷ d))) → Squeezed x y z d e
squeeze h f g x y z d e lh lf o p = low (before_split h f (x ∷ d) (y ∷ e) lh o)
  where
    high : (Yes (before (y ∷ e) (z ∷ d))) ⊎ ((◌≡◌ {A = List ℕ} (y ∷ e) (z ∷ d)) × Yes (before f g)) → (Yes (before e d)) ⊎ ((e ≡ d) × ((y < z) ⊎ (y ≡ z)))
    high (inl b) = ⊎_elim (λ k. inl k) (λ k. inr (k.0, inl k.1)) (before-cons y z e d b)
    high (inr b) = inr (tail-eq_of_cons-eq b.0, inr (head-eq_of_cons-eq b.0))

    up : (Yes (before e d)) ⊎ ((e ≡ d) × ((y < z) ⊎ (y ≡ z)))
    up = high (before_split f g (y ∷ e) (z ∷ d) lf p)

    low : (Yes (before (x ∷ d) (y ∷ e))) ⊎ ((◌≡◌ {A = List ℕ} (x ∷ d) (y ∷ e)) × Yes (before h f)) → Squeezed x y z d e
    low (inr b) = inl b.0
    low (inl b) =
        ⊎_elim
        (λ k. absurd (⊎_elim (λ u. before_asym d e k u) (λ u. before_irrefl d (rw u.0 at k)) up))
        (λ k. ⊎_elim (λ u. absurd (before_irrefl d (rw (sym k.0) at u))) (λ u. inr (k.0, k.1, u.1)) up)
        (before-cons x y d e b)
