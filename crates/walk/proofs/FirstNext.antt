-- The first chain of the list and the chain after a given one, by going back: the smallest ties that leave a state alive make the first; raising the
-- tie nearest the front that can be raised, with the smallest ties before it, makes the next. Each tie picked can be completed, none smaller can, and
-- in a list that rises what has nothing before it is the first, and what has nothing between is the next.
use Prim.Native.Nat.{ℕ, zero, suc, ◌+◌, ◌≤◌, ◌<◌}
use mathlib.Core.Path.{◌≡◌, refl, sym, ◌∙◌, subst, subst₂, ap}
use mathlib.Core.Bool.{Bool, true, false, cond}
use mathlib.Core.List.{List, [], ◌∷◌, ◌++◌, append_assoc, append-nil, Memᴰ, head-eq_of_cons-eq, head?}
use mathlib.Core.Option.{Option, some}
use mathlib.Core.Logic.{◌↔◌, inl, inr, ⊎_elim}
use native.Mathlib.Nat.{eq-or-lt_of_le, add-zero}
use native.Mathlib.Omega.{arith}
use lib.Dec.{leb, ltb}
use lib.ListN.{length, length-append, take, drop, get_or}
use lib.Seq.{take_all, take-suc, split_at, length-take-le}
use borrow.Author.Tests.{eqb-true, ltb-true, ltb-false, leb-true, le-leb}
use Rattle.walk.specs.Numbers.{◌and◌}
use Rattle.walk.specs.Network.{Network, ties, to_of}
use Rattle.walk.specs.Condition.{Condition}
use Rattle.walk.specs.Walk.{Joins, Fits, LeastMatching}
use Rattle.walk.specs.Chains.{before, list, after_of}
use Rattle.walk.proofs.Numbers.{Yes, and_in, and_of, eqb_of, least-is}
use Rattle.walk.proofs.Sets.{nonempty}
use Rattle.walk.proofs.Executable.{Sound, joins_split}
use Rattle.walk.proofs.Words.{unreached}
use Rattle.walk.proofs.Order.{first-is, next-is, next-none, before_irrefl, before_asym, before_at, before_split, before-cons, Squeezed, squeeze}
use Rattle.walk.proofs.Back.{Raise, enters, lowest, fill, fill-ends, mark, set_at, raise, raised, nil_of, back, at_end, Completes, completes_law, joins-mark}
use Rattle.walk.proofs.Back as Back
use Rattle.walk.proofs.Listings.{list_law, list-rises}

-- a row that is not empty has a last number
last_of : (c : List ℕ) (n : ℕ) → length c ≡ suc n → (b : List ℕ) × (x : ℕ) × (c ≡ b ++ (x ∷ [])) × (length b ≡ n)
last_of c n e = (take n c, get_or c n 0, sym (take_all (suc n) c (omega arith)) ∙ take-suc c n 0 (omega arith), length-take-le n c (omega arith))

module _ (N : Network) (C : Condition) (s t r : ℕ) (ok : Sound N C) (n : ℕ) (few : r < unreached) (fits : n ≤ r) (short : LeastMatching N C s t n) where
  abbrev alive : ℕ → List ℕ → ℕ
  alive i d = Back.alive N C s t r n i d

  completes : (i : ℕ) (d : List ℕ) → i + length d ≡ n → Completes N C s t r i d ↔ (Joins N (mark N t d) d t × Yes (nonempty (alive i d)))
  completes i d z = completes_law N C s t r ok n few fits short i d z

  -- the tie that is picked
  lowest_at : ℕ → ℕ → List ℕ → ℕ
  lowest_at lo i d = lowest N (back N C s t r) lo (mark N t d) i (alive (suc i) d)

  picked : (lo i : ℕ) (d : List ℕ) → suc i + length d ≡ n → Joins N (mark N t d) d t → lowest_at lo i d < ties N
      → (lo ≤ lowest_at lo i d) × Completes N C s t r i (lowest_at lo i d ∷ d)
  unfolding lowest_at lowest enters set_at
  picked lo i d z j h =
      let e = lowest_at lo i d in
      let (a, x) = and_in _ _ ((least-is (λ e. leb lo e and enters N (back N C s t r) (mark N t d) i (alive (suc i) d) e) (ties N)).passes h) in
      let (b, y) = and_in _ _ x in
      (leb-true lo e a, (completes i (e ∷ d) (omega arith)).1 ((h, refl, rw (eqb-true (to_of N e) (mark N t d) b) j), y))

  none_lower : (lo i : ℕ) (d : List ℕ) → suc i + length d ≡ n → (x : ℕ) → lo ≤ x → Completes N C s t r i (x ∷ d) → x < lowest_at lo i d → ⊥
  unfolding lowest_at lowest enters set_at
  none_lower lo i d z x l k h =
      let ((_, _, j), y) = (completes i (x ∷ d) (omega arith)).0 k in
      (least-is (λ e. leb lo e and enters N (back N C s t r) (mark N t d) i (alive (suc i) d) e) (ties N)).none_before x h
      (and_of (le-leb lo x l) (and_of (eqb_of (sym (joins-mark N t (to_of N x) d j))) y))

  -- c and d fit: c's last tie x, and what is left of c before it
  abbrev Peeled : ℕ → List ℕ → List ℕ → Type 0
  Peeled i d c = (b : List ℕ) × (x : ℕ) × (length b ≡ i) × (c ++ d ≡ b ++ (x ∷ d)) × Fits N C s t (b ++ (x ∷ d))

  peel : (i : ℕ) (d c : List ℕ) → length c ≡ suc i → Fits N C s t (c ++ d) → Peeled i d c
  peel i d c l y =
      let (b, x, f, lb) = last_of c i l in
      let e : c ++ d ≡ b ++ (x ∷ d) = ap (λ (k : List ℕ). k ++ d) f ∙ append_assoc b (x ∷ []) d in
      (b, x, lb, e, subst (λ (k : List ℕ). Fits N C s t k) e y)

  -- the smallest ties: what is made matches, and has no match before it that ends in d too
  abbrev pub filled : ℕ → List ℕ → List ℕ
  filled i d = fill N (back N C s t r) i (mark N t d) (alive i d) d

  filled_zero : (d : List ℕ) → filled zero d ≡ d
  unfolding fill
  filled_zero d = refl

  filled-suc : (i : ℕ) (d : List ℕ) → filled (suc i) d ≡ filled i (lowest_at 0 i d ∷ d)
  unfolding fill set_at lowest_at
  filled-suc i d = refl

  filled-ends : (i : ℕ) (d : List ℕ) → (g : List ℕ) × (length g ≡ i) × (filled i d ≡ g ++ d)
  filled-ends i d = fill-ends N (back N C s t r) i (mark N t d) (alive i d) d

  filled-fits : (i : ℕ) (d : List ℕ) → i + length d ≡ n → Completes N C s t r i d → Fits N C s t (filled i d)
  filled-fits zero d z (c, l, y) = subst (λ (k : List ℕ). Fits N C s t k) (ap (λ (k : List ℕ). k ++ d) (nil_of c l) ∙ sym (filled_zero d)) y
  filled-fits (suc i) d z (c, l, y) =
      let (b, x, lb, e, y') = peel i d c l y in
      let (jx, _) = (completes i (x ∷ d) (omega arith)).0 (b, lb, y') in
      let x-in : x < ties N = jx.0 in
      let low : ¬ (x < lowest_at 0 i d) = none_lower 0 i d z x (omega arith) (b, lb, y') in
      let K = picked 0 i d z ((completes (suc i) d z).0 (c, l, y)).0 (omega arith) in
      rw (filled-suc i d) (filled-fits i (lowest_at 0 i d ∷ d) (omega arith) K.1)

  -- no chain that fits and ends in d comes before it
  abbrev NoneBefore : ℕ → List ℕ → Type 0
  NoneBefore i d = (c : List ℕ) → length c ≡ i → Fits N C s t (c ++ d) → Yes (before (c ++ d) (filled i d)) → ⊥

  filled-first : (i : ℕ) (d : List ℕ) → i + length d ≡ n → NoneBefore i d
  filled-first zero d z c l y o = let e : c ++ d ≡ d = ap (λ (k : List ℕ). k ++ d) (nil_of c l) in before_irrefl d (rw (e, filled_zero d) at o)
  filled-first (suc i) d z c l y o = go (λ d'. filled-first i d') (peel i d c l y)
    where
      e : ℕ
      e = lowest_at 0 i d

      go : ((d' : List ℕ) → i + length d' ≡ n → NoneBefore i d') → Peeled i d c → ⊥
      go less (b, x, lb, f, y') =
          let low : ¬ (x < e) = none_lower 0 i d z x (omega arith) (b, lb, y') in
          let k : e ≤ x = omega arith in
          let o' : Yes (before (b ++ (x ∷ d)) (filled i (e ∷ d))) = rw (f, filled-suc i d) at o in
          ⊎_elim
          (λ (q : e ≡ x). less (e ∷ d) (omega arith) b lb
          (subst (λ (u : ℕ). Fits N C s t (b ++ (u ∷ d))) (sym q) y')
          (subst (λ (u : ℕ). Yes (before (b ++ (u ∷ d)) (filled i (e ∷ d)))) (sym q) o'))
          (λ (q : e < x). let (g, lg, h) = filled-ends i (e ∷ d) in
          before_asym (g ++ (e ∷ d)) (b ++ (x ∷ d)) (before_at g b e x d (lg ∙ sym lb) q) (rw h at o'))
          (eq-or-lt_of_le k)

  -- the smallest ties all the way make the first chain of the list
  pub first_law : head? (list N C s t n) ≡ some (filled n [])
  first_law =
      first-is _ (filled n []) (list-rises N C s t n)
      ((list_law N C s t n ok (filled n [])).1 (size, whole))
      (λ d dm o. let (l, y) = (list_law N C s t n ok d).0 dm in filled-first n [] (add-zero n) d l (rw append-nil y) (rw (append-nil d) o))
    where
      size : length (filled n []) ≡ n
      size = let (g, l, f) = filled-ends n [] in ap length (f ∙ append-nil g) ∙ l

      whole : Fits N C s t (filled n [])
      whole = let (c, l, y) = short.met in filled-fits n [] (add-zero n) (c, l, rw append-nil y)

  -- the chain after c
  module _ (c : List ℕ) (cm : Memᴰ c (list N C s t n)) where
    c_long : length c ≡ n
    c_long = ((list_law N C s t n ok c).0 cm).0

    rest-joins : (h d : List ℕ) (x : ℕ) → c ≡ h ++ (x ∷ d) → Joins N (mark N t d) d t
    rest-joins h d x e =
        let (v, _, (_, _, j)) = joins_split N C s h (x ∷ d) t (subst (λ (k : List ℕ). Joins N s k t) e ((list_law N C s t n ok c).0 cm).1.0) in
        rw (joins-mark N t (to_of N x) d j) j

    -- no listed chain comes after c that ends in d, where d is the rest of c from place k on
    abbrev NoMore : ℕ → List ℕ → Type 0
    NoMore k d = (f : List ℕ) → length f ≡ k → Fits N C s t (f ++ d) → Yes (before c (f ++ d)) → ⊥

    abbrev raise_at : ℕ → List ℕ → Option Raise
    raise_at k d = raise N (back N C s t r) t (at_end N C s t r n) k d

    nexts : (k : ℕ) (h d : List ℕ) → length h ≡ k → c ≡ h ++ d → NoMore k d → after_of c (list N C s t n) ≡ raised N (back N C s t r) (raise_at k d)
    unfolding raise set_at lowest_at
    nexts k h [] l e no_more =
        next-none (list N C s t n) c (list-rises N C s t n) cm
        (λ f fm o. let (lf, y) = (list_law N C s t n ok f).0 fm in
        no_more f (lf ∙ sym c_long ∙ ap length (e ∙ append-nil h) ∙ l) (rw append-nil y) (rw (append-nil f) o))
    nexts k h (x ∷ d) l e no_more = go (ltb z (ties N)) refl (λ h'. nexts (suc k) h' d)
      where
        long : k + suc (length d) ≡ n
        long = ap (λ (i : ℕ). i + suc (length d)) (sym l) ∙ sym (length-append h (x ∷ d)) ∙ ap length (sym e) ∙ c_long

        z : ℕ
        z = lowest_at (suc x) k d

        raised-not : (y : ℕ) (f : List ℕ) → x < y → length f ≡ k → Fits N C s t (f ++ (y ∷ d)) → y < z → ⊥
        raised-not y f lt lf v u = none_lower (suc x) k d (omega (arith, long)) y lt (f, lf, v) u

        -- a listed chain a between c and what is made would end in d from place k on, as c does, or have a smaller tie raised there
        Between : List ℕ → Type 0
        Between a = Memᴰ a (list N C s t n) → Yes (before c a) → Yes (before a (filled k (z ∷ d))) → ⊥

        between : (g : List ℕ) → length g ≡ k → filled k (z ∷ d) ≡ g ++ (z ∷ d) → (a : List ℕ) → Between a
        between g lg f a am o p =
            let (la, v) = (list_law N C s t n ok a).0 am in
            let sp : a ≡ take k a ++ (get_or a k 0 ∷ drop (suc k) a) = split_at a k 0 (omega (arith, long, la)) in
            let l₁ : length (take k a) ≡ k = length-take-le k a (omega (arith, long, la)) in
            case (take k a) (get_or a k 0) (drop (suc k) a) l₁ sp
            (squeeze h (take k a) g x (get_or a k 0) z d (drop (suc k) a) (l ∙ sym l₁) (l₁ ∙ sym lg)
            (subst₂ (λ (u v : List ℕ). Yes (before u v)) e sp o) (subst₂ (λ (u v : List ℕ). Yes (before u v)) sp f p))
            v
          where
            case : (b : List ℕ) (y : ℕ) (d' : List ℕ) → length b ≡ k → a ≡ b ++ (y ∷ d') → Squeezed x y z d d' → Fits N C s t a → ⊥
            case b y d' lb sp (inl q) v =
                let w : a ≡ b ++ (x ∷ d) = sp ∙ ap (λ (u : List ℕ). b ++ u) (sym q) in
                no_more b lb (subst (λ (u : List ℕ). Fits N C s t u) w v) (subst (λ (u : List ℕ). Yes (before c u)) w o)
            case b y d' lb sp (inr (q, x<y, inl u<)) v =
                let w : a ≡ b ++ (y ∷ d) = sp ∙ ap (λ (u : List ℕ). b ++ (y ∷ u)) (sym q) in
                raised-not y b x<y lb (subst (λ (u : List ℕ). Fits N C s t u) w v) u<
            case b y d' lb sp (inr (q, x<y, inr u≡)) v =
                let w : a ≡ b ++ (z ∷ d) = sp ∙ ap (λ (u : List ℕ). b ++ (y ∷ u)) (sym q) ∙ ap (λ (i : ℕ). b ++ (i ∷ d)) u≡ in
                filled-first k (z ∷ d) long b lb (subst (λ (u : List ℕ). Fits N C s t u) w v) (subst (λ (u : List ℕ). Yes (before u (filled k (z ∷ d)))) w p)

        found : z < ties N → after_of c (list N C s t n) ≡ some (filled k (z ∷ d))
        found b =
            let (x<z, K) = picked (suc x) k d (omega (arith, long)) (rest-joins h d x e) b in
            let (g, lg, f) = filled-ends k (z ∷ d) in
            let size : length (filled k (z ∷ d)) ≡ n = ap length f ∙ length-append g (z ∷ d) ∙ ap (λ (i : ℕ). i + suc (length d)) lg ∙ long in
            next-is (list N C s t n) c (filled k (z ∷ d)) (list-rises N C s t n) cm
            ((list_law N C s t n ok (filled k (z ∷ d))).1 (size, filled-fits k (z ∷ d) long K))
            (rw (e, f) (before_at h g x z d (l ∙ sym lg) x<z))
            (between g lg f)

        -- where no tie is picked, every tie that completes d is smaller
        past_all : (y : ℕ) (f : List ℕ) → length f ≡ k → Fits N C s t (f ++ (y ∷ d)) → ltb z (ties N) ≡ false → y < z
        past_all y f lf v b =
            let (jy, _) = (completes k (y ∷ d) long).0 (f, lf, v) in
            let y-in : y < ties N = jy.0 in
            let past = ltb-false z (ties N) b in
            omega arith

        go : (b : Bool) → ltb z (ties N) ≡ b
            → ((h' : List ℕ) → length h' ≡ suc k → c ≡ h' ++ d → NoMore (suc k) d → after_of c (list N C s t n) ≡ raised N (back N C s t r) (raise_at (suc k) d))
            → after_of c (list N C s t n) ≡ raised N (back N C s t r) (cond b (some (record { place = k; tie = z; alive = back N C s t r z k (alive (suc k) d); rest = d })) (raise_at (suc k) d))
        go true b rec = found (ltb-true z (ties N) b)
        go false b rec =
            rec (h ++ (x ∷ [])) (length-append h (x ∷ []) ∙ omega arith) (e ∙ sym (append_assoc h (x ∷ []) d))
            (λ f lf v o. let (b', y, lb, e', v') = peel k d f lf v in
            let o' : Yes (before (h ++ (x ∷ d)) (b' ++ (y ∷ d))) = subst₂ (λ (u v : List ℕ). Yes (before u v)) e e' o in
            ⊎_elim
            (λ q. ⊎_elim (λ u. before_irrefl d u) (λ u. raised-not y b' u.1 lb v' (past_all y b' lb v' b)) (before-cons x y d d q))
            (λ q. let w : y ≡ x = sym (head-eq_of_cons-eq q.0) in
            no_more b' lb (subst (λ (i : ℕ). Fits N C s t (b' ++ (i ∷ d))) w v') (subst (λ (i : ℕ). Yes (before c (b' ++ (i ∷ d)))) w (rw e' at o)))
            (before_split h b' (x ∷ d) (y ∷ d) (l ∙ sym lb) o'))

    -- raising the tie nearest the front that can be raised makes the chain after c, or there is none
    pub next_law : after_of c (list N C s t n) ≡ raised N (back N C s t r) (raise_at 0 c)
    next_law = nexts 0 [] c refl refl (λ f l v o. before_irrefl c (subst (λ (u : List ℕ). Yes (before c (u ++ c))) (nil_of f l) o))
