-- What is computed is what the walk paper says: for joining, reaching and matching. A run along a chain is taken apart at its first tie, and
-- a chain of n + 1 ties at its last; `leads` is one tie and one move of it.
use Prim.Native.Nat.{ℕ, zero, suc, ◌+◌, ◌<◌}
use mathlib.Core.Path.{◌≡◌, refl, sym, ◌∙◌, subst}
use mathlib.Core.Bool.{Bool}
use mathlib.Core.List.{List, [], ◌∷◌, ◌++◌}
use mathlib.Core.Logic.{◌↔◌}
use native.Mathlib.Nat.{add-suc, suc-add, add-zero, zero-add}
use lib.ListN.{length}
use borrow.Author.Tests.{eqb-true, ltb-true, lt-ltb}
use Rattle.walk.specs.Numbers.{has, set_below, ◌and◌, any_below}
use Rattle.walk.specs.Network.{Network, ties, from_of, to_of, kinds_of}
use Rattle.walk.specs.Condition.{Condition, starts, accepts, follows}
use Rattle.walk.specs.Walk.{Joins, Label, Spells, Reaches, Fits}
use Rattle.walk.specs.Area.{leads, into, reach}
use Rattle.walk.specs.Chains.{joins, along, reached, fits}
use Rattle.walk.proofs.Numbers.{Yes, and_in, and_of, eqb_of, any_below_in, any_below_of}
use Rattle.walk.proofs.Sets.{set_in, set_of}

-- what the tests of network and condition leave: every mark, kind and state that is named is there
pub record Sound (N : Network) (C : Condition) : Type 0 where
  pub from_in : (e : ℕ) → e < ties N → from_of N e < N.marks
  pub to_in : (e : ℕ) → e < ties N → to_of N e < N.marks
  pub kind_in : (e k : ℕ) → Yes (has (kinds_of N e) k) → k < N.kinds
  pub follow_in : (p k q : ℕ) → Yes (follows C p k q) → (p < C.states) × (q < C.states)
  pub start_in : (q : ℕ) → Yes (starts C q) → q < C.states
  pub accept_in : (q : ℕ) → Yes (accepts C q) → q < C.states

module _ (N : Network) (C : Condition) where
  pub joins_law : (s : ℕ) (c : List ℕ) (t : ℕ) → Yes (joins N s c t) ↔ Joins N s c t
  unfolding joins
  joins_law s [] t = (λ h. eqb-true _ _ h, λ h. eqb_of h)
  joins_law s (e ∷ c) t =
      let ih = joins_law (to_of N e) c t in
      (λ h. let (a, h') = and_in _ _ h in let (b, k) = and_in _ _ h' in (ltb-true _ _ a, eqb-true _ _ b, ih.0 k), λ (a, b, k). and_of (lt-ltb _ _ a) (and_of (eqb_of b) (ih.1 k)))

  -- some row of moves spells a label of the chain c from p to q
  abbrev pub Runs : ℕ → List ℕ → ℕ → Type 0
  Runs p c q = (w : List ℕ) × Label N c w × Spells C p w q

  pub runs_nil : (p q : ℕ) → Runs p [] q ↔ (p ≡ q)
  runs_nil p q = (λ (w, l, x). go w l x, λ e. ([], tt, e))
    where
      go : (w : List ℕ) → Label N [] w → Spells C p w q → p ≡ q
      go [] l x = x
      go (k ∷ w) l x = absurd l

  -- a tie goes from the pair u, p to the pair v, q
  pub record Arc (u p v q : ℕ) : Type 0 where
    pub tie : ℕ
    pub tie_in : tie < ties N
    pub leaves : from_of N tie ≡ u
    pub arrives : to_of N tie ≡ v
    pub steps : Yes (leads N C tie p q)

  module _ (ok : Sound N C) where
    pub leads_of : (e p q k : ℕ) → Yes (has (kinds_of N e) k) → Yes (follows C p k q) → Yes (leads N C e p q)
    unfolding leads
    leads_of e p q k h f = any_below_of _ _ k (ok.kind_in e k h) (and_of h f)

    pub leads_in : (e p q : ℕ) → Yes (leads N C e p q) → (k : ℕ) × Yes (has (kinds_of N e) k) × Yes (follows C p k q)
    unfolding leads
    leads_in e p q h = let (k, _, x) = any_below_in _ _ h in let (a, b) = and_in _ _ x in (k, a, b)

    pub leads-states : (e p q : ℕ) → Yes (leads N C e p q) → (p < C.states) × (q < C.states)
    leads-states e p q h = let (k, _, f) = leads_in e p q h in ok.follow_in p k q f

    -- a run along a tie and a chain is a step and a run
    pub runs_cons : (p e : ℕ) (c : List ℕ) (q : ℕ) → Runs p (e ∷ c) q ↔ ((o : ℕ) × Yes (leads N C e p o) × Runs o c q)
    runs_cons p e c q = (λ (w, l, x). go w l x, λ (o, l, (w, m, x)). let (k, h, f) = leads_in e p o l in (k ∷ w, (h, m), (o, f, x)))
      where
        go : (w : List ℕ) → Label N (e ∷ c) w → Spells C p w q → (o : ℕ) × Yes (leads N C e p o) × Runs o c q
        go [] l x = absurd l
        go (k ∷ w) (h, l) (o, f, x) = (o, leads_of e p o k h f, (w, l, x))

    -- the set that a chain carries along
    along_in : (S e q : ℕ) → Yes (has (along N C S e) q) → (p : ℕ) × Yes (has S p) × Yes (leads N C e p q)
    unfolding along
    along_in S e q h = let (_, x) = set_in _ _ q h in let (p, _, y) = any_below_in _ _ x in let (a, b) = and_in _ _ y in (p, a, b)

    along_of : (S e p q : ℕ) → Yes (has S p) → Yes (leads N C e p q) → Yes (has (along N C S e) q)
    unfolding along
    along_of S e p q h l = let (a, b) = leads-states e p q l in set_of _ _ q b (any_below_of _ _ p a (and_of h l))

    pub reached_law : (S : ℕ) (c : List ℕ) (q : ℕ) → Yes (has (reached N C S c) q) ↔ ((p : ℕ) × Yes (has S p) × Runs p c q)
    unfolding reached
    reached_law S [] q = (λ h. (q, h, (runs_nil q q).1 refl), λ (p, h, x). subst (λ (o : ℕ). Yes (has S o)) ((runs_nil p q).0 x) h)
    reached_law S (e ∷ c) q =
        let ih = reached_law (along N C S e) c q in (
          λ h. let (o, a, x) = ih.0 h in let (p, b, l) = along_in S e o a in (p, b, (runs_cons p e c q).1 (o, l, x)),
          λ (p, h, x). let (o, l, y) = (runs_cons p e c q).0 x in ih.1 (o, along_of S e p o h l, y),
        )

    -- the chain c reaches q
    reaches_law : (c : List ℕ) (q : ℕ) → Yes (has (reached N C (set_below C.states (starts C)) c) q) ↔ Reaches N C c q
    reaches_law c q =
        let L = reached_law (set_below C.states (starts C)) c q in (
          λ h. let (p, a, x) = L.0 h in (p, (set_in _ _ p a).1, x),
          λ (p, a, x). L.1 (p, set_of _ _ p (ok.start_in p a) a, x),
        )

    -- an accepting state passes X
    pub accepted : (X : ℕ → Bool) → Yes (any_below C.states (λ q. accepts C q and X q)) ↔ ((q : ℕ) × Yes (accepts C q) × Yes (X q))
    accepted X = (λ h. let (q, _, k) = any_below_in _ _ h in let (a, x) = and_in _ _ k in (q, a, x), λ (q, a, x). any_below_of _ _ q (ok.accept_in q a) (and_of a x))

    pub fits_law : (s t : ℕ) (c : List ℕ) → Yes (fits N C s t c) ↔ Fits N C s t c
    unfolding fits
    fits_law s t c =
        let A = accepted (has (reached N C (set_below C.states (starts C)) c)) in (
          λ h. let (a, x) = and_in _ _ h in let (q, b, z) = A.0 x in ((joins_law s c t).0 a, (q, b, (reaches_law c q).0 z)),
          λ (j, (q, b, r)). and_of ((joins_law s c t).1 j) (A.1 (q, b, (reaches_law c q).1 r)),
        )

    pub arc_in : (u p v q : ℕ) → Arc u p v q → (u < N.marks) × (p < C.states) × (v < N.marks) × (q < C.states)
    arc_in u p v q a =
        let (x, y) = leads-states a.tie p q a.steps in
        (rw a.leaves at (ok.from_in a.tie a.tie_in), x, rw a.arrives at (ok.to_in a.tie a.tie_in), y)

    pub into_in : (f : ℕ → ℕ → Bool) (v q : ℕ) → Yes (into N C f v q) → (u : ℕ) × (p : ℕ) × Arc u p v q × Yes (f u p)
    unfolding into
    into_in f v q t =
        let (e, eh, x) = any_below_in _ _ t in
        let (a, y) = and_in _ _ x in
        let (p, _, z) = any_below_in _ _ y in
        let (l, r) = and_in _ _ z in
        (from_of N e, p, record { tie = e; tie_in = eh; leaves = refl; arrives = eqb-true _ _ a; steps = l }, r)

    pub into_of : (f : ℕ → ℕ → Bool) (u p v q : ℕ) → Arc u p v q → Yes (f u p) → Yes (into N C f v q)
    unfolding into
    into_of f u p v q a r =
        any_below_of _ _ a.tie a.tie_in
        (and_of (eqb_of a.arrives) (any_below_of _ _ p (leads-states a.tie p q a.steps).0 (and_of a.steps (rw a.leaves r))))

    -- reaching, by the last tie
    module _ (s : ℕ) where
      pub reach-zero : (v q : ℕ) → Yes (reach N C s zero v q) ↔ ((s ≡ v) × Yes (starts C q))
      unfolding reach
      reach-zero v q = (λ t. let (a, b) = and_in _ _ t in (eqb-true _ _ a, b), λ h. and_of (eqb_of h.0) h.1)

      pub reach-suc : (n v q : ℕ) → Yes (reach N C s (suc n) v q) → (u : ℕ) × (p : ℕ) × Arc u p v q × Yes (reach N C s n u p)
      unfolding reach
      reach-suc n v q t = into_in (reach N C s n) v q t

      pub suc-reach : (n u p v q : ℕ) → Arc u p v q → Yes (reach N C s n u p) → Yes (reach N C s (suc n) v q)
      unfolding reach
      suc-reach n u p v q a r = into_of (reach N C s n) u p v q a r

      -- a chain goes on from what is reached, and what is reached is the end of a chain
      on : (m u p v q : ℕ) (c : List ℕ) → Yes (reach N C s m u p) → Joins N u c v → Runs p c q → Yes (reach N C s (m + length c) v q)
      on m u p v q [] r j x = rw (add-zero, ← j, ← ((runs_nil p q).0 x)) r
      on m u p v q (e ∷ c) r (eh, ef, j) x =
          let (o, l, y) = (runs_cons p e c q).0 x in
          let a : Arc u p (to_of N e) o = record { tie = e; tie_in = eh; leaves = ef; arrives = refl; steps = l } in
          rw (add-suc, ← suc-add) (on (suc m) (to_of N e) o v q c (suc-reach m u p (to_of N e) o a r) j y)

      ends : (n u p v q : ℕ) (c : List ℕ) → Yes (reach N C s n u p) → Joins N u c v → Runs p c q
          → (d : List ℕ) × (length d ≡ n + length c) × (Joins N s d v × Reaches N C d q)
      ends zero u p v q c r j x = let (e, st) = (reach-zero u p).0 r in (c, sym (zero-add (length c)), (rw e j, (p, st, x)))
      ends (suc n) u p v q c r j x =
          let (o, k, a, y) = reach-suc n u p r in
          rw (suc-add, ← add-suc) (ends n o k v q (a.tie ∷ c) y (a.tie_in, a.leaves, rw a.arrives j) ((runs_cons k a.tie c q).1 (p, a.steps, x)))

      -- some chain of length n from s to v reaches q
      pub reach_law : (n v q : ℕ) → Yes (reach N C s n v q) ↔ ((c : List ℕ) × (length c ≡ n) × (Joins N s c v × Reaches N C c q))
      reach_law n v q = (
        λ r. rw add-zero at (ends n v q v q [] r refl ((runs_nil q q).1 refl)),
        λ (c, l, (j, (p, st, x))). subst (λ (m : ℕ). Yes (reach N C s m v q)) (zero-add (length c) ∙ l) (on zero s p v q c ((reach-zero s p).1 (refl, st)) j x),
      )

  -- a chain in two parts
  pub joins_split : (s : ℕ) (c d : List ℕ) (t : ℕ) → Joins N s (c ++ d) t → (v : ℕ) × Joins N s c v × Joins N v d t
  joins_split s [] d t h = (s, refl, h)
  joins_split s (e ∷ c) d t (a, b, h) = let (v, x, y) = joins_split (to_of N e) c d t h in (v, (a, b, x), y)

  pub joins_join : (s : ℕ) (c d : List ℕ) (v t : ℕ) → Joins N s c v → Joins N v d t → Joins N s (c ++ d) t
  joins_join s [] d v t h k = rw h k
  joins_join s (e ∷ c) d v t (a, b, h) k = (a, b, joins_join (to_of N e) c d v t h k)

  module _ (ok : Sound N C) where
    pub runs_split : (p : ℕ) (c d : List ℕ) (q : ℕ) → Runs p (c ++ d) q → (o : ℕ) × Runs p c o × Runs o d q
    runs_split p [] d q h = (p, (runs_nil p p).1 refl, h)
    runs_split p (e ∷ c) d q h =
        let (i, l, x) = (runs_cons ok p e (c ++ d) q).0 h in
        let (o, y, z) = runs_split i c d q x in
        (o, (runs_cons ok p e c o).1 (i, l, y), z)

    pub runs_join : (p : ℕ) (c d : List ℕ) (o q : ℕ) → Runs p c o → Runs o d q → Runs p (c ++ d) q
    runs_join p [] d o q h k = rw ((runs_nil p o).0 h) k
    runs_join p (e ∷ c) d o q h k =
        let (i, l, x) = (runs_cons ok p e c o).0 h in
        (runs_cons ok p e (c ++ d) q).1 (i, l, runs_join i c d o q x k)
