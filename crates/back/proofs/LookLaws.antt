-- What is seen at one place, and a turn of the loop that looks. From place i on the chain has been walked back: mark, set alive and what is seen are
-- those of the rest from i on. A tie that steps back extends this by one place, and `raise` takes the nearer place first; a tie that does not makes
-- the whole chain fail.
use Prim.Native.Nat.{ℕ, zero, suc, ◌+◌, ◌≤◌, ◌<◌}
use mathlib.Core.Path.{◌≡◌, refl, sym, subst, ap, ap₂, ◌∙◌}
use mathlib.Core.Bool.{Bool, true, false, not, false≢true, cond}
use mathlib.Core.List.{List, [], ◌∷◌}
use mathlib.Core.Option.{some}
use mathlib.Mathlib.Data.Bool.Basic.{eq-false_of_not-eq-true}
use native.Mathlib.Nat.{zero-add, add-zero}
use native.Mathlib.Numerals.{add-one}
use native.Mathlib.Omega.{arith}
use lib.Dec.{ltb}
use lib.ListN.{length, get_or, drop}
use lib.Seq.{drop-cons, drop-length}
use borrow.Author.Tests.{eqb-true, ltb-true, lt-ltb, ne_eqb}
use Rattle.walk.specs.Numbers.{◌and◌}
use Rattle.walk.specs.Network.{Network, ties, from_of, to_of}
use Rattle.walk.proofs.Numbers.{Yes, and_in, and_of, eqb_of, clash}
use Rattle.walk.proofs.Sets.{nonempty}
use Rattle.walk.proofs.Back.{mark, set_at, enters, lowest, goes, raise}
use Rattle.std.specs.Prelude as std
use Rattle.std.specs.Prelude.{Some, None}
use Rattle.tables.specs.declared.numbers.Number.{Number}
use Rattle.tables.specs.declared.numbers.Ties.{Ties}
use Rattle.back.specs.declared.ground.Taken.{Taken}
use Rattle.back.specs.declared.look.Raised.{Raised}
use Rattle.back.specs.Picked.{taken, picked, stepped}
use Rattle.back.specs.Chain.{raise_seen}

abbrev Tie : Type 0
Tie = Number Ties

-- what is seen at place i, where `higher` is what its tie can be raised to; and of two places the first, where it can be raised
abbrev pub raised_at : ℕ → std.Option Taken → std.Option Raised
raised_at i (Some t) = Some (record { place = i; taken = t })
raised_at i None = None

abbrev pub nearer : std.Option Raised → std.Option Raised → std.Option Raised
nearer (Some r) far = Some r
nearer None far = far

module _ (N : Network) (back : ℕ → ℕ → ℕ → ℕ) (u i S w : ℕ) where
  abbrev goes_on : Bool
  goes_on = ltb w (ties N) and enters N back u i S w

  stops : goes_on ≡ false → None ≡ stepped N back u i S w
  unfolding stepped
  stops e = rw e

  pub stops_out : ties N ≤ w → None ≡ stepped N back u i S w
  stops_out h = stops (eq-false_of_not-eq-true (λ t. let l = ltb-true w (ties N) (and_in _ _ t).0 in absurd (omega arith)))

  pub stops_off : (to_of N w ≡ u → ⊥) → None ≡ stepped N back u i S w
  unfolding enters
  stops_off h = stops (eq-false_of_not-eq-true (λ t. h (eqb-true _ _ (and_in _ _ (and_in _ _ t).1).0)))

  pub stops_dead : (s : ℕ) → s ≡ back w i S → s ≡ 0 → None ≡ stepped N back u i S w
  unfolding enters nonempty
  stops_dead s e z =
      stops (eq-false_of_not-eq-true (λ t. let k : Yes (nonempty (back w i S)) = (and_in _ _ (and_in _ _ t).1).1 in false≢true (ap not (sym (eqb_of {m = back w i S} {n = 0} (sym e ∙ z))) ∙ k)))

  pub steps_on : (e : Tie) (s : ℕ) → w < ties N → to_of N w ≡ u → e.0 ≡ w → s ≡ back w i S → (s ≡ 0 → ⊥) → Some (record { tie = e; alive = s }) ≡ stepped N back u i S w
  unfolding stepped enters nonempty
  steps_on e s l m f g n =
      let k : Yes (nonempty (back w i S)) = ap not (ne_eqb (back w i S) 0 (λ z. n (g ∙ z))) in
      let y : Yes goes_on = and_of (lt-ltb w (ties N) l) (and_of (eqb_of m) k) in
      rw y (ap₂ (λ (x y : ℕ). Some (taken x y)) f g)

  steps_back : (e : Tie) (s : ℕ) → stepped N back u i S w ≡ Some (record { tie = e; alive = s }) → Yes goes_on × (e.0 ≡ w) × (s ≡ back w i S)
  unfolding stepped
  steps_back e s h = go goes_on refl h
    where
      go : (b : Bool) → goes_on ≡ b → cond b (Some (taken w (back w i S))) None ≡ Some (record { tie = e; alive = s }) → Yes goes_on × (e.0 ≡ w) × (s ≡ back w i S)
      go true b h =
          let f : ◌≡◌ {A = Taken} (taken w (back w i S)) (record { tie = e; alive = s }) = cc in
          (b, ap (λ (x : Taken). x.tie.0) (sym f), ap (λ (x : Taken). x.alive) (sym f))
      go false b h = clash cc

  pub steps_in : (e : Tie) (s : ℕ) → stepped N back u i S w ≡ Some (record { tie = e; alive = s }) → e.0 < ties N
  steps_in e s h = let (g, f, _) = steps_back e s h in rw f (ltb-true w (ties N) (and_in _ _ g).0)

  steps-not : stepped N back u i S w ≡ None → goes_on ≡ false
  unfolding stepped
  steps-not h = go goes_on refl h
    where
      go : (b : Bool) → goes_on ≡ b → cond b (Some (taken w (back w i S))) None ≡ None → goes_on ≡ false
      go true b h = clash cc
      go false b h = b

module _ (N : Network) (back : ℕ → ℕ → ℕ → ℕ) (t S : ℕ) (c : List ℕ) where
  abbrev passes : ℕ → List ℕ → Bool
  passes i d = goes N back t S i d

  -- the chain c has been walked back to the place i
  pub record Looked (i u X : ℕ) (best : std.Option Raised) : Type 0 where
    pub mark-is : u ≡ mark N t (drop i c)
    pub set_is : X ≡ set_at N back t S i (drop i c)
    pub passing : Yes (passes i (drop i c))
    pub best_is : best ≡ raise_seen (raise N back t S i (drop i c))

  pub looked_none : Yes (nonempty S) → Looked (length c) t S None
  unfolding set_at goes raise
  looked_none h = let d : drop (length c) c ≡ [] = drop-length c in record { mark-is = rw d; set_is = rw d; passing = rw d h; best_is = rw d }

  raise-more : (j e : ℕ) (d : List ℕ) (best : std.Option Raised) → best ≡ raise_seen (raise N back t S (suc j) d)
      → nearer (raised_at j (picked N back (suc e) (mark N t d) j (set_at N back t S (suc j) d))) best ≡ raise_seen (raise N back t S j (e ∷ d))
  unfolding raise picked
  raise-more j e d best b = go (ltb (lowest N back (suc e) (mark N t d) j X) (ties N))
    where
      X : ℕ
      X = set_at N back t S (suc j) d

      k : ℕ
      k = lowest N back (suc e) (mark N t d) j X

      go : (g : Bool) → nearer (raised_at j (cond g (Some (taken k (back k j X))) None)) best
          ≡ raise_seen (cond g (some (record { place = j; tie = k; alive = back k j X; rest = d })) (raise N back t S (suc j) d))
      go true = refl
      go false = b

  module _ (i j u X w : ℕ) (best : std.Option Raised) (ij : i ≡ suc j) (l : j < length c) (wc : w ≡ get_or c j 0) (L : Looked i u X best) where
    rest-is : drop j c ≡ w ∷ drop (suc j) c
    rest-is = drop-cons c j 0 l ∙ ap {B = List ℕ} (λ (z : ℕ). z ∷ drop (suc j) c) (sym wc)

    mark_here : u ≡ mark N t (drop (suc j) c)
    mark_here = rw ij at L.mark-is

    set_here : X ≡ set_at N back t S (suc j) (drop (suc j) c)
    set_here = rw ij at L.set_is

    pub looked_more : (e : Tie) (s v m : ℕ) (higher : std.Option Taken) (near best' : std.Option Raised) → stepped N back u j X w ≡ Some (record { tie = e; alive = s }) → v ≡ from_of N e.0
        → m ≡ e.0 → higher ≡ picked N back (m + 1) u j X → near ≡ raised_at j higher → best' ≡ nearer near best → Looked j v s best'
    unfolding set_at goes
    looked_more e s v m higher near best' h vm em eh en f =
        let (g, ew, sb) = steps_back N back u j X w e s h in
        let pm : Yes (passes (suc j) (drop (suc j) c)) = rw ij at L.passing in
        let bm : best ≡ raise_seen (raise N back t S (suc j) (drop (suc j) c)) = rw ij at L.best_is in
        let f' : best' ≡ nearer (raised_at j (picked N back (suc w) u j X)) best = rw (en, eh, em, ew, add-one) at f in
        record {
          mark-is = rw rest-is (vm ∙ ap (λ (x : ℕ). from_of N x) ew);
          set_is = rw (rest-is, ← set_here) sb;
          passing = rw (rest-is, ← set_here, ← mark_here) (and_of pm g);
          best_is = rw rest-is (rw (mark_here, set_here) at f' ∙ raise-more j w (drop (suc j) c) best bm);
        }

    goes_drop : (k i : ℕ) (d : List ℕ) → Yes (passes i d) → Yes (passes (k + i) (drop k d))
    unfolding goes
    goes_drop zero i d h = rw zero-add h
    goes_drop (suc k) i [] h = h
    goes_drop (suc k) i (e ∷ d) h = subst (λ (m : ℕ). Yes (passes m (drop k d))) (omega arith) (goes_drop k (suc i) d (and_in _ _ h).0)

    -- a tie that does not step back: the chain does not go all the way
    pub look_fails : stepped N back u j X w ≡ None → passes 0 c ≡ false
    unfolding goes
    look_fails h =
        eq-false_of_not-eq-true
        (λ y. let z : Yes (passes j (w ∷ drop (suc j) c)) = rw (add-zero, rest-is) at (goes_drop j 0 c y) in
        let g : Yes (ltb w (ties N) and enters N back u j X w) = rw (mark_here, set_here) (and_in _ _ z).1 in
        false≢true (sym (steps-not N back u j X w h) ∙ g))

  pub look_whole : (i u X : ℕ) (best : std.Option Raised) → i ≡ 0 → Looked i u X best → Yes (passes 0 c) × (best ≡ raise_seen (raise N back t S 0 c))
  look_whole i u X best e L = (rw e at L.passing, rw e at L.best_is)
