-- The smallest usable tie, over any step back. A search along a run stops at the first place from low on before which a state is alive; the run holds
-- all the ties into its mark and no other, so that place, counted from the run's first tie, is the smallest tie of all that enters the mark and
-- is usable, and where the run has none there is none.
use Prim.Native.Nat.{ℕ, ◌+◌, ◌-◌, ◌≤◌, ◌<◌}
use mathlib.Core.Path.{◌≡◌, refl, sym, subst, ap, ◌∙◌}
use Rattle.std.specs.Prelude.{Option, Some, None}
use mathlib.Core.Bool.{Bool, true, false, not, cond}
use mathlib.Core.List.{List}
use native.Mathlib.Nat.{le_refl}
use native.Mathlib.Omega.{arith}
use lib.Dec.{leb, ltb}
use lib.ListN.{length, get_or, take, drop, length-drop}
use lib.Seq.{get_or-take, get_or-drop, length-take-le}
use borrow.Author.Tests.{eqb-true, leb-true, le-leb, ltb-true, ltb-false, lt-ltb, le-ltb, eq-eqb, ne_eqb}
use Rattle.walk.specs.Numbers.{◌and◌, least}
use Rattle.walk.specs.Network.{Network, ties, to_of}
use Rattle.walk.proofs.Numbers.{Yes, and_in, and_of, eqb_of, Least, least-is, FirstAt}
use Rattle.walk.proofs.Sets.{nonempty}
use Rattle.walk.proofs.Back.{enters, lowest}
use Rattle.tables.specs.Runs.{RunInto}
use Rattle.tables.proofs.Searches.{NoneBefore, none_more, found_first, found_none}
use Rattle.tables.proofs.StepLaws.{yes_and}
use Rattle.rows.specs.Offers.{TiesIn}
use Rattle.back.specs.Picked.{taken, smallest_of, picked}

-- the search along a run
module _ (back : ℕ → ℕ → ℕ → ℕ) (low i S : ℕ) where
  -- e is from low on, and before its tie a state is alive
  abbrev alive_from : ℕ → Bool
  alive_from e = leb low e and nonempty (back e i S)

  -- the search has come to j
  pub record Passed (j : ℕ) : Type 0 where
    pub begun : low ≤ j
    pub none : NoneBefore alive_from j

  pub passed_none : Passed low
  passed_none = record { begun = le_refl low; none = λ m h t. (let l = leb-true low m (and_in _ _ t).0 in omega arith) }

  pub passed-more : (j x : ℕ) → Passed j → x ≡ back j i S → x ≡ 0 → Passed (j + 1)
  unfolding nonempty
  passed-more j x P e z = record {
    begun = omega (arith, P.begun);
    none = none_more alive_from j P.none (yes_and _ _ (le-leb low j P.begun) ∙ ap not (eq-eqb _ 0 (sym e ∙ z)));
  }

  pub passed_here : (n j x : ℕ) → Passed j → x ≡ back j i S → (x ≡ 0 → ⊥) → j < n → Some (j, x) ≡ smallest_of n back low i S
  unfolding smallest_of nonempty
  passed_here n j x P e ne h =
      let y : Yes (alive_from j) = and_of (le-leb low j P.begun) (ap not (ne_eqb _ 0 (λ z. ne (e ∙ z)))) in
      let f = found_first alive_from n j P.none h y in
      rw (← f, lt-ltb j n h, e)

  pub passed-all : (n j : ℕ) → Passed j → n ≤ j → None ≡ smallest_of n back low i S
  unfolding smallest_of
  passed-all n j P h =
      let f = found_none alive_from n j P.none h in
      rw (← f, le-ltb n n (le_refl n))

  -- what the smallest place is
  abbrev Found : ℕ → Option (ℕ × ℕ) → Type 0
  Found n (Some (j, x)) = (j < n) × FirstAt alive_from j × (x ≡ back j i S)
  Found n None = NoneBefore alive_from n

  small_found : (n : ℕ) → Found n (smallest_of n back low i S)
  unfolding smallest_of
  small_found n = go (least alive_from n) (ltb (least alive_from n) n) refl (least-is alive_from n)
    where
      go : (k : ℕ) (t : Bool) → ltb k n ≡ t → Least alive_from n k → Found n (cond t (Some (k, back k i S)) None)
      go k true e L = let l = ltb-true k n e in (l, record { met = L.passes l; least = L.none_before }, refl)
      go k false e L = λ m h. L.none_before m (let l = ltb-false k n e in omega arith)

-- the part of a column that the run is
abbrev pub part : List ℕ → ℕ → ℕ → List ℕ
part l first end = take (end - first) (drop first l)

pub part_at : (l : List ℕ) (first end j : ℕ) → j < end - first → get_or (part l first end) j 0 ≡ get_or l (first + j) 0
part_at l first end j h = get_or-take (end - first) (drop first l) j 0 h ∙ get_or-drop first l j 0

pub part_length : (l : List ℕ) (first end : ℕ) → end ≤ length l → length (part l first end) ≡ end - first
part_length l first end h = length-take-le (end - first) (drop first l) (omega (arith, length-drop first l))

pub part-ties : (marks kinds n first end : ℕ) (from sets : List ℕ) → end ≤ n → TiesIn marks kinds n from sets
    → TiesIn marks kinds (length (part from first end)) (part from first end) (part sets first end)
part-ties marks kinds n first end from sets h T =
    let lf : length (part from first end) ≡ end - first = part_length from first end (omega (arith, T.froms)) in
    let ls : length (part sets first end) ≡ end - first = part_length sets first end (omega (arith, T.kind_sets)) in
    record {
      froms = refl;
      kind_sets = ls ∙ sym lf;
      from_in = λ e l. rw (part_at from first end e (omega arith)) (T.from_in (first + e) (omega arith));
      kind_in = λ e l. rw (part_at sets first end e (omega arith)) (T.kind_in (first + e) (omega arith));
    }

-- the smallest usable tie of the run is the smallest of all
module _ (N : Network) (back : ℕ → ℕ → ℕ → ℕ) (low u i S first : ℕ) where
  -- e is from low on, enters u and is usable
  abbrev usable_from : ℕ → Bool
  usable_from e = leb low e and enters N back u i S e

  -- what is picked, by what the search along the run answers
  abbrev pub PickedBy : Option (ℕ × ℕ) → Type 0
  PickedBy (Some (j, x)) = (first + j < ties N) × (Some (taken (first + j) x) ≡ picked N back low u i S)
  PickedBy None = None ≡ picked N back low u i S

  module _ (end : ℕ) (R : RunInto N.tos (ties N) u first end) (over : ℕ → ℕ → ℕ → ℕ)
      (same : (j : ℕ) → j < end - first → over j i S ≡ back (first + j) i S) where
    -- a place of the run as a tie, and a tie as a place of the run
    of_part : (j : ℕ) → j < end - first → Yes (alive_from over (low - first) i S j) → Yes (usable_from (first + j))
    unfolding enters
    of_part j h t =
        let (a, b) = and_in _ _ t in
        let l = leb-true (low - first) j a in
        let x = R.begins.after (first + j) (omega arith) (omega (arith, R.ends.within)) in
        let y = R.ends.before (first + j) (omega arith) in
        and_of (le-leb low (first + j) (omega arith)) (and_of (eqb_of {m = to_of N (first + j)} {n = u} (omega arith)) (rw (same j h) at b))

    to_part : (m : ℕ) → m < ties N → Yes (usable_from m) → (first ≤ m) × (m < end) × Yes (alive_from over (low - first) i S (m - first))
    unfolding enters
    to_part m h t =
        let (a, b) = and_in _ _ t in
        let (c, d) = and_in _ _ b in
        let l = leb-true low m a in
        let x = eqb-true (to_of N m) u c in
        let start : ¬ (m < first) = λ g. (let y = R.begins.before m g in omega arith) in
        let stop : ¬ (end ≤ m) = λ g. (let y = R.ends.after m g h in omega arith) in
        let z : first + (m - first) ≡ m = omega arith in
        (omega arith, omega arith, and_of (le-leb (low - first) (m - first) (omega arith)) (rw (same (m - first) (omega arith), z) d))

    picked_of : (r : Option (ℕ × ℕ)) → Found over (low - first) i S (end - first) r → PickedBy r
    unfolding picked lowest
    picked_of (Some (j, x)) (h, F, e) =
        let l : first + j < ties N = omega (arith, R.ends.within) in
        let none : NoneBefore usable_from (first + j) =
        λ m g t. let (a, b, y) = to_part m (omega arith) t in F.least (m - first) (omega arith) y in
        let f = found_first usable_from (ties N) (first + j) none l (of_part j h F.met) in
        (l, rw (← f, lt-ltb (first + j) (ties N) l, e, same j h))
    picked_of None none =
        let f = found_none usable_from (ties N) (ties N) (λ m g t. let (a, b, y) = to_part m g t in none (m - first) (omega arith) y) (le_refl _) in
        rw (← f, le-ltb (ties N) (ties N) (le_refl _))

    pub picked-by : (r : Option (ℕ × ℕ)) → r ≡ smallest_of (end - first) over (low - first) i S → PickedBy r
    picked-by r e = picked_of r (subst (Found over (low - first) i S (end - first)) (sym e) (small_found over (low - first) i S (end - first)))
