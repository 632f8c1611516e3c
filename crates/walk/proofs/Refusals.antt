-- The table of refusals: the first row of a call's list that is given answers, with its number and place; where none is given the call does its
-- work. Each row is given exactly when the table says, so an accepted question is one that refusals 1 to 6 have no reason for.
use Prim.Native.Nat.{ℕ, zero, suc, ◌+◌, ◌-◌, ◌≤◌, ◌<◌}
use mathlib.Core.Path.{◌≡◌, refl, sym, ◌∙◌, subst, ap}
use mathlib.Core.Bool.{Bool, true, false, false≢true, not}
use mathlib.Mathlib.Data.Bool.Basic.{Bool-eq-false}
use mathlib.Core.List.Memᴰ
use mathlib.Core.List.{List, [], ◌∷◌, ◌++◌}
use mathlib.Core.Logic.{◌↔◌, ◌⊎◌, inl, inr, ⊎_elim}
use native.Mathlib.Nat.{mul-le-mul, le_of_eq, le_trans, add-zero, add-suc, add-sub_of_le}
use native.Mathlib.Omega.{arith}
use lib.Dec.{ltb}
use lib.ListN.{length, take, get_or-eq_default}
use borrow.Author.Tests.{eqb-true, ltb-true, ltb-false, lt-ltb, le-ltb, leb-true, le-leb, not-false}
use Rattle.walk.specs.declared.Refusal.{Refusal}
use Rattle.walk.specs.declared.Refusal.TheVariants.{BadTie, TieOrder, BadMove}
use Rattle.walk.specs.Ceilings.{ceilings}
use Rattle.walk.specs.Numbers.{has, ◌and◌, least, only_below}
use Rattle.walk.specs.Network.{Network, ties, to_of, kinds_of}
use Rattle.walk.specs.Condition.{Condition, move_at, starts, accepts, follows}
use Rattle.walk.specs.Question.{Question, pairs, right, usable}
use Rattle.walk.specs.Refusals.{Row, at_first, number, bad_sizes, bad_tie_at, late_at, bad_states, bad_move_at, sizes, bad_tie, tie_order, bad_condition, bad_move, bad_ends, short_area, wrong_area, lent_tests, start_tests, round_tests}
use Rattle.walk.specs.Calls.{refused, Done, judged}
use Rattle.walk.specs.Demands.{NoneGiven, FirstGiven, Says, SaysFirst, SizesRight, TieRight, InOrder, ConditionRight, MoveRight, Accepted}
use Rattle.walk.proofs.Numbers.{Yes, and_in, and_of, eqb_of, any_below_in, Least, least-is, same-eq, same_of}
use Rattle.walk.proofs.Sets.{zero_has, has-below, below-has}
use Rattle.walk.proofs.Executable.{Sound}
use Rattle.walk.proofs.Words.{Local, local_law}
use Rattle.walk.proofs.Areas.{at, area-right}

-- which row answers
none-cons : (x : Row) (l : List Row) → x.given ≡ false → NoneGiven l → NoneGiven (x ∷ l)
none-cons x l e h y m = ⊎_elim (λ f. ap (λ (z : Row). z.given) f ∙ e) (λ k. h y k) (Memᴰ.cases_cons m)

pub none-append : (l k : List Row) → NoneGiven (l ++ k) ↔ (NoneGiven l × NoneGiven k)
none-append l k = (
  λ h. (λ x m. h x (Memᴰ.append_left k m), λ x m. h x (Memᴰ.append_right l m)),
  λ (h, i) x m. ⊎_elim (λ n. h x n) (λ n. i x n) (Memᴰ.append_cases l m),
)

pub none_one : (x : Row) → NoneGiven (x ∷ []) ↔ (x.given ≡ false)
none_one x = (λ h. h x (Memᴰ.head refl), λ e y m. ap (λ (z : Row). z.given) (Memᴰ.eq_of_singleton m) ∙ e)

pub first_or_none : (l : List Row) → NoneGiven l ⊎ ((x : Row) × FirstGiven l x)
first_or_none [] = inl (λ x m. absurd (Memᴰ.not-nil m))
first_or_none (x ∷ l) = go x.given refl (first_or_none l)
  where
    go : (t : Bool) → x.given ≡ t → NoneGiven l ⊎ ((y : Row) × FirstGiven l y) → NoneGiven (x ∷ l) ⊎ ((y : Row) × FirstGiven (x ∷ l) y)
    go true e h = inr (x, record { earlier = []; later = l; stands = refl; passed = λ y m. absurd (Memᴰ.not-nil m); given = e })
    go false e (inl h) = inl (none-cons x l e h)
    go false e (inr (y, F)) = inr (
      y,
      record {
        earlier = x ∷ F.earlier;
        later = F.later;
        stands = ap {B = List Row} (λ k. x ∷ k) F.stands;
        passed = none-cons x F.earlier e F.passed;
        given = F.given;
      },
    )

module _ {A B : Type 0} (w : B) (d : Done A B) where
  pub judged-none : (l : List Row) → NoneGiven l → judged l w d ≡ d
  unfolding judged
  judged-none [] h = refl
  judged-none (x ∷ l) h = rw (h x (Memᴰ.head refl)) (judged-none l (λ y m. h y (Memᴰ.tail m)))

  judged-at : (l k : List Row) (x : Row) → NoneGiven l → x.given ≡ true → judged (l ++ (x ∷ k)) w d ≡ record { answer = refused (number x.name) x.place; left = w }
  unfolding judged
  judged-at [] k x h e = rw e
  judged-at (y ∷ l) k x h e = rw (h y (Memᴰ.head refl)) (judged-at l k x (λ z m. h z (Memᴰ.tail m)) e)

  pub judged-first : (l : List Row) (x : Row) → FirstGiven l x → judged l w d ≡ record { answer = refused (number x.name) x.place; left = w }
  judged-first l x F = rw F.stands (judged-at F.earlier F.later x F.passed F.given)

-- what the rows say
-- a row that asks each of n places
asks_each : (x : Refusal) (n : ℕ) (bad : ℕ → Bool) (ok : ℕ → Type 0) → ((i : ℕ) → (bad i ≡ false) ↔ ok i) → SaysFirst (number x) n ok (at_first x n bad)
asks_each x n bad ok law = record {
  numbered = refl;
  passes = (
    λ e i h. (law i).0 (Bool-eq-false (λ b. L.none_before i (let l = ltb-false (least bad n) n e in omega arith) b)),
    λ h. Bool-eq-false (λ t. let l = ltb-true (least bad n) n t in false≢true (sym ((law (least bad n)).1 (h (least bad n) l)) ∙ L.passes l)),
  );
  first_such = λ g. (let l = ltb-true (least bad n) n g in (l, λ k. false≢true (sym ((law (least bad n)).1 k) ∙ L.passes l), λ i h. (law i).0 (Bool-eq-false (λ b. L.none_before i h b))));
}
  where
    L : Least bad n (least bad n)
    L = least-is bad n

-- a test that is negated is not given exactly where it passes
not-given : (t : Bool) → (not t ≡ false) ↔ Yes t
not-given t = (λ e. not-false t e, λ e. ap not e)

only_below_law : (n s : ℕ) → Yes (only_below n s) ↔ ((k : ℕ) → Yes (has s k) → k < n)
unfolding only_below
only_below_law n s = (λ e k h. has-below n s k (ltb-true _ _ e) h, λ h. lt-ltb _ _ (below-has n s h))

-- what holds of an accepted question: over the network as a chain may use it all that is named is there, and V×Q is at most its ceiling
pub record Ready (D : Question) : Type 0 where
  pub sound : Sound (usable D) D.condition
  pub few : pairs D ≤ ceilings.words
  pub to_in : D.to < (usable D).marks

-- a row of a list is found by looking
ruleset rows = (Memᴰ.head, Memᴰ.tail)

module _ (D : Question) where
  abbrev N : Network
  N = D.network

  abbrev C : Condition
  C = D.condition

  -- refusals 1 to 6, each in the words of the table
  sizes_law : ((sizes D).given ≡ false) ↔ SizesRight D
  unfolding sizes bad_sizes
  sizes_law = (
    λ e. let (a, x) = and_in _ _ ((not-given _).0 e) in
        let (b, y) = and_in _ _ x in
        let (c, z) = and_in _ _ y in
        let (d, f) = and_in _ _ z in
        let (a₁, a₂) = and_in _ _ a in
        let (b₁, b₂) = and_in _ _ b in
        record { marks = (leb-true _ _ a₁, leb-true _ _ a₂); kinds = (leb-true _ _ b₁, leb-true _ _ b₂); few = leb-true _ _ c; columns = (eqb-true _ _ d, eqb-true _ _ f) },
    λ S. (not-given _).1
        (and_of (and_of (le-leb _ _ S.marks.0) (le-leb _ _ S.marks.1))
        (and_of (and_of (le-leb _ _ S.kinds.0) (le-leb _ _ S.kinds.1))
        (and_of (le-leb _ _ S.few) (and_of (eqb_of S.columns.0) (eqb_of S.columns.1))))),
  )

  pub row_1 : Says 1 (SizesRight D) 0 (sizes D)
  unfolding sizes bad_sizes
  row_1 = record { numbered = refl; passes = sizes_law; placed = refl }

  pub row_2 : SaysFirst 2 (ties N) (TieRight D) (bad_tie D)
  unfolding bad_tie bad_tie_at
  row_2 = asks_each BadTie (ties N) _ (TieRight D) (λ e. (
    λ g. let (a, x) = and_in _ _ ((not-given _).0 g) in
        let (b, y) = and_in _ _ x in
        record { from = ltb-true _ _ a; to = ltb-true _ _ b; kinds = (only_below_law _ _).0 y },
    λ T. (not-given _).1 (and_of (lt-ltb _ _ T.from) (and_of (lt-ltb _ _ T.to) ((only_below_law _ _).1 T.kinds))),
  ))

  -- tie e + 1 is out of order exactly if its to mark is below that of tie e
  after_one : (e : ℕ) → (ltb 0 (suc e) and ltb (to_of N (suc e)) (to_of N (suc e - 1))) ≡ ltb (to_of N (suc e)) (to_of N e)
  unfolding ◌and◌
  after_one e =
      let z : suc e - 1 ≡ e = omega arith in
      rw (lt-ltb 0 (suc e) (omega arith)) (ap (λ (i : ℕ). ltb (to_of N (suc e)) (to_of N i)) z)

  in_order : (e : ℕ) → (ltb 0 e and ltb (to_of N e) (to_of N (e - 1)) ≡ false) ↔ InOrder D e
  unfolding ◌and◌
  in_order zero = (λ g i z. absurd (omega arith), λ h. refl)
  in_order (suc e) = (
    λ g i z. (let y : e ≡ i = omega arith in subst (λ (k : ℕ). to_of N k ≤ to_of N (suc e)) y (ltb-false (to_of N (suc e)) (to_of N e) (sym (after_one e) ∙ g))),
    λ h. after_one e ∙ le-ltb (to_of N (suc e)) (to_of N e) (h e refl),
  )

  pub row_3 : SaysFirst 3 (ties N) (InOrder D) (tie_order D)
  unfolding tie_order late_at
  row_3 = asks_each TieOrder (ties N) _ (InOrder D) in_order

  condition_law : ((bad_condition D).given ≡ false) ↔ ConditionRight D
  unfolding bad_condition bad_states
  condition_law = (
    λ e. let (a, x) = and_in _ _ ((not-given _).0 e) in
        let (b, y) = and_in _ _ x in
        let (c, d) = and_in _ _ y in
        let (a₁, a₂) = and_in _ _ a in
        record { states = (leb-true _ _ a₁, leb-true _ _ a₂); few = leb-true _ _ b; start = (only_below_law _ _).0 c; accept = (only_below_law _ _).0 d },
    λ R. (not-given _).1
        (and_of (and_of (le-leb _ _ R.states.0) (le-leb _ _ R.states.1))
        (and_of (le-leb _ _ R.few) (and_of ((only_below_law _ _).1 R.start) ((only_below_law _ _).1 R.accept)))),
  )

  pub row_4 : Says 4 (ConditionRight D) 0 (bad_condition D)
  unfolding bad_condition bad_states
  row_4 = record { numbered = refl; passes = condition_law; placed = refl }

  pub row_5 : SaysFirst 5 (length C.moves) (MoveRight D) (bad_move D)
  unfolding bad_move bad_move_at
  row_5 = asks_each BadMove (length C.moves) _ (MoveRight D) (λ j. (
    λ g. let (a, x) = and_in _ _ ((not-given _).0 g) in
        let (b, c) = and_in _ _ x in
        record { from = ltb-true _ _ a; kind = ltb-true _ _ b; to = ltb-true _ _ c },
    λ M. (not-given _).1 (and_of (lt-ltb _ _ M.from) (and_of (lt-ltb _ _ M.kind) (lt-ltb _ _ M.to))),
  ))

  pub row_6 : Says 6 ((D.from < N.marks) × (D.to < N.marks)) 0 (bad_ends D)
  unfolding bad_ends
  row_6 = record {
    numbered = refl;
    passes = (
      λ e. let (a, b) = and_in _ _ ((not-given _).0 e) in (ltb-true _ _ a, ltb-true _ _ b),
      λ (a, b). (not-given _).1 (and_of (lt-ltb _ _ a) (lt-ltb _ _ b)),
    );
    placed = refl;
  }

  pub row_7 : (w : List ℕ) → Says 7 (pairs D ≤ length w) (pairs D) (short_area D w)
  unfolding short_area
  row_7 w = record { numbered = refl; passes = (λ e. ltb-false (length w) (pairs D) e, λ h. le-ltb (length w) (pairs D) h); placed = refl }

  -- none of refusals 1 to 6 is given exactly where the question is as the table wants it
  pub accepted_law : NoneGiven (lent_tests D) ↔ Accepted D
  unfolding lent_tests
  accepted_law = (
    λ h. record {
      sizes = row_1.passes.0 (h (sizes D) (search rows depth 16));
      tie = row_2.passes.0 (h (bad_tie D) (search rows depth 16));
      order = row_3.passes.0 (h (tie_order D) (search rows depth 16));
      condition = row_4.passes.0 (h (bad_condition D) (search rows depth 16));
      move = row_5.passes.0 (h (bad_move D) (search rows depth 16));
      ends = row_6.passes.0 (h (bad_ends D) (search rows depth 16));
    },
    λ A. none-cons _ _ (row_1.passes.1 A.sizes) (none-cons _ _ (row_2.passes.1 A.tie) (none-cons _ _ (row_3.passes.1 A.order)
        (none-cons _ _ (row_4.passes.1 A.condition) (none-cons _ _ (row_5.passes.1 A.move) ((none_one _).1 (row_6.passes.1 A.ends)))))),
  )

  module _ (A : Accepted D) where
    kinds_in : (e k : ℕ) → Yes (has (kinds_of N e) k) → k < N.kinds
    kinds_in e k x = go (ltb e (ties N)) refl
      where
        go : (t : Bool) → ltb e (ties N) ≡ t → k < N.kinds
        go true b = (A.tie e (ltb-true _ _ b)).kinds k x
        go false b = let l = ltb-false e (ties N) b in let c = A.sizes.columns.1 in absurd (zero_has k (rw (get_or-eq_default N.sets 0 {n = e} (omega arith)) at x))

    follows_in : (p k q : ℕ) → Yes (follows C p k q) → (p < C.states) × (q < C.states)
    unfolding follows
    follows_in p k q x =
        let (j, l, y) = any_below_in _ _ x in
        let (a, z) = and_in _ _ y in
        let M = A.move j l in
        (rw (eqb-true (move_at C j).from p a) at M.from, rw (eqb-true (move_at C j).to q (and_in _ _ z).1) at M.to)

    pub ready : Ready D
    unfolding usable starts accepts
    ready = record {
      sound = record { from_in = λ e l. (A.tie e l).from; to_in = λ e l. (A.tie e l).to; kind_in = kinds_in; follow_in = follows_in; start_in = A.condition.start; accept_in = A.condition.accept };
      few = (let a = mul-le-mul A.sizes.marks.1 A.condition.states.1 in omega arith);
      to_in = A.ends.1;
    }

    -- 01: "so the ties into one mark are one unbroken run of the table"
    rises-to : (i k : ℕ) → i + k < ties N → to_of N i ≤ to_of N (i + k)
    rises-to i zero l = le_of_eq (ap (λ (e : ℕ). to_of N e) (sym (add-zero i)))
    rises-to i (suc k) l =
        let l' : suc (i + k) < ties N = rw add-suc at l in
        let a = rises-to i k (omega arith) in
        let b = A.order (suc (i + k)) l' (i + k) refl in
        rw add-suc (le_trans a b)

    pub one_run : (i j k : ℕ) → i ≤ j → j ≤ k → k < ties N → to_of N i ≡ to_of N k → to_of N j ≡ to_of N i
    one_run i j k ij jk l e =
        let a : to_of N i ≤ to_of N j = rw (add-sub_of_le ij) at (rises-to i (j - i) (rw (add-sub_of_le ij) (omega arith))) in
        let b : to_of N j ≤ to_of N k = rw (add-sub_of_le jk) at (rises-to j (k - j) (rw (add-sub_of_le jk) l)) in
        omega arith

  -- refusal 8 passes exactly where the rounds are in bounds and the area is the right one
  pub area_tested : (r : ℕ) (w : List ℕ) → ((wrong_area D r w).given ≡ false) ↔ ((r ≤ pairs D) × (take (pairs D) w ≡ right D r))
  unfolding wrong_area
  area_tested r w = (
    λ e. let (a, b) = and_in _ _ (not-false _ e) in (leb-true r (pairs D) a, same-eq _ _ b),
    λ (a, b). ap not (and_of (le-leb r (pairs D) a) (same_of b)),
  )

  -- that is, where it passes the local test
  pub area_local : Ready D → (r : ℕ) (w : List ℕ) → pairs D ≤ length w → ((wrong_area D r w).given ≡ false)
      ↔ ((r ≤ pairs D) × Local (usable D) C D.from r (at (usable D) C D.from w))
  unfolding usable right
  area_local R r w long =
      let A = area-right (usable D) C D.from r w long in
      let f = R.few in (
        λ e. let (a, b) = (area_tested r w).0 e in (a, (local_law (usable D) C D.from r R.sound (omega arith) _).1 (A.0 b)),
        λ (a, L). (area_tested r w).1 (a, A.1 ((local_law (usable D) C D.from r R.sound (omega arith) _).0 L)),
      )

  -- each call's list of rows, by what is added to the one before
  pub start-passes : (w : List ℕ) → NoneGiven (start_tests D w) ↔ (NoneGiven (lent_tests D) × (pairs D ≤ length w))
  unfolding start_tests
  start-passes w =
      let A = none-append (lent_tests D) (short_area D w ∷ []) in
      let B = none_one (short_area D w) in (
        λ h. let (a, b) = A.0 h in (a, (row_7 w).passes.0 (B.0 b)),
        λ (a, b). A.1 (a, B.1 ((row_7 w).passes.1 b)),
      )

  pub round-passes : (r : ℕ) (w : List ℕ) → NoneGiven (round_tests D r w) ↔ (NoneGiven (start_tests D w) × ((r ≤ pairs D) × (take (pairs D) w ≡ right D r)))
  unfolding round_tests
  round-passes r w =
      let A = none-append (start_tests D w) (wrong_area D r w ∷ []) in
      let B = none_one (wrong_area D r w) in
      (λ h. let (a, b) = A.0 h in (a, (area_tested r w).0 (B.0 b)), λ (a, b). A.1 (a, B.1 ((area_tested r w).1 b)))
