-- The status. The loop over the states of t finds the least word of an accepting state, and the search of the words whether one is r; over a right
-- area these are the two questions that the definition of the status asks.
use Prim.Native.Nat.{ℕ, zero, suc, min, ◌+◌, ◌≤◌, ◌<◌}
use mathlib.Core.Path.{◌≡◌, refl, sym, ◌∙◌, ap, ap₂, fun_ext}
use mathlib.Core.Bool.{Bool, true, false, false≢true, ◌||◌}
use mathlib.Core.List.{List}
use mathlib.Core.Logic.{⊎_elim}
use mathlib.Mathlib.Data.Bool.Basic.{or_inl, or_inr}
use native.Mathlib.Omega.{arith}
use native.Mathlib.Nat.{eq-or-lt_of_le}
use native.Mathlib.Numerals.{add-one}
use Rattle.std.specs.List.{list_any}
use Rattle.std.proofs.Math.Bool.{or_comm}
use Rattle.std.proofs.lemmas.List.Folds.{list_any_more}
use lib.Dec.{ltb, eqb}
use lib.ListN.{length, get_or, take}
use lib.Seq.{get_or-take}
use borrow.Author.Tests.{eqb-true, ltb-true, lt-ltb}
use Rattle.walk.specs.Numbers.{has, ◌and◌, any_below, least}
use Rattle.walk.specs.Condition.{accepts}
use Rattle.walk.specs.Area.{area, word, pairs_at, smallest}
use Rattle.walk.specs.Area as Area
use Rattle.walk.specs.Question.{Question, usable, pairs, right, status}
use Rattle.walk.proofs.Numbers.{Yes, and_in, and_of, or_in, eqb_of, any_below_in, any_below_of, Least, least_one, yes_same, tally_in, tally_of}
use Rattle.walk.proofs.Areas.{length-area, area-right}
use Rattle.tables.proofs.StepLaws.{any-more, any_same}
use Rattle.rows.specs.Rows.{row}
use Rattle.rounds.specs.Standing.{nearest, stands, standing}
use Rattle.rows.proofs.RowLaws.{row_at}

-- some state of the set below n has the word d
abbrev has_word : List ℕ → ℕ → ℕ → ℕ → Bool
has_word words set n d = any_below n (λ q. has set q and eqb (get_or words q 0) d)

-- the loop over the states: k is the least word, or b
pub record Near (words : List ℕ) (set n b k : ℕ) : Type 0 where
  pub within : k ≤ b
  pub least : Least (has_word words set n) b k

pub near_none : (words : List ℕ) (set b : ℕ) → Near words set 0 b b
unfolding any_below
near_none words set b = record { within = omega arith; least = record { passes = λ h. absurd (omega arith); none_before = λ m h t. false≢true t } }

-- one state more: its word counts if it is of the set
module _ (words : List ℕ) (set n b k : ℕ) (N : Near words set n b k) where
  abbrev w : ℕ
  w = get_or words n 0

  near_more : (k' : ℕ) → k' ≤ k → (k' < k → Yes (has set n) × (w ≡ k')) → ((d : ℕ) → d < k' → Yes (has set n) → w ≡ d → ⊥)
      → Near words set (n + 1) b k'
  near_more k' low new none = record {
    within = omega arith;
    least = record {
      passes = λ h. more k' ∙ ⊎_elim (λ e. or_inr _ (has_word words set n k') ((rw (← e) at N.least.passes) h))
          (λ l. let (a, e) = new l in or_inl _ (has_word words set n k') (and_of a (eqb_of e)))
          (eq-or-lt_of_le low);
      none_before = λ d h y. ⊎_elim (λ x. let (a, e) = and_in _ _ x in none d h a (eqb-true w d e)) (λ x. N.least.none_before d (omega arith) x)
          (or_in (has set n and eqb w d) (has_word words set n d) (sym (more d) ∙ y));
    };
  }
    where
      more : (d : ℕ) → has_word words set (n + 1) d ≡ ((has set n and eqb w d) || has_word words set n d)
      more d = any-more n (λ q. has set q and eqb (get_or words q 0) d)

  pub near_skip : false ≡ has set n → Near words set (n + 1) b k
  near_skip e = near_more k (omega arith) (λ l. absurd (omega arith)) (λ d h a _. false≢true (e ∙ a))

  pub near_word : true ≡ has set n → Near words set (n + 1) b (min k w)
  near_word e = near_more (min k w) (omega arith) (λ l. (sym e, omega arith)) (λ d h _ x. omega arith)

pub near_end : (words : List ℕ) (set n b k : ℕ) → Near words set n b k → k ≡ nearest words set n b
unfolding nearest
near_end words set n b k N = least_one (has_word words set n) b k N.within N.least

-- over a right area
module _ (D : Question) (r : ℕ) (A : List ℕ) (is_right : take (pairs D) A ≡ right D r) (long : pairs D ≤ length A) where
  nearest-is : D.to < (usable D).marks → nearest (row A D.condition.states D.to) D.condition.accept D.condition.states (r + 1)
      ≡ smallest (usable D) D.condition D.from D.to r
  unfolding nearest smallest accepts right usable
  nearest-is ht =
      ap (λ (b : ℕ). least (has_word (row A D.condition.states D.to) D.condition.accept D.condition.states) b) (add-one r)
      ∙ ap (λ (p : ℕ → Bool). least p (suc r)) (fun_ext
      (λ d. any_same D.condition.states _ _ (λ q h. ap (λ (w : ℕ). has D.condition.accept q and eqb w d) (word_at q h))))
    where
      word_at : (q : ℕ) → q < D.condition.states → get_or (row A D.condition.states D.to) q 0 ≡ word D.network D.condition D.from r D.to q
      word_at q h = row_at A D.condition.states D.to q h ∙ (area-right D.network D.condition D.from r A long).0 is_right D.to q ht h

  stands-is : stands A (pairs D) r ≡ ltb 0 (pairs_at (usable D) D.condition D.from r)
  unfolding stands pairs_at right usable
  stands-is =
      yes_same
      (λ t. let (i, h, e) = any_below_in (pairs D) (λ i. eqb (get_or A i 0) r) t in
      lt-ltb 0 _ (tally_of (eqb r) _ i (rw length-area h) (eqb_of {m = r} (sym (sym (at_place i h) ∙ eqb-true (get_or A i 0) r e)))))
      (λ t. let (i, h, e) = tally_in (eqb r) _ (ltb-true 0 _ t) in
      let k : i < pairs D = rw length-area at h in
      any_below_of (pairs D) (λ i. eqb (get_or A i 0) r) i k (eqb_of {n = r} (at_place i k ∙ sym (eqb-true r _ e))))
    where
      at_place : (i : ℕ) → i < pairs D → get_or A i 0 ≡ get_or (area D.network D.condition D.from r) i 0
      at_place i h = sym (get_or-take (pairs D) A i 0 h) ∙ ap (λ (l : List ℕ). get_or l i 0) is_right

  pub standing-is : (t : ℕ) → t ≡ D.to → D.to < D.network.marks
      → standing (nearest (row A D.condition.states t) D.condition.accept D.condition.states (r + 1)) r (stands A (pairs D) r) ≡ status D r
  unfolding status Area.status usable
  standing-is t e h = rw e (ap₂ (λ (b : ℕ) (x : Bool). standing b r x) (nearest-is h) stands-is)

-- some of the first n words is r
pub stands_any : (A : List ℕ) (n r : ℕ) → n ≤ length A → list_any (λ w. eqb w r) (take n A) ≡ stands A n r
unfolding stands any_below
stands_any A zero r h = refl
stands_any A (suc n) r h =
    let x = list_any (λ w. eqb w r) (take n A) in
    let m = list_any_more (λ w. eqb w r) A n 0 h in
    let i = stands_any A n r (omega arith) in
    rw (← add-one, m, ← i) (or_comm x (eqb (get_or A n 0) r))
