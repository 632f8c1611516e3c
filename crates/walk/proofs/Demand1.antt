-- Demand 1. The first row given answers; the work of a call never answers a refusal, so a refusal is always that of a row. Each row is given exactly
-- when the table says: refusals 1 to 6 by their tests, 8 because the local test is the definition, 11 because the list holds the listed chains.
-- (That every call takes every input and ends is what the prover shows of each function: it has no `requires`, and every loop has a measure.)
use Prim.Native.Nat.{ℕ, ◌≤◌, ◌<◌}
use mathlib.Core.Path.{◌≡◌, refl, sym, ◌∙◌, subst, ap}
use mathlib.Core.Bool.{Bool, true, false, true≢false, not, cond}
use mathlib.Core.List.{List, Memᴰ, head?}
use mathlib.Core.Option.{Option, none, some}
use mathlib.Core.Logic.{◌↔◌, ◌⊎◌, inl, inr}
use native.Mathlib.Omega.{arith}
use lib.ListN.{length, take}
use borrow.Author.Tests.{ltb-false, le-ltb, not-false}
use Rattle.walk.specs.declared.Status.{Status}
use Rattle.walk.specs.declared.Status.TheVariants.{Found, None, Going}
use Rattle.walk.specs.Walk.{Listed}
use Rattle.walk.specs.Area as Area
use Rattle.walk.specs.Chains.{after_of}
use Rattle.walk.specs.Question.{Question, usable, pairs, right, status, listing}
use Rattle.walk.specs.Refusals.{Row, number, is_going, unlisted, wrong_area, unfinished, short_chain, not_listed, start_tests, round_tests, first_tests, next_tests}
use Rattle.walk.specs.Calls.{refused, gives, Reply, NoChain, End, Done, judged, prepared, put, earliest, later, start, round, first, next}
use Rattle.walk.specs.Demands.{NoneGiven, FirstGiven, Refuses, Accepted, Finished, RightWord, RightArea, Demand1}
use Rattle.walk.proofs.Numbers.{Yes, clash, FirstAt, first_below}
use Rattle.walk.proofs.Words.{unreached, Word, word-is, one_word, Right}
use Rattle.walk.proofs.Areas.{at, area-right}
use Rattle.walk.proofs.Lengths.{least_to_law}
use Rattle.walk.proofs.Order.{member_law}
use Rattle.walk.proofs.Listings.{listed_law}
use Rattle.walk.proofs.Refusals.{first_or_none, judged-none, judged-first, Ready, ready, row_1, row_2, row_3, row_4, row_5, row_6, row_7, area_tested}
use Rattle.walk.proofs.Demand2.{word-right, found-says}

module _ {A B : Type 0} (l : List Row) (w : B) (d : Done A B) (found : (a : A) × (d.answer ≡ gives a)) where
  -- the work gives something, so what is refused was refused by a row
  work : {n p : ℕ} → d.answer ≡ refused n p → ⊥
  work e = let f = found.1 in clash cc

  judge : Refuses l w (judged l w d)
  judge = go (first_or_none l)
    where
      answers : (x : Row) → FirstGiven l x → (judged l w d).answer ≡ refused (number x.name) x.place
      answers x F = ap (λ (k : Done A B). k.answer) (judged-first w d l x F)

      go : NoneGiven l ⊎ ((x : Row) × FirstGiven l x) → Refuses l w (judged l w d)
      go (inl h) =
          let e = ap (λ (k : Done A B). k.answer) (judged-none w d l h) in
          record { exactly = λ n p. (λ f. absurd (work (sym e ∙ f)), λ (x, F, _, _). absurd (work (sym e ∙ answers x F))); stays = λ n p f. absurd (work (sym e ∙ f)) }
      go (inr (x, F)) = record {
        exactly = λ n p. (
          λ f. let g : refused (number x.name) x.place ≡ refused n p = sym (answers x F) ∙ f in (x, F, cc, cc),
          λ (y, G, a, b). answers y G ∙ cc,
        );
        stays = λ n p f. ap (λ (k : Done A B). k.left) (judged-first w d l x F);
      }

put-gives : (a : Reply) (c : List ℕ) (o : Option (List ℕ)) → (b : Reply) × ((put a c o).answer ≡ gives b)
put-gives a c none = (_, refl)
put-gives a c (some d) = (_, refl)

picked-gives : {A B : Type 0} (t : Bool) (x y : Done A B) → (a : A) × (x.answer ≡ gives a) → (a : A) × (y.answer ≡ gives a)
    → (a : A) × ((cond t x y).answer ≡ gives a)
picked-gives true x y g h = g
picked-gives false x y g h = h

going-given : (S : Status) → (is_going S ≡ false) ↔ Finished S
going-given (Found n) = (λ e f. clash cc, λ f. refl)
going-given None = (λ e f. clash cc, λ f. refl)
going-given Going = (λ e f. true≢false e, λ f. absurd (f refl))

module _ (D : Question) where
  -- row 8: an area is the right one exactly if each of its words is right
  words_right : Accepted D → (r : ℕ) (w : List ℕ) → pairs D ≤ length w → ((wrong_area D r w).given ≡ false) ↔ ((r ≤ pairs D) × RightArea D r w)
  unfolding right usable
  words_right A r w long = (
    λ e. let (h, f) = (area_tested D r w).0 e in (h, λ v q hv hq. subst (λ (x : ℕ). RightWord D r v q x) (sym ((same h).0 f v q hv hq)) (word-right D R r (few h) v q)),
    λ (h, W). (area_tested D r w).1 (h, (same h).1 (λ v q hv hq. one v q _ h (W v q hv hq))),
  )
    where
      R : Ready D
      R = ready D A

      few : r ≤ pairs D → r < unreached
      few h = let f = R.few in omega arith

      same : r ≤ pairs D → (take (pairs D) w ≡ right D r) ↔ Right (usable D) D.condition D.from r (at (usable D) D.condition D.from w)
      same h = area-right (usable D) D.condition D.from r w long

      -- a word that is right is the definition's
      one : (v q x : ℕ) → r ≤ pairs D → RightWord D r v q x → x ≡ Area.word (usable D) D.condition D.from r v q
      one v q x h W = one_word (usable D) D.condition D.from r v q _ _ (few h) (is W) (word-is (usable D) D.condition D.from r v q (few h))
        where
          near : (n : ℕ) → Yes (Area.reach (usable D) D.condition D.from n v q)
              → (d : ℕ) × (d ≤ n) × FirstAt (λ m. Area.reach (usable D) D.condition D.from m v q) d
          near n t = first_below (λ m. Area.reach (usable D) D.condition D.from m v q) n t

          is : RightWord D r v q x → Word (usable D) D.condition D.from r v q x
          is (inl (l, L)) =
              let F = (least_to_law (usable D) D.condition D.from R.sound x v q).1 L in
              record { small = inl l; met = λ _. F.met; least = λ n k t. (let z : ¬ (n < x) = λ u. F.least n u t in omega arith) }
          is (inr (e, far)) = record {
            small = inr e;
            met = λ l. absurd (let f = few h in omega arith);
            least = λ n k t. let (d, dn, F) = near n t in let z = far d ((least_to_law (usable D) D.condition D.from R.sound d v q).0 F) in absurd (omega arith);
          }

  -- row 11: a chain is in the list exactly if it is listed
  chain-listed : Accepted D → (r : ℕ) (c : List ℕ) → r ≤ pairs D → ((not_listed D r c).given ≡ false)
      ↔ ((n : ℕ) × (status D r ≡ Found n) × Listed (usable D) D.condition D.from D.to (take n c))
  unfolding not_listed listing
  chain-listed A r c h = (λ e. to (status D r) refl e, λ (n, e, L). rw e (ap not ((member_law (take n c) (listing D n)).1 ((law n e).1 L))))
    where
      R : Ready D
      R = ready D A

      law : (n : ℕ) → status D r ≡ Found n → Memᴰ (take n c) (listing D n) ↔ Listed (usable D) D.condition D.from D.to (take n c)
      law n e = listed_law (usable D) D.condition D.from D.to n R.sound (found-says D R r (let f = R.few in omega arith) n e).1 (take n c)

      to : (S : Status) → status D r ≡ S → unlisted D c S ≡ false → (n : ℕ) × (status D r ≡ Found n) × Listed (usable D) D.condition D.from D.to (take n c)
      to (Found n) e f = (n, e, (law n e).0 ((member_law (take n c) (listing D n)).0 (not-false _ f)))
      to None e f = absurd (true≢false f)
      to Going e f = absurd (true≢false f)

module _ (D : Question) (r : ℕ) (w c : List ℕ) where
  earliest-gives : (S : Status) → (b : Reply) × ((earliest D c S).answer ≡ gives b)
  earliest-gives (Found n) = put-gives NoChain c (head? (listing D n))
  earliest-gives None = (_, refl)
  earliest-gives Going = (_, refl)

  later-gives : (S : Status) → (b : Reply) × ((later D c S).answer ≡ gives b)
  later-gives (Found n) = put-gives End c (after_of (take n c) (listing D n))
  later-gives None = (_, refl)
  later-gives Going = (_, refl)

  pub demand_1 : Demand1 D r w c
  unfolding start round first next prepared wrong_area unfinished short_chain not_listed
  demand_1 = record {
    of_start = judge (start_tests D w) w (prepared D 0 w) (_, refl);
    of_round = judge (round_tests D r w) w _ (picked-gives (is_going (status D r)) _ _ (_, refl) (_, refl));
    of_first = judge (first_tests D r w c) c _ (earliest-gives (status D r));
    of_next = judge (next_tests D r w c) c _ (later-gives (status D r));
    row_1 = row_1 D;
    row_2 = row_2 D;
    row_3 = row_3 D;
    row_4 = row_4 D;
    row_5 = row_5 D;
    row_6 = row_6 D;
    row_7 = row_7 D w;
    row_8 = λ A long. record { numbered = refl; passes = words_right D A r w long; placed = refl };
    row_9 = record { numbered = refl; passes = going-given (status D r); placed = refl };
    row_10 = λ n e. record { numbered = refl; passes = (λ f. ltb-false (length c) n (rw e at f), λ h. rw e (le-ltb (length c) n h)); placed = rw e };
    row_11 = λ A h. record { numbered = refl; passes = chain-listed D A r c h; placed = refl };
  }
