-- What going back makes is what first and next answer. Over a right area the step back is the walk's, so the chain that is filled is the first of the
-- list, a chain goes back all the way exactly if it is listed, and raising the tie nearest the front that can be raised makes the one after it.
-- The words past the least length follow what is filled, so they stay.
use Prim.Native.Nat.{ℕ, suc, ◌≤◌, ◌<◌, ◌+◌}
use mathlib.Core.Path.{◌≡◌, refl, sym, subst, ap, ◌∙◌}
use mathlib.Core.Bool.{Bool, true, false, false≢true}
use mathlib.Core.List.{List, [], ◌∷◌, ◌++◌, append-nil, head?, Memᴰ}
use mathlib.Core.Option.{Option, none, some}
use native.Mathlib.Nat.{add-zero, zero-add}
use native.Mathlib.Omega.{arith}
use lib.ListN.{length, take, drop, take-append-drop, length-append, length-drop}
use lib.Seq.{length-take-le, drop-append-le}
use mathlib.Mathlib.Data.Bool.Basic.{eq-false_of_not-eq-true}
use Rattle.walk.specs.declared.Status.TheVariants.{Found}
use Rattle.walk.specs.declared.Refusal.TheVariants.{NotListed}
use Rattle.walk.specs.declared.Next.{Next}
use Rattle.walk.specs.declared.Refused.{Refused}
use Rattle.std.specs.Prelude.{Result, Ok}
use Rattle.walk.specs.Network.{Network, from_of}
use Rattle.walk.specs.Condition.{Condition}
use Rattle.walk.specs.Walk.{LeastMatching}
use Rattle.walk.specs.Chains.{member, after_of}
use Rattle.walk.specs.Question.{Question, usable, pairs, right, status, listing}
use Rattle.walk.specs.Refusals.{not_listed, first_tests, next_tests}
use Rattle.walk.specs.Calls.{gives, Chain, judged, earliest, later, first, next}
use Rattle.walk.specs.Demands.{NoneGiven, Accepted}
use Rattle.walk.specs.Answers.{Meets, said_next}
use Rattle.walk.proofs.Numbers.{Yes}
use Rattle.walk.proofs.Sets.{nonempty}
use Rattle.walk.proofs.Executable.{Sound}
use Rattle.walk.proofs.Words.{unreached, Right}
use Rattle.walk.proofs.Areas as Areas
use Rattle.walk.proofs.Areas.{area-right}
use Rattle.walk.proofs.Order.{member_law}
use Rattle.walk.proofs.Refusals.{ready, judged-none, none-append, none_one}
use Rattle.walk.proofs.Demand2.{found-says}
use Rattle.walk.proofs.Back.{Raise, set_at, fill, fill-ends, goes, raise, raised, completes_law, goes_law}
use Rattle.walk.proofs.Back as Back
use Rattle.walk.proofs.FirstNext.{first_law, next_law}
use Rattle.tables.specs.Steps.{Tabled}
use Rattle.tables.specs.Tests.{first_given}
use Rattle.tables.proofs.Verdicts.{at, refused-answers, given_behind}
use Rattle.back.specs.Over.{over_tie, ends_at}
use Rattle.back.specs.Chain.{Fillable, raise_seen, seen}
use Rattle.back.proofs.StepBack.{same_back, same_end}
use Rattle.back.proofs.Filling.{fill-append, raise-is, level_back, level_end, fillable}
use Rattle.chains.specs.Following.{raised_in, answer_of, left_by, Raises, Raisable, seen_in, Followed}

-- what the tests leave where the status is Found n: the area is the right one, and T is the step table
pub record FoundRight (D : Question) (r : ℕ) (A T : List ℕ) (n : ℕ) : Type 0 where
  pub accepted : Accepted D
  pub long : pairs D ≤ length A
  pub few : r ≤ pairs D
  pub is_right : take (pairs D) A ≡ right D r
  pub tabled : Tabled T D.condition
  pub found : status D r ≡ Found n

module _ (D : Question) (r : ℕ) (A T : List ℕ) (n : ℕ) (P : FoundRight D r A T n) where
  abbrev N : Network
  N = D.network

  abbrev C : Condition
  C = D.condition

  -- going back, by the words of the area and the step table; and by the definition
  abbrev step_back : ℕ → ℕ → ℕ → ℕ
  step_back = over_tie T A C.states N.froms N.sets

  abbrev at_t : ℕ
  at_t = ends_at A C.states D.to C.accept n

  abbrev back : ℕ → ℕ → ℕ → ℕ
  back = Back.back N C D.from D.to r

  abbrev end : ℕ
  end = Back.at_end N C D.from D.to r n

  ok : Sound N C
  unfolding usable
  ok = (ready D P.accepted).sound

  below : r < unreached
  below = omega (arith, P.few, (ready D P.accepted).few)

  short : (n ≤ r) × LeastMatching N C D.from D.to n
  unfolding usable
  short = found-says D (ready D P.accepted) r below n P.found

  -- a least length stands in a word: it is no more than the rounds done
  pub length-few : n < unreached
  length-few = omega (arith, short.0, below)

  right-words : Right N C D.from r (Areas.at N C D.from A)
  unfolding right usable
  right-words = (area-right N C D.from r A P.long).0 P.is_right

  step_is : step_back ≡ back
  step_is =
      let a = P.accepted in
      same_back N C D.from D.to r T A ok a.sizes.marks.0 a.sizes.kinds.1 a.condition.states.1 P.tabled right-words

  end_is : at_t ≡ end
  end_is = same_end N C D.from D.to r A right-words P.accepted.ends.1 n

  -- a chain can be completed before t, so a state is alive there
  end_some : Yes (nonempty end)
  unfolding set_at
  end_some =
      let (c, l, x) = short.1.met in
      ((completes_law N C D.from D.to r ok n below short.0 short.1 n [] (add-zero n)).0 (c, l, rw append-nil x)).1

  pub alive_there : nonempty at_t ≡ true
  alive_there = rw end_is end_some

  pub first-fillable : Fillable N step_back n D.to at_t
  first-fillable =
      rw (step_is, end_is) (fillable N C D.from D.to r ok below n D.to end short.0 (level_end N C D.from D.to r n end_some))

  -- the first chain is filled
  first-is : head? (listing D n) ≡ some (fill N back n D.to end [])
  unfolding listing usable set_at
  first-is = first_law N C D.from D.to r ok n below short.0 short.1

  filled-long : (i u S : ℕ) (d : List ℕ) → length (fill N back i u S d) ≡ i + length d
  filled-long i u S d = let (g, l, f) = fill-ends N back i u S d in ap length f ∙ length-append g d ∙ ap (λ (m : ℕ). m + length d) l

  pub first_meets : (c c' : List ℕ) → NoneGiven (first_tests D r A c) → c' ≡ fill N step_back n D.to at_t (drop n c) → Meets (first D r A c) (gives Chain) c'
  unfolding first
  first_meets c c' passed e =
      rw (judged-none c (earliest D c (status D r)) _ passed, P.found, first-is)
      (record { answers = refl; leaves = rw (step_is, end_is) at e ∙ fill-append N back n D.to end [] (drop n c) ∙ ap (λ (m : ℕ). fill N back n D.to end [] ++ drop m c) (sym (filled-long n D.to end [] ∙ add-zero n)) })

  -- what is seen of the first n words, by the definition's going back
  goes_true : (k : List ℕ) → length k ≡ n → Yes (goes N back D.to end 0 k) → Memᴰ k (listing D n)
  unfolding listing usable
  goes_true k l h = (goes_law N C D.from D.to r ok n below short.0 short.1 k l).0 h

  goes_false : (k : List ℕ) → length k ≡ n → goes N back D.to end 0 k ≡ false → member k (listing D n) ≡ false
  unfolding listing usable
  goes_false k l h =
      eq-false_of_not-eq-true
      (λ m. false≢true (sym h ∙ (goes_law N C D.from D.to r ok n below short.0 short.1 k l).1 ((member_law k (listing D n)).0 m)))

  next-is : (k : List ℕ) → Memᴰ k (listing D n) → after_of k (listing D n) ≡ raised N back (raise N back D.to end 0 k)
  unfolding listing usable
  next-is k m = next_law N C D.from D.to r ok n below short.0 short.1 k m

  -- a place that can be raised: the places before it can be filled
  raise_fills : (k : List ℕ) → length k ≡ n → (R : Raise) → raise N back D.to end 0 k ≡ some R → Raises N back n R.place R.tie R.alive
  raise_fills k l R h =
      let K = raise-is N back D.to end 0 k R h in
      let p = K.place_is ∙ zero-add K.at in
      let S = K.before in
      record {
        place_in = omega (arith, K.place_in);
        tie_in = K.tie_in;
        fillable = subst (Fillable N back R.place (from_of N R.tie)) (sym K.alive-is)
            (fillable N C D.from D.to r ok below R.place (from_of N R.tie) (back R.tie R.place S) (omega (arith, K.place_in, short.0))
            (level_back N C D.from D.to r R.tie R.place S (subst (λ (x : ℕ). Yes (nonempty x)) K.alive-is K.alive_some)));
      }

  pub raisable : (c : List ℕ) → n ≤ length c → Raisable N step_back n (seen_in N step_back n D.to at_t c)
  raisable c h = rw (step_is, end_is) (go (goes N back D.to end 0 (take n c)) (raise N back D.to end 0 (take n c)) refl)
    where
      go : (b : Bool) (o : Option Raise) → raise N back D.to end 0 (take n c) ≡ o → Raisable N back n (seen b o)
      go false o e = tt
      go true none e = tt
      go true (some R) e = raise_fills (take n c) (length-take-le n c h) R e

  -- what is raised, before the words past the least length
  raised-put : (c : List ℕ) → n ≤ length c → (R : Raise) → raise N back D.to end 0 (take n c) ≡ some R
      → raised_in N back R.place R.tie R.alive c
      ≡ fill N back R.place (from_of N R.tie) R.alive (R.tie ∷ R.rest) ++ drop (length (fill N back R.place (from_of N R.tie) R.alive (R.tie ∷ R.rest))) c
  raised-put c h R e =
      let K = raise-is N back D.to end 0 (take n c) R e in
      let l = length-take-le n c h in
      let p : R.place ≡ K.at = K.place_is ∙ zero-add K.at in
      let i : R.place < n = omega (arith, K.place_in) in
      let rest : drop (suc R.place) c ≡ R.rest ++ drop n c =
      ap (λ (x : List ℕ). drop (suc R.place) x) (sym (take-append-drop n c))
      ∙ drop-append-le (suc R.place) (take n c) (drop n c) (omega arith)
      ∙ ap (λ (x : List ℕ). x ++ drop n c) (ap (λ (m : ℕ). drop (suc m) (take n c)) p ∙ sym K.rest-is) in
      let size : length (fill N back R.place (from_of N R.tie) R.alive (R.tie ∷ R.rest)) ≡ n =
      filled-long R.place (from_of N R.tie) R.alive (R.tie ∷ R.rest)
      ∙ (let z = ap length K.rest-is ∙ length-drop (suc K.at) (take n c) in omega (arith, K.place_in)) in
      ap (λ (x : List ℕ). fill N back R.place (from_of N R.tie) R.alive (R.tie ∷ x)) rest
      ∙ fill-append N back R.place (from_of N R.tie) R.alive (R.tie ∷ R.rest) (drop n c)
      ∙ ap (λ (m : ℕ). fill N back R.place (from_of N R.tie) R.alive (R.tie ∷ R.rest) ++ drop m c) (sym size)

  -- the last row of next: given where the chain handed in is not listed
  unlisted-given : (c : List ℕ) → NoneGiven (first_tests D r A c) → member (take n c) (listing D n) ≡ false → first_given (next_tests D r A c) ≡ at NotListed 0
  unfolding next_tests not_listed first_given
  unlisted-given c passed m = given_behind (first_tests D r A c) (not_listed D r c ∷ []) passed ∙ (rw (P.found, m))

  listed-passes : (c : List ℕ) → NoneGiven (first_tests D r A c) → Memᴰ (take n c) (listing D n) → NoneGiven (next_tests D r A c)
  unfolding next_tests not_listed
  listed-passes c passed m =
      (none-append (first_tests D r A c) _).1 (passed, (none_one (not_listed D r c)).1 (rw (P.found, (member_law (take n c) (listing D n)).1 m)))

  pub next_meets : (c c' : List ℕ) (x : Result Next Refused) → n ≤ length c → NoneGiven (first_tests D r A c) → Followed N step_back n D.to at_t c x c'
      → Meets (next D r A c) (said_next x) c'
  unfolding next
  next_meets c c' x room passed F =
      go (goes N back D.to end 0 (take n c)) (raise N back D.to end 0 (take n c)) refl refl (rw (step_is, end_is) at F.answers) (rw (step_is, end_is) at F.leaves)
    where
      long_enough : length (take n c) ≡ n
      long_enough = length-take-le n c room

      listed : (o : Option Raise) → Memᴰ (take n c) (listing D n) → raise N back D.to end 0 (take n c) ≡ o → x ≡ answer_of (Ok (raise_seen o))
          → c' ≡ left_by N back c (Ok (raise_seen o)) → Meets (judged (next_tests D r A c) c (later D c (status D r))) (said_next x) c'
      listed none m e f g =
          rw (judged-none c (later D c (status D r)) _ (listed-passes c passed m), P.found, next-is (take n c) m, e, f) (record { answers = refl; leaves = g })
      listed (some R) m e f g =
          rw (judged-none c (later D c (status D r)) _ (listed-passes c passed m), P.found, next-is (take n c) m, e, f) (record { answers = refl; leaves = g ∙ raised-put c room R e })

      go : (b : Bool) (o : Option Raise) → goes N back D.to end 0 (take n c) ≡ b → raise N back D.to end 0 (take n c) ≡ o → x ≡ answer_of (seen b o)
          → c' ≡ left_by N back c (seen b o) → Meets (judged (next_tests D r A c) c (later D c (status D r))) (said_next x) c'
      go false o b e f g =
          rw (refused-answers c (later D c (status D r)) _ NotListed 0 (unlisted-given c passed (goes_false (take n c) long_enough b)), f) (record { answers = refl; leaves = g })
      go true o b e f g = listed o (goes_true (take n c) long_enough b) e f g
