-- The tests of first and next. Refusals 9 and 10 stand behind those of a round, and the status decides them; so what the tests answer is the first row
-- given, and where they find a length the area is prepared and the buffer has room.
use Prim.Native.Nat.{ℕ, ◌≤◌, zero-le}
use mathlib.Core.Path.{◌≡◌, refl, sym, ap, ◌∙◌}
use mathlib.Core.Bool.{Bool, true, false, cond}
use mathlib.Core.List.{List, [], ◌∷◌, append_assoc}
use lib.Dec.{ltb}
use lib.ListN.{length}
use borrow.Author.Tests.{ltb-false, le-ltb}
use Rattle.std.specs.Prelude.{Option, Some, Result, Ok, Err}
use Rattle.walk.specs.declared.Question as lent
use Rattle.walk.specs.declared.Refused.{Refused}
use Rattle.walk.specs.declared.Refusal.TheVariants.{ShortChain, NotListed}
use Rattle.walk.specs.declared.Status.{Status}
use Rattle.walk.specs.declared.Status.TheVariants.{Found, None, Going}
use Rattle.walk.specs.Network.{Network}
use Rattle.walk.specs.Question.{Question, status}
use Rattle.walk.specs.Refusals.{number, unfinished, short_chain, not_listed, round_tests, list_tests, first_tests, next_tests}
use Rattle.walk.specs.Calls.{refused, gives, NoChain, first, next}
use Rattle.walk.specs.Demands.{NoneGiven}
use Rattle.walk.specs.Answers.{network_of, Meets}
use Rattle.walk.proofs.Refusals.{none-append, none_one, judged-none}
use Rattle.tables.specs.Tests.{first_given}
use Rattle.tables.proofs.Verdicts.{at, refused-answers, passed_none, given-before, given_behind}
use Rattle.rounds.specs.declared.lent.Lent.{Lent}
use Rattle.rounds.specs.Judged.{Judges}
use Rattle.rounds.proofs.Lending.{none_right}
use Rattle.rounds.proofs.Meeting.{meets_as}
use Rattle.back.specs.declared.ground.Ground.{Ground}
use Rattle.back.specs.Over.{over_tie}
use Rattle.back.specs.Ground.{net, back}
use Rattle.chains.specs.Following.{Over}
use Rattle.chains.specs.Asking.{Gives, by_status, Asks}
use Rattle.chains.proofs.Listing.{FoundRight}

module _ (D : Question) (r : ℕ) (A : List ℕ) where
  pub refused-early : (e : Refused) → first_given (round_tests D r A) ≡ Err e → (c : List ℕ) → first_given (first_tests D r A c) ≡ Err e
  unfolding first_tests list_tests
  refused-early e f c = given-before _ _ e.refusal e.place (given-before (round_tests D r A) _ e.refusal e.place f)

  -- the last two rows
  last_two : NoneGiven (round_tests D r A) → (c : List ℕ) → first_given (first_tests D r A c) ≡ first_given (unfinished D r ∷ short_chain D r c ∷ [])
  unfolding first_tests list_tests
  last_two h c =
      ap first_given (append_assoc (round_tests D r A) (unfinished D r ∷ []) (short_chain D r c ∷ []))
      ∙ given_behind (round_tests D r A) (unfinished D r ∷ short_chain D r c ∷ []) h

  -- what the status says, with room for a chain: a refusal, or the least length
  module _ (q : lent.Question) (room : ℕ) (l : Lent) where
    -- what is answered, by the least length or the refusal
    abbrev Answered : Result (Option ℕ) Refused → Type 0
    Answered (Err e) = Gives D r A room (Err e)
    Answered (Ok o) = Asks q D r A room (Ok (l, o))

    answered : (s : Status) → Judges q D r A (Ok (l, s)) → Answered (by_status s room)
    unfolding first_given unfinished short_chain
    answered Going (e, f, h, F) = λ c w. last_two (passed_none _ e) c ∙ (rw (← f))
    answered None (e, f, h, F) = (λ c w. last_two (passed_none _ e) c ∙ (rw (← f, le-ltb (length c) 0 zero-le)), sym f, (h, F))
    answered (Found n) (e, f, h, F) = go (ltb room n) refl
      where
        go : (b : Bool) → ltb room n ≡ b → Answered (cond b (Err (record { refusal = ShortChain; place = n })) (Ok (Some n)))
        go true b = λ c w. last_two (passed_none _ e) c ∙ (rw (← f, w, b))
        go false b = (λ c w. last_two (passed_none _ e) c ∙ (rw (← f, w, b)), sym f, (h, F))

    pub asks_err : (s : Status) (e : Refused) → Judges q D r A (Ok (l, s)) → by_status s room ≡ Err e → Gives D r A room (Err e)
    asks_err s e J f = rw f at (answered s J)

    pub asks_ok : (s : Status) (o : Option ℕ) → Judges q D r A (Ok (l, s)) → by_status s room ≡ Ok o → Asks q D r A room (Ok (l, o))
    asks_ok s o J f = rw f at (answered s J)

  -- the calls where the tests refuse, and where there is no chain
  module _ (c : List ℕ) where
    pub first-refused : (e : Refused) → first_given (first_tests D r A c) ≡ Err e → Meets (first D r A c) (refused (number e.refusal) e.place) c
    unfolding first
    first-refused e f = meets_as _ _ _ c (refused-answers c _ (first_tests D r A c) e.refusal e.place f) (record { answers = refl; leaves = refl })

    pub next-refused : (e : Refused) → first_given (first_tests D r A c) ≡ Err e → Meets (next D r A c) (refused (number e.refusal) e.place) c
    unfolding next next_tests
    next-refused e f =
        meets_as _ _ _ c (refused-answers c _ _ e.refusal e.place (given-before (first_tests D r A c) _ e.refusal e.place f)) (record { answers = refl; leaves = refl })

    module _ (passed : first_given (first_tests D r A c) ≡ Ok tt) where
      pub first-none : status D r ≡ None → Meets (first D r A c) (gives NoChain) c
      unfolding first
      first-none e = meets_as _ _ _ c (judged-none c _ (first_tests D r A c) (passed_none _ passed)) (rw e (record { answers = refl; leaves = refl }))

      none-given : status D r ≡ None → first_given (next_tests D r A c) ≡ at NotListed 0
      unfolding next_tests not_listed first_given
      none-given e = given_behind (first_tests D r A c) (not_listed D r c ∷ []) (passed_none _ passed) ∙ (rw e)

      pub next-none : status D r ≡ None → Meets (next D r A c) (refused (number NotListed) 0) c
      unfolding next
      next-none e = meets_as _ _ _ c (refused-answers c _ (next_tests D r A c) NotListed 0 (none-given e)) (record { answers = refl; leaves = refl })

-- what the tests leave where a length is found: the area is prepared, and the buffer c has room
pub record Listable (D : Question) (r : ℕ) (A c T : List ℕ) (n : ℕ) : Type 0 where
  pub prepared : FoundRight D r A T n
  pub passed : NoneGiven (first_tests D r A c)
  pub room : n ≤ length c

pub listable : (q : lent.Question) (D : Question) (r : ℕ) (A c : List ℕ) (l : Lent) (n : ℕ) → Asks q D r A (length c) (Ok (l, Some n))
    → Listable D r A c l.steps.now.table n
unfolding first_tests list_tests short_chain
listable q D r A c l n (G, e, (_, F)) =
    let passed = passed_none _ (G c refl) in
    let (before, last) = (none-append (list_tests D r A) (short_chain D r c ∷ [])).0 passed in
    let (acc, long, few, is_right) = none_right D r A ((none-append (round_tests D r A) (unfinished D r ∷ [])).0 before).0 in
    record {
      prepared = record { accepted = acc; long = long; few = few; is_right = is_right; tabled = F.tabled; found = e };
      passed = passed;
      room = ltb-false (length c) n (rw e at ((none_one (short_chain D r c)).0 last));
    }

-- the ground of what is lent on, by the question that is asked
pub over-is : (l : Lent) (q : lent.Question) (A : List ℕ) (g : Ground) → Over l A g → l.question ≡ q
    → (net g ≡ network_of q.network q.from.now q.to.now q.kinds.now)
    × (back g ≡ over_tie l.steps.now.table A q.condition.states q.from.now q.kinds.now) × (g.step.words.marks ≡ q.network.marks)
over-is l q A g O e = (O.net_is ∙ ap net_of e, O.back_is ∙ ap back_of e, O.marks_are ∙ ap (λ (z : lent.Question). z.network.marks) e)
  where
    net_of : lent.Question → Network
    net_of z = network_of z.network z.from.now z.to.now z.kinds.now

    back_of : lent.Question → ℕ → ℕ → ℕ → ℕ
    back_of z = over_tie l.steps.now.table A z.condition.states z.from.now z.kinds.now
