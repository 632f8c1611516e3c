-- What each call answers, and every word of the buffer that it may write afterwards, for every input. Start and a round may write the area and
-- are lent no chain buffer; first and next may write the chain buffer and are lent the area to be read.
use Rattle.std.specs.Prelude.{ℕ, suc, true, false, cond, length, take, drop}
use mathlib.Core.List.{List, [], ◌∷◌, ◌++◌, head?}
use Rattle.std.proofs.Math.Option.{Option, none, some}
use Rattle.walk.specs.declared.Status.{Status}
use Rattle.walk.specs.declared.Status.TheVariants.{Found, None, Going}
use Rattle.walk.specs.Chains.{after_of}
use Rattle.walk.specs.Question.{Question, pairs, right, status, listing}
use Rattle.walk.specs.Refusals.{Row, number, is_going, start_tests, round_tests, first_tests, next_tests}

-- 01: "Each refusal hands back its number and place only"; any other answer gives what the call found
pub data Answer (A : Type 0) : Type 0 where
  refused : ℕ → ℕ → Answer A
  gives : A → Answer A

-- what start and a round give: the count of rounds done, and the status
pub record Progress : Type 0 where
  pub done : ℕ
  pub status : Status

-- what first and next give: the chain stands in the buffer, there is none, or the chain handed in was the last
pub data Reply : Type 0 where
  Chain : Reply
  NoChain : Reply
  End : Reply

-- a call's answer, and what the call may write as it leaves it: for these four the words of one buffer
pub record Done (A B : Type 0) : Type 0 where
  pub answer : Answer A
  pub left : B

abbrev pub leave : {A B : Type 0} → A → B → Done A B
leave a w = record { answer = gives a; left = w }

-- 01: "Tested in this order"; "area and chain buffer keep every word": the first row that is given answers and leaves w as it was; with
-- none given the call does its work d
unfoldable pub judged : {A B : Type 0} → List Row → B → Done A B → Done A B
judged [] w d = d
judged (x ∷ xs) w d = elim x.given [ true ↦ record { answer = refused (number x.name) x.place; left = w } | false ↦ judged xs w d ]

-- the chain d is written over the front of the buffer. 01: "Words past the least length stay as they were."
abbrev pub put : Reply → List ℕ → Option (List ℕ) → Done Reply (List ℕ)
put nothing c none = leave nothing c
put nothing c (some d) = leave Chain (d ++ drop (length d) c)

module _ (D : Question) where
  -- the count r and the status of the right area for it
  unfoldable pub progress : ℕ → Progress
  progress r = record { done = r; status = status D r }

  -- the right area for r rounds is written. 01: "Words after the first V×Q are never written."
  unfoldable pub prepared : ℕ → List ℕ → Done Progress (List ℕ)
  prepared r w = leave (progress r) (right D r ++ drop (pairs D) w)

  -- 01: "First gives the earliest chain in the order, or says None and writes nothing." While Going it was refused before.
  abbrev pub earliest : List ℕ → Status → Done Reply (List ℕ)
  earliest c (Found n) = put NoChain c (head? (listing D n))
  earliest c None = leave NoChain c
  earliest c Going = leave NoChain c

  -- 01: "Next reads a chain from the front of the chain buffer (16-bit words, as many as the least length) and puts the chain after it
  -- in its place, or says End and writes nothing." With None or while Going it was refused before.
  abbrev pub later : List ℕ → Status → Done Reply (List ℕ)
  later c (Found n) = put End c (after_of (take n c) (listing D n))
  later c None = leave End c
  later c Going = leave End c

  -- 01: "Start writes the right area for 0 rounds and hands back the count 0."
  unfoldable pub start : List ℕ → Done Progress (List ℕ)
  start w = judged (start_tests D w) w (prepared 0 w)

  -- 01: "A round takes the count of rounds done and hands back the next, moving the area from the right one for r to the right one for
  -- r + 1." "A round on a Found or None area changes nothing and gives the same count and status."
  unfoldable pub round : ℕ → List ℕ → Done Progress (List ℕ)
  round r w = judged (round_tests D r w) w (cond (is_going (status D r)) (prepared (suc r) w) (leave (progress r) w))

  -- r is the count of rounds done, w the area, c the chain buffer
  unfoldable pub first : ℕ → List ℕ → List ℕ → Done Reply (List ℕ)
  first r w c = judged (first_tests D r w c) c (earliest c (status D r))

  unfoldable pub next : ℕ → List ℕ → List ℕ → Done Reply (List ℕ)
  next r w c = judged (next_tests D r w c) c (later c (status D r))
