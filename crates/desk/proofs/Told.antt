-- What a call promises of the list that is read off the gathered numbers (`list_of`), the public call promises of the list that is lent: what is
-- gathered stands for the list (`Brought` of `moves`), and every call answers alike on a list that stands for another (`TooManyMoves` of `walk`).
use Prim.Native.Nat.{ℕ}
use mathlib.Core.Path.{◌≡◌, sym}
use mathlib.Core.List.{List}
use Rattle.std.specs.Prelude.{Result}
use Rattle.walk.specs.declared.Question.{Question}
use Rattle.walk.specs.declared.Move.{Move}
use Rattle.walk.specs.declared.Refused.{Refused}
use Rattle.walk.specs.declared.First.{First}
use Rattle.walk.specs.declared.Next.{Next}
use Rattle.walk.specs.Calls.{start, round, first, next}
use Rattle.walk.specs.Answers.{asked, said_first, said_next, Meets}
use Rattle.walk.proofs.TooManyMoves.{start_alike, round_alike, first_alike, next_alike}
use Rattle.tables.specs.declared.gathered.Gathered.{Gathered}
use Rattle.rounds.proofs.Meeting.{meets_as}
use Rattle.moves.specs.Gathering.{gathered}
use Rattle.moves.proofs.Brought.{list_of, brought}
use Rattle.desk.specs.declared.Prepared.{Prepared}
use Rattle.desk.specs.Answers.{said_prepared}

module _ (q : Question) (ms : List Move) (g : Gathered) (e : g ≡ gathered ms) where
  pub started : (w : List ℕ) (r : Result Prepared Refused) (w' : List ℕ) → Meets (start (asked q (list_of g)) w) (said_prepared r) w'
      → Meets (start (asked q ms) w) (said_prepared r) w'
  started w r w' M = meets_as _ _ _ _ (sym (start_alike q.network q.condition q.ask q.from.now q.to.now q.kinds.now (brought ms) w)) (rw e at M)

  module _ (done : ℕ) (w : List ℕ) where
    pub advanced : (r : Result Prepared Refused) (w' : List ℕ) → Meets (round (asked q (list_of g)) done w) (said_prepared r) w'
        → Meets (round (asked q ms) done w) (said_prepared r) w'
    advanced r w' M = meets_as _ _ _ _ (sym (round_alike q.network q.condition q.ask q.from.now q.to.now q.kinds.now (brought ms) done w)) (rw e at M)

    pub opened : (b : List ℕ) (r : Result First Refused) (b' : List ℕ) → Meets (first (asked q (list_of g)) done w b) (said_first r) b'
        → Meets (first (asked q ms) done w b) (said_first r) b'
    opened b r b' M = meets_as _ _ _ _ (sym (first_alike q.network q.condition q.ask q.from.now q.to.now q.kinds.now (brought ms) done w b)) (rw e at M)

    pub followed : (b : List ℕ) (r : Result Next Refused) (b' : List ℕ) → Meets (next (asked q (list_of g)) done w b) (said_next r) b'
        → Meets (next (asked q ms) done w b) (said_next r) b'
    followed b r b' M = meets_as _ _ _ _ (sym (next_alike q.network q.condition q.ask q.from.now q.to.now q.kinds.now (brought ms) done w b)) (rw e at M)
