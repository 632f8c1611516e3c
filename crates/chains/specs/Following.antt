-- What first and next find chains over; and what next answers and leaves, by what is seen of the chain that stands in the buffer: over any step
-- back.
use Rattle.std.specs.Prelude.{ℕ, suc, ◌<◌, List, ◌∷◌, ◌≡◌, take, drop, Option, Some, None, Result, Ok, Err}
use Rattle.walk.specs.declared.Refused.{Refused}
use Rattle.walk.specs.declared.Refusal.TheVariants.{NotListed}
use Rattle.walk.specs.declared.Next.{Next}
use Rattle.walk.specs.declared.Next.TheVariants.{Chain, End}
use Rattle.walk.specs.Network.{Network, ties, from_of}
use Rattle.walk.specs.Answers.{network_of}
use Rattle.walk.proofs.Back.{fill, goes, raise}
use Rattle.rounds.specs.declared.lent.Lent.{Lent}
use Rattle.back.specs.declared.ground.Ground.{Ground}
use Rattle.back.specs.declared.look.Raised.{Raised}
use Rattle.back.specs.declared.look.Unlisted.{Unlisted}
use Rattle.back.specs.Over.{over_tie}
use Rattle.back.specs.Ground.{net, back}
use Rattle.back.specs.Chain.{Fillable, seen}

-- the ground g is that of what is lent, with the area A
pub record Over (l : Lent) (A : List ℕ) (g : Ground) : Type 0 where
  pub marks_are : g.step.words.marks ≡ l.question.network.marks
  pub net_is : net g ≡ network_of l.question.network l.question.from.now l.question.to.now l.question.kinds.now
  pub back_is : back g ≡ over_tie l.steps.now.table A l.question.condition.states l.question.from.now l.question.kinds.now

-- the answer, and what is left of the buffer c
abbrev pub answer_of : Result (Option Raised) Unlisted → Result Next Refused
answer_of (Err u) = Err (record { refusal = NotListed; place = 0 })
answer_of (Ok None) = Ok End
answer_of (Ok (Some R)) = Ok Chain

module _ (N : Network) (back : ℕ → ℕ → ℕ → ℕ) where
  -- the tie e is put at place i, and the places before it are filled
  abbrev pub raised_in : ℕ → ℕ → ℕ → List ℕ → List ℕ
  raised_in i e s c = fill N back i (from_of N e) s (e ∷ drop (suc i) c)

  abbrev pub left_by : List ℕ → Result (Option Raised) Unlisted → List ℕ
  left_by c (Err u) = c
  left_by c (Ok None) = c
  left_by c (Ok (Some R)) = raised_in R.place R.taken.tie.0 R.taken.alive c

  -- the place is one of n, and the places before it can be filled
  pub record Raises (n i e s : ℕ) : Type 0 where
    pub place_in : i < n
    pub tie_in : e < ties N
    pub fillable : Fillable N back i (from_of N e) s

  abbrev pub Raisable : ℕ → Result (Option Raised) Unlisted → Type 0
  Raisable n (Err u) = Unit {0}
  Raisable n (Ok None) = Unit {0}
  Raisable n (Ok (Some R)) = Raises n R.place R.taken.tie.0 R.taken.alive

  -- what is seen of the first n words, from t with the states of S alive there
  abbrev pub seen_in : ℕ → ℕ → ℕ → List ℕ → Result (Option Raised) Unlisted
  seen_in n t S c = seen (goes N back t S 0 (take n c)) (raise N back t S 0 (take n c))

  -- next answered x and left c'
  pub record Followed (n t S : ℕ) (c : List ℕ) (x : Result Next Refused) (c' : List ℕ) : Type 0 where
    pub answers : x ≡ answer_of (seen_in n t S c)
    pub leaves : c' ≡ left_by c (seen_in n t S c)
