-- Sessions at the desk: calls made one after the other on what was lent once, each with its answer and with both buffers after it.
use Rattle.std.specs.Prelude.{ℕ, zero, suc, ◌+◌, cond, List, [], ◌∷◌}
use Rattle.walk.specs.declared.Status.{Status}
use Rattle.walk.specs.Numbers.{has, ◌and◌}
use Rattle.walk.specs.Network.{Network, kinds_of}
use Rattle.walk.specs.Condition.{Condition, starts, accepts, follows}
use Rattle.walk.specs.Question.{Question, usable}
use Rattle.walk.specs.Calls as Calls

-- 01: "Chain 0 3 can be met in four ways": the ways are the rows of kinds together with the states that they lead through
unfoldable pub sum_below : ℕ → (ℕ → ℕ) → ℕ
sum_below zero f = 0
sum_below (suc n) f = f n + sum_below n f

module _ (N : Network) (C : Condition) where
  -- how many ways lead along the chain from the state p to an accepting state, and from any start state
  unfoldable pub ways_from : ℕ → List ℕ → ℕ
  ways_from p [] = cond (accepts C p) 1 0
  ways_from p (e ∷ c) = sum_below C.states (λ q. sum_below N.kinds (λ k. cond (has (kinds_of N e) k and follows C p k q) (ways_from q c) 0))

  unfoldable pub ways : List ℕ → ℕ
  ways c = sum_below C.states (λ p. cond (starts C p) (ways_from p c) 0)

-- the four calls, with the count of rounds that is handed in; and the question, which is no call, in how many ways a chain can be met
pub data Call : Type 0 where
  start : Call
  round : ℕ → Call
  first : ℕ → Call
  next : ℕ → Call
  ways_of : List ℕ → Call

-- what is heard of any of them
pub data Heard : Type 0 where
  refused : ℕ → ℕ → Heard
  after : ℕ → Status → Heard
  chain : Heard
  none : Heard
  end : Heard
  ways_are : ℕ → Heard

-- a call, its answer, and the two buffers after it
pub record Step : Type 0 where
  pub asked : Call
  pub heard : Heard
  pub area : List ℕ
  pub chain : List ℕ

-- what is asked and lent, and the calls that are made
pub record Session : Type 0 where
  pub question : Question
  pub area : List ℕ
  pub chain : List ℕ
  pub steps : List Step

abbrev progress : Calls.Answer Calls.Progress → Heard
progress (Calls.refused n p) = refused n p
progress (Calls.gives a) = after a.done a.status

abbrev replied : Calls.Reply → Heard
replied Calls.Chain = chain
replied Calls.NoChain = none
replied Calls.End = end

abbrev reply : Calls.Answer Calls.Reply → Heard
reply (Calls.refused n p) = refused n p
reply (Calls.gives a) = replied a

abbrev prepares : Call → Calls.Done Calls.Progress (List ℕ) → List ℕ → Step
prepares k d c = record { asked = k; heard = progress d.answer; area = d.left; chain = c }

abbrev lists : Call → Calls.Done Calls.Reply (List ℕ) → List ℕ → Step
lists k d w = record { asked = k; heard = reply d.answer; area = w; chain = d.left }

-- one call on the area w and the chain buffer c
abbrev made : Question → List ℕ → List ℕ → Call → Step
made D w c start = prepares start (Calls.start D w) c
made D w c (round r) = prepares (round r) (Calls.round D r w) c
made D w c (first r) = lists (first r) (Calls.first D r w c) w
made D w c (next r) = lists (next r) (Calls.next D r w c) w
made D w c (ways_of d) = record { asked = ways_of d; heard = ways_are (ways (usable D) D.condition d); area = w; chain = c }

-- the calls of the steps, made one after the other
unfoldable pub play : Question → List ℕ → List ℕ → List Step → List Step
play D w c [] = []
play D w c (x ∷ xs) = let y = made D w c x.asked in y ∷ play D y.area y.chain xs

-- the session as the definitions have it go
unfoldable pub run : Session → Session
run k = record { question = k.question; area = k.area; chain = k.chain; steps = play k.question k.area k.chain k.steps }
