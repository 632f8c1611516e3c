-- The Rattle values that are lent and handed back, in the numbers and values of document 01. A promise says that what is said by the
-- result is what the call's definition answers, and that the buffer is what it leaves.
use Rattle.std.specs.Prelude.{◌≡◌, ℕ, List, Result, Ok, Err}
use Rattle.walk.specs.declared.Network as network
use Rattle.walk.specs.declared.Condition as condition
use Rattle.walk.specs.declared.Ask.{Ask}
use Rattle.walk.specs.declared.Move.{Move}
use Rattle.walk.specs.declared.Question as lent
use Rattle.walk.specs.declared.Refused.{Refused}
use Rattle.walk.specs.declared.First.{First}
use Rattle.walk.specs.declared.First.TheVariants as first
use Rattle.walk.specs.declared.Next.{Next}
use Rattle.walk.specs.declared.Next.TheVariants as next
use Rattle.walk.specs.Network.{Network}
use Rattle.walk.specs.Condition.{Condition}
use Rattle.walk.specs.Question.{Question}
use Rattle.walk.specs.Refusals.{number}
use Rattle.walk.specs.Calls.{Answer, refused, gives, Reply, Chain, NoChain, End, Done}

-- what is lent, as the definitions speak of it
abbrev pub network_of : network.Network → List ℕ → List ℕ → List ℕ → Network
network_of n froms tos sets = record { marks = n.marks; kinds = n.kinds; froms = froms; tos = tos; sets = sets }

abbrev pub condition_of : condition.Condition → List Move → Condition
condition_of c moves = record { states = c.states; start = c.start; accept = c.accept; moves = moves }

abbrev pub question : network.Network → condition.Condition → Ask → List ℕ → List ℕ → List ℕ → List Move → Question
question n c a froms tos sets moves = record { network = network_of n froms tos sets; condition = condition_of c moves; from = a.from; to = a.to }

-- the question that is lent, with the moves that are lent beside it
abbrev pub asked : lent.Question → List Move → Question
asked q moves = question q.network q.condition q.ask q.from.now q.to.now q.kinds.now moves

-- what each case of an answer says
abbrev pub said : {R A : Type 0} → (R → A) → Result R Refused → Answer A
said found (Ok x) = gives (found x)
said found (Err e) = refused (number e.refusal) e.place

abbrev pub reply_first : First → Reply
reply_first first.Chain = Chain
reply_first first.None = NoChain

abbrev pub reply_next : Next → Reply
reply_next next.Chain = Chain
reply_next next.End = End

abbrev pub said_first : Result First Refused → Answer Reply
said_first = said reply_first

abbrev pub said_next : Result Next Refused → Answer Reply
said_next = said reply_next

-- the promise: a call answered a and left the words w in its buffer, as its definition d says
pub record Meets {A B : Type 0} (d : Done A B) (a : Answer A) (w : B) : Type 0 where
  pub answers : a ≡ d.answer
  pub leaves : w ≡ d.left

-- 01: "Two results that satisfy it are shown equal": as Rattle values R that `said` reads, and as what is left
abbrev pub Unique : {A R : Type 0} → (R → Answer A) → Type 0 → Type 0
Unique {A} {R} said B = (d : Done A B) (a b : R) (v w : B) → Meets d (said a) v → Meets d (said b) w → (a ≡ b) × (v ≡ w)
