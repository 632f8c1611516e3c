-- Two results of a call that meet its promise are equal, as the Rattle values that are handed back and as lists of words: each reading of an answer
-- tells its cases apart, and the number of a refusal tells its name.
use Prim.Native.Nat.{ℕ}
use Rattle.std.specs.Prelude.{Result, Ok, Err}
use mathlib.Core.Bool.{cond}
use mathlib.Core.Path.{◌≡◌, refl, sym, ◌∙◌, ap}
use lib.Dec.{eqb}
use Rattle.walk.specs.declared.Refusal.{Refusal}
use Rattle.walk.specs.declared.Refusal.TheVariants.{Sizes, BadTie, TieOrder, BadCondition, BadMove, BadEnds, ShortArea, WrongArea, Unfinished, ShortChain, NotListed}
use Rattle.walk.specs.declared.First.{First}
use Rattle.walk.specs.declared.First.TheVariants as first
use Rattle.walk.specs.declared.Next.{Next}
use Rattle.walk.specs.declared.Next.TheVariants as next
use Rattle.walk.specs.Refusals.{number}
use Rattle.walk.specs.Calls.{Answer, refused, gives, Reply, Chain, NoChain, End}
use Rattle.walk.specs.declared.Refused.{Refused}
use Rattle.walk.specs.Answers.{said, reply_first, reply_next, said_first, said_next, Unique}

-- the name of a number
pub named : ℕ → Refusal
named n =
    cond (eqb n 1) Sizes (cond (eqb n 2) BadTie (cond (eqb n 3) TieOrder (cond (eqb n 4) BadCondition (cond (eqb n 5) BadMove
    (cond (eqb n 6) BadEnds (cond (eqb n 7) ShortArea (cond (eqb n 8) WrongArea (cond (eqb n 9) Unfinished (cond (eqb n 10) ShortChain NotListed)))))))))

pub named_number : (x : Refusal) → named (number x) ≡ x
unfolding named
named_number Sizes = refl
named_number BadTie = refl
named_number TieOrder = refl
named_number BadCondition = refl
named_number BadMove = refl
named_number BadEnds = refl
named_number ShortArea = refl
named_number WrongArea = refl
named_number Unfinished = refl
named_number ShortChain = refl
named_number NotListed = refl

-- each answer can be read back from what it says
abbrev read : {R A : Type 0} → (A → R) → Answer A → Result R Refused
read back (refused n p) = Err (record { refusal = named n; place = p })
read back (gives x) = Ok (back x)

read_said : {R A : Type 0} (found : R → A) (back : A → R) → ((x : R) → back (found x) ≡ x) → (a : Result R Refused) → read back (said found a) ≡ a
read_said {R} found back e (Ok x) = ap (λ (y : R). Ok y) (e x)
read_said found back e (Err x) = ap (λ (n : Refusal). Err (record { refusal = n; place = x.place })) (named_number x.refusal)

-- so what meets a promise is one
pub unique : {A R B : Type 0} (said : R → Answer A) (read : Answer A → R) → ((a : R) → read (said a) ≡ a) → Unique said B
unique said read back d a b v w m n = (sym (back a) ∙ ap read (m.answers ∙ sym n.answers) ∙ back b, m.leaves ∙ sym n.leaves)

pub unique_said : {R A B : Type 0} (found : R → A) (back : A → R) → ((x : R) → back (found x) ≡ x) → Unique (said found) B
unique_said found back e = unique (said found) (read back) (read_said found back e)

abbrev first_of : Reply → First
first_of Chain = first.Chain
first_of NoChain = first.None
first_of End = first.None

first_back : (a : First) → first_of (reply_first a) ≡ a
first_back first.Chain = refl
first_back first.None = refl

pub unique_first : (B : Type 0) → Unique said_first B
unique_first B = unique_said reply_first first_of first_back

abbrev next_of : Reply → Next
next_of Chain = next.Chain
next_of NoChain = next.End
next_of End = next.End

next-back : (a : Next) → next_of (reply_next a) ≡ a
next-back next.Chain = refl
next-back next.End = refl

pub unique_next : (B : Type 0) → Unique said_next B
unique_next B = unique_said reply_next next_of next-back
