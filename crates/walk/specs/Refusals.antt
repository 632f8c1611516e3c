-- The table of refusals: each row with its name, when it is given, and its place; and the rows that each call tests, in order.
use Rattle.std.specs.Prelude.{ℕ, ◌-◌, Bool, true, false, not, List, [], ◌∷◌, ◌++◌, leb, ltb, eqb, length, take}
use Rattle.walk.specs.declared.Status.{Status}
use Rattle.walk.specs.declared.Status.TheVariants.{Found, None, Going}
use Rattle.walk.specs.declared.Refusal.{Refusal}
use Rattle.walk.specs.declared.Refusal.TheVariants.{Sizes, BadTie, TieOrder, BadCondition, BadMove, BadEnds, ShortArea, WrongArea, Unfinished, ShortChain, NotListed}
use Rattle.walk.specs.Ceilings.{ceilings}
use Rattle.walk.specs.Numbers.{◌and◌, least, only_below, same}
use Rattle.walk.specs.Network.{Network, ties, from_of, to_of, kinds_of}
use Rattle.walk.specs.Condition.{Condition, move_at}
use Rattle.walk.specs.Chains.{member}
use Rattle.walk.specs.Question.{Question, pairs, right, status, listing}

-- 01, the column "No."
abbrev pub number : Refusal → ℕ
number Sizes = 1
number BadTie = 2
number TieOrder = 3
number BadCondition = 4
number BadMove = 5
number BadEnds = 6
number ShortArea = 7
number WrongArea = 8
number Unfinished = 9
number ShortChain = 10
number NotListed = 11

-- a row of the table: the columns "Given exactly when" and "Place"
pub record Row : Type 0 where
  pub name : Refusal
  pub given : Bool
  pub place : ℕ

abbrev pub row : Refusal → Bool → ℕ → Row
row n b p = record { name = n; given = b; place = p }

-- given at the first of n places that is bad
abbrev pub at_first : Refusal → ℕ → (ℕ → Bool) → Row
at_first x n bad = row x (ltb (least bad n) n) (least bad n)

-- a number from lo to hi
abbrev within : ℕ → ℕ → ℕ → Bool
within lo x hi = leb lo x and leb x hi

-- what the rows ask of a status
abbrev pub is_going : Status → Bool
is_going (Found n) = false
is_going None = false
is_going Going = true

-- the least length; with none found 0, which no buffer is shorter than
abbrev pub length_of : Status → ℕ
length_of (Found n) = n
length_of None = 0
length_of Going = 0

-- "V, K or E past its ceiling or V, K zero, or columns of unequal length"
unfoldable pub bad_sizes : Network → Bool
bad_sizes N =
    not (within 1 N.marks ceilings.marks and within 1 N.kinds ceilings.kinds and leb (ties N) ceilings.ties
    and eqb (length N.tos) (ties N) and eqb (length N.sets) (ties N))

-- tie e "names a mark not below V or a kind not below K"
unfoldable pub bad_tie_at : Network → ℕ → Bool
bad_tie_at N e = not (ltb (from_of N e) N.marks and ltb (to_of N e) N.marks and only_below N.kinds (kinds_of N e))

-- the to mark of tie e "is below that of the tie before"
unfoldable pub late_at : Network → ℕ → Bool
late_at N e = ltb 0 e and ltb (to_of N e) (to_of N (e - 1))

-- "Q or the move count outside its ceiling, or a start or accepting state not below Q"
unfoldable pub bad_states : Condition → Bool
bad_states C =
    not (within 1 C.states ceilings.states and leb (length C.moves) ceilings.moves
    and only_below C.states C.start and only_below C.states C.accept)

-- with K kinds, move j "names a state not below Q or a kind not below K"
unfoldable pub bad_move_at : ℕ → Condition → ℕ → Bool
bad_move_at K C j = let m = move_at C j in not (ltb m.from C.states and ltb m.kind K and ltb m.to C.states)

module _ (D : Question) where
  abbrev N : Network
  N = D.network

  abbrev C : Condition
  C = D.condition

  unfoldable pub sizes : Row
  sizes = row Sizes (bad_sizes N) 0

  -- at the "first such tie"
  unfoldable pub bad_tie : Row
  bad_tie = at_first BadTie (ties N) (bad_tie_at N)

  unfoldable pub tie_order : Row
  tie_order = at_first TieOrder (ties N) (late_at N)

  unfoldable pub bad_condition : Row
  bad_condition = row BadCondition (bad_states C) 0

  -- at the "first such move"
  unfoldable pub bad_move : Row
  bad_move = at_first BadMove (length C.moves) (bad_move_at N.kinds C)

  -- "s or t not below V"
  unfoldable pub bad_ends : Row
  bad_ends = row BadEnds (not (ltb D.from N.marks and ltb D.to N.marks)) 0

  -- "area shorter than V×Q words", place "V×Q"
  unfoldable pub short_area : List ℕ → Row
  short_area w = row ShortArea (ltb (length w) (pairs D)) (pairs D)

  -- "rounds above V×Q, or the area is not the right one for them"
  unfoldable pub wrong_area : ℕ → List ℕ → Row
  wrong_area r w = row WrongArea (not (leb r (pairs D) and same (take (pairs D) w) (right D r))) 0

  -- "first or next, status Going"
  unfoldable pub unfinished : ℕ → Row
  unfinished r = row Unfinished (is_going (status D r)) 0

  -- "first or next, status Found, chain buffer shorter than the least length", place "least length"
  unfoldable pub short_chain : ℕ → List ℕ → Row
  short_chain r c = row ShortChain (ltb (length c) (length_of (status D r))) (length_of (status D r))

  -- "next, when the chain handed in is no listed chain, or status None"; while Going 9 comes first
  abbrev pub unlisted : List ℕ → Status → Bool
  unlisted c (Found n) = not (member (take n c) (listing D n))
  unlisted c None = true
  unlisted c Going = true

  unfoldable pub not_listed : ℕ → List ℕ → Row
  not_listed r c = row NotListed (unlisted c (status D r)) 0

  -- 01: "Start gives 1 to 7, a round 1 to 8, first 1 to 10, next all." The first six look at no buffer.
  unfoldable pub lent_tests : List Row
  lent_tests = sizes ∷ bad_tie ∷ tie_order ∷ bad_condition ∷ bad_move ∷ bad_ends ∷ []

  unfoldable pub start_tests : List ℕ → List Row
  start_tests w = lent_tests ++ (short_area w ∷ [])

  unfoldable pub round_tests : ℕ → List ℕ → List Row
  round_tests r w = start_tests w ++ (wrong_area r w ∷ [])

  -- 1 to 9
  unfoldable pub list_tests : ℕ → List ℕ → List Row
  list_tests r w = round_tests r w ++ (unfinished r ∷ [])

  unfoldable pub first_tests : ℕ → List ℕ → List ℕ → List Row
  first_tests r w c = list_tests r w ++ (short_chain r c ∷ [])

  unfoldable pub next_tests : ℕ → List ℕ → List ℕ → List Row
  next_tests r w c = first_tests r w c ++ (not_listed r c ∷ [])
