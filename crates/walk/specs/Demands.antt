-- The three demands, as types over the calls, in the walk paper's words. proofs/Demand1, Demand2, CountRule and Demand3 prove them.
use Rattle.std.specs.Prelude.{ℕ, suc, ◌+◌, ◌*◌, ◌≤◌, ◌<◌, ◌≡◌, true, false, ◌↔◌, ◌⊎◌, length, get_or, take, drop}
use mathlib.Core.List.{List, [], ◌∷◌, ◌++◌, Memᴰ}
use Rattle.walk.specs.declared.Status.{Status}
use Rattle.walk.specs.declared.Status.TheVariants.{Found, None, Going}
use Rattle.walk.specs.Ceilings.{ceilings}
use Rattle.walk.specs.Numbers.{has}
use Rattle.walk.specs.Network.{Network, ties, from_of, to_of, kinds_of}
use Rattle.walk.specs.Condition.{Condition, move_at}
use Rattle.walk.specs.Walk.{Fits, LeastReaching, LeastMatching, Listed}
use Rattle.walk.specs.Chains.{before}
use Rattle.walk.specs.Question.{Question, usable, pairs, status, listing}
use Rattle.walk.specs.Refusals.{Row, number, sizes, bad_tie, tie_order, bad_condition, bad_move, bad_ends, short_area, wrong_area, unfinished, short_chain, not_listed, start_tests, round_tests, first_tests, next_tests}
use Rattle.walk.specs.Calls.{refused, Progress, Chain, NoChain, End, Done, leave, start, round, first, next}

-- the words of the demands
abbrev pub NoneGiven : List Row → Type 0
NoneGiven l = (x : Row) → Memᴰ x l → x.given ≡ false

-- x is the first row of the list that is given
pub record FirstGiven (l : List Row) (x : Row) : Type 0 where
  pub earlier : List Row
  pub later : List Row
  pub stands : l ≡ earlier ++ (x ∷ later)
  pub passed : NoneGiven earlier
  pub given : x.given ≡ true

-- the call's answer is a refusal exactly when a row of its list is given: the first such row's number and place; then what it may write is
-- as it was lent
pub record Refuses {A B : Type 0} (l : List Row) (lent : B) (d : Done A B) : Type 0 where
  pub exactly : (n p : ℕ) → (d.answer ≡ refused n p)
      ↔ ((x : Row) × FirstGiven l x × (number x.name ≡ n) × (x.place ≡ p))
  pub stays : (n p : ℕ) → d.answer ≡ refused n p → d.left ≡ lent

-- a row of the table: its number, given exactly when it is not so that `ok`, and its place
pub record Says (no : ℕ) (ok : Type 0) (place : ℕ) (x : Row) : Type 0 where
  pub numbered : number x.name ≡ no
  pub passes : (x.given ≡ false) ↔ ok
  pub placed : x.place ≡ place

-- a row that asks each of n ties or moves: its place is the first that is not so
pub record SaysFirst (no n : ℕ) (ok : ℕ → Type 0) (x : Row) : Type 0 where
  pub numbered : number x.name ≡ no
  pub passes : (x.given ≡ false) ↔ ((i : ℕ) → i < n → ok i)
  pub first_such : x.given ≡ true → (x.place < n) × (ok x.place → ⊥) × ((i : ℕ) → i < x.place → ok i)

abbrev pub Finished : Status → Type 0
Finished S = S ≡ Going → ⊥

-- each row of the list comes before every later one
abbrev pub Rises : List (List ℕ) → Type 0
Rises [] = Unit {0}
Rises (x ∷ xs) = ((y : List ℕ) → Memᴰ y xs → before x y ≡ true) × Rises xs

module _ (D : Question) where
  -- the network as it is lent, as a chain may use it, and the condition
  abbrev lent : Network
  lent = D.network

  abbrev N : Network
  N = usable D

  abbrev C : Condition
  C = D.condition

  -- what refusals 1 to 6 ask for
  pub record SizesRight : Type 0 where
    pub marks : (1 ≤ lent.marks) × (lent.marks ≤ ceilings.marks)
    pub kinds : (1 ≤ lent.kinds) × (lent.kinds ≤ ceilings.kinds)
    pub few : ties lent ≤ ceilings.ties
    pub columns : (length lent.tos ≡ ties lent) × (length lent.sets ≡ ties lent)

  pub record TieRight (e : ℕ) : Type 0 where
    pub from : from_of lent e < lent.marks
    pub to : to_of lent e < lent.marks
    pub kinds : (k : ℕ) → has (kinds_of lent e) k ≡ true → k < lent.kinds

  abbrev pub InOrder : ℕ → Type 0
  InOrder e = (i : ℕ) → e ≡ suc i → to_of lent i ≤ to_of lent e

  pub record ConditionRight : Type 0 where
    pub states : (1 ≤ C.states) × (C.states ≤ ceilings.states)
    pub few : length C.moves ≤ ceilings.moves
    pub start : (q : ℕ) → has C.start q ≡ true → q < C.states
    pub accept : (q : ℕ) → has C.accept q ≡ true → q < C.states

  pub record MoveRight (j : ℕ) : Type 0 where
    pub from : (move_at C j).from < C.states
    pub kind : (move_at C j).kind < lent.kinds
    pub to : (move_at C j).to < C.states

  pub record Accepted : Type 0 where
    pub sizes : SizesRight
    pub tie : (e : ℕ) → e < ties lent → TieRight e
    pub order : (e : ℕ) → e < ties lent → InOrder e
    pub condition : ConditionRight
    pub move : (j : ℕ) → j < length C.moves → MoveRight j
    pub ends : (D.from < lent.marks) × (D.to < lent.marks)

  -- the word x of a pair is its least length, if that is at most n, and else 65,535; and all words of the area a are such
  abbrev pub RightWord : ℕ → ℕ → ℕ → ℕ → Type 0
  RightWord n v q x =
      ((x ≤ n) × LeastReaching N C D.from v q x)
      ⊎ ((x ≡ ceilings.unreached) × ((d : ℕ) → LeastReaching N C D.from v q d → n < d))

  abbrev pub RightArea : ℕ → List ℕ → Type 0
  RightArea n a = (v q : ℕ) → v < N.marks → q < C.states → RightWord n v q (get_or a (v * C.states + q) 0)

  abbrev pub NoMatch : Type 0
  NoMatch = (c : List ℕ) → Fits N C D.from D.to c → ⊥

  -- some pair has the least length r
  abbrev pub PairAt : ℕ → Type 0
  PairAt r = (v : ℕ) × (q : ℕ) × (v < N.marks) × (q < C.states) × LeastReaching N C D.from v q r

  -- demand 1: "Bad input is refused by number, in the fixed order of the rules, and a refusal changes nothing in any buffer lent to it."
  -- Each call refuses by its rows, and the rows are those of the table
  pub record Demand1 (r : ℕ) (w c : List ℕ) : Type 0 where
    pub of_start : Refuses (start_tests D w) w (start D w)
    pub of_round : Refuses (round_tests D r w) w (round D r w)
    pub of_first : Refuses (first_tests D r w c) c (first D r w c)
    pub of_next : Refuses (next_tests D r w c) c (next D r w c)
    pub row_1 : Says 1 SizesRight 0 (sizes D)
    pub row_2 : SaysFirst 2 (ties lent) TieRight (bad_tie D)
    pub row_3 : SaysFirst 3 (ties lent) InOrder (tie_order D)
    pub row_4 : Says 4 ConditionRight 0 (bad_condition D)
    pub row_5 : SaysFirst 5 (length C.moves) MoveRight (bad_move D)
    pub row_6 : Says 6 ((D.from < lent.marks) × (D.to < lent.marks)) 0 (bad_ends D)
    pub row_7 : Says 7 (pairs D ≤ length w) (pairs D) (short_area D w)
    pub row_8 : Accepted → pairs D ≤ length w → Says 8 ((r ≤ pairs D) × RightArea r w) 0 (wrong_area D r w)
    pub row_9 : Says 9 (Finished (status D r)) 0 (unfinished D r)
    pub row_10 : (n : ℕ) → status D r ≡ Found n → Says 10 (n ≤ length c) n (short_chain D r c)
    pub row_11 : Accepted → r ≤ pairs D
        → Says 11 ((n : ℕ) × (status D r ≡ Found n) × Listed N C D.from D.to (take n c)) 0 (not_listed D r c)

  -- demand 2: "After r rounds of preparation, none of them made once it had finished, the area holds, for every mark and state, the
  -- least number of ties that reaches it if that is at most r, and otherwise the mark for unreached. Carried to its finish, preparation says
  -- "none" exactly when no chain from the one mark to the other meets the condition as the walk paper defines it, and otherwise gives the
  -- least length."
  -- what a status says, at any count
  pub record StatusIs (r : ℕ) : Type 0 where
    pub found : (d : ℕ) → (status D r ≡ Found d) ↔ ((d ≤ r) × LeastMatching N C D.from D.to d)
    pub none : (status D r ≡ None) ↔ (NoMatch × (PairAt r → ⊥))
    pub going : (status D r ≡ Going) ↔ (((c : List ℕ) → Fits N C D.from D.to c → r < length c) × PairAt r)

  -- n rounds were made from start on the area w, each on what the call before left and while that said Going; the last answer was p, and the
  -- area is a
  pub data Made (w : List ℕ) : ℕ → Progress → List ℕ → Type 0 where
    begun : {p : Progress} {a : List ℕ} → start D w ≡ leave p a → Made w 0 p a
    again : {n : ℕ} {p q : Progress} {a b : List ℕ} → Made w n p a → p.status ≡ Going → round D p.done a ≡ leave q b → Made w (suc n) q b

  pub record RightAfter (w : List ℕ) (n : ℕ) (p : Progress) (a : List ℕ) : Type 0 where
    pub words : RightArea n a
    pub rest : drop (pairs D) a ≡ drop (pairs D) w
    pub long : length a ≡ length w
    -- 01: "A least length is at most V×Q - 1, so at most 32,767"
    pub bounded : (d : ℕ) → PairAt d → d < pairs D
    pub short : (d : ℕ) → LeastMatching N C D.from D.to d → d < pairs D
    pub ceiling : pairs D ≤ ceilings.words
    pub none : Finished p.status → (p.status ≡ None) ↔ NoMatch
    pub found : Finished p.status → (d : ℕ) → (p.status ≡ Found d) ↔ LeastMatching N C D.from D.to d
    -- 01: "A round on a Found or None area changes nothing and gives the same count and status."
    pub idle : Finished p.status → round D p.done a ≡ leave p a

  -- a preparation that has come to its finish
  pub record Finish (w : List ℕ) : Type 0 where
    pub rounds : ℕ
    pub last : Progress
    pub area : List ℕ
    pub made : Made w rounds last area
    pub finished : Finished last.status

  -- every preparation is right, and wherever start is not refused one comes to its finish
  pub record Demand2 (w : List ℕ) : Type 0 where
    pub status-is : Accepted → (r : ℕ) → r ≤ pairs D → StatusIs r
    pub right : (n : ℕ) (p : Progress) (a : List ℕ) → Made w n p a → RightAfter w n p a
    pub finish : (p : Progress) (b : List ℕ) → start D w ≡ leave p b → Finish w

  -- the count rule. 01: "If a match exists, the count when Found first shows equals its least length. If none exists, the count when
  -- None first shows is 0 with no reached pair, otherwise 1 plus the greatest least length of any reached pair; it is never above V×Q. So
  -- at the first Found or None of a preparation begun by start, the reported count equals the number of rounds the definition needs."
  pub record Counted (n : ℕ) (p : Progress) : Type 0 where
    pub made : p.done ≡ n
    pub found : (d : ℕ) → p.status ≡ Found d → p.done ≡ d
    pub none : p.status ≡ None
        → ((p.done ≡ 0) × ((d : ℕ) → PairAt d → ⊥))
        ⊎ ((d : ℕ) × (p.done ≡ suc d) × PairAt d × ((e : ℕ) → PairAt e → e ≤ d))
    pub within : p.done ≤ pairs D

  abbrev pub CountRule : List ℕ → Type 0
  CountRule w = (n : ℕ) (p : Progress) (a : List ℕ) → Made w n p a → Counted n p

  -- demand 3: "With the preparation finished, a chain found, room for one chain, and network, condition, marks, area and the count of
  -- rounds unchanged, asking for the first chain and handing each one back for the next yields every matching chain of least length, each
  -- exactly once, nothing else, in order of tie number compared from the last tie backwards, and then "end". Any chain of that list, handed
  -- back at any time, gets the one after it, and the last gets "end"."
  -- next, handed the chain c in front of x and then each chain that it puts there, gives the chains l and then End; x stays
  pub data Yields (r : ℕ) (a x : List ℕ) : List ℕ → List (List ℕ) → Type 0 where
    ends : {c : List ℕ} → next D r a (c ++ x) ≡ leave End (c ++ x) → Yields r a x c []
    more : {c y : List ℕ} {l : List (List ℕ)} → next D r a (c ++ x) ≡ leave Chain (y ++ x)
        → Yields r a x y l → Yields r a x c (y ∷ l)

  -- first on the buffer b gives a chain, and handing each one back gives the others and then End; together they are the list
  pub record Asking (r : ℕ) (a : List ℕ) (n : ℕ) (b : List ℕ) : Type 0 where
    pub chain : List ℕ
    pub others : List (List ℕ)
    pub begins : first D r a b ≡ leave Chain (chain ++ drop n b)
    pub goes_on : Yields r a (drop n b) chain others
    pub whole : listing D n ≡ chain ∷ others

  -- the list of chains of least length n, with the count r and the area a: what it holds, its order, that asking for all of it gives it, and
  -- what any of its chains gets that is handed back in front of any x
  pub record Lists (r : ℕ) (a : List ℕ) (n : ℕ) : Type 0 where
    pub all : (c : List ℕ) → Memᴰ c (listing D n) ↔ Listed N C D.from D.to c
    pub rises : Rises (listing D n)
    pub once : (xs ys : List (List ℕ)) (c : List ℕ) → listing D n ≡ xs ++ (c ∷ ys) → (Memᴰ c xs → ⊥) × (Memᴰ c ys → ⊥)
    pub asking : (b : List ℕ) → n ≤ length b → Asking r a n b
    pub after : (xs ys : List (List ℕ)) (c y x : List ℕ) → listing D n ≡ xs ++ (c ∷ (y ∷ ys)) → next D r a (c ++ x) ≡ leave Chain (y ++ x)
    pub last : (xs : List (List ℕ)) (c x : List ℕ) → listing D n ≡ xs ++ (c ∷ []) → next D r a (c ++ x) ≡ leave End (c ++ x)

  -- finished is what a round leaves as it is, whatever the count: Found gives the list, and None no chain
  pub record Demand3 : Type 0 where
    pub found : (n : ℕ) (p : Progress) (a : List ℕ) → round D p.done a ≡ leave p a → p.status ≡ Found n → Lists p.done a n
    pub none : (p : Progress) (a b : List ℕ) → round D p.done a ≡ leave p a → p.status ≡ None → first D p.done a b ≡ leave NoChain b
