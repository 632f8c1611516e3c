-- The definitions of source document 000, numbers 5 to 8, as types. They decide; everything that computes is proved equal to them.
use Rattle.std.specs.Prelude.{ℕ, ◌≤◌, ◌<◌, ◌≡◌, true, List, [], ◌∷◌, length}
use Rattle.walk.specs.Numbers.{has}
use Rattle.walk.specs.Network.{Network, ties, from_of, to_of, kinds_of}
use Rattle.walk.specs.Condition.{Condition, starts, accepts, follows}

-- 01: "A chain of length n from s to t is n tie numbers. With n = 0 it is the empty chain, and only s = t has it. Otherwise the first
-- tie leaves s, the last enters t, and each tie leaves the mark that the one before entered." (definition 5)
abbrev pub Joins : Network → ℕ → List ℕ → ℕ → Type 0
Joins N s [] t = s ≡ t
Joins N s (e ∷ c) t = (e < ties N) × (from_of N e ≡ s) × Joins N (to_of N e) c t

-- 01: "one kind can be chosen from each tie, in turn": the row of kinds w is a label of the chain c (definition 5)
abbrev pub Label : Network → List ℕ → List ℕ → Type 0
Label N [] [] = Unit {0}
Label N [] (k ∷ w) = ⊥
Label N (e ∷ c) [] = ⊥
Label N (e ∷ c) (k ∷ w) = (has (kinds_of N e) k ≡ true) × Label N c w

-- 01: "some row of moves spells those kinds" from the state p to the state q (definition 6, the relation Δ over words)
abbrev pub Spells : Condition → ℕ → List ℕ → ℕ → Type 0
Spells C p [] q = p ≡ q
Spells C p (k ∷ w) q = (o : ℕ) × (follows C p k o ≡ true) × Spells C o w q

-- some chain of length d is one of P, and none of P is shorter
pub record LeastLength (P : List ℕ → Type 0) (d : ℕ) : Type 0 where
  pub met : (c : List ℕ) × (length c ≡ d) × P c
  pub least : (c : List ℕ) → P c → d ≤ length c

module _ (N : Network) (C : Condition) where
  -- 01: "A chain reaches state q if one kind can be chosen from each tie, in turn, so that some row of moves spells those kinds from a
  -- start state to q."
  abbrev pub Reaches : List ℕ → ℕ → Type 0
  Reaches c q = (p : ℕ) × (starts C p ≡ true) × ((w : List ℕ) × Label N c w × Spells C p w q)

  -- 01: "It matches if it reaches an accepting state." (definition 7)
  abbrev pub Matches : List ℕ → Type 0
  Matches c = (q : ℕ) × (accepts C q ≡ true) × Reaches c q

  -- the least length of a chain from s to v that reaches the state q is d
  abbrev pub LeastReaching : ℕ → ℕ → ℕ → ℕ → Type 0
  LeastReaching s v q d = LeastLength (λ c. Joins N s c v × Reaches c q) d

  -- the chain c goes from s to t and matches
  abbrev pub Fits : ℕ → ℕ → List ℕ → Type 0
  Fits s t c = Joins N s c t × Matches c

  -- the least length of a matching chain from s to t is d (definition 8, λ)
  abbrev pub LeastMatching : ℕ → ℕ → ℕ → Type 0
  LeastMatching s t d = LeastLength (Fits s t) d

  -- the chain c is listed: it goes from s to t, matches, and has the least length of those that do (definition 8)
  pub record Listed (s t : ℕ) (c : List ℕ) : Type 0 where
    pub fits : Fits s t c
    pub shortest : LeastMatching s t (length c)
