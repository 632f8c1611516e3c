-- Rows of the area: the Q words of one mark.
use Rattle.std.specs.Prelude.{ℕ, ◌+◌, ◌*◌, ◌≤◌, ◌<◌, Bool, ◌||◌, not, cond, List, ◌⊎◌, ◌≡◌, leb, ltb, eqb, length, get_or, take, drop}
use Rattle.walk.specs.Ceilings.{ceilings}
use Rattle.walk.specs.Numbers.{has, ◌and◌, any_below}

-- the row of mark v
abbrev pub row : List ℕ → ℕ → ℕ → List ℕ
row A Q v = take Q (drop (v * Q) A)

-- what refusals 1, 4 and 7 leave: V, K and Q within their ceilings, and room for V×Q words
pub record Sized (marks kinds states : ℕ) (A : List ℕ) : Type 0 where
  pub few : marks ≤ ceilings.marks
  pub kinds_few : kinds ≤ ceilings.kinds
  pub narrow : states ≤ ceilings.states
  pub room : marks * states ≤ length A

-- the word of a pair for 0 rounds: 0 at a start pair
abbrev pub opening : ℕ → ℕ → ℕ → ℕ → ℕ
opening s start v q = cond (eqb s v and has start q) 0 ceilings.unreached

-- as many words as the ceiling of states, of which the first Q are f
pub record Row (b : List ℕ) (Q : ℕ) (f : ℕ → ℕ) : Type 0 where
  pub size : length b ≡ ceilings.states
  pub says : (q : ℕ) → q < Q → get_or b q 0 ≡ f q

-- some of the first n words of W is not that of b
abbrev pub differ : List ℕ → List ℕ → ℕ → Bool
differ W b n = any_below n (λ q. not (eqb (get_or W q 0) (get_or b q 0)))

-- the row b is written from the place `at` on, and nothing else
pub record Put (A A' b : List ℕ) (at Q : ℕ) : Type 0 where
  pub size : length A' ≡ length A
  pub inside : (q : ℕ) → q < Q → get_or A' (at + q) 0 ≡ get_or b q 0
  pub outside : (i : ℕ) → (i < at) ⊎ (at + Q ≤ i) → get_or A' i 0 ≡ get_or A i 0

-- the rows of the marks before v are f, and nothing else is written
pub record RowsTo (A A' : List ℕ) (Q v : ℕ) (f : ℕ → ℕ → ℕ) : Type 0 where
  pub size : length A' ≡ length A
  pub before : (u q : ℕ) → u < v → q < Q → get_or A' (u * Q + q) 0 ≡ f u q
  pub after : (i : ℕ) → v * Q ≤ i → get_or A' i 0 ≡ get_or A i 0

-- d lies from lo to below hi
abbrev pub between : ℕ → ℕ → ℕ → Bool
between lo hi d = leb lo d and ltb d hi

-- x is the set s with p in it if the test t passes
abbrev pub Joined : ℕ → ℕ → ℕ → Bool → Type 0
Joined x s p t = (q : ℕ) → has x q ≡ (has s q || (eqb p q and t))

-- the states whose word lies in that range: of a row of n words, and of each mark before n
abbrev pub AliveRow : ℕ → List ℕ → ℕ → ℕ → ℕ → Type 0
AliveRow set words n lo hi = (p : ℕ) → has set p ≡ (ltb p n and between lo hi (get_or words p 0))

abbrev pub Alive : List ℕ → List ℕ → ℕ → ℕ → ℕ → ℕ → Type 0
Alive L A n Q lo hi = (u p : ℕ) → u < n → has (get_or L u 0) p ≡ (ltb p Q and between lo hi (get_or A (u * Q + p) 0))
