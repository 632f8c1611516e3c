-- What the definitions are claimed to compute: the two tables of cases, and what of network N the demands are applied to. proofs/AllCases proves it.
use Rattle.std.specs.Prelude.{ℕ, ◌/◌, ◌%◌, ◌≡◌, Bool, true, false, List, [], ◌∷◌, map}
use Rattle.walk.specs.declared.Status.{Status}
use Rattle.walk.specs.declared.Status.TheVariants.{Found, None, Going}
use Rattle.walk.specs.Numbers.{table}
use Rattle.walk.specs.Area as A
use Rattle.walk.specs.Chains as C
use Rattle.walk.specs.Question as Q
use Rattle.walk.specs.Refusals as R
use Rattle.walk.specs.Calls as K
use Rattle.walk.specs.Sessions.{run}
use Rattle.walk.specs.Cases.{starred, net_n, sets_n, cond_n, N, blank, after0, after1, after2, lone, lone0, buf}
use Rattle.walk.specs.OwnCases.{own}

abbrev said : ℕ → Status → List ℕ → K.Done K.Progress (List ℕ)
said r S w = K.leave (record { done = r; status = S }) w

-- the numbers of a call's tests, in order
abbrev numbers : List R.Row → List ℕ
numbers l = map (λ x. R.number x.name) l

-- the pairs, as places of the area, that chains of exactly n ties reach in N
abbrev layer : ℕ → List Bool
layer n = table 8 (λ i. A.reach (net_n sets_n) (cond_n 1) 0 n (i / 2) (i % 2))

pub record Claims : Type 0 where
  -- each session of the starred cases goes as the table says
  pub starred_cases : map run starred ≡ starred
  -- and of our own cases
  pub own_cases : map run own ≡ own
  -- 01: "Start gives 1 to 7, a round 1 to 8, first 1 to 10, next all."
  pub start_numbers : numbers (R.start_tests N blank) ≡ 1 ∷ 2 ∷ 3 ∷ 4 ∷ 5 ∷ 6 ∷ 7 ∷ []
  pub round_numbers : numbers (R.round_tests N 0 blank) ≡ 1 ∷ 2 ∷ 3 ∷ 4 ∷ 5 ∷ 6 ∷ 7 ∷ 8 ∷ []
  pub first_numbers : numbers (R.first_tests N 0 blank []) ≡ 1 ∷ 2 ∷ 3 ∷ 4 ∷ 5 ∷ 6 ∷ 7 ∷ 8 ∷ 9 ∷ 10 ∷ []
  pub next_numbers : numbers (R.next_tests N 0 blank []) ≡ 1 ∷ 2 ∷ 3 ∷ 4 ∷ 5 ∷ 6 ∷ 7 ∷ 8 ∷ 9 ∷ 10 ∷ 11 ∷ []
  -- a pair counts as reached by n ties only if a chain of exactly n reaches it
  pub exactly_one : layer 1 ≡ false ∷ false ∷ true ∷ true ∷ true ∷ true ∷ false ∷ false ∷ []
  pub exactly_two : layer 2 ≡ false ∷ false ∷ false ∷ false ∷ false ∷ false ∷ true ∷ true ∷ []
  pub exactly_three : layer 3 ≡ table 8 (λ i. false)
  -- the last place where two chains differ decides
  pub last_decides : C.before (1 ∷ 2 ∷ []) (0 ∷ 3 ∷ []) ≡ true
  pub not_the_first : C.before (0 ∷ 3 ∷ []) (1 ∷ 2 ∷ []) ≡ false
  -- the preparation and the list of N, and the preparation from 3 to 3, call by call
  pub started : K.start N blank ≡ said 0 Going after0
  pub once : K.round N 0 after0 ≡ said 1 Going after1
  pub twice : K.round N 1 after1 ≡ said 2 (Found 2) after2
  pub listed : Q.listing N 2 ≡ (0 ∷ 3 ∷ []) ∷ (1 ∷ 3 ∷ []) ∷ (2 ∷ 4 ∷ []) ∷ []
  pub lone_started : K.start lone blank ≡ said 0 Going lone0
  pub lone_once : K.round lone 0 lone0 ≡ said 1 None lone0
  pub refused : (K.next N 2 after2 (buf 0 4)).answer ≡ K.refused 11 0
