-- The three demands applied to network N of document 01, so that none of them is empty: what they say of a real session.
use Prim.Native.Nat.{ℕ}
use mathlib.Core.Path.{◌≡◌, refl, subst}
use mathlib.Core.List.{List, [], ◌∷◌, Memᴰ}
use mathlib.Core.Logic.{◌↔◌}
use Rattle.walk.specs.Question.{usable}
use Rattle.walk.specs.declared.Status.TheVariants.{Found, None, Going}
use Rattle.walk.specs.Walk.{LeastMatching, Listed}
use Rattle.walk.specs.Refusals.{Row, number, next_tests}
use Rattle.walk.specs.Calls.{Progress}
use Rattle.walk.specs.Cases.{cond_n, N, blank, after2, lone, lone0, buf}
use Rattle.walk.specs.Demands.{FirstGiven, Made, begun, again, NoMatch, RightAfter, Counted, Lists}
use Rattle.walk.proofs.Numbers.{clash}
use Rattle.walk.proofs.AllCases.{claims}
use Rattle.walk.proofs.Demand1.{demand_1}
use Rattle.walk.proofs.Demand2.{demand_2}
use Rattle.walk.proofs.CountRule.{count_rule}
use Rattle.walk.proofs.Demand3.{demand_3}

-- start and two rounds
abbrev found2 : Progress
found2 = record { done = 2; status = Found 2 }

made : Made N blank 2 found2 after2
made = again (again (begun claims.started) refl claims.once) refl claims.twice

finished : Found 2 ≡ Going → ⊥
finished e = clash cc

-- demand 1: next after 0 4 is refused with 11 because a row of that number is the first that is given
pub refused_11 : (x : Row) × FirstGiven (next_tests N 2 after2 (buf 0 4)) x × (number x.name ≡ 11) × (x.place ≡ 0)
refused_11 = ((demand_1 N 2 after2 (buf 0 4)).of_next.exactly 11 0).0 claims.refused

-- demand 2: the area of two rounds is right, and the least length of a match is 2
prepared : RightAfter N blank 2 found2 after2
prepared = (demand_2 N blank).right 2 found2 after2 made

pub least-length : LeastMatching (usable N) (cond_n 1) 0 3 2
least-length = (prepared.found finished 2).0 refl

pub counted : Counted N 2 found2
counted = count_rule N blank 2 found2 after2 made

-- from 3 to 3 it says None after one round: no chain matches, and the count is 1 more than the greatest least length
abbrev none1 : Progress
none1 = record { done = 1; status = None }

lone-made : Made lone blank 1 none1 lone0
lone-made = again (begun claims.lone_started) refl claims.lone_once

pub no_chain : NoMatch lone
no_chain = (((demand_2 lone blank).right 1 none1 lone0 lone-made).none (λ e. clash cc)).0 refl

pub lone_counted : Counted lone 1 none1
lone_counted = count_rule lone blank 1 none1 lone0 lone-made

-- demand 3: first and next give the list, and the list is these three chains, which are exactly the listed ones
pub lists : Lists N 2 after2 2
lists = (demand_3 N).found 2 found2 after2 (prepared.idle finished) refl

pub three_chains : (c : List ℕ) → Memᴰ c ((0 ∷ 3 ∷ []) ∷ (1 ∷ 3 ∷ []) ∷ (2 ∷ 4 ∷ []) ∷ []) ↔ Listed (usable N) (cond_n 1) 0 3 c
three_chains c = subst (λ (l : List (List ℕ)). Memᴰ c l ↔ Listed (usable N) (cond_n 1) 0 3 c) claims.listed (lists.all c)

-- chain 0 3, which can be met in four ways, stands once
pub stands-once : Memᴰ {A = List ℕ} (0 ∷ 3 ∷ []) ((1 ∷ 3 ∷ []) ∷ (2 ∷ 4 ∷ []) ∷ []) → ⊥
stands-once = (lists.once [] ((1 ∷ 3 ∷ []) ∷ (2 ∷ 4 ∷ []) ∷ []) (0 ∷ 3 ∷ []) claims.listed).1
