-- The parameters of a call that is lent each part of a question by itself, as a walk by hand hands them to the laws of `Relay.antt` and `Loan.antt`;
-- the calls here are lent them in one struct. Assumes nothing.
use Prim.Native.Nat.{ℕ, suc}
use mathlib.Core.List.{List, [], ◌∷◌}
use contract.Lifetimes.{Lfts}
use denote.Builtin.{u16, u32}
use Rattle.walk.specs.contracts.Network as N
use Rattle.walk.proofs.Network.TheLaws as N'
use Rattle.walk.specs.contracts.Condition as C
use Rattle.walk.proofs.Condition.TheLaws as C'
use Rattle.walk.specs.contracts.Ask as A
use Rattle.walk.proofs.Ask.TheLaws as A'
use Rattle.desk.specs.contracts.Rounds as R
use Rattle.desk.proofs.Rounds.TheLaws as R'
use Rattle.byhand.proofs.Params.{Param, struct, shared}

-- `network, condition, ask, from, to, kinds`, of which the columns have the first three of n + 1 lifetimes
abbrev pub question : (n : ℕ) → Lfts (suc n) → List Param
question n κs = struct N.the_type N'.the_laws ∷ struct C.the_type C'.the_laws ∷ struct A.the_type A'.the_laws ∷ shared n 0 κs u16 ∷ shared n 1 κs u16 ∷ shared n 2 κs u32 ∷ []

-- `self`, and the same
abbrev pub in_rounds : (n : ℕ) → Lfts (suc n) → List Param
in_rounds n κs = struct R.the_type R'.the_laws ∷ question n κs
