-- A question: what every call is asked about, and what the definitions say of it.
use Rattle.std.specs.Prelude.{ℕ, List}
use Rattle.walk.specs.declared.Status.{Status}
use Rattle.walk.specs.Network.{Network}
use Rattle.walk.specs.Condition.{Condition}
use Rattle.walk.specs.Area as Area
use Rattle.walk.specs.Chains as Chains

-- a network, a condition, and the marks s and t
pub record Question : Type 0 where
  pub network : Network
  pub condition : Condition
  pub from : ℕ
  pub to : ℕ

module _ (D : Question) where
  -- the network as a chain may use it: every tie, as it is lent. The tests of what is lent look at the network itself; area, status and list
  -- look at this
  unfoldable pub usable : Network
  usable = D.network

  -- V×Q
  abbrev pub pairs : ℕ
  pairs = Area.pairs D.network D.condition

  -- the right area for r rounds, its status, and the list of chains of length n, over the network as a chain may use it
  unfoldable pub right : ℕ → List ℕ
  right r = Area.area usable D.condition D.from r

  unfoldable pub status : ℕ → Status
  status r = Area.status usable D.condition D.from D.to r

  unfoldable pub listing : ℕ → List (List ℕ)
  listing n = Chains.list usable D.condition D.from D.to n
