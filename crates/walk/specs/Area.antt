-- Preparing by rounds: the word of a pair, the right area for r rounds, and its status.
use Rattle.std.specs.Prelude.{ℕ, zero, suc, ◌*◌, ◌/◌, ◌%◌, Bool, cond, List, leb, ltb, eqb}
use Rattle.walk.specs.declared.Status.{Status}
use Rattle.walk.specs.declared.Status.TheVariants.{Found, None, Going}
use Rattle.walk.specs.Ceilings.{ceilings}
use Rattle.walk.specs.Numbers.{has, ◌and◌, any_below, least, table, tally}
use Rattle.walk.specs.Network.{Network, ties, from_of, to_of, kinds_of}
use Rattle.walk.specs.Condition.{Condition, starts, accepts, follows}

module _ (N : Network) (C : Condition) where
  -- the number of pairs of a mark and a state
  abbrev pub pairs : ℕ
  pairs = N.marks * C.states

  -- along tie e the state q follows the state p: under one of the tie's kinds
  unfoldable pub leads : ℕ → ℕ → ℕ → Bool
  leads e p q = any_below N.kinds (λ k. has (kinds_of N e) k and follows C p k q)

  -- some tie leads to the mark v and the state q from a pair that passes
  unfoldable pub into : (ℕ → ℕ → Bool) → ℕ → ℕ → Bool
  into f v q = any_below (ties N) (λ e. eqb (to_of N e) v and any_below C.states (λ p. leads e p q and f (from_of N e) p))

  module _ (s : ℕ) where
    -- some chain of length n from s to v reaches the state q: by its last tie
    unfoldable pub reach : ℕ → ℕ → ℕ → Bool
    reach zero v q = eqb s v and starts C q
    reach (suc n) v q = into (λ u p. reach n u p) v q

    -- 01: "for each pair, the least length of a chain from s to v that reaches q if that is at most r, else 65,535"
    unfoldable pub word : ℕ → ℕ → ℕ → ℕ
    word r v q = let d = least (λ n. reach n v q) (suc r) in cond (leb d r) d ceilings.unreached

    -- the right area for r rounds. 01: "The word at v×Q + q belongs to mark v and state q."
    unfoldable pub area : ℕ → List ℕ
    area r = table pairs (λ i. word r (i / C.states) (i % C.states))

    -- the number of pairs whose word is r
    unfoldable pub pairs_at : ℕ → ℕ
    pairs_at r = tally (eqb r) (area r)

    module _ (t : ℕ) where
      -- the smallest word at t of an accepting state, or one more than r if none is at most r
      unfoldable pub smallest : ℕ → ℕ
      smallest r = least (λ n. any_below C.states (λ q. accepts C q and eqb (word r t q) n)) (suc r)

      -- 01: "Found, with the least length: an accepting state at t has been reached. The length is the smallest such word at t. None:
      -- not Found, and no word equals the rounds done. Going: neither."
      unfoldable pub status : ℕ → Status
      status r = cond (leb (smallest r) r) (Found (smallest r)) (cond (ltb 0 (pairs_at r)) Going None)
