-- Conditions. (000, definition 6) What the rest knows of a condition are its states, `starts`, `accepts` and `follows`.
use Rattle.std.specs.Prelude.{ℕ, Bool, List, eqb, length, get_or}
use Rattle.walk.specs.declared.Move.{Move}
use Rattle.walk.specs.Numbers.{has, ◌and◌, any_below}

-- 01: "A condition has Q states, a set of start states, a set of accepting states (32-bit sets, bit q for state q) and moves. A move
-- is a record of three 16-bit numbers, from state, kind and to state"
pub record Condition : Type 0 where
  pub states : ℕ
  pub start : ℕ
  pub accept : ℕ
  pub moves : List Move

-- what stands past the end of a list of moves
abbrev pub no_move : Move
no_move = record { from = 0; kind = 0; to = 0 }

module _ (C : Condition) where
  -- move j, of those lent "as a list of such records"
  abbrev pub move_at : ℕ → Move
  move_at j = get_or C.moves j no_move

  -- q is a start state, q is an accepting state (000: I, F)
  unfoldable pub starts : ℕ → Bool
  starts q = has C.start q

  unfoldable pub accepts : ℕ → Bool
  accepts q = has C.accept q

  -- state q follows state p under kind k: some move says so (000: Δ). "Equal moves may be repeated."
  unfoldable pub follows : ℕ → ℕ → ℕ → Bool
  follows p k q = any_below (length C.moves) (λ j. eqb (move_at j).from p and eqb (move_at j).kind k and eqb (move_at j).to q)
