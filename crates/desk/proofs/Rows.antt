-- The rows that are lent of an array with one row more than the ceiling stand for the first n of it: up to the ceiling they are the same rows, and
-- past it both are too many.
use Prim.Native.Nat.{ℕ, zero, suc, ◌≤◌, min}
use mathlib.Core.Path.{◌≡◌, refl, ◌∙◌, ap}
use mathlib.Core.List.{List, [], ◌∷◌}
use native.Mathlib.Nat.{not-suc-le-zero, le_of_suc-le-suc, min-eq_left, min-eq_right}
use native.Mathlib.Omega.{arith}
use lib.ListN.{length, take}
use lib.Seq.{length-take-le}
use Rattle.walk.specs.declared.Move.{Move}
use Rattle.walk.specs.Ceilings.{ceilings}
use Rattle.walk.specs.Numbers.{table}
use Rattle.walk.proofs.Numbers.{length-table}
use Rattle.walk.proofs.TooManyMoves.{StandsFor}
use Rattle.desk.specs.Held.{rows_of}

rows_taken : (n : ℕ) (rows : List Move) → n ≤ length rows → take n rows ≡ rows_of n rows
unfolding table
rows_taken zero rows l = refl
rows_taken (suc n) [] l = absurd (not-suc-le-zero l)
rows_taken (suc n) (m ∷ rows) l = ap (λ (ms : List Move). m ∷ ms) (rows_taken n rows (le_of_suc-le-suc l))

pub lent_rows : (m n : ℕ) (rows : List Move) → m ≡ min n (suc ceilings.moves) → length rows ≡ suc ceilings.moves → StandsFor (take m rows) (rows_of n rows)
lent_rows m n rows e len = record {
  same = λ l. ap (λ (k : ℕ). take k rows) (e ∙ min-eq_left (let h : n ≤ suc ceilings.moves = omega (arith, is_n, l) in h)) ∙ rows_taken n rows (omega (arith, is_n, l, len));
  many = λ l. let b : min n (suc ceilings.moves) ≡ suc ceilings.moves = min-eq_right (omega (arith, is_n, l)) in omega (arith, length-take-le m rows (omega (arith, e, b, len)), e, b);
}
  where
    is_n : length (rows_of n rows) ≡ n
    is_n = length-table n _
