-- What is gathered of a list of moves stands for the list: with as many as the ceiling or fewer it says each of them; with more, how many, and that
-- is all a call looks at (`TooManyMoves` of `walk`). Writing the numbers of move j leaves those of the moves before it, so by induction the first j
-- moves stand in the array.
use Prim.Native.Nat.{ℕ, zero, suc, ◌+◌, ◌*◌, ◌<◌, ◌≤◌}
use mathlib.Core.Path.{◌≡◌, refl, sym, ◌∙◌, ap, subst}
use mathlib.Core.Bool.{Bool, true, false}
use mathlib.Core.List.{List, [], ◌∷◌}
use native.Mathlib.Nat.{not-suc-le-zero, min-eq_left}
use native.Mathlib.Omega.{arith}
use lib.Dec.{ltb}
use lib.ListN.{length, get_or, set, length-set, length-replicate}
use lib.Seq.{get_or-set_same, get_or-set_other}
use borrow.Author.Tests.{ltb-true, ltb-false}
use Rattle.walk.specs.declared.Move.{Move}
use Rattle.walk.specs.Ceilings.{ceilings}
use Rattle.walk.specs.Condition.{no_move}
use Rattle.walk.specs.Numbers.{table}
use Rattle.walk.proofs.Numbers.{length-table, table-ext}
use Rattle.walk.proofs.TooManyMoves.{StandsFor}
use Rattle.tables.specs.Lent.{move_of, moves_of}
use Rattle.moves.specs.Gathering.{blank, put, filled, gathered}
use Rattle.tables.specs.declared.gathered.Gathered.{Gathered}

-- one move written
length-put : (w : List ℕ) (j : ℕ) (m : Move) → length (put w j m) ≡ length w
length-put w j m = length-set (set (set w (3 * j) m.from) (3 * j + 1) m.kind) (3 * j + 2) m.to ∙ length-set (set w (3 * j) m.from) (3 * j + 1) m.kind ∙ length-set w (3 * j) m.from

-- what stands before it stays
put-before : (w : List ℕ) (j : ℕ) (m : Move) (k : ℕ) → k < 3 * j → get_or (put w j m) k 0 ≡ get_or w k 0
put-before w j m k l =
    get_or-set_other (set (set w (3 * j) m.from) (3 * j + 1) m.kind) (3 * j + 2) k m.to 0 (λ e. absurd (omega arith))
    ∙ get_or-set_other (set w (3 * j) m.from) (3 * j + 1) k m.kind 0 (λ e. absurd (omega arith)) ∙ get_or-set_other w (3 * j) k m.from 0 (λ e. absurd (omega arith))

put_other : (w : List ℕ) (j : ℕ) (m : Move) (i : ℕ) → i < j → move_of (put w j m) i ≡ move_of w i
put_other w j m i l = λ d. record {
  from = put-before w j m (3 * i) (omega arith) d;
  kind = put-before w j m (3 * i + 1) (omega arith) d;
  to = put-before w j m (3 * i + 2) (omega arith) d;
}

put-own : (w : List ℕ) (j : ℕ) (m : Move) → 3 * j + 2 < length w → move_of (put w j m) j ≡ m
put-own w j m l = λ d. record { from = from_is d; kind = kind-is d; to = to_is d }
  where
    w₁ : List ℕ
    w₁ = set w (3 * j) m.from

    w₂ : List ℕ
    w₂ = set w₁ (3 * j + 1) m.kind

    l₁ : length w₁ ≡ length w
    l₁ = length-set w (3 * j) m.from

    l₂ : length w₂ ≡ length w
    l₂ = length-set w₁ (3 * j + 1) m.kind ∙ l₁

    to_is : get_or (set w₂ (3 * j + 2) m.to) (3 * j + 2) 0 ≡ m.to
    to_is = get_or-set_same w₂ (3 * j + 2) m.to 0 (omega (arith, l, l₂))

    kind-is : get_or (set w₂ (3 * j + 2) m.to) (3 * j + 1) 0 ≡ m.kind
    kind-is = get_or-set_other w₂ (3 * j + 2) (3 * j + 1) m.to 0 (λ e. absurd (omega arith)) ∙ get_or-set_same w₁ (3 * j + 1) m.kind 0 (omega (arith, l, l₁))

    from_is : get_or (set w₂ (3 * j + 2) m.to) (3 * j) 0 ≡ m.from
    from_is =
        get_or-set_other w₂ (3 * j + 2) (3 * j) m.to 0 (λ e. absurd (omega arith)) ∙ get_or-set_other w₁ (3 * j + 1) (3 * j) m.kind 0 (λ e. absurd (omega arith)) ∙ get_or-set_same w (3 * j) m.from 0 (omega (arith, l))

-- the first j moves written
length-filled : (j : ℕ) (ms : List Move) → length (filled j ms) ≡ 3 * ceilings.moves
unfolding filled blank
length-filled zero ms = length-replicate {A = ℕ} (3 * ceilings.moves) 0
length-filled (suc j) ms = length-put (filled j ms) j (get_or ms j no_move) ∙ length-filled j ms

stands : (j : ℕ) (ms : List Move) (i : ℕ) → i < j → j ≤ ceilings.moves → move_of (filled j ms) i ≡ get_or ms i no_move
unfolding filled
stands zero ms i l b = absurd (not-suc-le-zero l)
stands (suc j) ms i l b = go (ltb i j) refl (λ h. stands j ms i h (omega arith))
  where
    go : (t : Bool) → ltb i j ≡ t → (i < j → move_of (filled j ms) i ≡ get_or ms i no_move) → move_of (filled (suc j) ms) i ≡ get_or ms i no_move
    go true e before = let h = ltb-true i j e in put_other (filled j ms) j (get_or ms j no_move) i h ∙ before h
    go false e before =
        let h = ltb-false i j e in
        let same : j ≡ i = omega arith in
        subst (λ (k : ℕ). move_of (filled (suc j) ms) k ≡ get_or ms k no_move) same (put-own (filled j ms) j (get_or ms j no_move) (omega (arith, length-filled j ms)))

all_of : (ms : List Move) → table (length ms) (λ i. get_or ms i no_move) ≡ ms
unfolding table
all_of [] = refl
all_of (m ∷ ms) = ap (λ (l : List Move). m ∷ l) (all_of ms)

-- what is gathered, as the inner crates read it
abbrev pub list_of : Gathered → List Move
list_of g = moves_of g.count g.numbers

-- with as many as the ceiling or fewer they are the moves; with more, there are too many as well
pub brought : (ms : List Move) → StandsFor (list_of (gathered ms)) ms
brought ms = record {
  same = λ l.
      ap (λ (k : ℕ). moves_of (length ms) (filled k ms)) (min-eq_left l)
      ∙ table-ext (length ms) (move_of (filled (length ms) ms)) (λ i. get_or ms i no_move) (λ i h. stands (length ms) ms i h l) ∙ all_of ms;
  many = λ l. subst (λ (k : ℕ). ceilings.moves < k) (sym (length-table (length ms) _)) l;
}
