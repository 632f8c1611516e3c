-- A search for the least number that passes a test p, from 0 upwards. What holds at each turn is that no number before e passes. A number that
-- does not pass extends this by one; where e passes, or where e has come to the bound, it is `least`.
use Prim.Native.Nat.{ℕ, ◌+◌, ◌≤◌, ◌<◌}
use mathlib.Core.Path.{◌≡◌, sym, ◌∙◌}
use mathlib.Core.Bool.{Bool, true, false, false≢true}
use native.Mathlib.Nat.{le_refl, le_of_lt, lt_irrefl, lt_of_lt_of_le, not-suc-le-zero}
use borrow.Author.Count.{below_more}
use Rattle.walk.specs.Numbers.{least}
use Rattle.walk.proofs.Numbers.{least_one}

-- no number before e passes
abbrev pub NoneBefore : (ℕ → Bool) → ℕ → Type 0
NoneBefore p e = (m : ℕ) → m < e → p m ≡ true → ⊥

module _ (p : ℕ → Bool) where
  pub none-at-first : NoneBefore p 0
  none-at-first m h = absurd (not-suc-le-zero h)

  pub none_more : (e : ℕ) → NoneBefore p e → p e ≡ false → NoneBefore p (e + 1)
  none_more e h f = below_more _ _ h (λ t. false≢true (sym f ∙ t))

  pub found_first : (b e : ℕ) → NoneBefore p e → e < b → p e ≡ true → e ≡ least p b
  found_first b e h l t = least_one p b e (le_of_lt l) (record { passes = λ k. t; none_before = h })

  pub found_none : (b e : ℕ) → NoneBefore p e → b ≤ e → b ≡ least p b
  found_none b e h k =
      least_one p b b (le_refl b) (record { passes = λ x. absurd (lt_irrefl b x); none_before = λ m x. h m (lt_of_lt_of_le x k) })
