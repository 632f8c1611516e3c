-- What a checked entry answers. It is written as a choice by a test; a number below the bound passes the test, so its entry is the first choice,
-- and the number that it gave is below the bound too.
use Prim.Native.Nat.{ℕ, ◌≤◌, ◌<◌}
use mathlib.Core.Bool.{Bool, true, false, not, ◌&&◌, false≢true, cond}
use mathlib.Core.Path.{◌≡◌, refl, sym, ◌∙◌}
use lib.Dec.{ltb, eqb}
use borrow.Author.Tests.{eqb-true, eqb-false, ltb-true, ltb-false, lt-ltb}
use Rattle.walk.proofs.Numbers.{clash}
use Rattle.std.specs.Prelude.{Option, Some, None}
use Rattle.tables.specs.declared.numbers.Number.{Number}
use Rattle.tables.specs.Entries.{entry, Entered}

pub entry-is {ℓ} : {A : Type ℓ} {n bound : ℕ} (is not : A) → n < bound → cond (ltb n bound) is not ≡ is
entry-is {n} {bound} is not h = rw (lt-ltb n bound h)

pub entered : {r n bound : ℕ} → r ≡ n → n < bound → Entered r n bound
entered e h = record { is = e; below = rw e h }

-- and what the answer says of the number: it is below the bound, or it is not
pub entry_in : {S : Type 0} (n bound : ℕ) (e : Number S) → entry n bound ≡ Some e → (n < bound) × (e.0 ≡ n)
entry_in n bound e h = go (ltb n bound) refl h
  where
    go : (b : Bool) → ltb n bound ≡ b → cond b (Some (record { 0 = n; 1 = record {} })) None ≡ Some e → (n < bound) × (e.0 ≡ n)
    go true b h = let f : n ≡ e.0 = cc in (ltb-true n bound b, sym f)
    go false b h = clash cc

pub entry_out : {S : Type 0} (n bound : ℕ) → entry {S = S} n bound ≡ None → bound ≤ n
entry_out {S = S} n bound h = go (ltb n bound) refl h
  where
    go : (b : Bool) → ltb n bound ≡ b → ◌≡◌ {A = Option (Number S)} (cond b (Some (record { 0 = n; 1 = record {} })) None) None → bound ≤ n
    go true b h = clash cc
    go false b h = ltb-false n bound b

-- what `==` answers of two numbers of a sort: whether they are the same
pub same_number : (m n : ℕ) (r : Bool) → r ≡ (eqb m n && true) → (r ≡ true → m ≡ n) × (r ≡ false → m ≡ n → ⊥)
same_number m n r e = go (eqb m n) refl e
  where
    go : (t : Bool) → eqb m n ≡ t → r ≡ (t && true) → (r ≡ true → m ≡ n) × (r ≡ false → m ≡ n → ⊥)
    go true f e = (λ _. eqb-true m n f, λ g _. false≢true (sym g ∙ e))
    go false f e = (λ g. absurd (false≢true (sym e ∙ g)), λ _ h. eqb-false m n f h)

-- and `!=`: whether they are not
pub other_number : (m n : ℕ) (r : Bool) → r ≡ not (eqb m n && true) → (r ≡ true → m ≡ n → ⊥) × (r ≡ false → m ≡ n)
other_number m n r e = go (eqb m n) refl e
  where
    go : (t : Bool) → eqb m n ≡ t → r ≡ not (t && true) → (r ≡ true → m ≡ n → ⊥) × (r ≡ false → m ≡ n)
    go true f e = (λ g _. false≢true (sym e ∙ g), λ _. eqb-true m n f)
    go false f e = (λ _ h. eqb-false m n f h, λ g. absurd (false≢true (sym g ∙ e)))
