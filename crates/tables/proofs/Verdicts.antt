-- The first row of a list that is given. A row that is not given leaves the answer to the rows after it, and a row that is given answers. What
-- `first_given` refuses, `judged` refuses, and where it passes no row is given. Rows put behind others are reached only where none before them is
-- given.
use Prim.Native.Nat.{ℕ}
use mathlib.Core.Path.{◌≡◌, refl, ap, ◌∙◌}
use mathlib.Core.Bool.{Bool, true, false}
use mathlib.Core.List.Memᴰ
use mathlib.Core.List.{List, [], ◌∷◌, ◌++◌}
use Rattle.std.specs.Prelude.{Result, Ok, Err}
use Rattle.walk.specs.declared.Refusal.{Refusal}
use Rattle.walk.specs.declared.Refusal.TheVariants.{Sizes}
use Rattle.walk.specs.declared.Refused.{Refused}
use Rattle.walk.specs.Refusals.{Row, number}
use Rattle.walk.specs.Calls.{refused, Done, judged}
use Rattle.walk.specs.Demands.{NoneGiven}
use Rattle.walk.proofs.Numbers.{clash}
use Rattle.walk.proofs.Refusals.{none-append, none_one}
use Rattle.tables.specs.Tests.{first_given}

-- refused by a row of this name, at this place
abbrev pub at : Refusal → ℕ → Result (Unit {0}) Refused
at n p = Err (record { refusal = n; place = p })

-- what is refused; where nothing is, any
refusal_in : Result (Unit {0}) Refused → Refused
refusal_in (Ok u) = record { refusal = Sizes; place = 0 }
refusal_in (Err e) = e

-- the answer v is that of the rows from x on
module _ {v : Result (Unit {0}) Refused} (x : Row) (l : List Row) (h : first_given (x ∷ l) ≡ v) where
  pub row-answers : {p : ℕ} → p ≡ x.place → x.given ≡ true → at x.name p ≡ v
  unfolding first_given
  row-answers e g = ap (at x.name) e ∙ (rw g at h)

  pub row-passes : x.given ≡ false → first_given l ≡ v
  unfolding first_given
  row-passes g = rw g at h

pub refused-answers : {A B : Type 0} (w : B) (d : Done A B) (l : List Row) (n : Refusal) (p : ℕ) → first_given l ≡ at n p
    → judged l w d ≡ record { answer = refused (number n) p; left = w }
unfolding first_given judged refusal_in
refused-answers w d [] n p h = clash (cc)
refused-answers {A} {B} w d (x ∷ l) n p h = go x.given refl (λ k. refused-answers w d l n p k)
  where
    go : (t : Bool) → x.given ≡ t → (first_given l ≡ at n p → judged l w d ≡ record { answer = refused (number n) p; left = w })
        → ◌≡◌ {A = Done A B} (elim t [ true ↦ record { answer = refused (number x.name) x.place; left = w } | false ↦ judged l w d ])
        (record { answer = refused (number n) p; left = w })
    go true e ih = ap (λ (r : Refused). record { answer = refused (number r.refusal) r.place; left = w }) (ap refusal_in (row-answers x l h refl e))
    go false e ih = ih (row-passes x l h e)

pub passed_none : (l : List Row) → first_given l ≡ Ok tt → NoneGiven l
unfolding first_given
passed_none [] h = λ x m. absurd (Memᴰ.not-nil m)
passed_none (x ∷ l) h = go x.given refl (λ k. passed_none l k)
  where
    go : (t : Bool) → x.given ≡ t → (first_given l ≡ Ok tt → NoneGiven l) → NoneGiven (x ∷ l)
    go true e ih = let q = row-answers x l h refl e in clash (cc)
    go false e ih = (none-append (x ∷ []) l).1 ((none_one x).1 e, ih (row-passes x l h e))

-- rows put behind others
pub given-before : (l k : List Row) (n : Refusal) (p : ℕ) → first_given l ≡ at n p → first_given (l ++ k) ≡ at n p
unfolding first_given
given-before [] k n p e = clash (cc)
given-before (x ∷ l) k n p e = go x.given refl e (λ f. given-before l k n p f)
  where
    go : (t : Bool) → x.given ≡ t → elim t [ true ↦ at x.name x.place | false ↦ first_given l ] ≡ at n p
        → (first_given l ≡ at n p → first_given (l ++ k) ≡ at n p)
        → elim x.given [ true ↦ at x.name x.place | false ↦ first_given (l ++ k) ] ≡ at n p
    go true g f ih = rw g f
    go false g f ih = rw g (ih f)

pub given_behind : (l k : List Row) → NoneGiven l → first_given (l ++ k) ≡ first_given k
unfolding first_given
given_behind [] k h = refl
given_behind (x ∷ l) k h = rw (h x (Memᴰ.head refl)) (given_behind l k (λ y m. h y (Memᴰ.tail m)))
