-- The to column rises from each tie to the next, so over any distance. A cursor that has passed only ties into marks up to v, and stands at the
-- end or before a tie into a later mark, therefore cuts the column: every tie from it on enters a mark past v.
use Prim.Native.Nat.{ℕ, zero, suc, ◌≤◌, ◌<◌}
use mathlib.Core.List.{List}
use mathlib.Core.Logic.{◌⊎◌, inl, inr, ⊎_elim}
use mathlib.Core.Path.{◌≡◌, refl}
use native.Mathlib.Nat.{le_refl, le_trans, le_of_suc-le-suc, eq-or-lt_of_le, not-suc-le-zero}
use native.Mathlib.Omega.{arith}
use lib.ListN.{get_or}
use Rattle.std.specs.Prelude.{Option, Some, None}
use Rattle.std.specs.Option.{MatchOption, unwrap_or}
use Rattle.std.proofs.lemmas.Bool.{cases_lt}
use Rattle.tables.specs.Runs.{Rising, Cut, RunInto}

pub rises-le : (to : List ℕ) (ties marks : ℕ) → Rising to ties marks → (e f : ℕ) → e ≤ f → f < ties → get_or to e 0 ≤ get_or to f 0
rises-le to ties marks R e zero l h = let x : e ≡ 0 = omega arith in rw x (le_refl _)
rises-le to ties marks R e (suc f) l h =
    ⊎_elim (λ x. rw x (le_refl _)) (λ x. le_trans (rises-le to ties marks R e f (le_of_suc-le-suc x) (omega arith)) (R.rises f h)) (eq-or-lt_of_le l)

pub cut_none : (to : List ℕ) (ties : ℕ) → Cut to ties 0 0
cut_none to ties = record { within = omega arith; before = λ e h. absurd (not-suc-le-zero h); after = λ e _ _. omega arith }

pub cut_at : (to : List ℕ) (ties marks v at : ℕ) → Rising to ties marks → at ≤ ties → ((e : ℕ) → e < at → get_or to e 0 ≤ v)
    → (at ≡ ties) ⊎ (v < get_or to at 0) → Cut to ties (suc v) at
cut_at to ties marks v at R within passed stop =
    record { within = within; before = λ e h. (let l = passed e h in omega arith); after = after }
  where
    after : (e : ℕ) → at ≤ e → e < ties → suc v ≤ get_or to e 0
    after e l h = ⊎_elim (λ x. absurd (omega arith)) (λ x. (let r = rises-le to ties marks R at e l h in omega arith)) stop

-- the same of a search from `at` on for a tie into a later mark, whose answer is `ties` where there is none
pub cut_found : (to : List ℕ) (ties marks v at : ℕ) → Rising to ties marks → at ≤ ties → ((e : ℕ) → e < at → get_or to e 0 ≤ v) → (r : Option ℕ)
    → MatchOption r ((e : ℕ) → at ≤ e → e < ties → get_or to e 0 ≤ v)
    (λ e. (at ≤ e) × (e < ties) × (v < get_or to e 0) × ((i : ℕ) → at ≤ i → i < e → get_or to i 0 ≤ v))
    → Cut to ties (suc v) (unwrap_or r ties) × (at ≤ unwrap_or r ties)
cut_found to ties marks v at R within passed None none =
    (cut_at to ties marks v ties R (le_refl _) (λ e h. ⊎_elim (passed e) (λ l. none e l h) (cases_lt e at)) (inl refl), within)
cut_found to ties marks v at R within passed (Some e) (from, below, later, rest) =
    (cut_at to ties marks v e R (omega arith) (λ i h. ⊎_elim (passed i) (λ l. rest i l h) (cases_lt i at)) (inr later), from)

-- a run does not end before it begins
pub run-order : (to : List ℕ) (n u first end : ℕ) → RunInto to n u first end → first ≤ end
run-order to n u first end R =
    let no : ¬ (end < first) =
    λ l. (let x = R.begins.before end l in let y = R.ends.after end (le_refl end) (omega (arith, R.begins.within)) in omega arith) in
    omega arith
