-- `tables::sets::only_below` meets its contract: the set shifted down by n is 0 exactly if the set is below 2 ^ n, and each set of 32 bits is
-- below 2 ^ 32.
use Rattle.std.proofs.Common.{◌≡◌, ◌<◌, ◌/◌, ◌^◌, ℕ, sym, arith, nat_eq}
use native.Mathlib.Nat.{one-mul, div-eq_of_lt, div-lt_iff_lt-mul}
use lib.Pow.{pow_pos}
use borrow.Author.Tests.{eqb-true, ltb-true, lt-ltb}
use Rattle.walk.specs.Numbers.{only_below}
use Rattle.walk.proofs.Numbers.{eqb_of, yes_same}
use Rattle.tables.proofs.sets.only_below.Goals as goal

all_below : (n s : ℕ) → n ≡ 32 → s < 2 ^ 32 → nat_eq n 32 ≡ only_below n s
unfolding only_below
all_below n s e h = rw e (sym (lt-ltb s (2 ^ 32) h))

none_above : (n s : ℕ) → nat_eq (s / 2 ^ n) 0 ≡ only_below n s
unfolding only_below
none_above n s =
    yes_same
    (λ e. let z = eqb-true (s / 2 ^ n) 0 e in lt-ltb s (2 ^ n) (rw one-mul at ((div-lt_iff_lt-mul {x = s} {y = 1} (pow_pos n)).0 (omega arith))))
    (λ e. eqb_of {n = 0} (div-eq_of_lt (ltb-true s (2 ^ n) e)))

pub returns-then-n-eq32 : goal.returns-then-n-eq32
returns-then-n-eq32 c = all_below _ _ c.if-n-eq32.true c.ranges.set.fits

pub returns-else-n-eq32 : goal.returns-else-n-eq32
returns-else-n-eq32 c = none_above _ _
