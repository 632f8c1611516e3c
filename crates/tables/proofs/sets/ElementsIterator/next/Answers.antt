-- `Elements` gives the elements of its set, lowest first: what it looks at is the set from `at` on, shifted down.
use Rattle.std.proofs.Common.{arith, refl, ◌+◌, ◌/◌, ◌^◌, ◌≡◌}
use lib.Count.{count_trailing_zeros}
use Rattle.tables.specs.Sets.{LowestFrom}
use Rattle.tables.proofs.SetLaws.{lowest_from, none_from}
use Rattle.tables.proofs.sets.ElementsIterator.next.Goals as goal

pub returns-then-rest-eq0-clause-steps : goal.returns-then-rest-eq0-clause-steps
returns-then-rest-eq0-clause-steps c =
    let e : c.args.self.now.set / 2 ^ c.args.self.now.at ≡ 0 = cc in
    (refl, none_from _ _ e)

pub invariant_of-self : goal.invariant_of-self
invariant_of-self c =
    let s = c.args.self.now in
    let L : LowestFrom s.set s.at (s.at + count_trailing_zeros 64 (c.from.result / 2 ^ s.at)) =
    rw c.from.ensures (lowest_from s.set s.at s.in_word.0 (rw c.from.ensures at c.if-rest-eq0.false)) in
    record { in_word = (s.in_word.0, omega (arith, L.below)) }

pub returns-clause-steps : goal.returns-clause-steps
returns-clause-steps c =
    let s = c.args.self.now in
    (refl, (rw c.from.ensures (lowest_from s.set s.at s.in_word.0 (rw c.from.ensures at c.if-rest-eq0.false)), refl))
