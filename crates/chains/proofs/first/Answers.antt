-- Where the tests refuse, their row answers; with no chain there is none to give; where a length is found, the smallest ties are filled in.
use Rattle.std.proofs.Common.{arith, length, refl}
use Rattle.std.specs.Prelude.{Ok, Some}
use Rattle.std.proofs.lemmas.Result.{err_from_is_err_and}
use Rattle.walk.specs.Answers.{asked}
use Rattle.tables.specs.Lent.{moves_of}
use Rattle.rounds.proofs.Lending.{few, sized}
use Rattle.chains.specs.Asking.{Asks}
use Rattle.chains.proofs.AskLaws.{first-refused, first-none, Listable, listable, over-is}
use Rattle.chains.proofs.Listing.{first-fillable, first_meets, length-few}
use Rattle.chains.proofs.first.Goals as goal
use Rattle.chains.proofs.first.Goals.{In-Some}

-- what the tests leave
left : (c : In-Some) → let A = c.args in
    Asks A.question.now (asked A.question.now (moves_of A.moves.now.count A.moves.now.numbers)) A.done A.area.now (length A.chain.now) (Ok (c.in_ok-lent.lent, Some c.in-Some.n))
left c = rw c.in-Some.is at c.in_ok-lent.ensures

found : (c : In-Some) → let A = c.args in
    Listable (asked A.question.now (moves_of A.moves.now.count A.moves.now.numbers)) A.done A.area.now A.chain.now c.in_ok-lent.lent.steps.now.table c.in-Some.n
found c = listable _ _ _ _ _ c.in_ok-lent.lent _ (left c)

pub returns-in_err-lent : goal.returns-in_err-lent
returns-in_err-lent c =
    let (_, is, same) = err_from_is_err_and c.from_residual.result c.from_residual.ensures.1 in
    rw (is, same) (first-refused _ _ _ _ _ (c.in_err-lent.ensures _ refl))

pub returns-in_default : goal.returns-in_default
returns-in_default c = let (p, e, _) = rw c.in_default.is at c.in_ok-lent.ensures in first-none _ _ _ _ (p _ refl) e

pub at_end-end-requires : goal.at_end-end-requires
at_end-end-requires c =
    let P = (found (goal.at.at_end-end-requires c).In-Some).prepared in
    let a = P.accepted in
    (sized _ _ _ _ (few c.args.question.now _ a) P.long, a.ends.0, a.ends.1, length-few _ _ _ _ _ P)

pub ground-requires : goal.ground-requires
ground-requires c =
    let at = (goal.at.ground-requires c).In-Some in
    let P = (found at).prepared in
    rw (left at).2.0 (P.long, P.accepted.sizes.few)

pub before-requires : goal.before-requires
before-requires c =
    let at = (goal.at.before-requires c).In-Some in
    let L = found at in
    let (N, B, M) = over-is c.in_ok-lent.lent c.args.question.now _ c.ground.result c.ground.ensures (left at).2.0 in
    let (E, S) = c.at_end-end.ensures in
    (rw M E.below, omega (arith, length-few _ _ _ _ _ L.prepared), L.room, rw (N, B, E.is, S) (first-fillable _ _ _ _ _ L.prepared))

pub returns : goal.returns
returns c =
    let at = (goal.at.returns c).In-Some in
    let L = found at in
    let (N, B, _) = over-is c.in_ok-lent.lent c.args.question.now _ c.ground.result c.ground.ensures (left at).2.0 in
    let (E, S) = c.at_end-end.ensures in
    first_meets _ _ _ _ _ L.prepared c.args.chain.now _ L.passed (rw (N, B, E.is, S) at c.before-2.ensures)
