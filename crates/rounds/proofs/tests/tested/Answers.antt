-- `rounds::tests::tested` meets its contract: where refusals 1 to 7 refuse, so do all eight; where they pass, the moves are brought into the step
-- table and `of_area` answers.
use Rattle.std.proofs.Common.{length, refl, subst, sym, ℕ, ◌≡◌}
use Rattle.std.proofs.lemmas.Result.{err_from_is_err_and}
use Rattle.tables.specs.Lent.{moves_of}
use Rattle.tables.specs.Runs.{Rising}
use Rattle.rounds.proofs.Lending.{accepted, in_range, few, ties_in, rising}
use Rattle.rounds.proofs.Refusing.{refused-before, all-refused, all-passed}
use Rattle.rounds.proofs.tests.tested.Goals as goal

pub returns-in_err-tested : goal.returns-in_err-tested
returns-in_err-tested c =
    let (_, is, same) = err_from_is_err_and c.from_residual.result c.from_residual.ensures.1 in
    rw (is, same) (refused-before _ _ _ _ (sym c.in_err-tested.ensures))

pub fill-requires : goal.fill-requires
fill-requires c = let (clear, none) = c.requires in (clear, none, in_range c.args.question.now _ (accepted _ _ (sym c.in_ok-tested.ensures)).0)

pub invariant_of-lent : goal.invariant_of-lent
invariant_of-lent c =
    let Z = c.args.question.now in
    let a = (accepted _ _ (sym c.in_ok-tested.ensures)).0 in
    let same : length Z.to.now ≡ length Z.from.now = a.sizes.columns.0 in
    record { few = few Z _ a; columns = ties_in Z _ a; rising = subst (λ (n : ℕ). Rising Z.to.now n Z.network.marks) (sym same) (rising Z _ a); same = same; leads = c.fill.ensures.leads }

pub of_area-requires : goal.of_area-requires
of_area-requires c =
    let (a, room) = accepted _ _ (sym c.in_ok-tested.ensures) in
    (room, a.ends.0, a.ends.1)

pub returns-in_err-found : goal.returns-in_err-found
returns-in_err-found c =
    let A = c.args in
    let (_, is, same) = err_from_is_err_and c.from_residual-in_err-found.result c.from_residual-in_err-found.ensures.1 in
    rw (is, same)
    (all-refused A.question.now (moves_of A.moves.now.count A.moves.now.numbers) A.done A.area.now c.fill.new.self.table _
    (sym c.in_ok-tested.ensures) c.fill.ensures.tabled c.in_err-found.ensures)

pub returns : goal.returns
returns c =
    let A = c.args in
    let (passed, is) =
    all-passed A.question.now (moves_of A.moves.now.count A.moves.now.numbers) A.done A.area.now c.fill.new.self.table c.fill.new.self.sources _
    (sym c.in_ok-tested.ensures) c.fill.ensures c.in_ok-found.ensures in
    (passed, is, refl, c.fill.ensures)
