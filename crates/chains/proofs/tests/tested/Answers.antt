-- Refusals 9 and 10 are decided by the status that the tests of a round leave.
use Rattle.std.proofs.Common.{sym}
use Rattle.std.proofs.lemmas.Result.{err_from_is_err_and}
use Rattle.chains.proofs.AskLaws.{refused-early, asks_err, asks_ok}
use Rattle.chains.proofs.tests.tested.Goals as goal

pub returns-in_err-lent : goal.returns-in_err-lent
returns-in_err-lent c =
    let (_, is, same) = err_from_is_err_and c.from_residual.result c.from_residual.ensures.1 in
    rw (is, same) (λ x l. refused-early _ _ _ _ c.in_err-lent.ensures x)

pub returns-in_err-length : goal.returns-in_err-length
returns-in_err-length c =
    let (_, is, same) = err_from_is_err_and c.from_residual-in_err-length.result c.from_residual-in_err-length.ensures.1 in
    rw (is, same) (asks_err _ _ _ _ _ c.in_ok-lent.lent _ _ c.in_ok-lent.ensures (sym c.in_err-length.ensures))

pub returns : goal.returns
returns c = asks_ok _ _ _ _ _ c.in_ok-lent.lent _ _ c.in_ok-lent.ensures (sym c.in_ok-length.ensures)
