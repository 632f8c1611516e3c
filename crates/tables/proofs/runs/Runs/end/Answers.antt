-- `Runs::end` meets its contract: the search looks at the ties from `at` on, and where it finds one into a later mark, the ties are cut.
use Rattle.std.proofs.Common.{rules, tests, ◌<◌, ◌≤◌, get_or}
use Rattle.std.proofs.lemmas.Iterator.{first_from_Range}
use Rattle.tables.proofs.RunLaws.{cut_found}
use Rattle.tables.proofs.runs.Runs.end.Goals as goal

pub returns : goal.returns
returns c =
    let to = c.args.self.now.to.now in
    let v = c.args.v.0 in
    let found = first_from_Range _ _ _ _ (λ e. v < get_or to e 0) (λ e. get_or to e 0 ≤ v) c.find.ensures.ran
    (λ e q k. search (rules, tests))
    (λ e q k. (search rules, search (rules, tests))) in
    rw c.unwrap_or.ensures (cut_found _ _ _ _ _ c.args.self.now.rising c.requires.1 c.requires.0 _ found)
