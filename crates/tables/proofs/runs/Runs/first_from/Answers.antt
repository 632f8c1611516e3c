-- `Runs::first_from` meets its contract: the to column rises, so its ties into marks before v stand before all others.
use Rattle.std.proofs.Common.{rules, ltb, ltb-true, ltb-false, arith}
use Rattle.std.proofs.lemmas.List.Sorted.{IsPartitionPoint-from_clause, IsPartitionedBy-ltb, IsNonDecreasingBy-from_default}
use Rattle.tables.proofs.RunLaws.{rises-le}
use Rattle.tables.proofs.runs.Runs.first_from.Goals as goal

pub returns : goal.returns
returns c =
    let to = c.args.self.now.to.now in
    let v = c.args.v in
    let rises = IsNonDecreasingBy-from_default (λ u. u) to 0 (rises-le _ _ _ c.args.self.now.rising) in
    let parted = IsPartitionedBy-ltb (λ u. u) to v rises in
    let point = IsPartitionPoint-from_clause (λ u. ltb u v) _ _ c.partition_point.ensures.partitioned parted (λ a r q k. search rules) in
    record {
      within = c.partition_point.ensures.bound;
      before = λ e h. ltb-true _ _ (point.0 e 0 (omega arith) h);
      after = λ e l h. ltb-false _ _ (point.1 e 0 l h);
    }
