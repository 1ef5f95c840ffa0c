-- `rows::Rows::find` meets its contract. The library's place parts the rows below the address from the others.
use Rattle.base.proofs.Prelude.{ltb, rules}
use Rattle.std.proofs.lemmas.List.Sorted.{IsPartitionPoint-from_clause, IsPartitionedBy-ltb}
use Rattle.rows.specs.Map.{key_of}
use Rattle.rows.proofs.SearchLaws.{rows-rise, parted-rank}
use Rattle.rows.proofs.Rows.find.Goals as goal

pub returns : goal.returns
returns g c =
    let m = c.args.self.now.rows.now in
    let rises = c.args.self.now.rises in
    let parted = IsPartitionedBy-ltb key_of m c.args.address (rows-rise m rises) in
    let point = IsPartitionPoint-from_clause (λ r. ltb (key_of r) c.args.address) _ _ c.partition_point.ensures.partitioned parted (λ a r q k. search rules) in
    parted-rank m c.args.address c.partition_point.result rises c.partition_point.ensures.bound point
