use Rattle.std.proofs.Common.{rules, arith, leb, le-leb, length, ◌-◌}
use Rattle.std.proofs.lemmas.List.Sorted.{IsPartitionPoint-from_clause}
use Rattle.gq_index.specs.declared.walks.Neighbor.{Neighbor}
use Rattle.gq_index.proofs.ListLemmas.{last_place}
use Rattle.gq_index.proofs.lists.place_for.Goals as goal

pub returns-then-list-behind-clause-place : goal.returns-then-list-behind-clause-place
returns-then-list-behind-clause-place c =
    let list = c.args.list.now in let some = c.if-behind-gt0.true in
    last_place (λ (y : Neighbor). leb y.kind c.args.kind) list (length list - 1) (record { kind = 0; row = 0; target = 0 }) (omega (arith, some))
    (le-leb _ _ c.if-list-behind.true)

pub returns-clause-place : goal.returns-clause-place
returns-clause-place c = λ sorted.
    IsPartitionPoint-from_clause (λ (y : Neighbor). leb y.kind c.args.kind) c.args.list.now c.partition_point.result c.partition_point.ensures.partitioned sorted (λ a r q k. search rules)
