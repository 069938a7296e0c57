use Rattle.std.proofs.Common.{◌≡◌, ◌≤◌, ◌-◌, ap, drop, length, arith}
use Rattle.gq_scope.specs.Kept.{tuple_types}
use Rattle.gq_scope.proofs.TupleLemmas.{places_gone, gone_count}
use Rattle.gq_scope.proofs.KeptLemmas.{numbered_cut}
use Rattle.gq_scope.proofs.table.EntryTable.cut.Goals as goal

pub overflow_sub-kept : goal.overflow_sub-kept
overflow_sub-kept c =
    let count = gone_count c.args.len c.tuple_count-gone.result c.self.inside.names c.rows.result.now c.rows.ensures c.tuple_count-gone.ensures in
    omega (arith, count, c.len.ensures, places_gone c.args.len c.self.inside.names c.self.inside.tuples.items c.self.invariant.numbered)

pub invariant_of-self : goal.invariant_of-self
invariant_of-self c =
    let count = gone_count c.args.len c.tuple_count-gone.result c.self.inside.names c.rows.result.now c.rows.ensures c.tuple_count-gone.ensures in
    let low : c.args.len ≤ length c.self.inside.names = omega (arith, ap length c.self.view_is, c.requires) in
    rw (c.cut.ensures, c.truncate.ensures.items)
    (numbered_cut c.args.len (c.len.result - c.tuple_count-gone.result) c.self.inside.names c.self.inside.tuples.items c.self.invariant low
    (let same : c.len.result - c.tuple_count-gone.result ≡ length c.self.inside.tuples.items - length (tuple_types (drop c.args.len c.self.inside.names)) = omega (arith, count, c.len.ensures) in same))
