use Rattle.std.proofs.Common.{◌<◌, ◌+◌, ◌-◌, length, take, drop, subst}
use Rattle.gq_index.specs.declared.walks.Traversal.{Traversal}
use Rattle.gq_index.specs.Walks.{no_walk}
use Rattle.gq_exec_source.specs.Hops.{walks_on}
use Rattle.gq_exec_source.proofs.BindingLemmas.{many_on}
use Rattle.gq_exec_source.proofs.paths.+list_on.Goals as goal

pub returns-in-Err-clause-many : goal.returns-in-Err-clause-many
returns-in-Err-clause-many t c = λ e.
    let hops = c.args.hops.now in
    let P : Traversal → Type 0 = λ w. 4194304 < length c.loop-next.listing + length (walks_on (take (length hops - 1) (drop 1 hops)) w) in
    many_on hops c.hop-item.result c.args.walk c.taken_from-next-items.result.now c.loop-next.next-index no_walk c.args.listing.now c.loop-next.listing
    c.in-len1-up.len_at_least c.hop-item.is c.taken_from-next-items.ensures c.loop-next-test.true c.loop-next.invariant.so_far (subst P c.on_along.ensures (c.in-Err.ensures.many e))
