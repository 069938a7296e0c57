use Rattle.std.proofs.Common.{◌<◌, ◌+◌, length, subst}
use Rattle.gq_index.specs.declared.walks.Traversal.{Traversal}
use Rattle.gq_index.specs.Segments.{of_walk}
use Rattle.gq_exec_source.specs.Hops.{start_at, walks_on}
use Rattle.gq_exec_source.proofs.ListLemmas.{too_many}
use Rattle.gq_exec_source.proofs.paths.list_from.Goals as goal

pub returns-in-Err-clause-many : goal.returns-in-Err-clause-many
returns-in-Err-clause-many c = λ e.
    let hops = c.args.hops.now in
    let P : Traversal → Type 0 = λ w. 4194304 < length c.loop-source.listing + length (walks_on hops w) in
    too_many of_walk (λ v. walks_on hops (start_at v)) c.args.sources.now c.loop-source.source-index 0 c.args.listing.now c.loop-source.listing 4194304
    c.loop-source-test.true c.loop-source.invariant.so_far (subst P c.start_at.ensures (c.in-Err.ensures.many e))
