use Rattle.std.proofs.Common.{◌∙◌}
use Rattle.gq_exec_source.specs.Ways.{step_of, step_walks}
use Rattle.gq_exec_source.proofs.HopSortLemmas.{kept_within}
use Rattle.gq_exec_source.proofs.hop.Hop.build.Goals as goal

pub of-requires : goal.of-requires
of-requires c =
    let b = c.args.beyond.now in
    kept_within b.vertices.now b.targets.now b.hops.now (step_walks (step_of c.args.step.now) c.args.types.now c.args.rows.now) c.deref.result.now c.len.result
    (c.deref.ensures.value ∙ c.in_ok-walks.ensures) c.len.ensures.count
