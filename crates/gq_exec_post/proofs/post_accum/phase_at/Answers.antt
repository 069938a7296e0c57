use Rattle.std.proofs.Common.{ap}
use Rattle.gq_exec_source.specs.declared.ends.Ends.{Ends}
use Rattle.gq_exec_post.proofs.ReadLemmas.{found_end}
use Rattle.gq_exec_post.proofs.post_accum.phase_at.Goals as goal

pub vertices_at-requires-clause-reads : goal.vertices_at-requires-clause-reads
vertices_at-requires-clause-reads c =
    found_end c.in-Ok-leaves_of.leaves c.in-Ok.ends c.args.end.now c.args.accums (ap (λ (e : Ends). e.source) c.in-Ok.ensures) c.in-Ok-leaves_of.ensures.ends c.in-Ok-leaves_of.ensures.edge c.in-Ok-leaves_of.ensures.cells
