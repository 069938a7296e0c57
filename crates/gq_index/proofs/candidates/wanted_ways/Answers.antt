use Rattle.std.proofs.Common.{◌-◌, sym, arith}
use Rattle.gq_index.specs.Segments.{leads}
use Rattle.gq_index.specs.Sights.{vertex_kinds}
use Rattle.gq_index.proofs.StretchLemmas.{filter_part}
use Rattle.gq_index.proofs.candidates.wanted_ways.Goals as goal

pub returns : goal.returns
returns c =
    let w = c.args.wanted.now in let first = c.end_of_run-first in let end = c.end_of_run-end in
    sym (filter_part (leads w.edges (vertex_kinds c.args.vertices.now) w.targets) (record { kind = 0; row = 0; target = 0 }) c.args.ways.now first.result (end.result - first.result)
    (omega (arith, end.ensures.order, end.ensures.within))
    (λ k h. first.ensures.run k (omega arith) h)
    (λ k g h. end.ensures.run k g (omega (arith, end.ensures.order)))
    (λ k g h. c.end_of_run.ensures.run k (omega (arith, end.ensures.order)) (omega (arith, c.if-end_of_run-ways.false))))
