use Rattle.std.proofs.Common.{◌∙◌, ap, sym, arith}
use Rattle.gq_graph.specs.Candidates.{among}
use Rattle.gq_index.proofs.GatherLemmas.{target_there, target_past}
use Rattle.gq_index.proofs.candidates.reaches.Goals as goal

pub returns-then-vertex-len : goal.returns-then-vertex-len
returns-then-vertex-len c = sym (target_past c.args.vertices.now c.args.targets.now c.args.vertex (omega (arith, c.len.ensures.count)))

pub returns : goal.returns
returns c =
    c.has.ensures ∙ ap (among c.args.targets.now) c.kind.ensures
    ∙ sym (target_there c.args.vertices.now c.args.targets.now c.args.vertex (omega (arith, c.len.ensures.count)))
