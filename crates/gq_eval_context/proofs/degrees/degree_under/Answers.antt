use Rattle.std.proofs.Common.{◌∙◌, ap, sym, Some, w64, arith}
use Rattle.std.proofs.lemmas.Int.{to_z_pos}
use Rattle.gq_eval_context.proofs.DegreeLemmas.{no_name, own_name, other_name}
use Rattle.gq_eval_context.proofs.degrees.degree_under.Goals as goal

pub returns-in-None : goal.returns-in-None
returns-in-None c = no_name c.args.graph c.args.own.now c.args.vertex c.args.edge.now c.in-None.ensures

pub returns-then-contains : goal.returns-then-contains
returns-then-contains c =
    own_name c.args.graph c.args.own.now c.args.vertex c.args.edge.now c.in-Some.kind c.walked.result c.in-Some.ensures (sym c.if-contains.ensures.value) (c.walked.ensures.degree c.args.own.now)
    ∙ ap Some (sym (to_z_pos w64 c.walked.result (omega (arith, c.walked.ensures.few))))

pub returns-else-contains : goal.returns-else-contains
returns-else-contains c = other_name c.args.graph c.args.own.now c.args.vertex c.args.edge.now c.in-Some.kind c.in-Some.ensures (sym c.if-contains.ensures.value)
