use Rattle.std.proofs.Common.{Some, None, ap, sym, ◌∙◌}
use Rattle.gq_value.specs.ViewLaws.{val-Vertex}
use Rattle.gq_scope.specs.Held.{setting_in, sorts_in}
use Rattle.gq_arguments.proofs.LookupLemmas.{no_type, number_of}
use Rattle.gq_arguments.proofs.lookup.vertex_in.Goals as goal

pub returns-in-Some-find : goal.returns-in-Some-find
unfolding setting_in
returns-in-Some-find c =
    ap Some (val-Vertex c.in-Some-find.vertex)
    ∙ number_of (sorts_in c.args.types.now) c.args.vertices.now c.args.kind.now c.args.id.now c.in-Some.kind (Some c.in-Some-find.vertex) (sym c.in-Some.is ∙ c.vertex_type.ensures) (sym c.in-Some-find.is ∙ c.find.ensures)

pub returns-in-None-find : goal.returns-in-None-find
unfolding setting_in
returns-in-None-find c =
    number_of (sorts_in c.args.types.now) c.args.vertices.now c.args.kind.now c.args.id.now c.in-Some.kind None (sym c.in-Some.is ∙ c.vertex_type.ensures) (sym c.in-None-find.is ∙ c.find.ensures)

pub returns-in-None : goal.returns-in-None
unfolding setting_in
returns-in-None c = no_type (sorts_in c.args.types.now) c.args.vertices.now c.args.kind.now c.args.id.now (sym c.in-None.is ∙ c.vertex_type.ensures)
