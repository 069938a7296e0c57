use Rattle.std.proofs.Common.{◌≡◌, ◌∙◌, ◌<◌, ap, sym, subst, List, length, None}
use Rattle.gq_graph.specs.declared.types.Attribute.{Attribute}
use Rattle.gq_schema.specs.Refusals.{vertex_refusal, bad_default}
use Rattle.gq_schema.proofs.JudgeLemmas.{vertex_good, all_good}
use Rattle.gq_schema.proofs.catalog.Catalog.add_vertex_type.Goals as goal

pub vertex_type-requires-clause-good : goal.vertex_type-requires-clause-good
vertex_type-requires-clause-good c k d low =
    let good = vertex_good c.args.self.now c.args.name.now c.args.id.now c.as_slice.result.now c.in-Ok.ensures.judged in
    let same : c.as_slice.result.now ≡ c.as_slice-2.result.now = c.as_slice.ensures ∙ sym c.as_slice-2.ensures in
    all_good c.as_slice-2.result.now (ap bad_default (sym same) ∙ good) k d low
