use Rattle.std.proofs.Common.{◌≡◌, Some, refl, ap, sym, subst, ◌∙◌}
use Rattle.gq_graph.specs.declared.types.VertexType.{VertexType}
use Rattle.gq_load_check.specs.Targets.{no_vertex_type, vertex_type_at}
use Rattle.gq_index.specs.Rows.{IsId}
use Rattle.gq_insert.specs.Fits.{row_fits}
use Rattle.gq_insert.specs.Inserts.{given_id, default_row}
use Rattle.gq_insert.proofs.FitLemmas.{given_fits, default_row_fits}
use Rattle.gq_insert.proofs.check.end_of.Goals as goal

pub returns-in_ok-default_row-in-Some-clause-fits : goal.returns-in_ok-default_row-in-Some-clause-fits
returns-in_ok-default_row-in-Some-clause-fits c =
    let shape = c.vertex_type_at-shape.result.now in
    let kind = vertex_type_at c.args.catalog.now c.args.kind in
    let given : given_id shape.id.kind c.args.value.now ≡ Some c.in-Some.id = sym c.in_ok-id.ensures ∙ c.in-Some.is in
    let P : VertexType → Type 0 = λ t. IsId t.id.kind c.in-Some.id in
    record {
      kind = refl;
      there = c.requires.there;
      id = subst P c.vertex_type_at-shape.ensures (given_fits shape.id.kind c.args.value.now c.in-Some.id given c.requires.given);
      missing =
          ap (row_fits kind.attributes) (c.in_ok-default_row-in-Some.ensures ∙ ap default_row (c.as_slice.ensures ∙ ap (λ (t : VertexType). t.attributes) c.vertex_type_at-shape.ensures))
          ∙ default_row_fits kind.attributes (c.requires.sound.vertex_types c.args.kind no_vertex_type c.requires.there);
    }
