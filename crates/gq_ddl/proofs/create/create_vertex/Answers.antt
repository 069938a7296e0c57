use Rattle.std.proofs.Common.{ap, map, ◌∙◌}
use Rattle.gq_ddl.specs.Attributes.{attribute_of}
use Rattle.gq_ddl.proofs.DeniedLemmas.{vertex_denied}
use Rattle.gq_ddl.proofs.create.create_vertex.Goals as goal

pub returns : goal.returns
returns c =
    vertex_denied c.args.catalog.now c.add_vertex_type.new.self c.in-Err.fault c.statement_fault.result c.statement_fault.ensures c.in-Err.ensures.done
    c.args.tree.now _ _ _ c.as_str.ensures c.in_ok-id.ensures (c.in_ok-attributes.ensures.attributes ∙ ap (map attribute_of) c.as_slice.ensures) c.in-Err.ensures.judged
