use Rattle.std.proofs.Common.{ap, map, ◌∙◌}
use Rattle.std.specs.Option.{option_copied}
use Rattle.gq_ddl.specs.Attributes.{attribute_of, discriminator_of}
use Rattle.gq_ddl.proofs.DeniedLemmas.{ends_denied}
use Rattle.gq_ddl.proofs.create.create_ends.Goals as goal

pub returns : goal.returns
returns c =
    ends_denied c.args.catalog.now c.add_edge_type.new.self c.in-Err.fault c.statement_fault.result c.statement_fault.ensures c.in-Err.ensures.done
    c.args.directed c.args.ends.now (option_copied c.args.reverse) _ _ _ _ _ c.as_str-name.ensures c.as_str-from.ensures c.as_str-to.ensures
    (c.in_ok-key.ensures.attributes ∙ ap (map discriminator_of) c.as_slice.ensures) (c.in_ok-attributes.ensures.attributes ∙ ap (map attribute_of) c.as_slice-2.ensures)
    c.in-Err.ensures.judged
