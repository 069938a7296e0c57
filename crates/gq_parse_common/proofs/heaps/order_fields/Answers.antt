use Rattle.gq_parse_common.specs.Kinds.{order_field_parser}
use Rattle.gq_parse_common.proofs.heaps.order_fields.Goals as goal

pub returns : goal.returns
returns c = c.list.ensures order_field_parser (λ alloc source at read within h. h.1)

pub list-requires-clause-reads : goal.list-requires-clause-reads
list-requires-clause-reads c = (order_field_parser, λ alloc source at read within h. h.1)
