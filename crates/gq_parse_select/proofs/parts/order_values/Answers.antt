use Rattle.gq_parse_select.specs.Selects.{order_value_parser}
use Rattle.gq_parse_select.proofs.parts.order_values.Goals as goal

pub returns : goal.returns
returns c = c.list.ensures order_value_parser (λ alloc source at read within h. h.1)

pub list-requires-clause-reads : goal.list-requires-clause-reads
list-requires-clause-reads c = (order_value_parser, λ alloc source at read within h. h.1)
