use Rattle.gq_parse_select.specs.Bodies.{item_parser}
use Rattle.gq_parse_query.proofs.prints.items.Goals as goal

pub returns : goal.returns
returns c = c.list.ensures item_parser (λ alloc source at read within h. h.1)

pub list-requires-clause-reads : goal.list-requires-clause-reads
list-requires-clause-reads c = (item_parser, λ alloc source at read within h. h.1)
