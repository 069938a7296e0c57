use Rattle.gq_parse_select.specs.Bodies.{labelled_parser}
use Rattle.gq_parse_query.proofs.prints.columns.Goals as goal

pub returns : goal.returns
returns c = c.list.ensures labelled_parser (λ alloc source at read within h. h.1)

pub list-requires-clause-reads : goal.list-requires-clause-reads
list-requires-clause-reads c = (labelled_parser, λ alloc source at read within h. h.1)
