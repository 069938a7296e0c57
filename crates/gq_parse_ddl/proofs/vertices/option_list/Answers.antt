use Rattle.gq_parse_ddl.specs.Schema.{option_parser}
use Rattle.gq_parse_ddl.proofs.vertices.option_list.Goals as goal

pub returns : goal.returns
returns c = c.list.ensures option_parser (λ alloc source at read within h. h.1)

pub list-requires-clause-reads : goal.list-requires-clause-reads
list-requires-clause-reads c = (option_parser, λ alloc source at read within h. h.1)
