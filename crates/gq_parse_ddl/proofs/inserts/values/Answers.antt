use Rattle.gq_parse_ddl.specs.Schema.{insert_value_parser}
use Rattle.gq_parse_ddl.proofs.inserts.values.Goals as goal

pub returns : goal.returns
returns c = c.list.ensures insert_value_parser (λ alloc source at read within h. h.1)

pub list-requires-clause-reads : goal.list-requires-clause-reads
list-requires-clause-reads c = (insert_value_parser, λ alloc source at read within h. h.1)
