use Rattle.gq_parse_ddl.specs.Jobs.{column_parser}
use Rattle.gq_parse_ddl.proofs.destinations.columns.Goals as goal

pub returns : goal.returns
returns c = c.list.ensures column_parser (λ alloc source at read within h. h.1)

pub list-requires-clause-reads : goal.list-requires-clause-reads
list-requires-clause-reads c = (column_parser, λ alloc source at read within h. h.1)
