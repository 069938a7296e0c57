use Rattle.gq_parse_ddl.specs.Jobs.{destination_parser}
use Rattle.gq_parse_ddl.proofs.destinations.destinations.Goals as goal

pub returns : goal.returns
returns c = c.list.ensures destination_parser (λ alloc source at read within h. h.1)

pub list-requires-clause-reads : goal.list-requires-clause-reads
list-requires-clause-reads c = (destination_parser, λ alloc source at read within h. h.1)
