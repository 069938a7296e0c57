use Rattle.gq_parse_ddl.specs.Schema.{plain_attribute_parser}
use Rattle.gq_parse_ddl.proofs.attributes.plain_attributes.Goals as goal

pub returns : goal.returns
returns c = c.list.ensures plain_attribute_parser (λ alloc source at read within h. h.1)

pub list-requires-clause-reads : goal.list-requires-clause-reads
list-requires-clause-reads c = (plain_attribute_parser, λ alloc source at read within h. h.1)
