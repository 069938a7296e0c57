use Rattle.gq_parse_common.specs.Kinds.{field_parser}
use Rattle.gq_parse_common.proofs.bases.fields.Goals as goal

pub returns : goal.returns
returns c = c.list.ensures field_parser (λ alloc source at read within h. h.1)

pub list-requires-clause-reads : goal.list-requires-clause-reads
list-requires-clause-reads c = (field_parser, λ alloc source at read within h. h.1)
