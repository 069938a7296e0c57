use Rattle.gq_parse_common.specs.Kinds.{accum_parser}
use Rattle.gq_parse_common.proofs.accums.accums.Goals as goal

pub returns : goal.returns
returns c = c.list.ensures accum_parser (λ alloc source at read within h. h.1)

pub list-requires-clause-reads : goal.list-requires-clause-reads
list-requires-clause-reads c = (accum_parser, λ alloc source at read within h. h.1)
