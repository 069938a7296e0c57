use Rattle.gq_parse_select.specs.Acts.{act_parser, acts_parser}
use Rattle.gq_parse_select.proofs.act.acts.Goals as goal

pub returns : goal.returns
unfolding acts_parser
returns c = c.list.ensures act_parser (λ alloc source at read within h. h.1)

pub list-requires-clause-reads : goal.list-requires-clause-reads
list-requires-clause-reads c = (act_parser, λ alloc source at read within h. h.1)
