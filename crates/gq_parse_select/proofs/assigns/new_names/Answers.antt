use Rattle.gq_parse_select.specs.Bodies.{new_name_parser}
use Rattle.gq_parse_select.proofs.assigns.new_names.Goals as goal

pub returns : goal.returns
returns c = c.list.ensures new_name_parser (λ alloc source at read within h. h.1)

pub list-requires-clause-reads : goal.list-requires-clause-reads
list-requires-clause-reads c = (new_name_parser, λ alloc source at read within h. h.1)
