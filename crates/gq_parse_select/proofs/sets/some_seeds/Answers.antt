use Rattle.gq_parse_select.specs.Bodies.{seed_parser}
use Rattle.gq_parse_select.proofs.sets.some_seeds.Goals as goal

pub returns : goal.returns
returns c = c.list.ensures seed_parser (λ alloc source at read within h. h.1)

pub list-requires-clause-reads : goal.list-requires-clause-reads
list-requires-clause-reads c = (seed_parser, λ alloc source at read within h. h.1)
