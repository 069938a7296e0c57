use Rattle.gq_parse_ddl.specs.Jobs.{load_option_parser}
use Rattle.gq_parse_ddl.proofs.loads.option_list.Goals as goal

pub returns : goal.returns
returns c = c.list.ensures load_option_parser (λ alloc source at read within h. h.1)

pub list-requires-clause-reads : goal.list-requires-clause-reads
list-requires-clause-reads c = (load_option_parser, λ alloc source at read within h. h.1)
