use Rattle.gq_parse_ddl.specs.Jobs.{file_path_parser}
use Rattle.gq_parse_ddl.proofs.jobs.path_list.Goals as goal

pub returns : goal.returns
returns c = c.list.ensures file_path_parser (λ alloc source at read within h. h.1)

pub list-requires-clause-reads : goal.list-requires-clause-reads
list-requires-clause-reads c = (file_path_parser, λ alloc source at read within h. h.1)
