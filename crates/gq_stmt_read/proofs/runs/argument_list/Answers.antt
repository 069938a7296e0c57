use Rattle.gq_stmt_read.specs.Queries.{argument_parser}
use Rattle.gq_stmt_read.proofs.runs.argument_list.Goals as goal

pub returns : goal.returns
returns c = c.series.ensures argument_parser (λ alloc source at read within h. h.1)

pub series-requires-clause-reads : goal.series-requires-clause-reads
series-requires-clause-reads c = (argument_parser, λ alloc source at read within h. h.1)
