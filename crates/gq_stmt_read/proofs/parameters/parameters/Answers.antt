use Rattle.gq_stmt_read.specs.Queries.{parameter_parser}
use Rattle.gq_stmt_read.proofs.parameters.parameters.Goals as goal

pub returns : goal.returns
returns c = c.series.ensures parameter_parser (λ alloc source at read within h. h.1)

pub series-requires-clause-reads : goal.series-requires-clause-reads
series-requires-clause-reads c = (parameter_parser, λ alloc source at read within h. h.1)
