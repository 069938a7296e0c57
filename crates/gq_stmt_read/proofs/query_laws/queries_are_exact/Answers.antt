use Rattle.gq_grammar.specs.Queries.{CreatedQuery, InterpretOf, InstallOf, RunOf}
use Rattle.gq_parse_common.proofs.ExactReads.{exact}
use Rattle.gq_stmt_read.specs.Queries.{created_query_parser, interpret_parser, install_parser, run_parser}
use Rattle.gq_stmt_read.proofs.QueryReads.{created_query_reads, interpret_reads, install_reads, run_reads}
use Rattle.gq_stmt_read.proofs.query_laws.queries_are_exact.Goals as goal

pub returns-clause-created : goal.returns-clause-created
returns-clause-created c = exact CreatedQuery created_query_parser _ _ created_query_reads

pub returns-clause-interpret : goal.returns-clause-interpret
returns-clause-interpret c = exact InterpretOf interpret_parser _ _ interpret_reads

pub returns-clause-install : goal.returns-clause-install
returns-clause-install c = exact InstallOf install_parser _ _ install_reads

pub returns-clause-run : goal.returns-clause-run
returns-clause-run c = exact RunOf run_parser _ _ run_reads
