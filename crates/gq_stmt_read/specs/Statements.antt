-- Statements: what each function of the reader of statements computes, a definition for each production.
-- `statements_are_exact` states that it is the grammar.
use Rattle.gq_tree.specs.declared.statement.Statement.{Statement}
use Rattle.gq_tree.specs.declared.statement.Statement.TheVariants as top
use Rattle.gq_grammar.specs.Scripts.{created_query}
use Rattle.gq_grammar.specs.Lexemes.{word}
use Rattle.gq_grammar.specs.Parsers.{Parser, made, ◌or◌, stands, after}
use Rattle.gq_parse_common.specs.Literals.{of_graph_parser}
use Rattle.gq_parse_ddl.specs.Schema.{vertex_parser, edge_parser, graph_parser, insert_parser}
use Rattle.gq_parse_ddl.specs.Jobs.{job_parser, run_job_parser}
use Rattle.gq_stmt_read.specs.Queries.{created_query_parser, interpret_parser, install_parser, run_parser}

unfoldable pub declared_parser : Parser Statement
declared_parser =
    made top.Vertex vertex_parser or made top.Edge edge_parser or made top.Graph graph_parser or made top.Job job_parser

unfoldable pub created_parser : Parser Statement
created_parser = declared_parser or made created_query created_query_parser

unfoldable pub use_parser : Parser Statement
use_parser = made top.Use (after (word "USE") of_graph_parser)

unfoldable pub run_statement_parser : Parser Statement
run_statement_parser = made top.RunJob run_job_parser or made top.Run run_parser

unfoldable pub plain_parser : Parser Statement
plain_parser =
    after (word "CREATE") created_parser or use_parser or after (word "RUN") run_statement_parser or made top.Install install_parser

unfoldable pub statement_parser : Parser Statement
statement_parser =
    plain_parser or made top.Interpret interpret_parser or made top.Insert insert_parser or stands top.Begin (word "BEGIN")
    or stands top.End (word "END")
