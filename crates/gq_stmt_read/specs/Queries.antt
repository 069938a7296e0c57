-- Queries: what each function of the reader of queries computes, a definition for each production.
-- `queries_are_exact` states that it is the grammar.
use Rattle.std.specs.Prelude.{ℕ, List, Option, Bool}
use Rattle.gq_tree.specs.declared.schema.Literal.{Literal}
use Rattle.gq_tree.specs.declared.query.ParameterTree.{ParameterTree}
use Rattle.gq_tree.specs.declared.query.Mode.{Mode}
use Rattle.gq_tree.specs.declared.query.Mode.TheVariants as mode
use Rattle.gq_tree.specs.declared.query.QueryTree.{QueryTree}
use Rattle.gq_tree.specs.declared.query.Installed.{Installed}
use Rattle.gq_tree.specs.declared.query.Installed.TheVariants as installed
use Rattle.gq_tree.specs.declared.query.Argument.{Argument}
use Rattle.gq_tree.specs.declared.query.Argument.TheVariants as argument
use Rattle.gq_tree.specs.declared.query.RunTree.{RunTree}
use Rattle.gq_tree.specs.declared.body.Body.{Body}
use Rattle.gq_grammar.specs.Literals.{is_there}
use Rattle.gq_grammar.specs.Queries.{parameter_of, query_of, interpret_of, vertex_argument, run_of}
use Rattle.gq_grammar.specs.Lexemes.{Name, Text, sign, word, spelling, said}
use Rattle.gq_grammar.specs.Parsers.{Parser, token, both, made, ◌or◌, maybe, many, one, stands, after, enclosed, separated}
use Rattle.gq_grammar.specs.Series.{ended}
use Rattle.gq_parse_common.specs.Literals.{literal_parser, names_parser, of_graph_parser}
use Rattle.gq_parse_common.specs.Kinds.{base_parser}
use Rattle.gq_parse_select.specs.Bodies.{body_parser}

unfoldable pub default_parser : Parser Literal
default_parser = after (sign "=") literal_parser

unfoldable pub parameter_parser : Parser ParameterTree
parameter_parser = made parameter_of (both base_parser (both (token Name spelling) (maybe default_parser)))

unfoldable pub mode_parser : Parser Mode
mode_parser =
    made mode.Api (after (word "API") (enclosed (token Text said))) or made mode.Syntax (after (word "SYNTAX") (token Name spelling))

unfoldable pub for_graph_parser : Parser (List ℕ)
for_graph_parser = after (word "FOR") of_graph_parser

unfoldable pub modes_and_body_parser : Parser (List Mode × Body)
modes_and_body_parser = both (many mode_parser) body_parser

unfoldable pub query_rest_parser : Parser (Option (List ℕ) × (List Mode × Body))
query_rest_parser = both (maybe for_graph_parser) modes_and_body_parser

unfoldable pub query_parser : Parser QueryTree
query_parser = made query_of (both (enclosed (separated parameter_parser)) query_rest_parser)

unfoldable pub replace_parser : Parser (Unit {0})
replace_parser = after (word "OR") (one (word "REPLACE"))

unfoldable pub query_head_parser : Parser Bool
query_head_parser = made is_there (ended (word "QUERY") (maybe replace_parser))

unfoldable pub created_query_parser : Parser (Bool × (List ℕ × QueryTree))
created_query_parser = both query_head_parser (both (token Name spelling) query_parser)

unfoldable pub interpret_parser : Parser QueryTree
interpret_parser =
    made interpret_of (after (word "INTERPRET") (after (word "QUERY") (both (one (sign "(")) (both (one (sign ")")) query_rest_parser))))

unfoldable pub installed_parser : Parser Installed
installed_parser =
    stands installed.All (word "ALL") or stands installed.All (sign "*") or made installed.Named names_parser

unfoldable pub install_parser : Parser Installed
install_parser = after (word "INSTALL") (after (word "QUERY") installed_parser)

unfoldable pub vertex_argument_parser : Parser (List ℕ × List ℕ)
vertex_argument_parser = enclosed (both (token Text said) (after (sign ",") (token Text said)))

unfoldable pub argument_parser : Parser Argument
argument_parser = made argument.Literal literal_parser or made vertex_argument vertex_argument_parser

unfoldable pub run_parser : Parser RunTree
run_parser = made run_of (both (after (word "QUERY") (token Name spelling)) (maybe (enclosed (separated argument_parser))))
