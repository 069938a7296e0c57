-- Jobs: what each function of the reader of jobs computes, a definition for each production.
-- `declarations_are_exact` states that it is the grammar.
use Rattle.std.specs.Prelude.{ℕ, List}
use Rattle.gq_tree.specs.declared.job.FileTree.{FileTree}
use Rattle.gq_tree.specs.declared.job.FileTree.TheVariants as file
use Rattle.gq_tree.specs.declared.job.Table.{Table}
use Rattle.gq_tree.specs.declared.job.Table.TheVariants as table
use Rattle.gq_tree.specs.declared.job.Column.{Column}
use Rattle.gq_tree.specs.declared.job.Column.TheVariants as column
use Rattle.gq_tree.specs.declared.job.Destination.{Destination}
use Rattle.gq_tree.specs.declared.job.LoadOption.{LoadOption}
use Rattle.gq_tree.specs.declared.job.LoadOption.TheVariants as option
use Rattle.gq_tree.specs.declared.job.JobLine.{JobLine}
use Rattle.gq_tree.specs.declared.job.JobTree.{JobTree}
use Rattle.gq_tree.specs.declared.job.RunJobTree.{RunJobTree}
use Rattle.gq_grammar.specs.Jobs.{destination_of, load_of, define_of, job_of, run_job_of}
use Rattle.gq_grammar.specs.Lexemes.{Name, Number, Text, sign, word, spelling, number, said}
use Rattle.gq_grammar.specs.Parsers.{Parser, token, both, made, ◌or◌, maybe, many, stands, after, enclosed}
use Rattle.gq_grammar.specs.Series.{chain, ended}
use Rattle.gq_parse_common.specs.Literals.{setting_parser, of_graph_parser}

unfoldable pub column_parser : Parser Column
column_parser =
    after (sign "$") (made column.Number (token Number number) or made column.Named (token Text said))
    or stands column.Default (word "_")

unfoldable pub table_parser : Parser Table
table_parser = stands table.Vertex (word "VERTEX") or stands table.Edge (word "EDGE")

unfoldable pub columns_parser : Parser (List Column)
columns_parser = after (word "VALUES") (enclosed (chain (sign ",") column_parser))

unfoldable pub destination_parser : Parser Destination
destination_parser = made destination_of (after (word "TO") (both table_parser (both (token Name spelling) columns_parser)))

unfoldable pub load_option_name_parser : Parser LoadOption
load_option_name_parser =
    stands option.Separator (word "SEPARATOR") or stands option.Header (word "HEADER")
    or stands option.Quote (word "QUOTE") or stands option.Eol (word "EOL")

unfoldable pub load_option_parser : Parser (LoadOption × List ℕ)
load_option_parser = both load_option_name_parser setting_parser

unfoldable pub load_options_parser : Parser (List (LoadOption × List ℕ))
load_options_parser = after (word "USING") (chain (sign ",") load_option_parser)

unfoldable pub file_parser : Parser FileTree
file_parser = made file.Defined (token Name spelling) or made file.Path (token Text said)

unfoldable pub load_from_parser : Parser (FileTree × List Destination)
load_from_parser = after (word "LOAD") (both file_parser (chain (sign ",") destination_parser))

unfoldable pub file_name_parser : Parser (List ℕ)
file_name_parser = after (word "DEFINE") (after (word "FILENAME") (token Name spelling))

unfoldable pub line_parser : Parser JobLine
line_parser =
    made define_of (both file_name_parser (maybe setting_parser)) or made load_of (both load_from_parser (maybe load_options_parser))

unfoldable pub job_lines_parser : Parser (List JobLine)
job_lines_parser = after (sign "{") (ended (sign "}") (many (ended (sign ";") line_parser)))

unfoldable pub job_name_parser : Parser (List ℕ)
job_name_parser = after (word "LOADING") (after (word "JOB") (token Name spelling))

unfoldable pub job_parser : Parser JobTree
job_parser = made job_of (both job_name_parser (both (after (word "FOR") of_graph_parser) job_lines_parser))

unfoldable pub file_path_parser : Parser (List ℕ × List ℕ)
file_path_parser = both (token Name spelling) setting_parser

unfoldable pub paths_parser : Parser (List (List ℕ × List ℕ))
paths_parser = after (word "USING") (chain (sign ",") file_path_parser)

unfoldable pub run_job_parser : Parser RunJobTree
run_job_parser = made run_job_of (both job_name_parser (maybe paths_parser))
