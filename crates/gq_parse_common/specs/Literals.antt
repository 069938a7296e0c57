-- Literals: what each function of the reader of literals computes, a definition for each production.
-- `literals_are_exact` states that it is the grammar.
use Rattle.std.specs.Prelude.{ℕ, List, true, false}
use Rattle.gq_tree.specs.declared.schema.Literal.{Literal}
use Rattle.gq_tree.specs.declared.schema.Literal.TheVariants as literal
use Rattle.gq_grammar.specs.Literals.{number_of}
use Rattle.gq_grammar.specs.Lexemes.{Name, Number, Text, sign, word, spelling, number, said}
use Rattle.gq_grammar.specs.Parsers.{Parser, token, both, made, ◌or◌, maybe, one, stands, after}
use Rattle.gq_grammar.specs.Series.{chain}

unfoldable pub literal_parser : Parser Literal
literal_parser =
    made number_of (both (maybe (one (sign "-"))) (token Number number)) or made literal.Text (token Text said)
    or stands (literal.Truth true) (word "TRUE") or stands (literal.Truth false) (word "FALSE")

unfoldable pub setting_parser : Parser (List ℕ)
setting_parser = after (sign "=") (token Text said)

unfoldable pub names_parser : Parser (List (List ℕ))
names_parser = chain (sign ",") (token Name spelling)

unfoldable pub of_graph_parser : Parser (List ℕ)
of_graph_parser = after (word "GRAPH") (token Name spelling)
