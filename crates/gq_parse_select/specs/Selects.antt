-- Selects: what each function of the reader of SELECT computes, a definition for each production.
-- `blocks_are_exact` states that it is the grammar.
use Rattle.std.specs.Prelude.{ℕ, List, Option, Bool}
use Rattle.gq_tree.specs.declared.expr.Node.{Node}
use Rattle.gq_tree.specs.declared.select.ActTree.{ActTree}
use Rattle.gq_tree.specs.declared.select.TypesTree.{TypesTree}
use Rattle.gq_tree.specs.declared.select.TypesTree.TheVariants as types
use Rattle.gq_tree.specs.declared.select.HopTree.{HopTree}
use Rattle.gq_tree.specs.declared.select.Way.{Way}
use Rattle.gq_tree.specs.declared.select.StepTree.{StepTree}
use Rattle.gq_tree.specs.declared.select.PatternTree.{PatternTree}
use Rattle.gq_tree.specs.declared.select.PatternTree.TheVariants as walk
use Rattle.gq_tree.specs.declared.select.SelectTree.{SelectTree}
use Rattle.gq_grammar.specs.Kinds.{ordered}
use Rattle.gq_grammar.specs.Selects.{hop_of, forward_if, backward, step_of, steps_of, FromTree, FilterTree, ActingTree, OrderedTree, select_of}
use Rattle.gq_grammar.specs.Lexemes.{Name, sign, word, spelling}
use Rattle.gq_grammar.specs.Parsers.{Parser, token, both, made, ◌or◌, maybe, one, stands, after, enclosed}
use Rattle.gq_grammar.specs.Series.{chain, ended}
use Rattle.gq_parse_common.specs.Expression.{expression}
use Rattle.gq_parse_common.specs.Kinds.{direction_parser}
use Rattle.gq_parse_select.specs.Acts.{acts_parser}

-- ---- patterns

unfoldable pub alias_parser : Parser (List ℕ)
alias_parser = after (sign ":") (token Name spelling)

unfoldable pub type_names_parser : Parser (List (List ℕ))
type_names_parser = chain (sign "|") (token Name spelling)

unfoldable pub types_parser : Parser TypesTree
types_parser =
    stands types.Any (word "ANY") or stands types.Any (word "_") or made types.Named type_names_parser or made types.Named (enclosed type_names_parser)

unfoldable pub edge_alias_parser : Parser (Option (List ℕ))
edge_alias_parser = ended (sign ")") (maybe alias_parser)

unfoldable pub hop_edges_parser : Parser (Option TypesTree × Option (List ℕ))
hop_edges_parser = after (sign "-") (after (sign "(") (both (maybe types_parser) edge_alias_parser))

unfoldable pub hop_parser : Parser HopTree
hop_parser = made hop_of (both (both (ended (sign "->") hop_edges_parser) (maybe types_parser)) (maybe alias_parser))

unfoldable pub way_parser : Parser (Way × List ℕ)
way_parser = made forward_if (both (token Name spelling) (maybe (one (sign ">")))) or made backward (after (sign "<") (token Name spelling))

unfoldable pub step_edges_parser : Parser (List (Way × List ℕ) × Option (List ℕ))
step_edges_parser = after (sign "-") (after (sign "(") (both (chain (sign "|") way_parser) edge_alias_parser))

unfoldable pub step_parser : Parser StepTree
step_parser = made step_of (both (both step_edges_parser (after (sign "-") types_parser)) (maybe alias_parser))

unfoldable pub path_parser : Parser (List StepTree)
path_parser = made steps_of (both step_parser (maybe (both step_parser (maybe step_parser))))

-- a path is tried first
unfoldable pub walk_parser : Parser PatternTree
walk_parser = made walk.Path path_parser or made walk.Hop hop_parser

-- ---- the parts of SELECT, each with the parts before it

unfoldable pub from_parser : Parser FromTree
from_parser = both (after (word "SELECT") (both (token Name spelling) (after (word "FROM") (token Name spelling)))) (maybe alias_parser)

unfoldable pub filter_parser : Parser Node
filter_parser = after (word "WHERE") expression

unfoldable pub filtered_parser : Parser FilterTree
filtered_parser = both (both from_parser (maybe walk_parser)) (maybe filter_parser)

unfoldable pub accum_acts_parser : Parser (List ActTree)
accum_acts_parser = after (word "ACCUM") acts_parser

unfoldable pub post_acts_parser : Parser (List ActTree)
post_acts_parser = after (word "POST") (after (sign "-") (after (word "ACCUM") acts_parser)) or after (word "POST_ACCUM") acts_parser

unfoldable pub acting_parser : Parser ActingTree
acting_parser = both (both filtered_parser (maybe accum_acts_parser)) (maybe post_acts_parser)

unfoldable pub having_parser : Parser Node
having_parser = after (word "HAVING") expression

unfoldable pub order_value_parser : Parser (Node × Bool)
order_value_parser = made ordered (both expression (maybe direction_parser))

unfoldable pub order_by_parser : Parser (List (Node × Bool))
order_by_parser = after (word "ORDER") (after (word "BY") (chain (sign ",") order_value_parser))

unfoldable pub ordered_parser : Parser OrderedTree
ordered_parser = both (both acting_parser (maybe having_parser)) (maybe order_by_parser)

unfoldable pub limit_parser : Parser Node
limit_parser = after (word "LIMIT") expression

unfoldable pub select_parser : Parser SelectTree
select_parser = made select_of (both ordered_parser (maybe limit_parser))
