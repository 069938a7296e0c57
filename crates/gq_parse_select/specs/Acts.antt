-- Acts: what each function of the reader of inputs and acts computes, a definition for each production.
-- `blocks_are_exact` states that it is the grammar.
use Rattle.std.specs.Prelude.{ℕ, zero, suc, List, Option, None, length}
use Rattle.gq_tree.specs.declared.expr.Node.{Node}
use Rattle.gq_tree.specs.declared.select.InputTree.{InputTree}
use Rattle.gq_tree.specs.declared.select.InputTree.TheVariants as input
use Rattle.gq_tree.specs.declared.select.ChangeTree.{ChangeTree}
use Rattle.gq_tree.specs.declared.select.ChangeTree.TheVariants as change
use Rattle.gq_tree.specs.declared.select.ActTree.{ActTree}
use Rattle.gq_grammar.specs.Acts.{keyed_of, attached_act, global_act, first_and_rest, if_act}
use Rattle.gq_grammar.specs.Lexemes.{Name, Global, Attached, sign, word, spelling}
use Rattle.gq_grammar.specs.Parsers.{Parser, token, both, made, ◌or◌, maybe, many, after, enclosed}
use Rattle.gq_grammar.specs.Series.{chain, ended}
use Rattle.gq_parse_common.specs.Expression.{expression}
use Rattle.gq_parse_common.specs.Kinds.{value_parser}

-- ---- inputs. i reads an input one level deeper

unfoldable pub inputs_parser : Parser InputTree → Parser (List InputTree)
inputs_parser i = after (sign "->") (chain (sign ",") i)

unfoldable pub keyed_input_parser : Parser InputTree → Parser InputTree
keyed_input_parser i = made keyed_of (enclosed (both (chain (sign ",") expression) (inputs_parser i)))

-- for an opening parenthesis, keys are tried first
unfoldable pub input_in_parser : Parser InputTree → Parser InputTree
input_in_parser i = keyed_input_parser i or made input.One expression

-- with a bounded number of levels
unfoldable pub nested_input_parser : ℕ → Parser InputTree
nested_input_parser zero l = None
nested_input_parser (suc n) l = input_in_parser (nested_input_parser n) l

-- with enough levels for the lexemes that remain
unfoldable pub input_parser : Parser InputTree
input_parser l = nested_input_parser (length l) l

unfoldable pub change_parser : Parser ChangeTree
change_parser = made change.Feed (after (sign "+=") input_parser) or made change.Set value_parser

-- ---- acts. a reads an act one level deeper

unfoldable pub plain_act_parser : Parser ActTree
plain_act_parser =
    made attached_act (both (token Name spelling) (after (sign ".") (both (token Attached spelling) change_parser)))
    or made global_act (both (token Global spelling) change_parser)

unfoldable pub act_branch_parser : Parser ActTree → Parser (Node × List ActTree)
act_branch_parser a = both expression (after (word "THEN") (chain (sign ",") a))

unfoldable pub if_acts_parser : Parser ActTree → Parser (Node × List ActTree)
if_acts_parser a = after (word "IF") (act_branch_parser a)

unfoldable pub last_acts_parser : Parser ActTree → Parser (List ActTree)
last_acts_parser a = made first_and_rest (both plain_act_parser (many (after (sign ",") a)))

unfoldable pub else_acts_parser : Parser ActTree → Parser (List ActTree)
else_acts_parser a = after (word "ELSE") (last_acts_parser a)

unfoldable pub acts_end_parser : Parser ActTree → Parser (Option (List ActTree))
acts_end_parser a = ended (word "END") (maybe (else_acts_parser a))

unfoldable pub act_branches_parser : Parser ActTree → Parser (List (Node × List ActTree) × Option (List ActTree))
act_branches_parser a = both (many (after (word "ELSE") (if_acts_parser a))) (acts_end_parser a)

unfoldable pub act_in_parser : Parser ActTree → Parser ActTree
act_in_parser a = plain_act_parser or made if_act (both (if_acts_parser a) (act_branches_parser a))

-- with a bounded number of levels
unfoldable pub nested_act_parser : ℕ → Parser ActTree
nested_act_parser zero l = None
nested_act_parser (suc n) l = act_in_parser (nested_act_parser n) l

-- with enough levels for the lexemes that remain
unfoldable pub act_parser : Parser ActTree
act_parser l = nested_act_parser (length l) l

unfoldable pub acts_parser : Parser (List ActTree)
acts_parser = chain (sign ",") act_parser
