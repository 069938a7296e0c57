-- Bodies: what each function of the reader of bodies computes, a definition for each production.
-- `bodies_are_exact` states that it is the grammar.
use Rattle.std.specs.Prelude.{ℕ, zero, suc, List, Option, None, length}
use Rattle.gq_tree.specs.declared.expr.Node.{Node}
use Rattle.gq_tree.specs.declared.body.SeedTree.{SeedTree}
use Rattle.gq_tree.specs.declared.body.SeedTree.TheVariants as seed
use Rattle.gq_tree.specs.declared.body.SetTermTree.{SetTermTree}
use Rattle.gq_tree.specs.declared.body.SetTermTree.TheVariants as term
use Rattle.gq_tree.specs.declared.body.SetOp.{SetOp}
use Rattle.gq_tree.specs.declared.body.SetOp.TheVariants as op
use Rattle.gq_tree.specs.declared.body.SetsTree.{SetsTree}
use Rattle.gq_tree.specs.declared.body.SetTypesTree.{SetTypesTree}
use Rattle.gq_tree.specs.declared.body.SetTypesTree.TheVariants as types
use Rattle.gq_tree.specs.declared.body.RightTree.{RightTree}
use Rattle.gq_tree.specs.declared.body.RightTree.TheVariants as right
use Rattle.gq_tree.specs.declared.body.OverTree.{OverTree}
use Rattle.gq_tree.specs.declared.body.OverTree.TheVariants as over
use Rattle.gq_tree.specs.declared.body.Label.{Label}
use Rattle.gq_tree.specs.declared.body.ItemTree.{ItemTree}
use Rattle.gq_tree.specs.declared.body.Stmt.{Stmt}
use Rattle.gq_tree.specs.declared.body.Stmt.TheVariants as stmt
use Rattle.gq_tree.specs.declared.body.Body.{Body}
use Rattle.gq_grammar.specs.Bodies.{named_seed, any_seed, seeds_chain, name_chain, assign_of, local_of, global_of, labelled, value_item, columns_item, while_of, range_of, foreach_of, branch_of, else_of, if_of, body_of}
use Rattle.gq_grammar.specs.Lexemes.{Name, Global, sign, word, spelling}
use Rattle.gq_grammar.specs.Parsers.{Parser, token, both, made, ◌or◌, maybe, many, one, stands, after, enclosed, separated}
use Rattle.gq_grammar.specs.Series.{chain, ended, kept}
use Rattle.gq_parse_common.specs.Expression.{expression}
use Rattle.gq_parse_common.specs.Kinds.{base_parser, value_parser, definition_parser}
use Rattle.gq_parse_select.specs.Acts.{change_parser}
use Rattle.gq_parse_select.specs.Selects.{select_parser}

-- ---- vertex sets

unfoldable pub star_parser : Parser (Unit {0})
star_parser = after (sign ".") (one (sign "*"))

unfoldable pub seed_parser : Parser SeedTree
seed_parser =
    made named_seed (both (token Name spelling) (maybe star_parser)) or made any_seed (both (one (word "ANY")) (maybe star_parser))
    or made seed.Global (token Global spelling)

unfoldable pub seeds_parser : Parser (List SeedTree)
seeds_parser = after (sign "{") (ended (sign "}") (separated seed_parser))

unfoldable pub term_parser : Parser SetTermTree
term_parser = made term.Name (token Name spelling) or made term.Seeds seeds_parser

unfoldable pub set_op_parser : Parser SetOp
set_op_parser = stands op.Union (word "UNION") or stands op.Intersect (word "INTERSECT") or stands op.Minus (word "MINUS")

unfoldable pub operand_parser : Parser (SetOp × SetTermTree)
operand_parser = both set_op_parser term_parser

unfoldable pub seeds_chain_parser : Parser SetsTree
seeds_chain_parser = made seeds_chain (both seeds_parser (many operand_parser))

unfoldable pub operands_parser : Parser ((SetOp × SetTermTree) × List (SetOp × SetTermTree))
operands_parser = both operand_parser (many operand_parser)

unfoldable pub name_chain_parser : Parser SetsTree
name_chain_parser = made name_chain (both (token Name spelling) operands_parser)

-- ---- assignments

unfoldable pub right_parser : Parser RightTree
right_parser =
    made right.Select select_parser or made right.Sets seeds_chain_parser
    or (made right.Sets name_chain_parser or made right.Value expression)

unfoldable pub set_types_parser : Parser SetTypesTree
set_types_parser = enclosed (made types.Of (token Name spelling) or stands types.Any (word "ANY"))

unfoldable pub assign_parser : Parser Stmt
assign_parser = made assign_of (both (both (token Name spelling) (maybe set_types_parser)) (after (sign "=") right_parser))

unfoldable pub new_name_parser : Parser (List ℕ × Option Node)
new_name_parser = both (token Name spelling) (maybe value_parser)

unfoldable pub local_parser : Parser Stmt
local_parser = made local_of (both base_parser (chain (sign ",") new_name_parser))

unfoldable pub global_parser : Parser Stmt
global_parser = made global_of (both (token Global spelling) change_parser)

-- ---- PRINT

unfoldable pub as_name_parser : Parser (List ℕ)
as_name_parser = after (word "AS") (token Name spelling)

unfoldable pub labelled_parser : Parser (Node × Label)
labelled_parser = made labelled (both (kept expression) (maybe as_name_parser))

unfoldable pub item_columns_parser : Parser (List (Node × Label))
item_columns_parser = after (sign "[") (ended (sign "]") (chain (sign ",") labelled_parser))

unfoldable pub named_columns_parser : Parser (List (Node × Label) × Option (List ℕ))
named_columns_parser = both item_columns_parser (maybe as_name_parser)

unfoldable pub item_parser : Parser ItemTree
item_parser = made columns_item (both (token Name spelling) named_columns_parser) or made value_item labelled_parser

unfoldable pub print_parser : Parser Stmt
print_parser = made stmt.Print (after (word "PRINT") (chain (sign ",") item_parser))

-- ---- statements that contain statements, which s reads

unfoldable pub stmts_parser : Parser Stmt → Parser (List Stmt)
stmts_parser s = many (ended (sign ";") s)

unfoldable pub do_body_parser : Parser Stmt → Parser (List Stmt)
do_body_parser s = after (word "DO") (ended (word "END") (stmts_parser s))

unfoldable pub limit_parser : Parser Node
limit_parser = after (word "LIMIT") expression

unfoldable pub while_parser : Parser Stmt → Parser Stmt
while_parser s = made while_of (both (after (word "WHILE") (both expression (maybe limit_parser))) (do_body_parser s))

unfoldable pub range_parser : Parser OverTree
range_parser =
    made range_of (after (word "RANGE") (after (sign "[") (both expression (after (sign ",") (ended (sign "]") expression)))))

unfoldable pub over_parser : Parser OverTree
over_parser = made over.Elements expression or range_parser

unfoldable pub foreach_parser : Parser Stmt → Parser Stmt
foreach_parser s =
    made foreach_of (after (word "FOREACH") (both (token Name spelling) (both (after (word "IN") over_parser) (do_body_parser s))))

unfoldable pub plain_parser : Parser Stmt → Parser Stmt
plain_parser s = local_parser or assign_parser or global_parser or print_parser or while_parser s or foreach_parser s

unfoldable pub branch_parser : Parser Stmt → Parser (Node × List Stmt)
branch_parser s = made branch_of (both expression (both (one (word "THEN")) (stmts_parser s)))

unfoldable pub if_branch_parser : Parser Stmt → Parser (Node × List Stmt)
if_branch_parser s = after (word "IF") (branch_parser s)

unfoldable pub else_parser : Parser Stmt → Parser (List Stmt)
else_parser s = made else_of (both (one (word "ELSE")) (maybe (both (ended (sign ";") (plain_parser s)) (stmts_parser s))))

unfoldable pub if_end_parser : Parser Stmt → Parser (Option (List Stmt))
if_end_parser s = ended (word "END") (maybe (else_parser s))

unfoldable pub branches_parser : Parser Stmt → Parser (List (Node × List Stmt) × Option (List Stmt))
branches_parser s = both (many (after (word "ELSE") (if_branch_parser s))) (if_end_parser s)

unfoldable pub if_parser : Parser Stmt → Parser Stmt
if_parser s = made if_of (both (if_branch_parser s) (branches_parser s))

unfoldable pub stmt_in_parser : Parser Stmt → Parser Stmt
stmt_in_parser s = plain_parser s or if_parser s

-- with a bounded number of levels
unfoldable pub nested_parser : ℕ → Parser Stmt
nested_parser zero l = None
nested_parser (suc n) l = stmt_in_parser (nested_parser n) l

-- with enough levels for the lexemes that remain
unfoldable pub statement_parser : Parser Stmt
statement_parser l = nested_parser (length l) l

-- ---- bodies

unfoldable pub body_stmts_parser : Parser (List Stmt)
body_stmts_parser = ended (sign "}") (many (ended (sign ";") statement_parser))

unfoldable pub body_parser : Parser Body
body_parser = made body_of (after (sign "{") (both (many (ended (sign ";") definition_parser)) body_stmts_parser))
