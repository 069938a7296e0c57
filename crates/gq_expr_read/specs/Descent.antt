-- Descent: what each function of the reader computes, a definition for each production. Internal contracts cite it, and
-- so does that of `expr`, which readers of statements call; what `read_expr` guarantees is stated by the grammar alone.
use Rattle.std.specs.Prelude.{ℕ, zero, suc, List, Option, None, true, false}
use Rattle.gq_tree.specs.declared.expr.Node.{Node}
use Rattle.gq_tree.specs.declared.expr.Node.TheVariants as node
use Rattle.gq_tree.specs.declared.expr.Part.{Part}
use Rattle.gq_tree.specs.declared.expr.AddSign.{AddSign}
use Rattle.gq_tree.specs.declared.expr.AddSign.TheVariants as add
use Rattle.gq_tree.specs.declared.expr.MulSign.{MulSign}
use Rattle.gq_tree.specs.declared.expr.MulSign.TheVariants as times
use Rattle.gq_tree.specs.declared.expr.CmpSign.{CmpSign}
use Rattle.gq_tree.specs.declared.expr.CmpSign.TheVariants as compare
use Rattle.gq_grammar.specs.Shapes.{named, part_of, attached_of, post_of, neg_of, mul_of, sum_of, cmp_of, not_of, and_of, or_of}
use Rattle.gq_grammar.specs.Lexemes.{Name, Number, Text, Global, Attached, sign, word, spelling, number, said}
use Rattle.gq_grammar.specs.Parsers.{Parser, token, both, made, ◌or◌, maybe, many, one, stands, after, enclosed, separated}

unfoldable pub name_and_arguments : Parser Node → Parser (List ℕ × Option (List Node))
name_and_arguments e = both (token Name spelling) (maybe (enclosed (separated e)))

unfoldable pub prim : Parser Node → Parser Node
prim e =
    made node.Number (token Number number) or made node.Text (token Text said)
    or stands (node.Truth true) (word "TRUE") or stands (node.Truth false) (word "FALSE")
    or made node.Global (token Global spelling) or made named (name_and_arguments e) or enclosed e

unfoldable pub attached : Parser Part
attached = made attached_of (both (token Attached spelling) (maybe (one (sign "'"))))

unfoldable pub part : Parser Node → Parser Part
part e = after (sign ".") (made part_of (name_and_arguments e) or attached)

unfoldable pub post : Parser Node → Parser Node
post e = made post_of (both (prim e) (many (part e)))

unfoldable pub neg : Parser Node → Parser Node
neg e = made neg_of (both (many (one (sign "-"))) (post e))

unfoldable pub mul_sign : Parser MulSign
mul_sign = stands times.Times (sign "*") or stands times.Over (sign "/") or stands times.Modulo (sign "%")

unfoldable pub factor : Parser Node → Parser (MulSign × Node)
factor e = both mul_sign (neg e)

unfoldable pub mul : Parser Node → Parser Node
mul e = made mul_of (both (neg e) (many (factor e)))

unfoldable pub add_sign : Parser AddSign
add_sign = stands add.Plus (sign "+") or stands add.Minus (sign "-")

unfoldable pub term : Parser Node → Parser (AddSign × Node)
term e = both add_sign (mul e)

unfoldable pub sum : Parser Node → Parser Node
sum e = made sum_of (both (mul e) (many (term e)))

unfoldable pub cmp_sign : Parser CmpSign
cmp_sign =
    stands compare.Equal (sign "==") or stands compare.NotEqual (sign "!=") or stands compare.NotEqual (sign "<>")
    or stands compare.Less (sign "<") or stands compare.LessOrEqual (sign "<=")
    or stands compare.Greater (sign ">") or stands compare.GreaterOrEqual (sign ">=")

unfoldable pub compared : Parser Node → Parser (CmpSign × Node)
compared e = both cmp_sign (sum e)

unfoldable pub cmp : Parser Node → Parser Node
cmp e = made cmp_of (both (sum e) (maybe (compared e)))

unfoldable pub negation : Parser Node → Parser Node
negation e = made not_of (both (many (one (word "NOT"))) (cmp e))

unfoldable pub conjunction : Parser Node → Parser Node
conjunction e = made and_of (both (negation e) (many (after (word "AND") (negation e))))

unfoldable pub disjunction : Parser Node → Parser Node
disjunction e = made or_of (both (conjunction e) (many (after (word "OR") (conjunction e))))

-- an expression, with a bounded number of levels of nesting
unfoldable pub expr : ℕ → Parser Node
expr zero l = None
expr (suc n) l = disjunction (expr n) l
