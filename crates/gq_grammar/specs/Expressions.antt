-- Expressions: the grammar of expressions, a definition for each production, from lowest precedence to highest.
-- E is the production Expr one level of nesting deeper: what is in parentheses and between the commas of a call.
use Rattle.std.specs.Prelude.{ℕ, zero, suc, List, Option, true, false}
use Rattle.gq_tree.specs.declared.expr.Node.{Node}
use Rattle.gq_tree.specs.declared.expr.Node.TheVariants as node
use Rattle.gq_tree.specs.declared.expr.Part.{Part}
use Rattle.gq_tree.specs.declared.expr.AddSign.{AddSign}
use Rattle.gq_tree.specs.declared.expr.AddSign.TheVariants as add
use Rattle.gq_tree.specs.declared.expr.MulSign.{MulSign}
use Rattle.gq_tree.specs.declared.expr.MulSign.TheVariants as mul
use Rattle.gq_tree.specs.declared.expr.CmpSign.{CmpSign}
use Rattle.gq_tree.specs.declared.expr.CmpSign.TheVariants as cmp
use Rattle.gq_grammar.specs.Lexemes.{Name, Number, Text, Global, Attached, sign, word, spelling, number, said}
use Rattle.gq_grammar.specs.Languages.{Language, Token, ◌then◌, Many, Maybe, ◌∣◌, Made}
use Rattle.gq_grammar.specs.Signs.{One, Stands, After, Enclosed, Separated}
use Rattle.gq_grammar.specs.Shapes.{named, part_of, attached_of, post_of, neg_of, mul_of, sum_of, cmp_of, not_of, and_of, or_of}

-- Name [ "(" [ Expr { "," Expr } ] ")" ]
unfoldable pub Named : Language Node → Language (List ℕ × Option (List Node))
Named E = Token Name spelling then Maybe (Enclosed (Separated E))

-- Prim = Number | Text | TRUE | FALSE | Global | Name [ "(" [ Expr { "," Expr } ] ")" ] | "(" Expr ")"
unfoldable pub Prim : Language Node → Language Node
Prim E =
    Made node.Number (Token Number number) ∣ Made node.Text (Token Text said)
    ∣ Stands (node.Truth true) (word "TRUE") ∣ Stands (node.Truth false) (word "FALSE")
    ∣ Made node.Global (Token Global spelling) ∣ Made named (Named E) ∣ Enclosed E

-- Attached [ "'" ]
unfoldable pub OfVertex : Language Part
OfVertex = Made attached_of (Token Attached spelling then Maybe (One (sign "'")))

-- Part = "." ( Name [ "(" [ Expr { "," Expr } ] ")" ] | Attached [ "'" ] )
unfoldable pub PartOf : Language Node → Language Part
PartOf E = After (sign ".") (Made part_of (Named E) ∣ OfVertex)

-- Post = Prim { Part }
unfoldable pub Post : Language Node → Language Node
Post E = Made post_of (Prim E then Many (PartOf E))

-- Neg = { "-" } Post
unfoldable pub Neg : Language Node → Language Node
Neg E = Made neg_of (Many (One (sign "-")) then Post E)

-- MulOp = "*" | "/" | "%"
unfoldable pub MulOp : Language MulSign
MulOp = Stands mul.Times (sign "*") ∣ Stands mul.Over (sign "/") ∣ Stands mul.Modulo (sign "%")

-- Mul = Neg { MulOp Neg }
unfoldable pub Mul : Language Node → Language Node
Mul E = Made mul_of (Neg E then Many (MulOp then Neg E))

-- AddOp = "+" | "-"
unfoldable pub AddOp : Language AddSign
AddOp = Stands add.Plus (sign "+") ∣ Stands add.Minus (sign "-")

-- Sum = Mul { AddOp Mul }
unfoldable pub Sum : Language Node → Language Node
Sum E = Made sum_of (Mul E then Many (AddOp then Mul E))

-- CmpOp = "==" | "!=" | "<>" | "<" | "<=" | ">" | ">="
unfoldable pub CmpOp : Language CmpSign
CmpOp =
    Stands cmp.Equal (sign "==") ∣ Stands cmp.NotEqual (sign "!=") ∣ Stands cmp.NotEqual (sign "<>")
    ∣ Stands cmp.Less (sign "<") ∣ Stands cmp.LessOrEqual (sign "<=")
    ∣ Stands cmp.Greater (sign ">") ∣ Stands cmp.GreaterOrEqual (sign ">=")

-- Cmp = Sum [ CmpOp Sum ]
unfoldable pub Cmp : Language Node → Language Node
Cmp E = Made cmp_of (Sum E then Maybe (CmpOp then Sum E))

-- Not = { NOT } Cmp
unfoldable pub Not : Language Node → Language Node
Not E = Made not_of (Many (One (word "NOT")) then Cmp E)

-- And = Not { AND Not }
unfoldable pub And : Language Node → Language Node
And E = Made and_of (Not E then Many (After (word "AND") (Not E)))

-- Expr = And { OR And }
unfoldable pub Expr : Language Node → Language Node
Expr E = Made or_of (And E then Many (After (word "OR") (And E)))

-- Expr, with a bounded number of levels of nesting
unfoldable pub Nested : ℕ → Language Node
Nested zero t x = ⊥
Nested (suc k) t x = Expr (Nested k) t x

-- Expr: the lexemes spell the expression
unfoldable pub Derives : Language Node
Derives t x = (k : ℕ) × Nested k t x
