-- Expression: what a reader finds for an expression in a production.
use Rattle.std.specs.Prelude.{length}
use Rattle.gq_tree.specs.declared.expr.Node.{Node}
use Rattle.gq_grammar.specs.Parsers.{Parser}
use Rattle.gq_expr_read.specs.Descent.{expr}

-- with enough levels for the lexemes that remain
unfoldable pub expression : Parser Node
expression l = expr (length l) l
