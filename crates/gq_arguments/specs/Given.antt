-- Given: the argument of a parameter, as the definitions of gq_rules_meaning represent it.
use Rattle.gq_tree.specs.declared.query.Argument as tree
use Rattle.gq_tree.specs.declared.query.Argument.TheVariants as argument
use Rattle.gq_rules_typing.specs.Statements.{Signed, Quoted, Truthful}
use Rattle.gq_rules_typing.specs.StatementViews.{view_literal}
use Rattle.gq_rules_meaning.specs.Arguments.{Argument, OfLiteral, OfVertex, Nothing}
use Rattle.gq_arguments.specs.declared.given.Given.{Given}
use Rattle.gq_arguments.specs.declared.given.Given.TheVariants as given

-- an argument of RUN QUERY
abbrev pub view_argument : tree.Argument → Argument
view_argument (argument.Literal l) = OfLiteral (view_literal l)
view_argument (argument.Vertex id type) = OfVertex id type

-- the argument that was found for a parameter
abbrev pub view_given : Given → Argument
view_given (given.Number minus n) = OfLiteral (Signed minus n)
view_given (given.Text text) = OfLiteral (Quoted text.now)
view_given (given.Truth b) = OfLiteral (Truthful b)
view_given (given.Vertex id type) = OfVertex id.now type.now
view_given given.Nothing = Nothing
