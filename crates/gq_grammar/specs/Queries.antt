-- Queries: the grammar of queries around their bodies, and of INSTALL QUERY and RUN QUERY.
use Rattle.std.specs.Prelude.{◌≡◌, ℕ, zero, suc, List, [], ◌∷◌, Option, Some, None, Bool, true, false}
use Rattle.gq_tree.specs.declared.schema.Literal.{Literal}
use Rattle.gq_tree.specs.declared.query.BaseTree.{BaseTree}
use Rattle.gq_tree.specs.declared.query.ParameterTree.{ParameterTree}
use Rattle.gq_tree.specs.declared.query.Mode.{Mode}
use Rattle.gq_tree.specs.declared.query.Mode.TheVariants as mode
use Rattle.gq_tree.specs.declared.query.QueryTree.{QueryTree}
use Rattle.gq_tree.specs.declared.query.Installed.{Installed}
use Rattle.gq_tree.specs.declared.query.Installed.TheVariants as installed
use Rattle.gq_tree.specs.declared.query.Argument.{Argument}
use Rattle.gq_tree.specs.declared.query.Argument.TheVariants as argument
use Rattle.gq_tree.specs.declared.query.RunTree.{RunTree}
use Rattle.gq_tree.specs.declared.body.Body.{Body}
use Rattle.gq_grammar.specs.Lexemes.{Lexemes, Terminal, Name, Number, Text, Global, Attached, sign, word, spelling, number, said}
use Rattle.gq_grammar.specs.Languages.{Language, Token, ◌then◌, Many, Maybe, ◌∣◌, Made}
use Rattle.gq_grammar.specs.Signs.{One, Stands, After, Enclosed, Separated}
use Rattle.gq_grammar.specs.Series.{Chain, Ended, Kept}
use Rattle.gq_grammar.specs.Literals.{is_there, LiteralOf, Names, OfGraph}
use Rattle.gq_grammar.specs.Kinds.{BaseOf}
use Rattle.gq_grammar.specs.Bodies.{BodyOf}

abbrev pub parameter_of : BaseTree × (List ℕ × Option Literal) → ParameterTree
parameter_of p = record { base = p.0; name = p.1.0; default = p.1.1 }

-- "=" Literal
unfoldable pub DefaultValue : Language Literal
DefaultValue = After (sign "=") LiteralOf

-- Param = Base Name [ "=" Literal ]
unfoldable pub ParameterOf : Language ParameterTree
ParameterOf = Made parameter_of (BaseOf then Token Name spelling then Maybe DefaultValue)

-- Mode = API "(" Text ")" | SYNTAX Name
unfoldable pub ModeOf : Language Mode
ModeOf = Made mode.Api (After (word "API") (Enclosed (Token Text said))) ∣ Made mode.Syntax (After (word "SYNTAX") (Token Name spelling))

-- FOR GRAPH Name
unfoldable pub ForGraph : Language (List ℕ)
ForGraph = After (word "FOR") OfGraph

-- { Mode } Body
unfoldable pub ModesAndBody : Language (List Mode × Body)
ModesAndBody = Many ModeOf then BodyOf

-- [ FOR GRAPH Name ] { Mode } Body
unfoldable pub QueryRest : Language (Option (List ℕ) × (List Mode × Body))
QueryRest = Maybe ForGraph then ModesAndBody

abbrev pub query_of : List ParameterTree × (Option (List ℕ) × (List Mode × Body)) → QueryTree
query_of p = record { parameters = p.0; graph = p.1.0; modes = p.1.1.0; body = p.1.1.1 }

-- "(" [ Param { "," Param } ] ")" [ FOR GRAPH Name ] { Mode } Body
unfoldable pub QueryOf : Language QueryTree
QueryOf = Made query_of (Enclosed (Separated ParameterOf) then QueryRest)

-- [ OR REPLACE ] QUERY, and whether it has OR REPLACE
unfoldable pub QueryHead : Language Bool
QueryHead = Made is_there (Ended (word "QUERY") (Maybe (After (word "OR") (One (word "REPLACE")))))

-- Query = CREATE [ OR REPLACE ] QUERY Name "(" [ Param { "," Param } ] ")" [ FOR GRAPH Name ] { Mode } Body, after its
-- CREATE
unfoldable pub CreatedQuery : Language (Bool × (List ℕ × QueryTree))
CreatedQuery = QueryHead then Token Name spelling then QueryOf

abbrev pub interpret_of : Unit {0} × (Unit {0} × (Option (List ℕ) × (List Mode × Body))) → QueryTree
interpret_of p = query_of ([], p.1.1)

-- Interpret = INTERPRET QUERY "(" ")" [ FOR GRAPH Name ] { Mode } Body
unfoldable pub InterpretOf : Language QueryTree
InterpretOf = Made interpret_of (After (word "INTERPRET") (After (word "QUERY") (One (sign "(") then One (sign ")") then QueryRest)))

-- Install = INSTALL QUERY ( ALL | "*" | Name { "," Name } )
unfoldable pub InstallOf : Language Installed
InstallOf =
    After (word "INSTALL")
    (After (word "QUERY") (Stands installed.All (word "ALL") ∣ Stands installed.All (sign "*") ∣ Made installed.Named Names))

abbrev pub vertex_argument : List ℕ × List ℕ → Argument
vertex_argument p = argument.Vertex p.0 p.1

-- Arg = Literal | "(" Text "," Text ")"
unfoldable pub ArgumentOf : Language Argument
ArgumentOf = Made argument.Literal LiteralOf ∣ Made vertex_argument (Enclosed (Token Text said then After (sign ",") (Token Text said)))

abbrev pub run_of : List ℕ × Option (List Argument) → RunTree
run_of p = record { name = p.0; arguments = p.1 }

-- Run = RUN QUERY Name [ "(" [ Arg { "," Arg } ] ")" ], after its RUN
unfoldable pub RunOf : Language RunTree
RunOf = Made run_of (After (word "QUERY") (Token Name spelling) then Maybe (Enclosed (Separated ArgumentOf)))
