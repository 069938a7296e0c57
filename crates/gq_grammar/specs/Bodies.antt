-- Bodies: the grammar of a query's body.
use Rattle.std.specs.Prelude.{◌≡◌, ℕ, zero, suc, List, [], ◌∷◌, Option, Some, None, Bool, true, false}
use Rattle.gq_tree.specs.declared.expr.Node.{Node}
use Rattle.gq_tree.specs.declared.query.BaseTree.{BaseTree}
use Rattle.gq_tree.specs.declared.kind.DefinitionTree.{DefinitionTree}
use Rattle.gq_tree.specs.declared.select.ChangeTree.{ChangeTree}
use Rattle.gq_tree.specs.declared.body.SeedTree.{SeedTree}
use Rattle.gq_tree.specs.declared.body.SeedTree.TheVariants as seed
use Rattle.gq_tree.specs.declared.body.SetTermTree.{SetTermTree}
use Rattle.gq_tree.specs.declared.body.SetTermTree.TheVariants as term
use Rattle.gq_tree.specs.declared.body.SetOp.{SetOp}
use Rattle.gq_tree.specs.declared.body.SetOp.TheVariants as op
use Rattle.gq_tree.specs.declared.body.SetsTree.{SetsTree}
use Rattle.gq_tree.specs.declared.body.SetTypesTree.{SetTypesTree}
use Rattle.gq_tree.specs.declared.body.SetTypesTree.TheVariants as types
use Rattle.gq_tree.specs.declared.body.RightTree.{RightTree}
use Rattle.gq_tree.specs.declared.body.RightTree.TheVariants as right
use Rattle.gq_tree.specs.declared.body.OverTree.{OverTree}
use Rattle.gq_tree.specs.declared.body.OverTree.TheVariants as over
use Rattle.gq_tree.specs.declared.body.Label.{Label}
use Rattle.gq_tree.specs.declared.body.Label.TheVariants as label
use Rattle.gq_tree.specs.declared.body.ItemTree.{ItemTree}
use Rattle.gq_tree.specs.declared.body.ItemTree.TheVariants as item
use Rattle.gq_tree.specs.declared.body.Stmt.{Stmt}
use Rattle.gq_tree.specs.declared.body.Stmt.TheVariants as stmt
use Rattle.gq_tree.specs.declared.body.Body.{Body}
use Rattle.gq_grammar.specs.Lexemes.{Lexemes, Terminal, Name, Number, Text, Global, Attached, sign, word, spelling, number, said}
use Rattle.gq_grammar.specs.Languages.{Language, Token, ◌then◌, Many, Maybe, ◌∣◌, Made}
use Rattle.gq_grammar.specs.Signs.{One, Stands, After, Enclosed, Separated}
use Rattle.gq_grammar.specs.Series.{Chain, Ended, Kept}
use Rattle.gq_grammar.specs.Expressions.{Derives}
use Rattle.gq_grammar.specs.Literals.{series}
use Rattle.gq_grammar.specs.Kinds.{BaseOf, Value, DefinitionOf}
use Rattle.gq_grammar.specs.Acts.{ChangeOf}
use Rattle.gq_grammar.specs.Selects.{SelectOf}

-- ---- vertex sets

-- "." "*"
unfoldable pub Star : Language (Unit {0})
Star = After (sign ".") (One (sign "*"))

abbrev pub named_seed : List ℕ × Option (Unit {0}) → SeedTree
named_seed p = seed_at p.0 p.1
  where
    seed_at : List ℕ → Option (Unit {0}) → SeedTree
    seed_at name None = seed.Name name
    seed_at name (Some u) = seed.Type name

abbrev pub any_seed : Unit {0} × Option (Unit {0}) → SeedTree
any_seed p = seed.Any

-- Start = Name "." "*" | ANY [ "." "*" ] | Name | Global
unfoldable pub SeedOf : Language SeedTree
SeedOf =
    Made named_seed (Token Name spelling then Maybe Star) ∣ Made any_seed (One (word "ANY") then Maybe Star)
    ∣ Made seed.Global (Token Global spelling)

-- Seeds = "{" [ Start { "," Start } ] "}"
unfoldable pub Seeds : Language (List SeedTree)
Seeds = After (sign "{") (Ended (sign "}") (Separated SeedOf))

-- SetTermTree = Name | Seeds
unfoldable pub TermOf : Language SetTermTree
TermOf = Made term.Name (Token Name spelling) ∣ Made term.Seeds Seeds

-- SetOp = UNION | INTERSECT | MINUS
unfoldable pub SetOpOf : Language SetOp
SetOpOf = Stands op.Union (word "UNION") ∣ Stands op.Intersect (word "INTERSECT") ∣ Stands op.Minus (word "MINUS")

-- SetOp SetTermTree
unfoldable pub Operand : Language (SetOp × SetTermTree)
Operand = SetOpOf then TermOf

abbrev pub seeds_chain : List SeedTree × List (SetOp × SetTermTree) → SetsTree
seeds_chain p = record { first = term.Seeds p.0; others = p.1 }

abbrev pub name_chain : List ℕ × ((SetOp × SetTermTree) × List (SetOp × SetTermTree)) → SetsTree
name_chain p = record { first = term.Name p.0; others = p.1.0 ∷ p.1.1 }

-- Seeds { SetOp SetTermTree }
unfoldable pub SeedsChain : Language SetsTree
SeedsChain = Made seeds_chain (Seeds then Many Operand)

-- SetOp SetTermTree { SetOp SetTermTree }
unfoldable pub Operands : Language ((SetOp × SetTermTree) × List (SetOp × SetTermTree))
Operands = Operand then Many Operand

-- Name SetOp SetTermTree { SetOp SetTermTree }
unfoldable pub NameChain : Language SetsTree
NameChain = Made name_chain (Token Name spelling then Operands)

-- ---- assignments

-- Select | SetRhs, which is Seeds | SetTermTree SetOp SetTermTree { SetOp SetTermTree }, | Expr
unfoldable pub RightOf : Language RightTree
RightOf = Made right.Select SelectOf ∣ Made right.Sets SeedsChain ∣ (Made right.Sets NameChain ∣ Made right.Value Derives)

-- "(" ( Name | ANY ) ")"
unfoldable pub SetTypesOf : Language SetTypesTree
SetTypesOf = Enclosed (Made types.Of (Token Name spelling) ∣ Stands types.Any (word "ANY"))

abbrev pub assign_of : (List ℕ × Option SetTypesTree) × RightTree → Stmt
assign_of p = stmt.Assign p.0.0 p.0.1 p.1

-- Name [ "(" ( Name | ANY ) ")" ] "=" ( Select | SetRhs | Expr )
unfoldable pub AssignOf : Language Stmt
AssignOf = Made assign_of ((Token Name spelling then Maybe SetTypesOf) then After (sign "=") RightOf)

-- Name [ "=" Expr ]
unfoldable pub NewName : Language (List ℕ × Option Node)
NewName = Token Name spelling then Maybe Value

abbrev pub local_of : BaseTree × List (List ℕ × Option Node) → Stmt
local_of p = stmt.Local p.0 p.1

-- Base Name [ "=" Expr ] { "," Name [ "=" Expr ] }
unfoldable pub LocalOf : Language Stmt
LocalOf = Made local_of (BaseOf then Chain (sign ",") NewName)

abbrev pub global_of : List ℕ × ChangeTree → Stmt
global_of p = stmt.Global p.0 p.1

-- Global "=" Expr | Global "+=" In
unfoldable pub GlobalOf : Language Stmt
GlobalOf = Made global_of (Token Global spelling then ChangeOf)

-- ---- PRINT

-- AS Name
unfoldable pub AsName : Language (List ℕ)
AsName = After (word "AS") (Token Name spelling)

abbrev pub labelled : (Node × List ℕ) × Option (List ℕ) → Node × Label
labelled p = (p.0.0, label_at p.0.1 p.1)
  where
    label_at : List ℕ → Option (List ℕ) → Label
    label_at text None = label.Spelled text
    label_at text (Some name) = label.Named name

-- Expr [ AS Name ]
unfoldable pub Labelled : Language (Node × Label)
Labelled = Made labelled (Kept Derives then Maybe AsName)

abbrev pub value_item : Node × Label → ItemTree
value_item p = item.Value p.0 p.1

abbrev pub columns_item : List ℕ × (List (Node × Label) × Option (List ℕ)) → ItemTree
columns_item p = item.Columns p.0 p.1.0 p.1.1

-- "[" Expr [ AS Name ] { "," Expr [ AS Name ] } "]"
unfoldable pub ItemColumns : Language (List (Node × Label))
ItemColumns = After (sign "[") (Ended (sign "]") (Chain (sign ",") Labelled))

-- "[" Expr [ AS Name ] { "," Expr [ AS Name ] } "]" [ AS Name ]
unfoldable pub NamedColumns : Language (List (Node × Label) × Option (List ℕ))
NamedColumns = ItemColumns then Maybe AsName

-- ItemTree = Expr [ AS Name ] | Name "[" Expr [ AS Name ] { "," Expr [ AS Name ] } "]" [ AS Name ]
unfoldable pub ItemOf : Language ItemTree
ItemOf = Made columns_item (Token Name spelling then NamedColumns) ∣ Made value_item Labelled

-- PRINT ItemTree { "," ItemTree }
unfoldable pub PrintOf : Language Stmt
PrintOf = Made stmt.Print (After (word "PRINT") (Chain (sign ",") ItemOf))

-- ---- statements that contain statements. S is the production Stmt one level deeper

-- { Stmt ";" }
unfoldable pub Stmts : Language Stmt → Language (List Stmt)
Stmts S = Many (Ended (sign ";") S)

-- DO { Stmt ";" } END
unfoldable pub DoBody : Language Stmt → Language (List Stmt)
DoBody S = After (word "DO") (Ended (word "END") (Stmts S))

-- LIMIT Expr
unfoldable pub Limit : Language Node
Limit = After (word "LIMIT") Derives

abbrev pub while_of : (Node × Option Node) × List Stmt → Stmt
while_of p = stmt.While p.0.0 p.0.1 p.1

-- WHILE Expr [ LIMIT Expr ] DO { Stmt ";" } END
unfoldable pub WhileOf : Language Stmt → Language Stmt
WhileOf S = Made while_of (After (word "WHILE") (Derives then Maybe Limit) then DoBody S)

abbrev pub range_of : Node × Node → OverTree
range_of p = over.Range p.0 p.1

-- RANGE "[" Expr "," Expr "]"
unfoldable pub RangeOf : Language OverTree
RangeOf = Made range_of (After (word "RANGE") (After (sign "[") (Derives then After (sign ",") (Ended (sign "]") Derives))))

abbrev pub foreach_of : List ℕ × (OverTree × List Stmt) → Stmt
foreach_of p = stmt.Foreach p.0 p.1.0 p.1.1

-- Expr | RANGE "[" Expr "," Expr "]"
unfoldable pub OverOf : Language OverTree
OverOf = Made over.Elements Derives ∣ RangeOf

-- FOREACH Name IN ( Expr | RANGE "[" Expr "," Expr "]" ) DO { Stmt ";" } END
unfoldable pub ForeachOf : Language Stmt → Language Stmt
ForeachOf S = Made foreach_of (After (word "FOREACH") (Token Name spelling then After (word "IN") OverOf then DoBody S))

-- a statement other than IF
unfoldable pub PlainStmt : Language Stmt → Language Stmt
PlainStmt S = LocalOf ∣ AssignOf ∣ GlobalOf ∣ PrintOf ∣ WhileOf S ∣ ForeachOf S

abbrev pub branch_of : Node × (Unit {0} × List Stmt) → Node × List Stmt
branch_of p = (p.0, p.1.1)

-- Expr THEN { Stmt ";" }
unfoldable pub Branch : Language Stmt → Language (Node × List Stmt)
Branch S = Made branch_of (Derives then One (word "THEN") then Stmts S)

-- IF Expr THEN { Stmt ";" }
unfoldable pub IfBranch : Language Stmt → Language (Node × List Stmt)
IfBranch S = After (word "IF") (Branch S)

abbrev pub else_of : Unit {0} × Option (Stmt × List Stmt) → List Stmt
else_of p = series p.1

-- ELSE { Stmt ";" }, if the first statement isn't IF
unfoldable pub ElseStmts : Language Stmt → Language (List Stmt)
ElseStmts S = Made else_of (One (word "ELSE") then Maybe (Ended (sign ";") (PlainStmt S) then Stmts S))

-- [ ELSE { Stmt ";" } ] END
unfoldable pub IfEnd : Language Stmt → Language (Option (List Stmt))
IfEnd S = Ended (word "END") (Maybe (ElseStmts S))

-- { ELSE IF Expr THEN { Stmt ";" } } [ ELSE { Stmt ";" } ] END
unfoldable pub Branches : Language Stmt → Language (List (Node × List Stmt) × Option (List Stmt))
Branches S = Many (After (word "ELSE") (IfBranch S)) then IfEnd S

abbrev pub if_of : (Node × List Stmt) × (List (Node × List Stmt) × Option (List Stmt)) → Stmt
if_of p = stmt.If (p.0 ∷ p.1.0) p.1.1

-- IF Expr THEN { Stmt ";" } { ELSE IF Expr THEN { Stmt ";" } } [ ELSE { Stmt ";" } ] END
unfoldable pub IfOf : Language Stmt → Language Stmt
IfOf S = Made if_of (IfBranch S then Branches S)

-- Stmt
unfoldable pub StmtIn : Language Stmt → Language Stmt
StmtIn S = PlainStmt S ∣ IfOf S

-- Stmt, with a bounded number of levels
unfoldable pub NestedStmt : ℕ → Language Stmt
NestedStmt zero t x = ⊥
NestedStmt (suc k) t x = StmtIn (NestedStmt k) t x

-- Stmt
unfoldable pub StmtOf : Language Stmt
StmtOf t x = (k : ℕ) × NestedStmt k t x

-- { Stmt ";" } "}"
unfoldable pub BodyStmts : Language (List Stmt)
BodyStmts = Ended (sign "}") (Many (Ended (sign ";") StmtOf))

abbrev pub body_of : List DefinitionTree × List Stmt → Body
body_of p = record { definitions = p.0; statements = p.1 }

-- Body = "{" { Def ";" } { Stmt ";" } "}"
unfoldable pub BodyOf : Language Body
BodyOf = Made body_of (After (sign "{") (Many (Ended (sign ";") DefinitionOf) then BodyStmts))
