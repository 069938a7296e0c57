-- Acts: the grammar of the inputs of accumulators, and of the acts of ACCUM and POST-ACCUM.
use Rattle.std.specs.Prelude.{◌≡◌, ℕ, zero, suc, List, [], ◌∷◌, Option, Some, None, Bool, true, false}
use Rattle.gq_tree.specs.declared.expr.Node.{Node}
use Rattle.gq_tree.specs.declared.select.InputTree.{InputTree}
use Rattle.gq_tree.specs.declared.select.InputTree.TheVariants as input
use Rattle.gq_tree.specs.declared.select.ChangeTree.{ChangeTree}
use Rattle.gq_tree.specs.declared.select.ChangeTree.TheVariants as change
use Rattle.gq_tree.specs.declared.select.ActTree.{ActTree}
use Rattle.gq_tree.specs.declared.select.ActTree.TheVariants as act
use Rattle.gq_grammar.specs.Lexemes.{Lexemes, Terminal, Name, Number, Text, Global, Attached, sign, word, spelling, number, said}
use Rattle.gq_grammar.specs.Languages.{Language, Token, ◌then◌, Many, Maybe, ◌∣◌, Made}
use Rattle.gq_grammar.specs.Signs.{One, Stands, After, Enclosed, Separated}
use Rattle.gq_grammar.specs.Series.{Chain, Ended, Kept}
use Rattle.gq_grammar.specs.Expressions.{Derives}
use Rattle.gq_grammar.specs.Kinds.{Value}

-- ---- inputs. I is the production In one level deeper

-- "->" In { "," In }
unfoldable pub Inputs : Language InputTree → Language (List InputTree)
Inputs I = After (sign "->") (Chain (sign ",") I)

abbrev pub keyed_of : List Node × List InputTree → InputTree
keyed_of p = input.Keyed p.0 p.1

-- "(" Expr { "," Expr } "->" In { "," In } ")"
unfoldable pub KeyedInput : Language InputTree → Language InputTree
KeyedInput I = Made keyed_of (Enclosed (Chain (sign ",") Derives then Inputs I))

-- In = Expr | "(" Expr { "," Expr } "->" In { "," In } ")"
unfoldable pub InputIn : Language InputTree → Language InputTree
InputIn I = KeyedInput I ∣ Made input.One Derives

-- In, with a bounded number of levels
unfoldable pub NestedInput : ℕ → Language InputTree
NestedInput zero t x = ⊥
NestedInput (suc k) t x = InputIn (NestedInput k) t x

-- In
unfoldable pub Input : Language InputTree
Input t x = (k : ℕ) × NestedInput k t x

-- "+=" In | "=" Expr
unfoldable pub ChangeOf : Language ChangeTree
ChangeOf = Made change.Feed (After (sign "+=") Input) ∣ Made change.Set Value

-- ---- acts. A is the production ActTree one level deeper

abbrev pub attached_act : List ℕ × (List ℕ × ChangeTree) → ActTree
attached_act p = act.Attached p.0 p.1.0 p.1.1

abbrev pub global_act : List ℕ × ChangeTree → ActTree
global_act p = act.Global p.0 p.1

-- Name "." Attached ( "+=" In | "=" Expr ) | Global ( "+=" In | "=" Expr )
unfoldable pub PlainAct : Language ActTree
PlainAct =
    Made attached_act (Token Name spelling then After (sign ".") (Token Attached spelling then ChangeOf))
    ∣ Made global_act (Token Global spelling then ChangeOf)

-- Expr THEN Acts
unfoldable pub ActBranch : Language ActTree → Language (Node × List ActTree)
ActBranch A = Derives then After (word "THEN") (Chain (sign ",") A)

-- IF Expr THEN Acts
unfoldable pub IfActs : Language ActTree → Language (Node × List ActTree)
IfActs A = After (word "IF") (ActBranch A)

abbrev pub first_and_rest : {A : Type 0} → A × List A → List A
first_and_rest p = p.0 ∷ p.1

-- ELSE Acts, if the first act isn't IF
unfoldable pub ElseActs : Language ActTree → Language (List ActTree)
ElseActs A = After (word "ELSE") (Made first_and_rest (PlainAct then Many (After (sign ",") A)))

-- [ ELSE Acts ] END
unfoldable pub ActsEnd : Language ActTree → Language (Option (List ActTree))
ActsEnd A = Ended (word "END") (Maybe (ElseActs A))

-- { ELSE IF Expr THEN Acts } [ ELSE Acts ] END
unfoldable pub ActBranches : Language ActTree → Language (List (Node × List ActTree) × Option (List ActTree))
ActBranches A = Many (After (word "ELSE") (IfActs A)) then ActsEnd A

abbrev pub if_act : (Node × List ActTree) × (List (Node × List ActTree) × Option (List ActTree)) → ActTree
if_act p = act.If (p.0 ∷ p.1.0) p.1.1

-- ActTree = Name "." Attached "+=" In | Name "." Attached "=" Expr | Global "+=" In | Global "=" Expr
--     | IF Expr THEN Acts { ELSE IF Expr THEN Acts } [ ELSE Acts ] END
unfoldable pub ActIn : Language ActTree → Language ActTree
ActIn A = PlainAct ∣ Made if_act (IfActs A then ActBranches A)

-- ActTree, with a bounded number of levels
unfoldable pub NestedAct : ℕ → Language ActTree
NestedAct zero t x = ⊥
NestedAct (suc k) t x = ActIn (NestedAct k) t x

-- ActTree
unfoldable pub ActOf : Language ActTree
ActOf t x = (k : ℕ) × NestedAct k t x

-- Acts = ActTree { "," ActTree }
unfoldable pub Acts : Language (List ActTree)
Acts = Chain (sign ",") ActOf
