-- Selects: the grammar of SELECT with its patterns.
use Rattle.std.specs.Prelude.{◌≡◌, ℕ, zero, suc, List, [], ◌∷◌, Option, Some, None, Bool, true, false}
use Rattle.gq_tree.specs.declared.expr.Node.{Node}
use Rattle.gq_tree.specs.declared.select.ActTree.{ActTree}
use Rattle.gq_tree.specs.declared.select.TypesTree.{TypesTree}
use Rattle.gq_tree.specs.declared.select.TypesTree.TheVariants as types
use Rattle.gq_tree.specs.declared.select.HopTree.{HopTree}
use Rattle.gq_tree.specs.declared.select.Way.{Way}
use Rattle.gq_tree.specs.declared.select.Way.TheVariants as way
use Rattle.gq_tree.specs.declared.select.StepTree.{StepTree}
use Rattle.gq_tree.specs.declared.select.PatternTree.{PatternTree}
use Rattle.gq_tree.specs.declared.select.PatternTree.TheVariants as walk
use Rattle.gq_tree.specs.declared.select.SelectTree.{SelectTree}
use Rattle.gq_grammar.specs.Lexemes.{Lexemes, Terminal, Name, Number, Text, Global, Attached, sign, word, spelling, number, said}
use Rattle.gq_grammar.specs.Languages.{Language, Token, ◌then◌, Many, Maybe, ◌∣◌, Made}
use Rattle.gq_grammar.specs.Signs.{One, Stands, After, Enclosed, Separated}
use Rattle.gq_grammar.specs.Series.{Chain, Ended, Kept}
use Rattle.gq_grammar.specs.Expressions.{Derives}
use Rattle.gq_grammar.specs.Kinds.{ordered, Direction}
use Rattle.gq_grammar.specs.Acts.{Acts}

-- ---- patterns

-- ":" Name
unfoldable pub Alias : Language (List ℕ)
Alias = After (sign ":") (Token Name spelling)

-- Name { "|" Name }
unfoldable pub TypeNames : Language (List (List ℕ))
TypeNames = Chain (sign "|") (Token Name spelling)

-- TypesTree = ANY | "_" | Name { "|" Name } | "(" Name { "|" Name } ")"
unfoldable pub TypesOf : Language TypesTree
TypesOf = Stands types.Any (word "ANY") ∣ Stands types.Any (word "_") ∣ Made types.Named TypeNames ∣ Made types.Named (Enclosed TypeNames)

-- [ ":" Name ] ")"
unfoldable pub EdgeAlias : Language (Option (List ℕ))
EdgeAlias = Ended (sign ")") (Maybe Alias)

-- "-" "(" [ TypesTree ] [ ":" Name ] ")"
unfoldable pub HopEdges : Language (Option TypesTree × Option (List ℕ))
HopEdges = After (sign "-") (After (sign "(") (Maybe TypesOf then EdgeAlias))

abbrev pub hop_of : ((Option TypesTree × Option (List ℕ)) × Option TypesTree) × Option (List ℕ) → HopTree
hop_of p = record { edges = p.0.0.0; edge_alias = p.0.0.1; targets = p.0.1; target_alias = p.1 }

-- Hop = "-" "(" [ TypesTree ] [ ":" Name ] ")" "->" [ TypesTree ] [ ":" Name ]
unfoldable pub HopOf : Language HopTree
HopOf = Made hop_of ((Ended (sign "->") HopEdges then Maybe TypesOf) then Maybe Alias)

abbrev pub forward_if : List ℕ × Option (Unit {0}) → Way × List ℕ
forward_if p = (forward p.1, p.0)
  where
    forward : Option (Unit {0}) → Way
    forward None = way.Both
    forward (Some u) = way.Forward

abbrev pub backward : List ℕ → Way × List ℕ
backward name = (way.Backward, name)

-- Dir = Name [ ">" ] | "<" Name
unfoldable pub WayOf : Language (Way × List ℕ)
WayOf = Made forward_if (Token Name spelling then Maybe (One (sign ">"))) ∣ Made backward (After (sign "<") (Token Name spelling))

-- "-" "(" Dir { "|" Dir } [ ":" Name ] ")"
unfoldable pub StepEdges : Language (List (Way × List ℕ) × Option (List ℕ))
StepEdges = After (sign "-") (After (sign "(") (Chain (sign "|") WayOf then EdgeAlias))

abbrev pub step_of : ((List (Way × List ℕ) × Option (List ℕ)) × TypesTree) × Option (List ℕ) → StepTree
step_of p = record { ways = p.0.0.0; edge_alias = p.0.0.1; targets = p.0.1; target_alias = p.1 }

-- Step = "-" "(" Dir { "|" Dir } [ ":" Name ] ")" "-" TypesTree [ ":" Name ]
unfoldable pub StepOf : Language StepTree
StepOf = Made step_of ((StepEdges then After (sign "-") TypesOf) then Maybe Alias)

abbrev pub steps_of : StepTree × Option (StepTree × Option StepTree) → List StepTree
steps_of p = p.0 ∷ later p.1
  where
    last : Option StepTree → List StepTree
    last None = []
    last (Some step) = step ∷ []

    later : Option (StepTree × Option StepTree) → List StepTree
    later None = []
    later (Some q) = q.0 ∷ last q.1

-- Path = Step [ Step [ Step ] ]
unfoldable pub PathOf : Language (List StepTree)
PathOf = Made steps_of (StepOf then Maybe (StepOf then Maybe StepOf))

-- Hop | Path
unfoldable pub WalkOf : Language PatternTree
WalkOf = Made walk.Path PathOf ∣ Made walk.Hop HopOf

-- ---- the parts of SELECT, each with the parts before it

-- SELECT Name FROM Name [ ":" Name ]
unfoldable pub From : Language ((List ℕ × List ℕ) × Option (List ℕ))
From = After (word "SELECT") (Token Name spelling then After (word "FROM") (Token Name spelling)) then Maybe Alias

abbrev pub FromTree : Type 0
FromTree = (List ℕ × List ℕ) × Option (List ℕ)

-- .. [ Hop | Path ] [ WHERE Expr ]
unfoldable pub Filtered : Language ((FromTree × Option PatternTree) × Option Node)
Filtered = (From then Maybe WalkOf) then Maybe (After (word "WHERE") Derives)

-- Post = POST "-" ACCUM | POST_ACCUM, and Acts
unfoldable pub PostActs : Language (List ActTree)
PostActs = After (word "POST") (After (sign "-") (After (word "ACCUM") Acts)) ∣ After (word "POST_ACCUM") Acts

abbrev pub FilterTree : Type 0
FilterTree = (FromTree × Option PatternTree) × Option Node

-- .. [ ACCUM Acts ] [ Post Acts ]
unfoldable pub Acting : Language ((FilterTree × Option (List ActTree)) × Option (List ActTree))
Acting = (Filtered then Maybe (After (word "ACCUM") Acts)) then Maybe PostActs

abbrev pub ActingTree : Type 0
ActingTree = (FilterTree × Option (List ActTree)) × Option (List ActTree)

-- Expr [ ASC | DESC ]
unfoldable pub OrderValue : Language (Node × Bool)
OrderValue = Made ordered (Derives then Maybe Direction)

-- ORDER BY Expr [ ASC | DESC ] { "," Expr [ ASC | DESC ] }
unfoldable pub OrderBy : Language (List (Node × Bool))
OrderBy = After (word "ORDER") (After (word "BY") (Chain (sign ",") OrderValue))

-- .. [ HAVING Expr ] [ ORDER BY .. ]
unfoldable pub Ordered : Language ((ActingTree × Option Node) × Option (List (Node × Bool)))
Ordered = (Acting then Maybe (After (word "HAVING") Derives)) then Maybe OrderBy

abbrev pub OrderedTree : Type 0
OrderedTree = (ActingTree × Option Node) × Option (List (Node × Bool))

abbrev pub select_at : FromTree → Option PatternTree → Option Node → Option (List ActTree) → Option (List ActTree) → Option Node → Option (List (Node × Bool)) → Option Node → SelectTree
select_at from walk filter accum post having order limit =
    record { selected = from.0.0; source = from.0.1; alias = from.1; walk = walk; filter = filter; accum = accum; post = post; having = having; order = order; limit = limit }

abbrev pub select_of : OrderedTree × Option Node → SelectTree
select_of p = select_at p.0.0.0.0.0.0.0 p.0.0.0.0.0.0.1 p.0.0.0.0.0.1 p.0.0.0.0.1 p.0.0.0.1 p.0.0.1 p.0.1 p.1

-- Select = SELECT Name FROM Name [ ":" Name ] [ Hop | Path ] [ WHERE Expr ] [ ACCUM Acts ] [ Post Acts ]
--          [ HAVING Expr ] [ ORDER BY Expr [ ASC | DESC ] { "," Expr [ ASC | DESC ] } ] [ LIMIT Expr ]
unfoldable pub SelectOf : Language SelectTree
SelectOf = Made select_of (Ordered then Maybe (After (word "LIMIT") Derives))
