-- View: the code's trees as plain data.
use Rattle.std.specs.Prelude.{ℕ, List, [], ◌∷◌, map}
use Rattle.gq_tree.specs.declared.expr.AddSign.{AddSign}
use Rattle.gq_tree.specs.declared.expr.MulSign.{MulSign}
use Rattle.gq_tree.specs.declared.expr.Node.{Node, Node-F, fold-Node}
use Rattle.gq_tree.specs.declared.expr.Part.{Part, Part-F, fold-Part}
use Rattle.gq_tree.specs.Tree.{Tree, Behind, Trees, Parts, Factors, Terms, Number, Text, Truth, Global, Name, Call, Post, Neg, Mul, Sum, Cmp, Not, And, Or, Field, Method, Attached, Before, no_tree, tree, no_part, part, no_factor, factor, no_term, term}

-- a name as a query has it: its bytes
abbrev pub Named : Type 0
Named = List ℕ

-- ---- lists

abbrev pub trees_of : {N : Type 0} → List (Tree N) → Trees N
trees_of [] = no_tree
trees_of (t ∷ ts) = tree t (trees_of ts)

abbrev pub parts_of : {N : Type 0} → List (Behind N) → Parts N
parts_of [] = no_part
parts_of (p ∷ ps) = part p (parts_of ps)

abbrev pub factors_of : {N : Type 0} → List (MulSign × Tree N) → Factors N
factors_of [] = no_factor
factors_of (f ∷ fs) = factor f.0 f.1 (factors_of fs)

abbrev pub terms_of : {N : Type 0} → List (AddSign × Tree N) → Terms N
terms_of [] = no_term
terms_of (t ∷ ts) = term t.0 t.1 (terms_of ts)

-- ---- one layer, given the views of what is within

abbrev pub node_step : Node-F (Tree Named) (Behind Named) → Tree Named
node_step (Node-F.Number n) = Number n
node_step (Node-F.Text said) = Text said
node_step (Node-F.Truth b) = Truth b
node_step (Node-F.Global name) = Global name
node_step (Node-F.Name name) = Name name
node_step (Node-F.Call name arguments) = Call name (trees_of arguments)
node_step (Node-F.Post first parts) = Post first (parts_of parts)
node_step (Node-F.Neg n t) = Neg n t
node_step (Node-F.Mul first factors) = Mul first (factors_of factors)
node_step (Node-F.Sum first terms) = Sum first (terms_of terms)
node_step (Node-F.Cmp a sign b) = Cmp a sign b
node_step (Node-F.Not n t) = Not n t
node_step (Node-F.And first others) = And first (trees_of others)
node_step (Node-F.Or first others) = Or first (trees_of others)

abbrev pub part_step : Part-F (Tree Named) (Behind Named) → Behind Named
part_step (Part-F.Field name) = Field name
part_step (Part-F.Method name arguments) = Method name (trees_of arguments)
part_step (Part-F.Attached name) = Attached name
part_step (Part-F.Before name) = Before name

-- ---- whole trees

unfoldable pub view : Node → Tree Named
view = fold-Node (Tree Named) (Behind Named) node_step part_step

unfoldable pub view_part : Part → Behind Named
view_part = fold-Part (Tree Named) (Behind Named) node_step part_step

abbrev pub views : List Node → Trees Named
views nodes = trees_of (map view nodes)

abbrev pub view_parts : List Part → Parts Named
view_parts parts = parts_of (map view_part parts)

abbrev pub view_factors : List (MulSign × Node) → Factors Named
view_factors factors = factors_of (map (λ f. (f.0, view f.1)) factors)

abbrev pub view_terms : List (AddSign × Node) → Terms Named
view_terms terms = terms_of (map (λ t. (t.0, view t.1)) terms)
