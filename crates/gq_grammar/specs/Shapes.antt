-- Shapes: the tree that each production of expressions builds from its parts. A chain of one is its only part.
use Rattle.std.specs.Prelude.{ℕ, zero, suc, List, [], ◌∷◌, length, Option, Some, None}
use Rattle.gq_tree.specs.declared.expr.Node.{Node}
use Rattle.gq_tree.specs.declared.expr.Node.TheVariants as node
use Rattle.gq_tree.specs.declared.expr.Part.{Part}
use Rattle.gq_tree.specs.declared.expr.Part.TheVariants as part
use Rattle.gq_tree.specs.declared.expr.AddSign.{AddSign}
use Rattle.gq_tree.specs.declared.expr.MulSign.{MulSign}
use Rattle.gq_tree.specs.declared.expr.CmpSign.{CmpSign}

-- a name, or a call if there are parentheses
abbrev pub named_at : List ℕ → Option (List Node) → Node
named_at name None = node.Name name
named_at name (Some arguments) = node.Call name arguments

abbrev pub named : List ℕ × Option (List Node) → Node
named p = named_at p.0 p.1

-- a field, or a method if there are parentheses
abbrev pub part_at : List ℕ → Option (List Node) → Part
part_at name None = part.Field name
part_at name (Some arguments) = part.Method name arguments

abbrev pub part_of : List ℕ × Option (List Node) → Part
part_of p = part_at p.0 p.1

-- an accumulator of a vertex, or its earlier value if there is a `'`
abbrev pub attached_at : List ℕ → Option (Unit {0}) → Part
attached_at name None = part.Attached name
attached_at name (Some u) = part.Before name

abbrev pub attached_of : List ℕ × Option (Unit {0}) → Part
attached_of p = attached_at p.0 p.1

abbrev pub post_at : Node → List Part → Node
post_at first [] = first
post_at first (p ∷ parts) = node.Post first (p ∷ parts)

abbrev pub post_of : Node × List Part → Node
post_of p = post_at p.0 p.1

abbrev pub neg_at : ℕ → Node → Node
neg_at zero operand = operand
neg_at (suc n) operand = node.Neg (suc n) operand

abbrev pub neg_of : List (Unit {0}) × Node → Node
neg_of p = neg_at (length p.0) p.1

abbrev pub mul_at : Node → List (MulSign × Node) → Node
mul_at first [] = first
mul_at first (f ∷ factors) = node.Mul first (f ∷ factors)

abbrev pub mul_of : Node × List (MulSign × Node) → Node
mul_of p = mul_at p.0 p.1

abbrev pub sum_at : Node → List (AddSign × Node) → Node
sum_at first [] = first
sum_at first (t ∷ terms) = node.Sum first (t ∷ terms)

abbrev pub sum_of : Node × List (AddSign × Node) → Node
sum_of p = sum_at p.0 p.1

abbrev pub cmp_at : Node → Option (CmpSign × Node) → Node
cmp_at left None = left
cmp_at left (Some p) = node.Cmp left p.0 p.1

abbrev pub cmp_of : Node × Option (CmpSign × Node) → Node
cmp_of p = cmp_at p.0 p.1

abbrev pub not_at : ℕ → Node → Node
not_at zero operand = operand
not_at (suc n) operand = node.Not (suc n) operand

abbrev pub not_of : List (Unit {0}) × Node → Node
not_of p = not_at (length p.0) p.1

abbrev pub and_at : Node → List Node → Node
and_at first [] = first
and_at first (t ∷ others) = node.And first (t ∷ others)

abbrev pub and_of : Node × List Node → Node
and_of p = and_at p.0 p.1

abbrev pub or_at : Node → List Node → Node
or_at first [] = first
or_at first (t ∷ others) = node.Or first (t ∷ others)

abbrev pub or_of : Node × List Node → Node
or_of p = or_at p.0 p.1
