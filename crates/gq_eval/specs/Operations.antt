-- Operations: the expressions with an operator.
use Rattle.gq_tree.specs.Tree.{Tree, Neg, Mul, Sum, Cmp, Not, And, Or}

abbrev pub IsOperation : {N : Type 0} → Tree N → Type 0
IsOperation (Neg n t) = Unit {0}
IsOperation (Mul t factors) = Unit {0}
IsOperation (Sum t terms) = Unit {0}
IsOperation (Cmp s sign t) = Unit {0}
IsOperation (Not n t) = Unit {0}
IsOperation (And t ts) = Unit {0}
IsOperation (Or t ts) = Unit {0}
IsOperation t = ⊥
