-- ExprView: expressions of a plan as plain data.
use Rattle.std.specs.Prelude.{ℕ, List, map, Option, Some, None}
use Rattle.gq_rules_meaning.specs.AddSign.{AddSign}
use Rattle.gq_rules_meaning.specs.MulSign.{MulSign}
use Rattle.gq_rules_meaning.specs.Tree.{Tree, Behind, Trees, Parts, Factors, Terms, Number, Text, Truth, Global, Name, Call, Post, Neg, Mul, Sum, Cmp, Not, And, Or, Field, Method, Attached, Before, no_tree, tree}
use Rattle.gq_rules_meaning.specs.View.{trees_of, parts_of, factors_of, terms_of}
use Rattle.gq_rules_meaning.specs.Words as words
use Rattle.gq_rules_typing.specs.Builtins.{builtin_is}
use Rattle.gq_plan_ir.specs.declared.expr.Expr.{Expr, Expr-F, fold-Expr}
use Rattle.gq_plan_ir.specs.declared.expr.Behind.{Behind-F, fold-Behind}
use Rattle.gq_plan_ir.specs.declared.expr.Behind as code
use Rattle.gq_plan_ir.specs.declared.expr.Field as code_field
use Rattle.gq_plan_ir.specs.declared.expr.Field.TheVariants as a_field
use Rattle.gq_plan_ir.specs.declared.expr.Method as code_method
use Rattle.gq_plan_ir.specs.declared.expr.Method.TheVariants as a_method
use Rattle.gq_plan_ir.specs.declared.expr.Function as code_function
use Rattle.gq_plan_ir.specs.declared.expr.Function.TheVariants as a_function
use Rattle.gq_plan_ir.specs.Reference.{Reference, Place, Slot, TupleType, TypeName, FieldAt, Calls, Does}

-- ---- references

abbrev pub field_of : code_field.Field → Reference
field_of a_field.Type = TypeName
field_of (a_field.Named c) = FieldAt c

abbrev pub method_of : code_method.Method → words.Method
method_of a_method.Size = words.Size
method_of a_method.Contains = words.Contains
method_of a_method.ContainsKey = words.ContainsKey
method_of a_method.Get = words.Get

-- the types of a tuple's fields follow from its number
abbrev pub function_of : code_function.Function → Reference
function_of (a_function.Tuple n fields) = TupleType n
function_of (a_function.Own builtin) = Calls (builtin_is builtin)

-- the edge type in the parentheses of `outdegree`; which types are counted follows from it
abbrev pub quoted : Option (List ℕ) → Trees Reference
quoted None = no_tree
quoted (Some e) = tree (Text e) no_tree

-- ---- one layer, given the views of what is within

abbrev pub expr_step : Expr-F (Behind Reference) (Tree Reference) → Tree Reference
expr_step (Expr-F.Number n) = Number n
expr_step (Expr-F.Text said) = Text said
expr_step (Expr-F.Truth b) = Truth b
expr_step (Expr-F.Global slot) = Global (Slot slot)
expr_step (Expr-F.Name place) = Name (Place place)
expr_step (Expr-F.Call f arguments) = Call (function_of f) (trees_of arguments)
expr_step (Expr-F.Post first parts) = Post first (parts_of parts)
expr_step (Expr-F.Neg n t) = Neg n t
expr_step (Expr-F.Mul first factors) = Mul first (factors_of factors)
expr_step (Expr-F.Sum first terms) = Sum first (terms_of terms)
expr_step (Expr-F.Cmp a sign b) = Cmp a sign b
expr_step (Expr-F.Not n t) = Not n t
expr_step (Expr-F.And first others) = And first (trees_of others)
expr_step (Expr-F.Or first others) = Or first (trees_of others)

abbrev pub behind_step : Behind-F (Behind Reference) (Tree Reference) → Behind Reference
behind_step (Behind-F.Field f) = Field (field_of f)
behind_step (Behind-F.Method m arguments) = Method (Does (method_of m)) (trees_of arguments)
behind_step (Behind-F.Degree e types) = Method (Does words.Outdegree) (quoted e)
behind_step (Behind-F.Attached slot) = Attached (Slot slot)
behind_step (Behind-F.Before slot) = Before (Slot slot)

-- ---- whole expressions

unfoldable pub view : Expr → Tree Reference
view = fold-Expr (Behind Reference) (Tree Reference) behind_step expr_step

unfoldable pub view_behind : code.Behind → Behind Reference
view_behind = fold-Behind (Behind Reference) (Tree Reference) behind_step expr_step

-- ---- lists of them

abbrev pub views : List Expr → Trees Reference
views ts = trees_of (map view ts)

abbrev pub view_parts : List code.Behind → Parts Reference
view_parts ps = parts_of (map view_behind ps)

abbrev pub view_factors : List (MulSign × Expr) → Factors Reference
view_factors fs = factors_of (map (λ f. (f.0, view f.1)) fs)

abbrev pub view_terms : List (AddSign × Expr) → Terms Reference
view_terms ts = terms_of (map (λ t. (t.0, view t.1)) ts)
