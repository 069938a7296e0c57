-- Called: the methods of the code as methods of the typing rules.
use Rattle.gq_rules_typing.specs.Words as words
use Rattle.gq_plan_ir.specs.ExprView.{method_of}
use Rattle.gq_plan_expr.specs.declared.methods.Called.{Called}
use Rattle.gq_plan_expr.specs.declared.methods.Called.TheVariants as called

abbrev pub called_is : Called → words.Method
called_is (called.Method m) = method_of m
called_is called.Outdegree = words.Outdegree
