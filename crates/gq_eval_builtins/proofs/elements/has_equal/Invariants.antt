use Rattle.std.proofs.Common.{◌≡◌, drop, map}
use Rattle.gq_value.specs.Views.{val}
use Rattle.gq_eval_builtins.specs.Elements.{has_equal}
use Rattle.gq_eval_builtins.proofs.elements.has_equal.Given as goal

abbrev pub invariant-loop-element : goal.invariant-loop-element
invariant-loop-element l = has_equal (map val l.elements) (val l.value) ≡ has_equal (map val (drop l.element-index l.elements)) (val l.value)
