use Rattle.std.proofs.Common.{◌≡◌, drop, map}
use Rattle.gq_tree.specs.View.{views}
use Rattle.gq_rules_typing.specs.ExpressionTypes.{typing_all}
use Rattle.gq_scope.specs.Held.{names_in}
use Rattle.gq_scope.specs.Views.{typed_is}
use Rattle.gq_check_select.proofs.InputLemmas.{after}
use Rattle.gq_check_select.proofs.inputs.typed_all.Given as goal

abbrev pub invariant-loop-node : goal.invariant-loop-node
invariant-loop-node l =
    typing_all (names_in l.scope) (views l.nodes) ≡ after (map typed_is l.types.items) (typing_all (names_in l.scope) (views (drop l.node-index l.nodes)))
