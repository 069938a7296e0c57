use Rattle.std.proofs.Common.{◌≡◌, ◌+◌, ◌*◌, drop, map}
use Rattle.gq_tree.specs.View.{views, view_parts, view_factors, view_terms}
use Rattle.gq_rules_typing.specs.ExpressionTypes.{typing_all, typing_parts, typing_factors, typing_terms, typing_bools}
use Rattle.gq_scope.specs.Held.{names_in}
use Rattle.gq_scope.specs.Views.{typed_is}
use Rattle.gq_type.proofs.ArgumentLemmas.{after}
use Rattle.gq_type.proofs.expressions.+typing.Given as goal

abbrev pub invariant-typed_all-loop-node : goal.invariant-typed_all-loop-node
invariant-typed_all-loop-node l =
    typing_all (names_in l.scope) (views l.nodes) ≡ after (map typed_is l.types.items) (typing_all (names_in l.scope) (views (drop l.node-index l.nodes)))

abbrev pub invariant-typed_parts-loop-part : goal.invariant-typed_parts-loop-part
invariant-typed_parts-loop-part l =
    typing_parts (names_in l.scope) (typed_is l.first) (view_parts l.parts) ≡ typing_parts (names_in l.scope) (typed_is l.x) (view_parts (drop l.part-index l.parts))

abbrev pub invariant-typed_factors-loop-factor : goal.invariant-typed_factors-loop-factor
invariant-typed_factors-loop-factor l =
    typing_factors (names_in l.scope) (typed_is l.first) (view_factors l.factors) ≡ typing_factors (names_in l.scope) (typed_is l.x) (view_factors (drop l.factor-index l.factors))

abbrev pub invariant-typed_terms-loop-term : goal.invariant-typed_terms-loop-term
invariant-typed_terms-loop-term l =
    typing_terms (names_in l.scope) (typed_is l.first) (view_terms l.terms) ≡ typing_terms (names_in l.scope) (typed_is l.x) (view_terms (drop l.term-index l.terms))

abbrev pub invariant-typed_bools-loop-other : goal.invariant-typed_bools-loop-other
invariant-typed_bools-loop-other l =
    typing_bools (names_in l.scope) (typed_is l.first) (views l.others) ≡ typing_bools (names_in l.scope) (typed_is l.x) (views (drop l.other-index l.others))

-- ---- the size of what is still to be typed; a function that passes on its whole argument counts for more

abbrev pub decreases-operated : goal.decreases-operated
decreases-operated l = 4 * goal.size-operated l + 0

abbrev pub decreases-typed : goal.decreases-typed
decreases-typed l = 4 * goal.size-typed l + 1

abbrev pub decreases-typed_all : goal.decreases-typed_all
decreases-typed_all l = 4 * goal.size-typed_all l + 2

abbrev pub decreases-typed_part : goal.decreases-typed_part
decreases-typed_part l = 4 * goal.size-typed_part l + 1

abbrev pub decreases-typed_parts : goal.decreases-typed_parts
decreases-typed_parts l = 4 * goal.size-typed_parts l + 2

abbrev pub decreases-typed_factors : goal.decreases-typed_factors
decreases-typed_factors l = 4 * goal.size-typed_factors l + 2

abbrev pub decreases-typed_terms : goal.decreases-typed_terms
decreases-typed_terms l = 4 * goal.size-typed_terms l + 2

abbrev pub decreases-typed_bools : goal.decreases-typed_bools
decreases-typed_bools l = 4 * goal.size-typed_bools l + 2
