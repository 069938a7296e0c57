-- In each loop the items planned so far come before the rest.
use Rattle.std.proofs.Common.{◌≡◌, drop}
use Rattle.gq_tree.specs.View.{views, view_parts, view_factors, view_terms}
use Rattle.gq_plan_expr.specs.Names.{known_of}
use Rattle.gq_plan_expr.specs.Resolved.{resolved_all, resolved_parts, resolved_factors, resolved_terms}
use Rattle.gq_plan_expr.proofs.ListLemmas.{after}
use Rattle.gq_plan_expr.proofs.exprs.+plans.Given as goal

abbrev pub invariant-exprs-loop-node : goal.invariant-exprs-loop-node
invariant-exprs-loop-node l = resolved_all (known_of l.names) (views l.nodes) ≡ after l.planned (resolved_all (known_of l.names) (views (drop l.node-index l.nodes)))

abbrev pub invariant-behinds-loop-part : goal.invariant-behinds-loop-part
invariant-behinds-loop-part l = resolved_parts (known_of l.names) (view_parts l.parts) ≡ after l.planned (resolved_parts (known_of l.names) (view_parts (drop l.part-index l.parts)))

abbrev pub invariant-factors-loop-factor : goal.invariant-factors-loop-factor
invariant-factors-loop-factor l = resolved_factors (known_of l.names) (view_factors l.factors) ≡ after l.planned (resolved_factors (known_of l.names) (view_factors (drop l.factor-index l.factors)))

abbrev pub invariant-terms-loop-term : goal.invariant-terms-loop-term
invariant-terms-loop-term l = resolved_terms (known_of l.names) (view_terms l.terms) ≡ after l.planned (resolved_terms (known_of l.names) (view_terms (drop l.term-index l.terms)))
