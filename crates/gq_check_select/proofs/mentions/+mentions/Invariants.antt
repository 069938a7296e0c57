-- In each loop, the alias hasn't been named so far.
use Rattle.std.proofs.Common.{◌≡◌, drop}
use Rattle.std.specs.Str.{bytes_eq}
use Rattle.std.specs.Option.{option_copied}
use Rattle.gq_tree.specs.View.{views, view_parts, view_factors, view_terms}
use Rattle.gq_rules_typing.specs.Patterns.{is_alias}
use Rattle.gq_rules_typing.specs.Mentions.{in_trees, in_parts, in_factors, in_terms}
use Rattle.gq_check_select.proofs.mentions.+mentions.Given as goal

abbrev pub invariant-in_nodes-loop-node : goal.invariant-in_nodes-loop-node
invariant-in_nodes-loop-node l =
    let is = is_alias bytes_eq (option_copied l.alias) in in_trees is (views l.nodes) ≡ in_trees is (views (drop l.node-index l.nodes))

abbrev pub invariant-in_parts-loop-part : goal.invariant-in_parts-loop-part
invariant-in_parts-loop-part l =
    let is = is_alias bytes_eq (option_copied l.alias) in in_parts is (view_parts l.parts) ≡ in_parts is (view_parts (drop l.part-index l.parts))

abbrev pub invariant-in_factors-loop-factor : goal.invariant-in_factors-loop-factor
invariant-in_factors-loop-factor l =
    let is = is_alias bytes_eq (option_copied l.alias) in in_factors is (view_factors l.factors) ≡ in_factors is (view_factors (drop l.factor-index l.factors))

abbrev pub invariant-in_terms-loop-term : goal.invariant-in_terms-loop-term
invariant-in_terms-loop-term l =
    let is = is_alias bytes_eq (option_copied l.alias) in in_terms is (view_terms l.terms) ≡ in_terms is (view_terms (drop l.term-index l.terms))
