use Rattle.std.proofs.Common.{◌≡◌, [], drop, map}
use Rattle.gq_value.specs.AccumViews.{accum_of}
use Rattle.gq_rules_typing.specs.KindTypes.{parts_within}
use Rattle.gq_rules_typing.specs.StatementViews.{view_kind, part_trees}
use Rattle.gq_rules_typing.specs.Sorts.{names_of}
use Rattle.gq_scope.specs.Held.{fields_of, scope_in}
use Rattle.gq_check_decls.proofs.KindLemmas.{parts_after}
use Rattle.gq_check_decls.proofs.kinds.+kinds.Given as goal

abbrev pub invariant-parts_within-loop-tree : goal.invariant-parts_within-loop-tree
invariant-parts_within-loop-tree l =
    parts_within l.levels (scope_in l.scope) l.name (names_of (fields_of l.keys)) [] (part_trees (map (λ p. (view_kind p.0, p.1)) l.trees))
    ≡ parts_after (map (λ p. (p.0, accum_of p.1)) l.parts)
    (parts_within l.levels (scope_in l.scope) l.name (names_of (fields_of l.keys)) (map (λ p. p.0) l.parts) (part_trees (map (λ p. (view_kind p.0, p.1)) (drop l.tree-index l.trees))))
