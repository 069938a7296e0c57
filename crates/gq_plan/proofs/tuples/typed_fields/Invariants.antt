use Rattle.std.proofs.Common.{◌≡◌, [], drop, map}
use Rattle.gq_rules_typing.specs.KindTypes.{fields_written}
use Rattle.gq_rules_typing.specs.StatementViews.{view_fields}
use Rattle.gq_scope.specs.Held.{fields_of, scope_in}
use Rattle.gq_type.proofs.ArgumentLemmas.{after}
use Rattle.gq_plan.proofs.tuples.typed_fields.Given as goal

abbrev pub invariant-loop-tree : goal.invariant-loop-tree
invariant-loop-tree l =
    fields_written (scope_in l.scope) 16 [] (view_fields l.trees)
    ≡ after (fields_of l.fields) (fields_written (scope_in l.scope) 16 (map (λ f. f.0) l.fields) (view_fields (drop l.tree-index l.trees)))
