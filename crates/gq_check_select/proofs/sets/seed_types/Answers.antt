use Rattle.std.proofs.Common.{rules, ◌∙◌, ap, List, ℕ}
use Rattle.gq_tree.specs.declared.body.SeedTree.{SeedTree}
use Rattle.gq_rules_typing.specs.SetTypes.{seed_types}
use Rattle.gq_rules_typing.specs.StatementViews.{view_seed}
use Rattle.gq_scope.specs.Held.{scope_in}
use Rattle.gq_check_from.proofs.ScopeLemmas.{judged_by}
use Rattle.gq_check_select.proofs.SetLemmas.{named_types_are}
use Rattle.gq_check_select.proofs.sets.seed_types.Goals as goal

pub returns-in-Name : goal.returns-in-Name
returns-in-Name c =
    judged_by {A = List ℕ} {B = List ℕ} _ _ _ c.named_types.result
    (ap (λ (seed : SeedTree). seed_types (scope_in c.args.scope.now) (view_seed seed)) c.in-Name.is ∙ named_types_are c.args.scope.now c.in-Name.name) (search rules)
