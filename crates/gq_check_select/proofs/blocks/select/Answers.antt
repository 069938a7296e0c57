use Rattle.std.proofs.Common.{rules, List, ℕ}
use Rattle.gq_rules_typing.specs.SelectViews.{view_select}
use Rattle.gq_scope.specs.Held.{scope_in}
use Rattle.gq_check_from.proofs.ScopeLemmas.{judged_by}
use Rattle.gq_check_select.proofs.SelectLemmas.{select_is}
use Rattle.gq_check_select.proofs.blocks.select.Goals as goal

pub returns-clause-judged : goal.returns-clause-judged
returns-clause-judged c =
    judged_by {A = List ℕ} {B = List ℕ} _ _ _ c.block.result (select_is (scope_in c.args.scope.now) (view_select c.args.query.now)) (search rules)
