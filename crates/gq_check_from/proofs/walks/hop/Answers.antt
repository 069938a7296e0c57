use Rattle.std.proofs.Common.{rules}
use Rattle.gq_rules_typing.specs.Statements.{Bytes}
use Rattle.gq_rules_typing.specs.Scopes.{Scope}
use Rattle.gq_rules_typing.specs.SelectViews.{view_hop}
use Rattle.gq_scope.specs.Held.{scope_in}
use Rattle.gq_check_from.proofs.ScopeLemmas.{judged_by}
use Rattle.gq_check_from.proofs.StepLemmas.{hop_is}
use Rattle.gq_check_from.proofs.walks.hop.Goals as goal

pub returns-clause-judged : goal.returns-clause-judged
returns-clause-judged c =
    judged_by {A = Scope Bytes} {B = Unit {0}} _ _ _ c.hop_parts.result (hop_is (scope_in c.args.scope.now) c.args.ends.now (view_hop c.args.tree.now)) (search rules)
