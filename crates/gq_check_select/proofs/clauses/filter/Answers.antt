use Rattle.std.proofs.Common.{rules, ap, Bool}
use Rattle.std.specs.Option.{option_map}
use Rattle.gq_tree.specs.View.{view}
use Rattle.gq_rules_typing.specs.Statements.{Bytes}
use Rattle.gq_rules_typing.specs.ExpressionTypes.{Names, condition}
use Rattle.gq_rules_typing.specs.Scopes.{InBlock}
use Rattle.gq_rules_typing.specs.SelectTypes.{optional}
use Rattle.gq_check_from.proofs.ScopeLemmas.{judged_by}
use Rattle.gq_check_select.proofs.PlaceLemmas.{names_put}
use Rattle.gq_check_select.proofs.clauses.filter.Goals as goal

pub returns-clause-judged : goal.returns-clause-judged
returns-clause-judged c =
    judged_by {A = Bool} {B = Unit {0}} _ _ _ c.condition_if.result
    (ap (λ (names : Names Bytes). optional (condition names) (option_map view c.args.node.now)) (names_put c.args.scope.now c.put_at.new.self InBlock c.put_at.ensures)) (search rules)
