use Rattle.std.proofs.Common.{rules, ap, Bool}
use Rattle.std.specs.Option.{option_map}
use Rattle.gq_tree.specs.View.{view}
use Rattle.gq_rules_typing.specs.Statements.{Bytes}
use Rattle.gq_rules_typing.specs.ExpressionTypes.{Names}
use Rattle.gq_rules_typing.specs.Scopes.{InTail}
use Rattle.gq_rules_typing.specs.SelectViews.{view_order}
use Rattle.gq_check_from.proofs.ScopeLemmas.{judged_by}
use Rattle.gq_check_select.specs.Selects.{tail_of}
use Rattle.gq_check_select.proofs.PlaceLemmas.{names_put}
use Rattle.gq_check_select.proofs.clauses.tail.Goals as goal

pub returns-clause-judged : goal.returns-clause-judged
returns-clause-judged c =
    judged_by {A = Bool} {B = Unit {0}} _ _ _ c.tail_here.result
    (ap (λ (names : Names Bytes). tail_of names (option_map view c.args.having.now) (view_order c.args.order.now))
    (names_put c.args.scope.now c.put_at.new.self (InTail c.args.selected.now) c.put_at.ensures)) (search rules)
