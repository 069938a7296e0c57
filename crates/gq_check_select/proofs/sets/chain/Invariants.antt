use Rattle.std.proofs.Common.{◌≡◌, drop}
use Rattle.gq_rules_typing.specs.Judging.{through_judged}
use Rattle.gq_rules_typing.specs.StatementViews.{view_term}
use Rattle.gq_scope.specs.Held.{scope_in}
use Rattle.gq_check_select.specs.Selects.{view_terms, joined_term, chain}
use Rattle.gq_check_select.proofs.sets.chain.Given as goal

abbrev pub invariant-loop-other : goal.invariant-loop-other
invariant-loop-other l =
    chain (scope_in l.scope) (view_term l.first) (view_terms l.others)
    ≡ through_judged (joined_term (scope_in l.scope)) l.types (view_terms (drop l.other-index l.others))
