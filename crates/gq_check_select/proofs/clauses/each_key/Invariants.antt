use Rattle.std.proofs.Common.{◌≡◌, drop}
use Rattle.gq_rules_typing.specs.Judging.{each_judged}
use Rattle.gq_rules_typing.specs.SelectTypes.{sort_key}
use Rattle.gq_scope.specs.Held.{names_in}
use Rattle.gq_check_from.specs.Walks.{passes}
use Rattle.gq_check_select.specs.Selects.{view_keys}
use Rattle.gq_check_select.proofs.clauses.each_key.Given as goal

abbrev pub invariant-loop-key : goal.invariant-loop-key
invariant-loop-key l =
    passes (each_judged (sort_key (names_in l.scope)) (view_keys l.keys)) ≡ passes (each_judged (sort_key (names_in l.scope)) (view_keys (drop l.key-index l.keys)))
