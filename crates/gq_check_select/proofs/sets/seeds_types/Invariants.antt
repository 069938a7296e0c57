use Rattle.std.proofs.Common.{◌≡◌, drop, map}
use Rattle.gq_rules_typing.specs.Judging.{each_judged}
use Rattle.gq_rules_typing.specs.SetTypes.{seed_types}
use Rattle.gq_rules_typing.specs.StatementViews.{view_seed}
use Rattle.gq_scope.specs.Held.{scope_in}
use Rattle.gq_check_select.specs.Selects.{seeds_types}
use Rattle.gq_check_select.proofs.SetLemmas.{seeds_after}
use Rattle.gq_check_select.proofs.sets.seeds_types.Given as goal

abbrev pub invariant-loop-seed : goal.invariant-loop-seed
invariant-loop-seed l =
    seeds_types (scope_in l.scope) (map view_seed l.seeds) ≡ seeds_after l.all.items (each_judged (seed_types (scope_in l.scope)) (map view_seed (drop l.seed-index l.seeds)))
