use Rattle.std.proofs.Common.{◌≡◌, drop}
use Rattle.std.specs.List.{list_any}
use Rattle.gq_rules_typing.specs.StatementViews.{is_v2}
use Rattle.gq_scope.proofs.trees.allows_paths.Given as goal

abbrev pub invariant-loop-mode : goal.invariant-loop-mode
invariant-loop-mode l = list_any is_v2 l.modes ≡ list_any is_v2 (drop l.mode-index l.modes)
