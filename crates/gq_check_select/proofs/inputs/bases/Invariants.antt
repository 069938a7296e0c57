use Rattle.std.proofs.Common.{◌≡◌, drop, map}
use Rattle.gq_rules_typing.specs.Judging.{each_judged}
use Rattle.gq_rules_typing.specs.Types.{as_base}
use Rattle.gq_scope.specs.Views.{base_is, typed_is}
use Rattle.gq_check_select.proofs.InputLemmas.{after}
use Rattle.gq_check_select.proofs.inputs.bases.Given as goal

abbrev pub invariant-loop-x : goal.invariant-loop-x
invariant-loop-x l =
    each_judged as_base (map typed_is l.typed) ≡ after (map base_is l.bases.items) (each_judged as_base (map typed_is (drop l.x-index l.typed)))
