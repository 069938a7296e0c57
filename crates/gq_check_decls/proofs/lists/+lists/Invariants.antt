use Rattle.std.proofs.Common.{◌≡◌, drop}
use Rattle.gq_value.specs.Typed.{have_no_list}
use Rattle.gq_scope.specs.Views.{parts_are}
use Rattle.gq_check_decls.proofs.lists.+lists.Given as goal

abbrev pub invariant-have_no_list-loop-part : goal.invariant-have_no_list-loop-part
invariant-have_no_list-loop-part l = have_no_list (parts_are l.parts) ≡ have_no_list (parts_are (drop l.part-index l.parts))
