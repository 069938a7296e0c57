use Rattle.std.proofs.Common.{◌≡◌, take, false}
use Rattle.std.specs.Prelude.{fold}
use Rattle.gq_ddl.specs.Attributes.{shown_by}
use Rattle.gq_ddl.proofs.attributes.is_shown.Given as goal

abbrev pub invariant-loop-option : goal.invariant-loop-option
invariant-loop-option l = l.shown ≡ fold shown_by false (take l.option-index l.options)
