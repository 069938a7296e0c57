use Rattle.std.proofs.Common.{◌≡◌, take, map}
use Rattle.gq_value.specs.AccumViews.{base_of}
use Rattle.gq_check_decls.proofs.written.types_of.Given as goal

abbrev pub invariant-loop-field : goal.invariant-loop-field
invariant-loop-field l = map base_of l.types ≡ map (λ f. base_of f.1) (take l.field-index l.fields)
