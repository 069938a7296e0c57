use Rattle.std.proofs.Common.{◌≡◌, take, map}
use Rattle.gq_value.specs.AccumViews.{base_of}
use Rattle.gq_scope.proofs.typed.keep_named.Given as goal

abbrev pub invariant-loop-field : goal.invariant-loop-field
invariant-loop-field l = map base_of l.kept ≡ map (λ f. base_of f.1) (take l.field-index l.fields)
