-- Wants: the types to which arguments are converted.
use Rattle.std.specs.Prelude.{List, [], ◌∷◌, map}
use Rattle.gq_value.specs.Accums.{Base}
use Rattle.gq_value.specs.AccumViews.{base_of}
use Rattle.gq_eval_builtins.specs.declared.keys.Wants.{Wants}
use Rattle.gq_eval_builtins.specs.declared.keys.Wants.TheVariants as wants

abbrev pub wants_are : Wants → List Base
wants_are wants.Nothing = []
wants_are (wants.One b) = base_of b.now ∷ []
wants_are (wants.Keys keys) = map (λ k. base_of k.1) keys.now
wants_are (wants.Fields bases) = map base_of bases.now
