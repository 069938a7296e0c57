-- LastLemmas: the last step of a path.
use Rattle.std.proofs.Common.{◌≡◌, ◌-◌, suc, List, [], ◌∷◌, length, map, arith, refl, ap, ◌∙◌}
use Rattle.std.specs.Prelude.{slice_get}
use Rattle.std.specs.Option.{option_map}
use Rattle.gq_tree.specs.declared.select.StepTree.{StepTree}
use Rattle.gq_rules_typing.specs.SelectViews.{view_step}
use Rattle.gq_rules_typing.specs.Patterns.{last_step}

pub last_is : (steps : List StepTree) → last_step (map view_step steps) ≡ option_map view_step (slice_get steps (length steps - 1))
last_is [] = refl
last_is (s ∷ []) = refl
last_is (s ∷ t ∷ rest) = last_is (t ∷ rest) ∙ ap (λ n. option_map view_step (slice_get (s ∷ t ∷ rest) n)) (let e : suc (length (t ∷ rest) - 1) ≡ length (s ∷ t ∷ rest) - 1 = omega arith in e)
