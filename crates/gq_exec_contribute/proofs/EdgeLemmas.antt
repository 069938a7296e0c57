-- EdgeLemmas: the alias of the edge of a path.
use Rattle.std.proofs.Common.{◌≡◌, ℕ, suc, ◌-◌, ◌≤◌, List, [], ◌∷◌, map, length, get_or, ap, ◌∙◌, arith}
use Rattle.std.specs.Option.{option_map}
use Rattle.gq_rules_typing.specs.Patterns.{edge_alias}
use Rattle.gq_rules_typing.specs.Selecting as plain
use Rattle.gq_plan_ir.specs.declared.block.PathStep.{PathStep}
use Rattle.gq_plan_ir.specs.BlockView.{view_path_step}
use Rattle.gq_plan_ir.specs.Reference.{Place}

last_is : (s : PathStep) (steps : List PathStep) (x : PathStep) → x ≡ get_or (s ∷ steps) (length steps) x → option_map Place x.edge_alias ≡ edge_alias (plain.Path (map view_path_step (s ∷ steps)))
last_is s [] x h = ap (λ (y : PathStep). option_map Place y.edge_alias) h
last_is s (t ∷ steps) x h = last_is t steps x h

pub last_step_is : (steps : List PathStep) (x : PathStep) → 1 ≤ length steps → x ≡ get_or steps (length steps - 1) x → option_map Place x.edge_alias ≡ edge_alias (plain.Path (map view_path_step steps))
last_step_is [] x l h = absurd (omega (arith, l))
last_step_is (s ∷ steps) x l h = let e : suc (length steps) - 1 ≡ length steps = omega arith in last_is s steps x (h ∙ ap (λ (n : ℕ). get_or (s ∷ steps) n x) e)

pub ruleset last_laws = (last_step_is)
