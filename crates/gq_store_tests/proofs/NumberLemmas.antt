-- NumberLemmas: a plan that defines nothing has its numbers in order.
use Rattle.std.proofs.Common.{◌≡◌, ℕ, ◌+◌, ◌≤◌, List, [], ◌∷◌, length, arith}
use Rattle.gq_plan_ir.specs.declared.plan.Definition.{Definition}
use Rattle.gq_plan_ir.specs.Numbered.{AreNumbered}

pub none_numbered : (definitions : List Definition) → length definitions ≤ 0 → AreNumbered definitions
none_numbered [] h = tt
none_numbered (d ∷ rest) h = absurd (omega (arith, h))

pub ruleset number_laws = (none_numbered)
