-- Numbered: definitions of a plan whose tuple types and slots are numbered in order of declaration.
use Rattle.std.specs.Prelude.{◌≡◌, ℕ, suc, ◌+◌, List, [], ◌∷◌, length}
use Rattle.gq_plan_ir.specs.declared.plan.Accum.{Accum}
use Rattle.gq_plan_ir.specs.declared.plan.Definition.{Definition}
use Rattle.gq_plan_ir.specs.declared.plan.Definition.TheVariants as definition

-- accumulators whose slots are numbered from n on
abbrev pub SlotsFrom : ℕ → List Accum → Type 0
SlotsFrom n [] = Unit {0}
SlotsFrom n (a ∷ rest) = (a.slot ≡ n) × SlotsFrom (suc n) rest

-- after t tuple types and n slots, a definition has the next numbers
abbrev pub IsNext : ℕ → ℕ → Definition → Type 0
IsNext t n (definition.Tuple fields m) = t ≡ m
IsNext t n (definition.Accums kind accums) = SlotsFrom n accums

-- the number of tuple types, and of slots, in a definition
abbrev pub tuples_in : Definition → ℕ
tuples_in (definition.Tuple fields m) = 1
tuples_in (definition.Accums kind accums) = 0

abbrev pub slots_in : Definition → ℕ
slots_in (definition.Tuple fields m) = 0
slots_in (definition.Accums kind accums) = length accums

abbrev pub NumberedFrom : ℕ → ℕ → List Definition → Type 0
NumberedFrom t n [] = Unit {0}
NumberedFrom t n (d ∷ rest) = IsNext t n d × NumberedFrom (t + tuples_in d) (n + slots_in d) rest

-- all of a plan's definitions
abbrev pub AreNumbered : List Definition → Type 0
AreNumbered definitions = NumberedFrom 0 0 definitions
