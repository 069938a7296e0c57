-- The first failing rule, with the rules checked one after another.
use Rattle.std.proofs.Common.{◌≡◌, ◌≢◌, Option, Some, None, ap, ◌∙◌}
use Rattle.std.specs.Option.{option_or}
use Rattle.gq_load_check.specs.declared.fault.JobFault.{JobFault}
use Rattle.gq_load_check.specs.declared.fault.JobFault.TheVariants as fault

-- the first rule fails: its fault is the one due
pub judge_fault : (due rest : Option JobFault) (f : JobFault) → (f ≢ fault.OutOfMemory → due ≡ Some f) → f ≢ fault.OutOfMemory → option_or due rest ≡ Some f
judge_fault due rest f is other = ap (λ o. option_or o rest) (is other)

-- the first rule holds: the rest decides
pub judge_rest : (due rest answer : Option JobFault) → due ≡ None → rest ≡ answer → option_or due rest ≡ answer
judge_rest due rest answer none is = ap (λ o. option_or o rest) none ∙ is

pub ruleset judging = (judge_fault, judge_rest)
