-- FaultLemmas: an end of a step ends all steps after it.
use Rattle.std.proofs.Common.{◌≡◌, ℕ, ap}
use Rattle.gq_value.specs.declared.value.Wrong.{Wrong}
use Rattle.gq_rules_meaning.specs.Answers.{Answer, ◌>>=◌, blaming}
use Rattle.gq_rules_meaning.specs.Blocks.{BlockFault, AtPlace}
use Rattle.gq_eval_operand.specs.declared.halt.Halt.{Halt}
use Rattle.gq_eval_operand.specs.declared.halt.Halt.TheVariants as halt
use Rattle.gq_eval_operand.specs.Meant.{Halts}
use Rattle.gq_eval_context.specs.declared.after.BlockFault as code
use Rattle.gq_eval_context.specs.declared.after.BlockFault.TheVariants as fault
use Rattle.gq_eval_context.specs.Answered.{EndsAs}
use Rattle.gq_eval_context.specs.Faults.{fault_at}

-- an evaluation at a vertex that ends
pub stops_at : {A B : Type 0} (o : Answer Wrong A) (f : A → Answer BlockFault B) (v : ℕ) (h : Halt) → Halts o h → EndsAs (blaming (AtPlace v) o >>= f) (fault_at v h)
stops_at o f v (halt.Wrong w) e = ap (λ p. blaming (AtPlace v) p >>= f) e
stops_at o f v halt.Stuck e = ap (λ p. blaming (AtPlace v) p >>= f) e
stops_at o f v halt.OutOfMemory e = tt

-- a step that ends
pub ends_with : {A B : Type 0} (o : Answer BlockFault A) (f : A → Answer BlockFault B) (e : code.BlockFault) → EndsAs o e → EndsAs (o >>= f) e
ends_with o f (fault.Eval at w) h = ap (λ p. p >>= f) h
ends_with o f (fault.SumRange n) h = ap (λ p. p >>= f) h
ends_with o f fault.Stuck h = ap (λ p. p >>= f) h
ends_with o f fault.OutOfMemory h = tt
