-- FaultLemmas: answers that end with a fault, and answers that are equal.
use Rattle.std.proofs.Common.{◌≡◌, Result, Ok, Err, ap, ◌∙◌}
use Rattle.gq_rules_meaning.specs.Answers.{Answer, Faults, ◌>>=◌}
use Rattle.gq_rules_meaning.specs.Statements.{Fault}
use Rattle.gq_exec_control.specs.declared.running.RunFault.{RunFault}
use Rattle.gq_exec_control.specs.declared.running.RunFault.TheVariants as fault
use Rattle.gq_exec_control.specs.Standing.{Ends, Leads}

pub ends_bind : {A B : Type 0} (o : Answer Fault A) (f : A → Answer Fault B) (e : RunFault) → Ends o e → Ends (o >>= f) e
ends_bind o f (fault.Eval w) h = ap (λ x. x >>= f) h
ends_bind o f (fault.SumRange n) h = ap (λ x. x >>= f) h
ends_bind o f fault.LoopBound h = ap (λ x. x >>= f) h
ends_bind o f fault.PathBound h = ap (λ x. x >>= f) h
ends_bind o f fault.Stuck h = ap (λ x. x >>= f) h
ends_bind o f fault.OutOfMemory h = tt

pub ends_same : {A : Type 0} (o p : Answer Fault A) (e : RunFault) → o ≡ p → Ends p e → Ends o e
ends_same o p (fault.Eval w) h g = h ∙ g
ends_same o p (fault.SumRange n) h g = h ∙ g
ends_same o p fault.LoopBound h g = h ∙ g
ends_same o p fault.PathBound h g = h ∙ g
ends_same o p fault.Stuck h g = h ∙ g
ends_same o p fault.OutOfMemory h g = tt

pub leads_same : {A : Type 0} (P : A → Type 0) (o p : Answer Fault A) (r : Result (Unit {0}) RunFault) → o ≡ p → Leads P p r → Leads P o r
leads_same P o p (Ok u) h g = (g.0, h ∙ g.1, g.2)
leads_same P o p (Err e) h g = ends_same o p e h g
