use Rattle.gq_eval_context.proofs.DegreeLemmas.{Counted}
use Rattle.gq_eval_context.proofs.degrees.degree.Given as goal

abbrev pub invariant-loop-kind : goal.invariant-loop-kind
invariant-loop-kind l = Counted l.graph l.own l.vertex l.kind-index l.total
