use Rattle.std.proofs.Common.{◌∙◌, sym}
use Rattle.gq_edge.proofs.JoinLemmas.{when_ok, when_err}
use Rattle.gq_edge.proofs.edges.replace.Goals as goal

pub returns-clause-done : goal.returns-clause-done
returns-clause-done c = λ yes_ok. when_ok c.set.result c.set.ensures.ok (sym c.is_ok.ensures.value ∙ yes_ok)

pub returns-clause-stays : goal.returns-clause-stays
returns-clause-stays c = λ not_ok. when_err c.set.result c.set.ensures.err (sym c.is_ok.ensures.value ∙ not_ok)
