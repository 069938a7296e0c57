use Rattle.gq_query_run.proofs.PlaceLemmas.{all_placed}
use Rattle.gq_query_run.proofs.queries.Queries.install_all.Goals as goal

pub invariant_of-self : goal.invariant_of-self
invariant_of-self c = rw (c.install_list.ensures) (all_placed c.self.inside.stored c.self.inside.places c.self.invariant)
