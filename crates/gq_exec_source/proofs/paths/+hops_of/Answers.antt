use Rattle.gq_index.specs.Sights.{sight_of}
use Rattle.gq_exec_source.proofs.BindingLemmas.{hops_next}
use Rattle.gq_exec_source.proofs.paths.+hops_of.Goals as goal

pub returns-in_ok-insert-in-len1-up : goal.returns-in_ok-insert-in-len1-up
returns-in_ok-insert-in-len1-up t c =
    let g = c.args.graph.now in
    hops_next (sight_of g.catalog.now g.store.now.vertices g.store.now.edges) c.args.steps.now c.step-item.result c.in_ok-hop-in-len1-up.hop c.deref.result.now c.in_ok-hops-in-len1-up.hops.items c.insert.new.self.items
    c.in-len1-up.len_at_least c.step-item.is c.deref.ensures.value c.in_ok-insert-in-len1-up.ensures.items c.in_ok-hop-in-len1-up.ensures c.in_ok-hops-in-len1-up.ensures
