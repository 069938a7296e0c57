use Rattle.std.proofs.Common.{◌≡◌, ap, Err}
use Rattle.gq_exec_source.specs.declared.path_types.PathsFault.TheVariants as fault
use Rattle.gq_index.specs.Sights.{sight_of}
use Rattle.gq_exec_source.proofs.BindingLemmas.{all_listed, all_many}
use Rattle.gq_exec_source.proofs.paths.listed.Goals as goal

pub returns-in-Ok-list_from-clause-listed : goal.returns-in-Ok-list_from-clause-listed
returns-in-Ok-list_from-clause-listed c =
    let g = c.args.graph.now in
    all_listed (sight_of g.catalog.now g.store.now.vertices g.store.now.edges) c.args.steps.now c.args.set.now c.in-Ok.sources.items c.deref-in-Ok.result.now c.deref.result.now c.in-Ok.hops.items c.new-listing.result c.list_from.new.listing c.done.result
    c.requires.some c.in-Ok.ensures.hops c.deref.ensures.value c.deref-in-Ok.ensures.value c.in-Ok.ensures.sources c.new-listing.ensures c.in-Ok-list_from.ensures.ok c.done.ensures

pub returns-in-Ok-clause-many : goal.returns-in-Ok-clause-many
returns-in-Ok-clause-many c = λ e.
    let g = c.args.graph.now in let same : c.in-Err-list_from.fault ≡ fault.TooMany = cc e in
    all_many (sight_of g.catalog.now g.store.now.vertices g.store.now.edges) c.args.steps.now c.args.set.now c.in-Ok.sources.items c.deref-in-Ok.result.now c.deref.result.now c.in-Ok.hops.items c.new-listing.result
    c.requires.some c.in-Ok.ensures.hops c.deref.ensures.value c.deref-in-Ok.ensures.value c.in-Ok.ensures.sources c.new-listing.ensures (c.in-Err-list_from.ensures.many (ap Err same))
