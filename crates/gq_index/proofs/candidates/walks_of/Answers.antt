use Rattle.std.proofs.Common.{◌∙◌, length}
use Rattle.gq_graph.specs.Candidates.{among}
use Rattle.gq_index.specs.Sights.{sight_of}
use Rattle.gq_index.proofs.CandidateLemmas.{found_is}
use Rattle.gq_index.proofs.OrderLemmas.{filtered_rises}
use Rattle.gq_index.proofs.SightLemmas.{by_number_below}
use Rattle.gq_index.proofs.candidates.walks_of.Goals as goal

pub found_in_place-requires : goal.found_in_place-requires
found_in_place-requires c =
    let g = c.args.graph.now in let sight = sight_of g.catalog.now g.store.now.vertices g.store.now.edges in
    record {
      all = c.are_known-all.ensures;
      rising = filtered_rises (among c.args.set.now) (length sight.kinds) c.deref.result.now
          (c.deref.ensures.value ∙ c.in_ok-sources.ensures ∙ by_number_below sight c.args.set.now);
    }

pub returns-in-Some : goal.returns-in-Some
returns-in-Some c =
    let g = c.args.graph.now in
    c.in_place.ensures
    ∙ found_is (sight_of g.catalog.now g.store.now.vertices g.store.now.edges) c.args.pattern.now c.args.set.now c.in_ok-edges.edges c.in_ok-targets.targets g.index.now c.deref.result.now c.in-Some.walks
    c.requires.indexed (c.deref.ensures.value ∙ c.in_ok-sources.ensures) (c.in_ok-edges.ensures ∙ c.as_slice.ensures) (c.in_ok-targets.ensures ∙ c.as_slice-2.ensures)
    (rw c.in-Some.is at c.in_ok-walks.ensures)

pub returns : goal.returns
returns c =
    let g = c.args.graph.now in
    c.along.ensures
    ∙ found_is (sight_of g.catalog.now g.store.now.vertices g.store.now.edges) c.args.pattern.now c.args.set.now c.in_ok-edges.edges c.in_ok-targets.targets g.index.now c.deref-2.result.now c.in_ok-walks-2.walks
    c.requires.indexed (c.deref-2.ensures.value ∙ c.in_ok-sources.ensures) (c.in_ok-edges.ensures ∙ c.as_slice.ensures) (c.in_ok-targets.ensures ∙ c.as_slice-2.ensures)
    c.in_ok-walks-2.ensures
