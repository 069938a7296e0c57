use Rattle.std.proofs.Common.{◌≡◌, ◌<◌, ◌+◌, ◌-◌, ◌++◌, ◌∙◌, List, OnOk, ap, sym, subst, length, map, take, drop, arith}
use Rattle.std.specs.List.{flat_map}
use Rattle.std.proofs.lemmas.List.{length-map}
use Rattle.gq_graph.specs.declared.rows.Candidate.{Candidate}
use Rattle.gq_index.specs.declared.walks.Traversal.{Traversal}
use Rattle.gq_index.specs.Segments.{of_walk}
use Rattle.gq_index.specs.Sights.{sight_of}
use Rattle.gq_rules_meaning.specs.Paths.{steps_from}
use Rattle.gq_exec_source.specs.Indexed.{plain}
use Rattle.gq_exec_source.proofs.LookupLemmas.{flat_more, flat_many, no_step, steps_split}
use Rattle.gq_exec_source.proofs.lookups.+list_all.Goals as goal

pub returns-in-Err-list_all-clause-many : goal.returns-in-Err-list_all-clause-many
returns-in-Err-list_all-clause-many t c = λ e.
    let g = c.args.graph.now in let sight = sight_of g.catalog.now g.store.now.vertices g.store.now.edges in let steps = c.args.steps.now in
    let now = c.loop-walk.listing in
    flat_many (λ (w : Traversal). steps_from sight (map plain steps) (of_walk w)) c.args.walks.now c.loop-walk.walk-index _ c.args.listing.now now 4194304 c.loop-walk-test.true c.loop-walk.invariant.so_far
    (subst (λ (l : List Candidate). 4194304 < length now + length l)
    (ap (flat_map (λ x. steps_from sight (map plain (take (length steps - 1) (drop 1 steps))) (of_walk x))) c.deref.ensures.value ∙ c.in-Ok.ensures.leads
    ∙ steps_split sight steps c.step-item.result _ c.in-len1-up.len_at_least c.step-item.is)
    (c.in-Err-list_all.ensures.many e))

pub loop-walk-preserved : goal.loop-walk-preserved
loop-walk-preserved t c =
    let g = c.args.graph.now in let sight = sight_of g.catalog.now g.store.now.vertices g.store.now.edges in let steps = c.args.steps.now in
    let now = c.loop-walk.listing in
    record {
      few = c.in-Ok-list_all.ensures.few;
      so_far = flat_more (λ (w : Traversal). steps_from sight (map plain steps) (of_walk w)) c.args.walks.now c.loop-walk.walk-index _ c.args.listing.now now c.list_all.new.listing c.loop-walk-test.true c.loop-walk.invariant.so_far
          (c.in-Ok-list_all.ensures.ok ∙ ap (λ l. now ++ l)
          (ap (flat_map (λ x. steps_from sight (map plain (take (length steps - 1) (drop 1 steps))) (of_walk x))) c.deref.ensures.value ∙ c.in-Ok.ensures.leads
          ∙ steps_split sight steps c.step-item.result _ c.in-len1-up.len_at_least c.step-item.is));
    }

pub returns-in-empty-clause-ok : goal.returns-in-empty-clause-ok
returns-in-empty-clause-ok t c =
    let g = c.args.graph.now in let sight = sight_of g.catalog.now g.store.now.vertices g.store.now.edges in
    subst (λ (l : List Candidate). OnOk c.list_each.result (c.list_each.new.listing ≡ c.args.listing.now ++ l)) (sym (no_step sight c.args.steps.now c.args.walks.now (omega (arith, c.in-empty.len_below)))) c.list_each.ensures.ok

pub returns-in-empty-clause-many : goal.returns-in-empty-clause-many
returns-in-empty-clause-many t c = λ e.
    let g = c.args.graph.now in let sight = sight_of g.catalog.now g.store.now.vertices g.store.now.edges in
    omega (arith, c.list_each.ensures.many e, ap length (no_step sight c.args.steps.now c.args.walks.now (omega (arith, c.in-empty.len_below))), length-map c.args.walks.now of_walk)
