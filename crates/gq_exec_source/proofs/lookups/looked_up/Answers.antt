use Rattle.std.proofs.Common.{◌≡◌, ◌<◌, ◌∙◌, IfOk, List, ap, ap₂, length, map, subst, sym}
use Rattle.std.specs.Prelude.{IfSome}
use Rattle.std.specs.List.{All, flat_map}
use Rattle.std.proofs.lemmas.List.{length-map}
use Rattle.gq_graph.specs.declared.rows.Candidate.{Candidate}
use Rattle.gq_graph.specs.declared.rows.VertexRow.{VertexRow}
use Rattle.gq_index.specs.declared.walks.Traversal.{Traversal}
use Rattle.gq_index.specs.Segments.{of_walk}
use Rattle.gq_index.specs.Sights.{sight_of}
use Rattle.gq_rules_typing.specs.Patterns.{PathStep}
use Rattle.gq_rules_meaning.specs.Paths.{steps_from}
use Rattle.gq_exec_source.specs.Indexed.{plain, AreReady}
use Rattle.gq_exec_source.specs.Ways.{step_of}
use Rattle.gq_exec_source.proofs.BindingLemmas.{steps_some}
use Rattle.gq_exec_source.proofs.LookupLemmas.{all_found, begun_within}
use Rattle.gq_exec_source.proofs.lookups.looked_up.Goals as goal

pub listed-requires-clause-ready : goal.listed-requires-clause-ready
listed-requires-clause-ready c =
    let g = c.args.graph.now in
    subst (AreReady (sight_of g.catalog.now g.store.now.vertices g.store.now.edges)) (sym c.deref.ensures.value) (rw c.in-Ok-Some.field-0-is at c.in-Ok-Some.ensures.ready)

pub listed-requires-clause-within : goal.listed-requires-clause-within
listed-requires-clause-within c =
    let g = c.args.graph.now in let vertices = g.store.now.vertices in
    subst (All (λ (w : Traversal). w.target < length vertices)) (sym c.deref-in-Ok-Some.ensures.value)
    (begun_within (sight_of g.catalog.now vertices g.store.now.edges) vertices c.args.set.now c.in-Ok-Some.walks.items (length-map vertices (λ (row : VertexRow). row.kind)) (rw c.in-Ok-Some.field-0-is at c.in-Ok-Some.ensures.begun))

pub returns-in-Ok-Some-clause-listed : goal.returns-in-Ok-Some-clause-listed
returns-in-Ok-Some-clause-listed c =
    let g = c.args.graph.now in let sight = sight_of g.catalog.now g.store.now.vertices g.store.now.edges in let steps = map step_of c.args.steps.now in
    subst (λ (l : List Candidate). IfOk c.listed.result (λ found. IfSome found (λ p. p ≡ l)))
    (ap₂ (λ (steps : List PathStep) (walks : List Traversal). flat_map (λ w. steps_from sight steps (of_walk w)) walks) (ap (map plain) c.deref.ensures.value ∙ (rw c.in-Ok-Some.field-0-is at c.in-Ok-Some.ensures.same)) c.deref-in-Ok-Some.ensures.value
    ∙ all_found sight steps c.args.set.now c.in-Ok-Some.walks.items (steps_some c.args.steps.now c.requires.some) (rw c.in-Ok-Some.field-0-is at c.in-Ok-Some.ensures.begun)) c.listed.ensures.listed

pub returns-in-Ok-Some-clause-many : goal.returns-in-Ok-Some-clause-many
returns-in-Ok-Some-clause-many c = λ e.
    let g = c.args.graph.now in let sight = sight_of g.catalog.now g.store.now.vertices g.store.now.edges in let steps = map step_of c.args.steps.now in
    subst (λ (l : List Candidate). 4194304 < length l)
    (ap₂ (λ (steps : List PathStep) (walks : List Traversal). flat_map (λ w. steps_from sight steps (of_walk w)) walks) (ap (map plain) c.deref.ensures.value ∙ (rw c.in-Ok-Some.field-0-is at c.in-Ok-Some.ensures.same)) c.deref-in-Ok-Some.ensures.value
    ∙ all_found sight steps c.args.set.now c.in-Ok-Some.walks.items (steps_some c.args.steps.now c.requires.some) (rw c.in-Ok-Some.field-0-is at c.in-Ok-Some.ensures.begun)) (c.listed.ensures.many e)
