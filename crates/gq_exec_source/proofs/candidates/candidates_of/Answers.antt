use Rattle.std.proofs.Common.{sym, ap, ◌∙◌}
use Rattle.gq_frame.specs.Names.{thing_in}
use Rattle.gq_eval_context.specs.Viewed.{Over}
use Rattle.gq_exec_source.specs.Starts.{listed_at, vertices_under}
use Rattle.gq_exec_source.proofs.StartLemmas.{no_set_listed, begins_set, begins_all, found_if, many_if}
use Rattle.gq_exec_source.proofs.candidates.candidates_of.Goals as goal

pub returns-in-Some-clause-found : goal.returns-in-Some-clause-found
returns-in-Some-clause-found c =
    let o = c.args.over.now in let block = c.args.block.now in let place = c.in-Set.place in
    found_if o block c.in-Some.set.now c.candidates_from.result
    (begins_set o block place c.in-Some.set.now c.in-Set.is
    (sym (ap listed_at c.in-Some.ensures) ∙ ap (λ t. listed_at (thing_in t place)) c.as_slice.ensures ∙ ap (λ (o : Over). listed_at (thing_in o.frame.things place)) c.over.view_is))
    c.candidates_from.ensures.found

pub returns-in-Some-clause-many : goal.returns-in-Some-clause-many
returns-in-Some-clause-many c = λ e.
    let o = c.args.over.now in let block = c.args.block.now in let place = c.in-Set.place in
    many_if o block c.in-Some.set.now
    (begins_set o block place c.in-Some.set.now c.in-Set.is
    (sym (ap listed_at c.in-Some.ensures) ∙ ap (λ t. listed_at (thing_in t place)) c.as_slice.ensures ∙ ap (λ (o : Over). listed_at (thing_in o.frame.things place)) c.over.view_is))
    (c.candidates_from.ensures.many e)

pub returns-in-None-clause-found : goal.returns-in-None-clause-found
returns-in-None-clause-found c =
    let o = c.args.over.now in let block = c.args.block.now in let place = c.in-Set.place in
    found_if o block c.new.result c.candidates_from-in-None-2.result
    (begins_set o block place c.new.result c.in-Set.is
    (c.new.ensures ∙ no_set_listed _ c.in-None.ensures ∙ ap (λ t. listed_at (thing_in t place)) c.as_slice.ensures ∙ ap (λ (o : Over). listed_at (thing_in o.frame.things place)) c.over.view_is))
    c.candidates_from-in-None-2.ensures.found

pub returns-in-None-clause-many : goal.returns-in-None-clause-many
returns-in-None-clause-many c = λ e.
    let o = c.args.over.now in let block = c.args.block.now in let place = c.in-Set.place in
    many_if o block c.new.result
    (begins_set o block place c.new.result c.in-Set.is
    (c.new.ensures ∙ no_set_listed _ c.in-None.ensures ∙ ap (λ t. listed_at (thing_in t place)) c.as_slice.ensures ∙ ap (λ (o : Over). listed_at (thing_in o.frame.things place)) c.over.view_is))
    (c.candidates_from-in-None-2.ensures.many e)

pub returns-in-Ok-clause-found : goal.returns-in-Ok-clause-found
returns-in-Ok-clause-found c =
    let o = c.args.over.now in let block = c.args.block.now in let kind = c.in-Type.kind in
    found_if o block c.in-Ok.all c.candidates_from-in-Ok.result
    (begins_all o block kind c.in-Ok.all c.in-Type.is
    (c.in-Ok.ensures ∙ ap (λ l. vertices_under c.over.inside.graph.store.now.vertices l kind) c.as_slice-in-Type.ensures ∙ ap (λ (o : Over). vertices_under o.vertices o.plan.vertices kind) c.over.view_is))
    c.candidates_from-in-Ok.ensures.found

pub returns-in-Ok-clause-many : goal.returns-in-Ok-clause-many
returns-in-Ok-clause-many c = λ e.
    let o = c.args.over.now in let block = c.args.block.now in let kind = c.in-Type.kind in
    many_if o block c.in-Ok.all
    (begins_all o block kind c.in-Ok.all c.in-Type.is
    (c.in-Ok.ensures ∙ ap (λ l. vertices_under c.over.inside.graph.store.now.vertices l kind) c.as_slice-in-Type.ensures ∙ ap (λ (o : Over). vertices_under o.vertices o.plan.vertices kind) c.over.view_is))
    (c.candidates_from-in-Ok.ensures.many e)
