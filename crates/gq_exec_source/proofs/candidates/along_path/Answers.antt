use Rattle.std.proofs.Common.{◌≡◌, ◌<◌, ◌∙◌, Err, List, ap, length, map, subst}
use Rattle.gq_index.specs.Sights.{sight_of}
use Rattle.gq_rules_typing.specs.Patterns.{PathStep, path_step}
use Rattle.gq_rules_meaning.specs.Paths.{bindings}
use Rattle.gq_plan_ir.specs.BlockView.{view_path_step}
use Rattle.gq_eval_context.specs.Viewed.{Over}
use Rattle.gq_exec_source.specs.declared.path_types.PathsFault.TheVariants as fault
use Rattle.gq_exec_source.specs.Seen.{setting_for}
use Rattle.gq_exec_source.proofs.candidates.along_path.Goals as goal

pub returns-in-Ok-of-clause-listed : goal.returns-in-Ok-of-clause-listed
returns-in-Ok-of-clause-listed c =
    let g = c.over.inside.graph in
    subst (λ (o : Over). c.into_candidates.result ≡ bindings (sight_of o.schema o.vertices o.edges) c.args.set.now (map (path_step (setting_for o.schema o.plan)) (map view_path_step c.args.steps.now))) c.over.view_is
    (c.into_candidates.ensures.list ∙ c.in-Ok-of.ensures.listed ∙ ap (bindings (sight_of g.catalog.now g.store.now.vertices g.store.now.edges) c.args.set.now) c.in-Ok.ensures)

pub returns-in-Ok-clause-many : goal.returns-in-Ok-clause-many
returns-in-Ok-clause-many c = λ e.
    let g = c.over.inside.graph in let same : c.in-Err-of.fault ≡ fault.TooMany = cc e in
    subst (λ (o : Over). 4194304 < length (bindings (sight_of o.schema o.vertices o.edges) c.args.set.now (map (path_step (setting_for o.schema o.plan)) (map view_path_step c.args.steps.now)))) c.over.view_is
    (subst (λ (steps : List PathStep). 4194304 < length (bindings (sight_of g.catalog.now g.store.now.vertices g.store.now.edges) c.args.set.now steps)) c.in-Ok.ensures (c.in-Err-of.ensures.many (ap Err same)))
