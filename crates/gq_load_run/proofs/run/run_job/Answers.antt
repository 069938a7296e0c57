use Rattle.std.proofs.Common.{[], ◌∷◌, ◌∙◌, ap, subst, Option, IfOk}
use Rattle.std.specs.Prelude.{IfErr}
use Rattle.gq_load_check.specs.declared.job.Job.{Job}
use Rattle.gq_diagnostics.specs.Effects.{Becomes}
use Rattle.gq_io.specs.Known.{known_of}
use Rattle.gq_ddl.specs.Jobs.{job_named}
use Rattle.gq_load_run.specs.JobRuns.{FoundDoes, FoundLeaves}
use Rattle.gq_load_run.proofs.run.run_job.Goals as goal

pub run_found-requires-clause-lines : goal.run_found-requires-clause-lines
run_found-requires-clause-lines g c = c.in-Some.ensures.fits c.args.catalog.now c.requires.jobs

pub returns-in-Some-clause-done : goal.returns-in-Some-clause-done
returns-in-Some-clause-done g c = λ before now met.
    let known = known_of (g.F.Files.held c.args.files.now) before now met in
    let P : Option Job → Type 0 =
    λ o. IfOk c.run_found.result (λ line. FoundDoes known c.args.catalog.now c.args.store.now c.args.tree.now o (Becomes c.run_found.new.store (line.items ∷ []))) in
    subst P (c.in-Some.ensures.found ∙ ap (job_named c.args.jobs.now) c.as_str.ensures) (c.run_found.ensures.done before now met)

pub returns-in-Some-clause-left : goal.returns-in-Some-clause-left
returns-in-Some-clause-left g c = λ before low.
    let known = known_of (g.F.Files.held c.args.files.now) before (g.F.Files.absences c.run_found.new.files) (g.F.Files.length_met c.run_found.new.files) in
    let P : Option Job → Type 0 =
    λ o. IfErr c.run_found.result (λ f. FoundLeaves known c.args.catalog.now c.args.store.now c.args.tree.now o f c.run_found.new.store) in
    subst P (c.in-Some.ensures.found ∙ ap (job_named c.args.jobs.now) c.as_str.ensures) (c.run_found.ensures.left before low)
