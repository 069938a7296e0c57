use Rattle.std.proofs.Common.{◌∙◌, [], ◌∷◌, Some}
use Rattle.gq_diagnostics.specs.Messages.{message_of}
use Rattle.gq_diagnostics.specs.Effects.{Becomes, Refused}
use Rattle.gq_io.specs.Known.{known_of}
use Rattle.gq_load_run.specs.JobRuns.{FoundDoes, LoadsDo}
use Rattle.gq_load_run.proofs.RunLemmas.{if_ok, left_none, using_left, using_none}
use Rattle.gq_load_run.proofs.run.run_found.Goals as goal

pub returns-clause-done : goal.returns-clause-done
returns-clause-done g c = λ before now met.
    let known = known_of (g.F.Files.held c.args.files.now) before now met in
    if_ok
    (λ line. LoadsDo known c.args.catalog.now c.args.job.now c.in-Ok.given c.args.store.now (Becomes c.run_loads.new.store (line.items ∷ [])))
    (λ line. FoundDoes known c.args.catalog.now c.args.store.now c.args.tree.now (Some c.args.job.now) (Becomes c.run_loads.new.store (line.items ∷ [])))
    c.run_loads.result
    (λ line does. using_none known c.args.catalog.now c.args.job.now c.args.store.now c.args.tree.now c.as_slice.result.now c.in-Ok.given _
    c.as_slice.ensures (c.in-Ok.ensures ∙ c.as_slice-2.ensures) c.in-None.ensures does)
    (c.run_loads.ensures.done before now met)

pub returns-clause-refused : goal.returns-clause-refused
returns-clause-refused g c = λ refusal is before low.
    using_none (known_of (g.F.Files.held c.args.files.now) before (g.F.Files.absences c.run_loads.new.files) (g.F.Files.length_met c.run_loads.new.files))
    c.args.catalog.now c.args.job.now c.args.store.now c.args.tree.now c.as_slice.result.now c.in-Ok.given (Refused (message_of refusal))
    c.as_slice.ensures (c.in-Ok.ensures ∙ c.as_slice-2.ensures) c.in-None.ensures (c.run_loads.ensures.refused refusal is before low)

pub returns-clause-left : goal.returns-clause-left
returns-clause-left g c = λ before low.
    using_left (known_of (g.F.Files.held c.args.files.now) before (g.F.Files.absences c.run_loads.new.files) (g.F.Files.length_met c.run_loads.new.files))
    c.args.catalog.now c.args.job.now c.args.store.now c.run_loads.new.store c.args.tree.now c.as_slice.result.now c.in-Ok.given
    c.as_slice.ensures (c.in-Ok.ensures ∙ c.as_slice-2.ensures) c.in-None.ensures c.run_loads.result (c.run_loads.ensures.left before low)

pub returns-in-Err-clause-left : goal.returns-in-Err-clause-left
returns-in-Err-clause-left g c = λ before low.
    left_none (known_of (g.F.Files.held c.args.files.now) before (g.F.Files.absences c.args.files.now) (g.F.Files.length_met c.args.files.now))
    c.args.catalog.now c.args.job.now c.args.store.now c.args.tree.now c.as_slice.result.now c.as_slice.ensures c.in-None.ensures
