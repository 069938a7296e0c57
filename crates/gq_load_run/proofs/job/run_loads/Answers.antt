use Rattle.std.proofs.Common.{◌≡◌, ◌≤◌, ◌<◌, ◌+◌, suc, [], ◌∷◌, ◌++◌, length, Err, refl, ap, sym, ◌∙◌, subst, arith}
use Rattle.gq_diagnostics.specs.Messages.{message_of}
use Rattle.gq_diagnostics.specs.declared.refusal.StatementFault.TheVariants as fault
use Rattle.gq_diagnostics.specs.Effects.{Refused}
use Rattle.gq_io.specs.Known.{known_of}
use Rattle.gq_index.proofs.KeptLemmas.{store_same, store_more}
use Rattle.gq_load_run.specs.Loadings.{Leaves, loaded_by, place_of}
use Rattle.gq_load_run.specs.Loads.{LoadsMean}
use Rattle.gq_load_run.specs.Remains.{BreaksOff, Ends}
use Rattle.gq_load_run.specs.LoadLaws.{HasLoaded, broken_here, loaded_next, loaded_none, one_more, refused_here, stands_here}
use Rattle.gq_load_run.proofs.job.run_loads.Goals as goal

pub loop-number-init : goal.loop-number-init
loop-number-init g c =
    let place = place_of c.args.job.now c.args.given.now in
    let does = loaded_by c.args.catalog.now c.args.job.now in
    let held = g.F.Files.held c.args.files.now in
    let first = c.args.store.now in
    let count = length c.args.job.now.lines in (
      subst (HasLoaded place does held first count 0 first) (sym c.new-reports.ensures.items) (loaded_none place does held first count),
      refl,
      omega arith,
      omega arith,
      c.requires.store,
      store_same first,
    )

pub returns-in-Err-push-clause-left : goal.returns-in-Err-push-clause-left
returns-in-Err-push-clause-left g c = λ before low.
    let place = place_of c.args.job.now c.args.given.now in
    let does = loaded_by c.args.catalog.now c.args.job.now in
    let held = g.F.Files.held c.args.files.now in
    let first = c.args.store.now in
    let count = length c.args.job.now.lines in
    let inv = c.loop-number.invariant in
    let number = c.loop-number.number in
    let then = c.load_one.new.store in
    let now = g.F.Files.absences c.load_one.new.files in
    let met = g.F.Files.length_met c.load_one.new.files in
    let next : number + 1 ≤ count = omega (arith, c.len-number-end.ensures) in
    stands_here place does (Leaves c.args.catalog.now c.args.job.now) (known_of held before now met) first count (number + 1) then next
    (one_more place does held first count number c.loop-number.store c.loop-number.reports.items inv.0 then before now met
    (subst (λ h. Ends place does (known_of h before now met) c.loop-number.store number then) inv.1 (c.in-Ok.ensures.ended before now met)))

pub returns-in-Err-clause-refused : goal.returns-in-Err-clause-refused
returns-in-Err-clause-refused g c = λ refusal is before low.
    let place = place_of c.args.job.now c.args.given.now in
    let does = loaded_by c.args.catalog.now c.args.job.now in
    let held = g.F.Files.held c.args.files.now in
    let first = c.args.store.now in
    let count = length c.args.job.now.lines in
    let inv = c.loop-number.invariant in
    let number = c.loop-number.number in
    let now = g.F.Files.absences c.load_one.new.files in
    let met = g.F.Files.length_met c.load_one.new.files in
    let same : c.in-Err.fault ≡ fault.Refused refusal = cc is in
    let lower : before ≤ g.F.Files.absences c.loop-number.files = omega (arith, low, inv.3) in
    let below : number < count = omega (arith, c.len-number-end.ensures) in
    refused_here place does held first count number c.loop-number.store c.loop-number.reports.items inv.0 below before now met (Refused (message_of refusal))
    (λ left more. subst (λ h. LoadsMean place does (known_of h before now met) c.loop-number.store number (suc left) more (Refused (message_of refusal)))
    inv.1 (c.in-Err.ensures.refused refusal (ap Err same) before lower left more))

pub returns-in-Err-clause-left : goal.returns-in-Err-clause-left
returns-in-Err-clause-left g c = λ before low.
    let place = place_of c.args.job.now c.args.given.now in
    let does = loaded_by c.args.catalog.now c.args.job.now in
    let held = g.F.Files.held c.args.files.now in
    let first = c.args.store.now in
    let count = length c.args.job.now.lines in
    let inv = c.loop-number.invariant in
    let number = c.loop-number.number in
    let leaves = Leaves c.args.catalog.now c.args.job.now in
    let now = g.F.Files.absences c.load_one.new.files in
    let met = g.F.Files.length_met c.load_one.new.files in
    let lower : before ≤ g.F.Files.absences c.loop-number.files = omega (arith, low, inv.3) in
    let below : number < count = omega (arith, c.len-number-end.ensures) in
    broken_here place does leaves (known_of held before now met) first count number c.loop-number.store c.load_one.new.store c.in-Err.fault below (inv.0.ended before now met)
    (subst (λ h. BreaksOff place does leaves (known_of h before now met) c.loop-number.store number c.in-Err.fault c.load_one.new.store)
    inv.1 (c.in-Err.ensures.left before lower))

pub loop-number-preserved : goal.loop-number-preserved
loop-number-preserved g c =
    let place = place_of c.args.job.now c.args.given.now in
    let does = loaded_by c.args.catalog.now c.args.job.now in
    let held = g.F.Files.held c.args.files.now in
    let first = c.args.store.now in
    let count = length c.args.job.now.lines in
    let inv = c.loop-number.invariant in
    let number = c.loop-number.number in
    let then = c.load_one.new.store in
    let below : number < count = omega (arith, c.len-number-end.ensures) in
    let on = loaded_next place does held first count number c.loop-number.store c.loop-number.reports.items inv.0 below then c.in-Ok.report
    (λ before now met left more effect. subst (λ h. LoadsMean place does (known_of h before now met) then (number + 1) left (more ++ c.in-Ok.report ∷ []) effect
    → LoadsMean place does (known_of h before now met) c.loop-number.store number (suc left) more effect)
    inv.1 (c.in-Ok.ensures.done before now met left more effect))
    (λ before now met. subst (λ h. Ends place does (known_of h before now met) c.loop-number.store number then) inv.1 (c.in-Ok.ensures.ended before now met)) in (
      subst (HasLoaded place does held first count (number + 1) then) (sym c.in-Ok-push.ensures.items) on,
      c.in-Ok.ensures.held ∙ inv.1,
      omega (arith, inv.2, c.in-Ok.ensures.faults_stay),
      omega (arith, inv.3, c.in-Ok.ensures.absences_stay),
      c.in-Ok.ensures.fits,
      store_more first c.loop-number.store then inv.5 c.in-Ok.ensures.grown,
    )

pub returns-in-Err-push-clause-grown : goal.returns-in-Err-push-clause-grown
returns-in-Err-push-clause-grown g c = store_more c.args.store.now c.loop-number.store c.load_one.new.store c.loop-number.invariant.5 c.in-Ok.ensures.grown

pub returns-in-Err-clause-grown : goal.returns-in-Err-clause-grown
returns-in-Err-clause-grown g c = store_more c.args.store.now c.loop-number.store c.load_one.new.store c.loop-number.invariant.5 c.in-Err.ensures.grown
