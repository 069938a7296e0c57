use Rattle.std.proofs.Common.{◌≡◌, refl, ap, rules, subst}
use Rattle.gq_diagnostics.specs.Effects.{Refused}
use Rattle.gq_diagnostics.specs.Messages.{message_of}
use Rattle.gq_diagnostics.specs.declared.refusal.Refusal.TheVariants as refusal
use Rattle.gq_io.specs.Known.{TooLong, MayAnswer, known_of}
use Rattle.gq_load_run.specs.declared.place.LoadPath.TheVariants.{At}
use Rattle.gq_load_run.specs.Loadings.{Leaves, loaded_by, place_of}
use Rattle.gq_load_run.specs.LoadLaws.{unread}
use Rattle.gq_load_run.specs.Remains.{PlaceLeaves}
use Rattle.gq_load_run.proofs.job.load_one.Goals as goal

pub returns-in-Err-TooLarge-clause-refused : goal.returns-in-Err-TooLarge-clause-refused
returns-in-Err-TooLarge-clause-refused g c = λ r is before low left reports.
    let known = known_of (g.F.Files.held c.args.files.now) before (g.F.Files.absences c.ask.new.files) (g.F.Files.length_met c.ask.new.files) in
    let answered = rw c.in-Err-TooLarge.field-0-is at (c.in-Err-TooLarge.ensures.answered before low) in
    let same : r ≡ refusal.TooLarge c.in-Ok-At.path = cc is in
    unread (place_of c.args.job.now c.args.given.now) (loaded_by c.args.catalog.now c.args.job.now) known c.args.store.now c.args.number left reports
    c.in-Ok-At.path (search rules) TooLong (subst (λ p. MayAnswer known p TooLong) c.as_str.ensures answered) (Refused (message_of r)) (ap (λ x. Refused (message_of x)) same)

pub returns-in-Err-TooLarge-clause-left : goal.returns-in-Err-TooLarge-clause-left
returns-in-Err-TooLarge-clause-left g c = λ before low.
    let known = known_of (g.F.Files.held c.args.files.now) before (g.F.Files.absences c.ask.new.files) (g.F.Files.length_met c.ask.new.files) in
    let answered = rw c.in-Err-TooLarge.field-0-is at (c.in-Err-TooLarge.ensures.answered before low) in
    let place = place_of c.args.job.now c.args.given.now in
    let here : At c.in-Ok-At.path ≡ place c.args.number = search rules in
    subst (λ p. PlaceLeaves place (loaded_by c.args.catalog.now c.args.job.now) (Leaves c.args.catalog.now c.args.job.now) known c.args.store.now c.args.number p
    (refusal.TooLarge c.in-Ok-At.path) c.args.store.now) here
    (TooLong, subst (λ p. MayAnswer known p TooLong) c.as_str.ensures answered, (refl, refl))
