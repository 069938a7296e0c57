use Rattle.std.proofs.Common.{◌≤◌, ◌+◌, ◌∷◌, drop, refl, ap, sym, ◌∙◌, subst, arith}
use Rattle.std.proofs.lemmas.List.{drop_more}
use Rattle.gq_io.specs.Counts.{Rose}
use Rattle.gq_diagnostics.specs.Outcome.{Outcome, Ends}
use Rattle.gq_diagnostics.specs.Effects.{Becomes}
use Rattle.gq_io.specs.Known.{known_of}
use Rattle.gq_tree.specs.declared.statement.Placed.{Placed}
use Rattle.gq_session.specs.Runs.{Runs}
use Rattle.gq_session.specs.Safe.{IsWritten}
use Rattle.gq_session.specs.Statements.{Does}
use Rattle.gq_session.proofs.RunLemmas.{come_first, come_next, keeps_here, meant_here, meant_last}
use Rattle.gq_session.proofs.run.run_statements.Goals as goal

pub loop-placed-init : goal.loop-placed-init
loop-placed-init g c = (
  come_first c.args.bytes.now (g.F.Files.held c.args.files.now) c.args.session.now c.args.statements.now (g.K.Sink.written c.args.out.now),
  refl,
  omega arith,
  omega arith,
  omega arith,
)

pub run_one-requires-clause-written : goal.run_one-requires-clause-written
run_one-requires-clause-written g c κs within =
    let p = c.placed-item.result in
    subst (λ (q : Placed). IsWritten q.statement) (sym c.placed-item.is) (c.requires.written c.loop-placed.placed-index p c.loop-placed-test.true)

pub returns-in-Some-clause-keeps : goal.returns-in-Some-clause-keeps
returns-in-Some-clause-keeps g c = λ pairs is outcome runs.
    let inv = c.loop-placed.invariant in
    let p = c.placed-item.result in
    let statements = c.args.statements.now in
    let next = drop_more statements c.loop-placed.placed-index p (omega arith) ∙ ap (λ q. q ∷ drop (c.loop-placed.placed-index + 1) statements) (sym c.placed-item.is) in
    keeps_here c.args.bytes.now (g.F.Files.held c.args.files.now) c.args.session.now statements
    c.loop-placed.placed-index c.loop-placed.session (g.K.Sink.written c.args.out.now) (g.K.Sink.written c.loop-placed.out) inv.0 p next
    c.in-Some.status (g.K.Sink.written c.run_one.new.out)
    (Rose (g.F.Files.faults c.loop-placed.files) (g.F.Files.faults c.run_one.new.files)) (Rose (g.K.Sink.faults c.loop-placed.out) (g.K.Sink.faults c.run_one.new.out))
    (Rose (g.F.Files.faults c.args.files.now) (g.F.Files.faults c.run_one.new.files)) (Rose (g.K.Sink.faults c.args.out.now) (g.K.Sink.faults c.run_one.new.out))
    (λ rose. omega (arith, inv.2, rose)) (λ rose. omega (arith, inv.4, rose)) pairs is
    (λ o r. c.in-Some.ensures.keeps pairs (inv.1 ∙ is) (drop (c.loop-placed.placed-index + 1) statements) o r)
    outcome runs

pub returns-in-Some-clause-is_meant : goal.returns-in-Some-clause-is_meant
returns-in-Some-clause-is_meant g c = λ final before low.
    let inv = c.loop-placed.invariant in
    let p = c.placed-item.result in
    let statements = c.args.statements.now in
    let next = drop_more statements c.loop-placed.placed-index p (omega arith) ∙ ap (λ q. q ∷ drop (c.loop-placed.placed-index + 1) statements) (sym c.placed-item.is) in
    let now = g.F.Files.absences c.run_one.new.files in
    let met = g.F.Files.length_met c.run_one.new.files in
    let mid = g.K.Sink.written c.loop-placed.out in
    let new = g.K.Sink.written c.run_one.new.out in
    let lower : before ≤ g.F.Files.absences c.loop-placed.files = omega (arith, low, inv.3) in
    meant_here c.args.bytes.now (g.F.Files.held c.args.files.now) c.args.session.now statements
    c.loop-placed.placed-index c.loop-placed.session (g.K.Sink.written c.args.out.now) mid inv.0 p next
    c.in-Some.status new before now met
    (subst (λ h. (outcome : Outcome) × Runs c.args.bytes.now (known_of h before now met) c.loop-placed.session (p ∷ drop (c.loop-placed.placed-index + 1) statements) outcome × Ends outcome c.in-Some.status mid new)
    inv.1 (c.in-Some.ensures.is_meant final before lower (drop (c.loop-placed.placed-index + 1) statements)))

pub loop-placed-preserved : goal.loop-placed-preserved
loop-placed-preserved g c =
    let inv = c.loop-placed.invariant in
    let p = c.placed-item.result in
    let statements = c.args.statements.now in
    let next = drop_more statements c.loop-placed.placed-index p (omega arith) ∙ ap (λ q. q ∷ drop (c.loop-placed.placed-index + 1) statements) (sym c.placed-item.is) in
    let on = c.in-None.ensures.goes_on in (
      come_next c.args.bytes.now (g.F.Files.held c.args.files.now) c.args.session.now statements
          c.loop-placed.placed-index c.loop-placed.session (g.K.Sink.written c.args.out.now) (g.K.Sink.written c.loop-placed.out) inv.0 p next
          c.run_one.new.session on.0 (g.K.Sink.written c.run_one.new.out)
          (λ before now met. subst (λ h. Does (known_of h before now met) c.loop-placed.session p.statement (Becomes c.run_one.new.session on.0)) inv.1 (on.1 before now met))
          on.2,
      c.in-None.ensures.held ∙ inv.1,
      omega (arith, inv.2, c.in-None.ensures.faults_stay),
      omega (arith, inv.3, c.in-None.ensures.absences_stay),
      omega (arith, inv.4, c.in-None.ensures.sink_stays),
    )

pub returns-clause-is_meant : goal.returns-clause-is_meant
returns-clause-is_meant g c = λ final before low.
    meant_last c.args.bytes.now (g.F.Files.held c.args.files.now) c.args.session.now c.args.statements.now c.loop-placed.placed-index c.loop-placed.session
    (g.K.Sink.written c.args.out.now) (g.K.Sink.written c.loop-placed.out) c.loop-placed.invariant.0 (omega arith) before _ _
