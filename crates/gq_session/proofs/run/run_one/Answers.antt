use Rattle.std.proofs.Common.{◌≤◌, Err, refl, ap, sym, ◌∙◌, subst, arith}
use Rattle.gq_token.specs.Lines.{line_of}
use Rattle.gq_diagnostics.specs.Messages.{message_of, refusal_text}
use Rattle.gq_diagnostics.specs.Outcome.{Ends, ended_by, lines_then}
use Rattle.gq_diagnostics.proofs.OutcomeLemmas.{keeps_memory, keeps_more, keeps_same, keeps_write_fault}
use Rattle.gq_diagnostics.specs.Effects.{Becomes, Refused, lines_of}
use Rattle.gq_session.specs.Statements.{Does}
use Rattle.gq_session.proofs.RunLemmas.{keeps_unwritten, prefix_of_lines, refused_runs, runs_refused, told_is_known}
use Rattle.gq_session.proofs.run.run_one.Goals as goal

pub returns-in-Err-Failed-clause-keeps : goal.returns-in-Err-Failed-clause-keeps
returns-in-Err-Failed-clause-keeps g c = λ pairs is others outcome runs.
    let lines = lines_of c.in-Ok.line in
    let told = subst (λ k. Does k c.args.session.now c.args.placed.now.statement (Becomes c.run.new.self lines))
    (told_is_known (g.F.Files.held c.args.files.now) pairs 0 0 0 is) (c.in-Ok.ensures.done 0 0 0) in
    let piece = rw c.in-Err-Failed.field-0-is at c.in-Err-Failed.ensures in
    keeps_unwritten c.args.bytes.now c.args.session.now c.args.placed.now others pairs outcome runs
    c.run.new.self lines told _ _ _ _ _
    (λ rest. keeps_write_fault (lines_then lines rest) _ _ _ _ (piece.failed refl) (prefix_of_lines _ _ lines rest.lines piece.prefix))

pub returns-in-Ok-clause-keeps : goal.returns-in-Ok-clause-keeps
returns-in-Ok-clause-keeps g c = λ pairs is others outcome runs.
    let lines = lines_of c.in-Ok.line in
    let told = subst (λ k. Does k c.args.session.now c.args.placed.now.statement (Becomes c.run.new.self lines))
    (told_is_known (g.F.Files.held c.args.files.now) pairs 0 0 0 is) (c.in-Ok.ensures.done 0 0 0) in
    let piece = rw c.in-Err-OutOfMemory-print.field-0-is at c.in-Err-OutOfMemory-print.ensures in
    keeps_unwritten c.args.bytes.now c.args.session.now c.args.placed.now others pairs outcome runs
    c.run.new.self lines told _ _ _ _ _
    (λ rest. keeps_memory (lines_then lines rest) _ _ _ _ (prefix_of_lines _ _ lines rest.lines piece.prefix))

pub returns-in-Err-Refused-clause-keeps : goal.returns-in-Err-Refused-clause-keeps
returns-in-Err-Refused-clause-keeps g c = λ pairs is others outcome runs.
    let message = message_of c.in-Err-Refused.refusal in
    let low : g.F.Files.absences c.args.files.now ≤ g.F.Files.absences c.args.files.now = omega arith in
    let does = c.in-Err-Refused.ensures.refused c.in-Err-Refused.refusal (ap Err c.in-Err-Refused.field-0-is) (g.F.Files.absences c.args.files.now) low in
    let told = subst (λ k. Does k c.args.session.now c.args.placed.now.statement (Refused message))
    (told_is_known (g.F.Files.held c.args.files.now) pairs _ _ _ is) does in
    let same = refused_runs c.args.bytes.now c.args.session.now c.args.placed.now others pairs outcome runs message told in
    keeps_same (ended_by (refusal_text c.line_of-line.result message)) outcome _ _ _ _ _ (same ∙ ap (λ l. ended_by (refusal_text l message)) (sym c.line_of-line.ensures))
    (keeps_more _ _ _ _ _ _ _ _ (λ (no : ⊥). absurd no) (λ rose. rose) c.refuse_statement.ensures.keeps)

pub returns-in-Err-Refused-clause-is_meant : goal.returns-in-Err-Refused-clause-is_meant
returns-in-Err-Refused-clause-is_meant g c = λ final before low others.
    let message = message_of c.in-Err-Refused.refusal in
    let does = c.in-Err-Refused.ensures.refused c.in-Err-Refused.refusal (ap Err c.in-Err-Refused.field-0-is) before low in (
      ended_by (refusal_text (line_of c.args.bytes.now c.args.placed.now.from) message),
      runs_refused c.args.bytes.now c.args.session.now c.args.placed.now others _ message does,
      subst (λ l. Ends (ended_by (refusal_text l message)) c.refuse_statement.result (g.K.Sink.written c.args.out.now) (g.K.Sink.written c.refuse_statement.new.out))
          c.line_of-line.ensures (c.refuse_statement.ensures.keeps.final final),
    )
