use Rattle.std.proofs.Common.{refl, sym, ◌∙◌, inl, inr, subst}
use Rattle.gq_grammar.specs.Cutting.{IsScript}
use Rattle.gq_stmt_read.specs.declared.fault.ScriptFault.TheVariants.{Syntax, TooDeep}
use Rattle.gq_diagnostics.specs.Outcome.{refused_with}
use Rattle.gq_diagnostics.proofs.OutcomeLemmas.{keeps_more}
use Rattle.gq_driver.specs.Messages.{fault_message}
use Rattle.gq_io.specs.Known.{Told}
use Rattle.gq_driver.proofs.PlaceLemmas.{deep_within, fails_within, script_within}
use Rattle.gq_driver.proofs.ScriptLemmas.{keeps_fault, keeps_statements}
use Rattle.gq_driver.proofs.WrittenLemmas.{each_written}
use Rattle.gq_driver.proofs.script.run_tokens.Goals as goal

pub run_read-requires-clause-within : goal.run_read-requires-clause-within
run_read-requires-clause-within g c κs within =
    script_within c.args.bytes.now c.args.tokens.now c.requires.tokens c.deref.result.now
    (subst (IsScript c.args.bytes.now c.args.tokens.now) (sym c.deref.ensures.value) c.in-Ok.ensures.script.1)

pub run_read-requires-clause-written : goal.run_read-requires-clause-written
run_read-requires-clause-written g c κs within =
    each_written c.args.bytes.now c.args.tokens.now c.deref.result.now
    (subst (IsScript c.args.bytes.now c.args.tokens.now) (sym c.deref.ensures.value) c.in-Ok.ensures.script.1)

pub refuse_syntax-requires : goal.refuse_syntax-requires
refuse_syntax-requires g c =
    let has = (rw c.in-Err-Syntax.field-0-is at c.in-Err-Syntax.ensures).fault (λ memory. cc memory) in
    fails_within c.args.bytes.now c.args.tokens.now c.requires.tokens c.in-Err-Syntax.statement c.in-Err-Syntax.at has.1

pub refuse_at-requires : goal.refuse_at-requires
refuse_at-requires g c =
    let has = (rw c.in-Err-TooDeep.field-0-is at c.in-Err-TooDeep.ensures).fault (λ memory. cc memory) in
    deep_within c.args.bytes.now c.args.tokens.now c.requires.tokens c.in-Err-TooDeep.at has

pub returns-in-Ok-clause-keeps : goal.returns-in-Ok-clause-keeps
returns-in-Ok-clause-keeps g c = λ pairs is outcome mean.
    keeps_statements c.args.bytes.now (Told pairs) c.args.runner.now.turns _ _ _ _ _ _ c.args.tokens.now c.deref.result.now
    (λ others read. c.in-Ok.ensures.only others read ∙ sym c.deref.ensures.value) c.in-Ok.ensures.no_fault
    (λ o m. c.run_read.ensures.keeps pairs is o m) outcome mean

pub returns-in-Ok-clause-is_meant : goal.returns-in-Ok-clause-is_meant
returns-in-Ok-clause-is_meant g c = λ final before low.
    let meant = c.run_read.ensures.is_meant final before low in (
      meant.0,
      inr (c.deref.result.now, c.in-Ok.ensures.script.0, subst (IsScript c.args.bytes.now c.args.tokens.now) (sym c.deref.ensures.value) c.in-Ok.ensures.script.1, meant.1),
      meant.2,
    )

pub returns-in-Err-Syntax-clause-keeps : goal.returns-in-Err-Syntax-clause-keeps
returns-in-Err-Syntax-clause-keeps g c = λ pairs is outcome mean.
    let read = rw c.in-Err-Syntax.field-0-is at c.in-Err-Syntax.ensures in
    keeps_fault c.args.bytes.now (Told pairs) c.args.runner.now.turns _ _ _ _ _ _ c.args.tokens.now (Syntax c.in-Err-Syntax.statement c.in-Err-Syntax.at)
    (read.only_fault (λ memory. cc memory)) (read.no_script (λ memory. cc memory))
    (keeps_more _ _ _ _ _ _ _ _ (λ (no : ⊥). absurd no) (λ rose. rose) c.refuse_syntax.ensures.keeps) outcome mean

pub returns-in-Err-Syntax-clause-is_meant : goal.returns-in-Err-Syntax-clause-is_meant
returns-in-Err-Syntax-clause-is_meant g c = λ final before low.
    let read = rw c.in-Err-Syntax.field-0-is at c.in-Err-Syntax.ensures in
    let fault = Syntax c.in-Err-Syntax.statement c.in-Err-Syntax.at in
    (refused_with (fault_message c.args.bytes.now fault), inl (fault, read.fault (λ memory. cc memory), refl), c.refuse_syntax.ensures.keeps.final final)

pub returns-in-Err-TooDeep-clause-keeps : goal.returns-in-Err-TooDeep-clause-keeps
returns-in-Err-TooDeep-clause-keeps g c = λ pairs is outcome mean.
    let read = rw c.in-Err-TooDeep.field-0-is at c.in-Err-TooDeep.ensures in
    keeps_fault c.args.bytes.now (Told pairs) c.args.runner.now.turns _ _ _ _ _ _ c.args.tokens.now (TooDeep c.in-Err-TooDeep.at)
    (read.only_fault (λ memory. cc memory)) (read.no_script (λ memory. cc memory))
    (keeps_more _ _ _ _ _ _ _ _ (λ (no : ⊥). absurd no) (λ rose. rose) c.refuse_at.ensures.keeps) outcome mean

pub returns-in-Err-TooDeep-clause-is_meant : goal.returns-in-Err-TooDeep-clause-is_meant
returns-in-Err-TooDeep-clause-is_meant g c = λ final before low.
    let read = rw c.in-Err-TooDeep.field-0-is at c.in-Err-TooDeep.ensures in
    let fault = TooDeep c.in-Err-TooDeep.at in
    (refused_with (fault_message c.args.bytes.now fault), inl (fault, read.fault (λ memory. cc memory), refl), c.refuse_at.ensures.keeps.final final)
