use Rattle.std.proofs.Common.{rules, refl, sym, ◌∙◌, inl, inr, subst}
use Rattle.gq_token.specs.Cut.{HasTokens}
use Rattle.gq_token.specs.Faults.{place_of}
use Rattle.gq_diagnostics.specs.Outcome.{refused_with}
use Rattle.gq_diagnostics.proofs.OutcomeLemmas.{keeps_more}
use Rattle.gq_driver.specs.Messages.{message_at, name_of}
use Rattle.gq_io.specs.Known.{Told}
use Rattle.gq_driver.proofs.ScriptLemmas.{keeps_cut, keeps_tokens}
use Rattle.gq_driver.proofs.script.run_script.Goals as goal

pub returns-in-Ok-clause-keeps : goal.returns-in-Ok-clause-keeps
returns-in-Ok-clause-keeps g c = λ pairs is outcome mean.
    keeps_tokens c.args.bytes.now (Told pairs) c.args.runner.now.turns _ _ _ _ _ _ c.deref.result.now (λ others has. c.in-Ok.ensures.only others has ∙ sym c.deref.ensures.value) c.in-Ok.ensures.no_fault
    (λ o m. c.run_tokens.ensures.keeps pairs is o m) outcome mean

pub returns-in-Ok-clause-is_meant : goal.returns-in-Ok-clause-is_meant
returns-in-Ok-clause-is_meant g c = λ final before low.
    let meant = c.run_tokens.ensures.is_meant final before low in
    (meant.0, inr (c.deref.result.now, subst (HasTokens c.args.bytes.now) (sym c.deref.ensures.value) c.in-Ok.ensures.cut, meant.1), meant.2)

pub returns-else-eq-clause-keeps : goal.returns-else-eq-clause-keeps
returns-else-eq-clause-keeps g c = λ pairs is outcome mean.
    keeps_cut c.args.bytes.now (Told pairs) c.args.runner.now.turns _ _ _ _ _ _ c.in-Err.fault (c.in-Err.ensures.only_fault (λ memory. absurd (search rules))) (c.in-Err.ensures.no_cut (λ memory. absurd (search rules)))
    (keeps_more _ _ _ _ _ _ _ _ (λ (no : ⊥). absurd no) (λ rose. rose) c.refuse_cut.ensures.keeps) outcome mean

pub returns-else-eq-clause-is_meant : goal.returns-else-eq-clause-is_meant
returns-else-eq-clause-is_meant g c = λ final before low. (
  refused_with (message_at c.args.bytes.now (name_of c.in-Err.fault) (place_of c.in-Err.fault)),
  inl (c.in-Err.fault, c.in-Err.ensures.fault (λ memory. absurd (search rules)), refl),
  c.refuse_cut.ensures.keeps.final final,
)
