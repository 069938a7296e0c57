use Rattle.std.proofs.Common.{map, subst, sym, ap, ◌∙◌}
use Rattle.gq_rules_typing.specs.Statements as plain
use Rattle.gq_rules_meaning.specs.Sets.{term_of}
use Rattle.gq_plan_ir.specs.PlanView.{view_seed, view_term}
use Rattle.gq_eval_operand.specs.Meant.{Halts, Tells}
use Rattle.gq_exec_vars.specs.Written.{set_is}
use Rattle.gq_exec_vars.proofs.SetLemmas.{halts_on}
use Rattle.gq_exec_vars.proofs.expression.operand.Goals as goal

pub returns-in-Name : goal.returns-in-Name
returns-in-Name c = λ world s seen. subst (λ t. Tells set_is (term_of world s (view_term t)) c.lent.result) (sym c.in-Name.is) (c.lent.ensures world s seen)

pub returns-in_ok-gathered-in-Seeds : goal.returns-in_ok-gathered-in-Seeds
returns-in_ok-gathered-in-Seeds c = λ world s seen.
    ap (λ t. term_of world s (view_term t)) c.in-Seeds.is
    ∙ ap (λ seeds. term_of world s (plain.Seeds (map view_seed seeds))) (sym c.as_slice.ensures)
    ∙ c.in_ok-gathered-in-Seeds.ensures world s seen

pub returns-in_err-gathered-in-Seeds : goal.returns-in_err-gathered-in-Seeds
returns-in_err-gathered-in-Seeds c = λ world s seen.
    halts_on set_is (term_of world s (view_term c.args.term.now)) c.in_err-gathered-in-Seeds.field-0.0 c.from_residual.result c.from_residual.ensures.1
    (subst (λ t. Halts (term_of world s (view_term t)) c.in_err-gathered-in-Seeds.field-0.0) (sym c.in-Seeds.is)
    (subst (λ seeds. Halts (term_of world s (plain.Seeds (map view_seed seeds))) c.in_err-gathered-in-Seeds.field-0.0) c.as_slice.ensures (c.in_err-gathered-in-Seeds.ensures world s seen)))
