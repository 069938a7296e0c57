use Rattle.std.proofs.Common.{◌∙◌, sym, subst, Option}
use Rattle.gq_schema.specs.declared.fault.SchemaFault.{SchemaFault}
use Rattle.gq_schema.specs.Refusals.{Judges, bad_default}
use Rattle.gq_schema.proofs.JudgeLemmas.{judge_fault, judge_first, bad_join}
use Rattle.gq_schema.proofs.checks.check_edge_defaults.Goals as goal

pub returns-in-Err : goal.returns-in-Err
returns-in-Err c other = bad_join c.args.key.now c.args.rest.now ∙ judge_fault (bad_default c.args.key.now) (bad_default c.args.rest.now) c.in-Err.fault c.in-Err.ensures other

pub returns : goal.returns
returns c =
    subst (λ (o : Option SchemaFault). Judges o c.check_defaults-2.result) (sym (bad_join c.args.key.now c.args.rest.now))
    (judge_first (bad_default c.args.key.now) (bad_default c.args.rest.now) c.check_defaults-2.result c.in-Ok.ensures c.check_defaults-2.ensures)
