use Rattle.std.proofs.Common.{subst}
use Rattle.gq_exec_vars.specs.Begun.{HasFields}
use Rattle.gq_exec_vars.proofs.OpenLemmas.{fields_end}
use Rattle.gq_exec_vars.proofs.opening.add_tuple.Goals as goal

pub returns-clause-adds : goal.returns-clause-adds
returns-clause-adds c = record {
  tuple = c.in_ok-tuple_type.field-0;
  fields_are = subst (λ os. HasFields os c.args.fields.now c.in_ok-tuple_type.field-0) c.as_slice-own.ensures (subst (λ fs. HasFields c.as_slice-own.result.now fs c.in_ok-tuple_type.field-0) c.as_slice-lent.ensures c.in_ok-tuple_type.ensures.fields);
  next = c.requires;
  added = c.in_ok-push.ensures.ok;
}

pub returns-in_err-tuple_type-clause-halts : goal.returns-in_err-tuple_type-clause-halts
returns-in_err-tuple_type-clause-halts c =
    fields_end _ _ _ _ c.in_err-tuple_type.field-0.0 c.from_residual.result c.from_residual.ensures.1 c.as_slice-own.ensures c.as_slice-lent.ensures c.in_err-tuple_type.ensures.halts
