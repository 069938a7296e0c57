use Rattle.std.proofs.Common.{length}
use Rattle.gq_rules_calendar.specs.Gregorian.{gregorian}
use Rattle.gq_exec_vars.proofs.NumberLemmas.{more_numbered, next_definition}
use Rattle.gq_exec_vars.proofs.OpenLemmas.{definitions_begin, definitions_more, definitions_stop, definitions_end}
use Rattle.gq_exec_vars.proofs.opening.definitions.Goals as goal

pub loop-definition-init : goal.loop-definition-init
loop-definition-init c = record { goes = definitions_begin gregorian c.args.graph c.args.plan.now c.args.opened.now; ready = c.requires.ready; next = c.requires.next }

pub loop-definition-preserved : goal.loop-definition-preserved
loop-definition-preserved c = record {
  goes =
      definitions_more gregorian c.args.graph c.args.plan.now c.loop-definition.definition-index c.definition-item.result c.args.opened.now c.loop-definition.opened c.define.new.opened
      (rw c.as_slice-definition-items.ensures at c.loop-definition-test.true) (rw c.as_slice-definition-items.ensures at c.definition-item.is) c.in_ok-define.ensures.leads c.loop-definition.invariant.goes;
  ready = c.in_ok-define.ensures.ready;
  next =
      more_numbered (length c.loop-definition.opened.tuples) (length c.loop-definition.opened.live.frame.accums.slots.declared) (length c.define.new.opened.tuples) (length c.define.new.opened.live.frame.accums.slots.declared)
      c.loop-definition.definition-index c.args.plan.now.definitions c.definition-item.result (rw c.as_slice-definition-items.ensures at c.loop-definition-test.true) (rw c.as_slice-definition-items.ensures at c.definition-item.is)
      c.loop-definition.invariant.next c.in_ok-define.ensures.tuples c.in_ok-define.ensures.slots;
}

pub define-requires-clause-next : goal.define-requires-clause-next
define-requires-clause-next c =
    (next_definition (length c.loop-definition.opened.tuples) (length c.loop-definition.opened.live.frame.accums.slots.declared) c.loop-definition.definition-index c.args.plan.now.definitions c.definition-item.result
    (rw c.as_slice-definition-items.ensures at c.loop-definition-test.true) (rw c.as_slice-definition-items.ensures at c.definition-item.is) c.loop-definition.invariant.next).0

pub returns-in_err-define-clause-leads : goal.returns-in_err-define-clause-leads
returns-in_err-define-clause-leads c =
    definitions_stop gregorian c.args.graph c.args.plan.now c.loop-definition.definition-index c.definition-item.result c.args.opened.now c.loop-definition.opened c.define.new.opened c.in_err-define.field-0.0 c.from_residual.result
    (rw c.as_slice-definition-items.ensures at c.loop-definition-test.true) (rw c.as_slice-definition-items.ensures at c.definition-item.is) c.from_residual.ensures.1 c.in_err-define.ensures.leads c.loop-definition.invariant.goes

pub returns-clause-leads : goal.returns-clause-leads
returns-clause-leads c =
    definitions_end gregorian c.args.graph c.args.plan.now c.loop-definition.definition-index c.args.opened.now c.loop-definition.opened
    (rw c.as_slice-definition-items.ensures at c.loop-definition-test.false) c.loop-definition.invariant.goes
