use Rattle.std.proofs.Common.{Ok, Err, refl}
use Rattle.gq_rules_calendar.specs.Gregorian.{gregorian}
use Rattle.gq_exec_vars.proofs.NumberLemmas.{none_numbered}
use Rattle.gq_exec_vars.proofs.OpenLemmas.{begins_ok, begins_err, begins_unbound}
use Rattle.gq_exec_vars.proofs.opening.open.Goals as goal

pub returns-in_err-definitions-clause-begins : goal.returns-in_err-definitions-clause-begins
returns-in_err-definitions-clause-begins c =
    begins_err gregorian c.args.graph c.args.plan.now c.args.arguments.now c.in_ok-bound.field-0 (record { live = c.in_ok-bound.field-0; tuples = c.new.result }) c.definitions.new.opened (Err c.in_err-definitions.field-0.0) c.in_ok-bound.ensures.bound refl c.new.ensures
    c.in_err-definitions.ensures.leads c.in_err-definitions.field-0.0 c.from_residual-in_err-definitions.result c.from_residual-in_err-definitions.ensures.1 refl

pub returns-clause-begins : goal.returns-clause-begins
returns-clause-begins c =
    begins_ok gregorian c.args.graph c.args.plan.now c.args.arguments.now c.in_ok-bound.field-0 (record { live = c.in_ok-bound.field-0; tuples = c.new.result }) c.definitions.new.opened (Ok tt) c.in_ok-bound.ensures.bound refl c.new.ensures
    c.in_ok-definitions.ensures.leads refl

pub returns-in_err-bound-clause-begins : goal.returns-in_err-bound-clause-begins
returns-in_err-bound-clause-begins c = begins_unbound gregorian c.args.graph c.args.plan.now c.args.arguments.now c.in_err-bound.field-0.0 c.from_residual.result c.from_residual.ensures.1 c.in_err-bound.ensures.halts

pub definitions-requires-clause-next : goal.definitions-requires-clause-next
definitions-requires-clause-next c = none_numbered c.new.result c.in_ok-bound.field-0.frame.accums _ c.args.plan.now.definitions c.new.ensures c.in_ok-bound.ensures.accums c.requires.numbered
