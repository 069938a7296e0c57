use Rattle.std.specs.Option.{option_map}
use Rattle.gq_plan_ir.specs.PlanView.{view_set_types}
use Rattle.gq_exec_vars.proofs.SetLemmas.{set_lives}
use Rattle.gq_exec_vars.proofs.assign.assign_set.Goals as goal

pub returns-clause-names : goal.returns-clause-names
returns-clause-names c =
    set_lives c.args.live.now c.assign.new.self c.args.place c.in_ok-kept.kept c.args.set.vertices c.args.own.now c.args.set.types c.as_slice.result.now (option_map view_set_types c.args.types) c.assign.result
    c.as_slice.ensures c.in_ok-kept.ensures c.assign.ensures.names
