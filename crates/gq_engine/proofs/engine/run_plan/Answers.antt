use Rattle.gq_engine.proofs.engine.run_plan.Goals as goal

pub returns : goal.returns
returns g c = c.told.ensures _ c.run_query.ensures
