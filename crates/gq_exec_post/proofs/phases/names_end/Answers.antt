use Rattle.gq_plan_ir.specs.BlockView.{view_act}
use Rattle.gq_exec_post.proofs.NamelessLemmas.{none_named}
use Rattle.gq_exec_post.proofs.phases.names_end.Goals as goal

pub returns-in-None : goal.returns-in-None
returns-in-None c = none_named c.args.end.now.alias (view_act c.args.act.now) c.in-None.is
