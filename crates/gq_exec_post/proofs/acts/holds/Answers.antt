use Rattle.std.proofs.Common.{map}
use Rattle.gq_rules_calendar.specs.Gregorian.{gregorian}
use Rattle.gq_plan_ir.specs.ExprView.{view}
use Rattle.gq_frame.specs.Names.{alias_of}
use Rattle.gq_exec_post.proofs.ReadLemmas.{truth_read}
use Rattle.gq_exec_post.proofs.acts.holds.Goals as goal

pub returns-in-Some : goal.returns-in-Some
returns-in-Some c = truth_read gregorian c.args.over.now c.args.leaves.now c.args.accums.now (map alias_of c.args.aliases.now) c.args.vertex c.requires.reads (view c.args.expr.now) c.in-Some.truth c.in-Some.ensures
