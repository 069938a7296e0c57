use Rattle.std.proofs.Common.{ℕ, Option, subst}
use Rattle.gq_rules_meaning.specs.Posts.{post_acts}
use Rattle.gq_rules_calendar.specs.Gregorian.{gregorian}
use Rattle.gq_plan_ir.specs.BlockView.{view_acts}
use Rattle.gq_frame.specs.Names.{Placed}
use Rattle.gq_exec_post.specs.Sights.{DoesSo, one_alias}
use Rattle.gq_exec_post.specs.Writing.{left}
use Rattle.gq_exec_post.proofs.ReadLemmas.{reads_vertex}
use Rattle.gq_exec_post.proofs.vertices.run_vertex.Goals as goal

pub run_acts-requires-clause-reads : goal.run_acts-requires-clause-reads
run_acts-requires-clause-reads c = reads_vertex c.args.leaves.now c.args.end.now c.args.vertex c.args.writing.now.accums _ c.requires.reads c.in-Some.ensures

pub run_acts-requires-in-None-clause-reads : goal.run_acts-requires-in-None-clause-reads
run_acts-requires-in-None-clause-reads c = reads_vertex c.args.leaves.now c.args.end.now c.args.vertex c.args.writing.now.accums _ c.requires.reads c.in-None.ensures

pub returns-in-Some-clause-told : goal.returns-in-Some-clause-told
returns-in-Some-clause-told c =
    subst (λ (o : Option (ℕ × Placed)). DoesSo gregorian c.args.over.now (one_alias o) c.args.vertex (λ p. post_acts p (view_acts c.args.acts.now)) c.args.writing.now (left c.run_acts.result c.run_acts.new.writing)) c.in-Some.ensures c.run_acts.ensures.told

pub returns-in-None-clause-told : goal.returns-in-None-clause-told
returns-in-None-clause-told c =
    subst (λ (o : Option (ℕ × Placed)). DoesSo gregorian c.args.over.now (one_alias o) c.args.vertex (λ p. post_acts p (view_acts c.args.acts.now)) c.args.writing.now (left c.run_acts-in-None.result c.run_acts-in-None.new.writing)) c.in-None.ensures c.run_acts-in-None.ensures.told
