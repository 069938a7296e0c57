use Rattle.std.proofs.Common.{IfOk, map, ap, subst}
use Rattle.gq_graph.specs.declared.rows.Candidate.{Candidate}
use Rattle.gq_frame.specs.declared.accums.Accums.{Accums}
use Rattle.gq_rules_meaning.specs.Blocks.{match_of}
use Rattle.gq_rules_calendar.specs.Gregorian.{gregorian}
use Rattle.gq_plan_ir.specs.BlockView.{view_block}
use Rattle.gq_frame.specs.Names.{alias_of}
use Rattle.gq_frame.specs.Slots.{slots_are}
use Rattle.gq_eval_context.specs.Viewed.{Over, Viewed, viewed}
use Rattle.gq_eval_context.specs.Looks.{look_of}
use Rattle.gq_exec_contribute.specs.Passing.{Comes}
use Rattle.gq_exec_contribute.specs.declared.candidate.Outcome.{Outcome}
use Rattle.gq_workers.proofs.candidate.outcome_under.Goals as goal

pub returns : goal.returns
returns c = subst (λ (a : Accums). IfOk c.contribute.result (λ (r : Outcome). (x : Candidate) → Comes a.slots x (match_of (view_block c.args.block.now) (slots_are a) x (look_of gregorian (viewed c.args.over.now (map alias_of c.args.aliases.now) a a))) c.args.into.now c.contribute.new.into r))
    (ap (λ (o : Over). o.frame.accums) c.over.view_is)
    (subst (λ (v : Viewed). IfOk c.contribute.result (λ (r : Outcome). (x : Candidate) → Comes c.over.inside.frame.now.accums.slots x (match_of (view_block c.args.block.now) (slots_are c.over.inside.frame.now.accums) x (look_of gregorian v)) c.args.into.now c.contribute.new.into r))
    c.eval_context-view.ensures c.contribute.ensures)
