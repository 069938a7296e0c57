use Rattle.std.proofs.Common.{ap, map, refl, subst, sym, rules}
use Rattle.gq_value.specs.AccumViews.{accum_of, given}
use Rattle.gq_value.specs.declared.kind.Input.{Input}
use Rattle.gq_rules_meaning.specs.Blocks.{contributed, input_of}
use Rattle.gq_rules_calendar.specs.Gregorian.{gregorian}
use Rattle.gq_plan_ir.specs.declared.block.Change.{Change}
use Rattle.gq_plan_ir.specs.BlockView.{view_change, view_feed}
use Rattle.gq_plan_ir.specs.Reference.{Slot}
use Rattle.gq_eval_operand.specs.Meant.{Tells}
use Rattle.gq_frame.specs.declared.accums.Accums.{Accums}
use Rattle.gq_frame.specs.Names.{alias_of}
use Rattle.gq_frame.specs.Slots.{slots_are}
use Rattle.gq_eval_context.specs.Viewed.{Over, Viewed, viewed}
use Rattle.gq_eval_context.specs.Looks.{look_of}
use Rattle.gq_exec_post.specs.Sights.{look_now, one_waiting}
use Rattle.gq_exec_post.proofs.WaitLemmas.{input_there}
use Rattle.gq_exec_post.proofs.acts.evaluated_input.Goals as goal

pub returns-in-Some : goal.returns-in-Some
returns-in-Some c =
    subst (λ (x : Change). Tells (λ (input : Input). one_waiting c.args.slot (given input)) (contributed (look_now gregorian c.args.over.now (map alias_of c.args.aliases.now) c.args.accums.now) (slots_are c.args.accums.now) (Slot c.args.slot) 0 (view_change x)) c.run_feed.result) (sym c.in-Feed.is)
    (input_there (look_now gregorian c.args.over.now (map alias_of c.args.aliases.now) c.args.accums.now) c.args.accums.now c.args.slot (view_feed c.in-Feed.feed) refl c.in-Some.declared.now c.run_feed.result (search rules)
    (subst (λ (a : Accums). Tells given (input_of (look_of gregorian (viewed c.args.over.now (map alias_of c.args.aliases.now) c.args.accums.now a)) (accum_of c.in-Some.declared.now.kind) (view_feed c.in-Feed.feed)) c.run_feed.result)
    (ap (λ (o : Over). o.frame.accums) c.over.view_is)
    (subst (λ (v : Viewed). Tells given (input_of (look_of gregorian v) (accum_of c.in-Some.declared.now.kind) (view_feed c.in-Feed.feed)) c.run_feed.result) c.eval_context-sight.ensures c.run_feed.ensures)))
