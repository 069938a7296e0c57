use Rattle.std.proofs.Common.{map, subst}
use Rattle.gq_json.specs.declared.out.Out.{Out}
use Rattle.gq_rules_calendar.specs.Gregorian.{gregorian}
use Rattle.gq_frame.specs.declared.accums.Accums.{Accums}
use Rattle.gq_eval_operand.specs.Meant.{itself, Tells}
use Rattle.gq_frame.specs.Names.{alias_of}
use Rattle.gq_frame.specs.Slots.{slots_are}
use Rattle.gq_eval_context.specs.Viewed.{Viewed, viewed}
use Rattle.gq_eval_context.specs.Looks.{look_of, world_over}
use Rattle.gq_output.specs.Items.{member_shown}
use Rattle.gq_output.proofs.columns.member_under.Goals as goal

pub returns : goal.returns
returns c =
    let over = c.args.over.now in
    let told = λ (v : Viewed). Tells (itself {A = Out}) (member_shown (world_over gregorian over) (look_of gregorian v) (slots_are over.frame.accums) c.args.columns.now c.args.vertex) c.member_seen.result in
    subst (λ (a : Accums). told (viewed over (map alias_of c.args.aliases.now) a a)) c.accums_of-accums.ensures.value (subst told c.eval_context-sight.ensures c.member_seen.ensures)
