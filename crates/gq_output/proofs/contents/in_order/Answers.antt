use Rattle.std.proofs.Common.{◌≡◌, List, map}
use Rattle.gq_value.specs.Views.{val}
use Rattle.gq_nest.specs.Tells.{Tells}
use Rattle.gq_nest.proofs.TellSteps.{if_ok}
use Rattle.gq_json.specs.declared.out.Out as json
use Rattle.gq_rules_calendar.specs.Gregorian.{gregorian}
use Rattle.gq_eval_operand.specs.Meant.{sort_is}
use Rattle.gq_eval_context.specs.Looks.{world_over}
use Rattle.gq_output.specs.Printed.{elements_shown, value_shown}
use Rattle.gq_output.proofs.ContentLemmas.{elements_told}
use Rattle.gq_output.proofs.contents.in_order.Goals as goal

pub returns : goal.returns
returns c =
    let world = world_over gregorian c.args.over.now in
    let b = sort_is c.args.sort in
    if_ok c.values.result (λ (outs : List json.Out). outs ≡ map (λ v. value_shown world b (val v)) c.in_ok-row.row) (λ outs. Tells c.args.content.now outs (elements_shown world b)) (rw c.as_slice.ensures at c.values.ensures)
    (λ outs h. elements_told world b c.args.content.now c.in_ok-row.row outs c.in_ok-row.ensures h)
