use Rattle.std.proofs.Common.{◌≡◌, List, map}
use Rattle.gq_value.specs.Views.{val}
use Rattle.gq_value.specs.Order.{place}
use Rattle.gq_accum_laws.specs.Gather.{distinct}
use Rattle.gq_nest.specs.Tells.{Tells}
use Rattle.gq_nest.proofs.TellSteps.{if_ok, tells_set, tells_list}
use Rattle.gq_json.specs.declared.out.Out as json
use Rattle.gq_rules_calendar.specs.Gregorian.{gregorian}
use Rattle.gq_eval_operand.specs.Meant.{sort_is}
use Rattle.gq_eval_context.specs.Looks.{world_over}
use Rattle.gq_output.specs.Printed.{elements_shown, value_shown}
use Rattle.gq_output.proofs.ContentLemmas.{row_told}
use Rattle.gq_output.proofs.contents.elements.Goals as goal

pub returns-in-Set : goal.returns-in-Set
returns-in-Set c =
    let world = world_over gregorian c.args.over.now in
    let b = sort_is c.args.sort in
    if_ok c.keys_of.result (λ (outs : List json.Out). outs ≡ map (value_shown world b) (distinct place (map val c.in-Set.keys.keys))) (λ outs. Tells c.args.content.now outs (elements_shown world b)) c.keys_of.ensures
    (λ outs h. tells_set c.args.content.now outs (elements_shown world b) _ c.in-Set.is (λ a. h))

pub returns-in-List : goal.returns-in-List
returns-in-List c =
    let world = world_over gregorian c.args.over.now in
    let b = sort_is c.args.sort in
    if_ok c.values.result (λ (outs : List json.Out). outs ≡ map (λ v. value_shown world b (val v)) c.in-List.items) (λ outs. Tells c.args.content.now outs (elements_shown world b)) (rw c.as_slice.ensures at c.values.ensures)
    (λ outs h. tells_list c.args.content.now outs (elements_shown world b) _ c.in-List.is (λ a. row_told world b c.in-List.items outs h))
