use Rattle.std.proofs.Common.{◌≡◌, ◌+◌, ◌<◌, ◌≤◌, List, Some, length, slice_get, refl, sym, ap, subst, ◌∙◌, arith}
use Rattle.gq_value.specs.declared.kind.Slot.{Slot}
use Rattle.gq_rules_calendar.specs.Gregorian.{gregorian}
use Rattle.gq_frame.specs.Slots.{slots_are}
use Rattle.gq_eval_context.specs.Looks.{world_over}
use Rattle.gq_eval_context.specs.Viewed.{Over}
use Rattle.gq_output.specs.Vertices.{IsFirst}
use Rattle.gq_output.proofs.NamedLemmas.{at_get}
use Rattle.gq_output.proofs.SlotLemmas.{attached_all, attached_more, first_next}
use Rattle.gq_output.proofs.attributes.put_attached.Goals as goal

pub loop-number-preserved : goal.loop-number-preserved
loop-number-preserved c =
    let slots = c.over.inside.frame.now.accums.slots in
    let number = c.loop-number.number in
    let slot = c.slot-item.result in
    let n : number < length c.as_slice-slot-items.result.now = omega arith in
    let there = subst (λ (ss : List Slot). slice_get ss number ≡ Some slot) c.as_slice-slot-items.ensures (at_get c.as_slice-slot-items.result.now number slot n c.slot-item.is) in
    let few : c.from-first.result < 4294967296 = (let e = c.from-first.ensures in let t = c.targets.type_inv in omega (arith, e, t)) in
    let first = subst (λ (s : Over). IsFirst s.frame.accums.slots number c.loop-number.first) (sym c.over.view_is) c.loop-number.invariant.1 in (
      attached_more (world_over gregorian c.args.over.now) c.args.vertex (slots_are c.args.over.now.frame.accums) number c.args.members.now c.loop-number.members c.put_slot.new.members c.loop-number.invariant.0 c.in_ok-put_slot.ensures,
      subst (λ (s : Over). IsFirst s.frame.accums.slots (number + 1) (c.loop-number.first + c.from-first.result)) c.over.view_is
          (first_next slots number (number + 1) c.loop-number.first c.from-first.result slot first there (c.from-first.ensures ∙ c.targets.ensures) few refl),
    )

pub returns : goal.returns
returns c =
    let e = ap length c.as_slice-slot-items.ensures in
    let v = ap (λ (s : Over). length s.frame.accums.slots.declared) c.over.view_is in
    let n : length c.args.over.now.frame.accums.slots.declared ≤ c.loop-number.number = omega (arith, e, v) in
    attached_all (world_over gregorian c.args.over.now) c.args.vertex c.args.over.now.frame.accums c.loop-number.number c.args.members.now c.loop-number.members c.loop-number.invariant.0 n
