use Rattle.std.proofs.Common.{◌≡◌, ◌+◌, ◌<◌, ◌≤◌, slice_get, Some, None, subst, arith}
use Rattle.gq_rules_calendar.specs.Gregorian.{gregorian}
use Rattle.gq_frame.specs.declared.accums.Accums.{Accums}
use Rattle.gq_frame.specs.Slots.{AreSound}
use Rattle.gq_frame.specs.Targets.{number_of}
use Rattle.gq_output.proofs.SlotLemmas.{at_target, slot_empty, slot_left, slot_past, slot_told, sound_there}
use Rattle.gq_output.proofs.attributes.put_slot.Goals as goal

pub returns-then-not-slot : goal.returns-then-not-slot
returns-then-not-slot c = slot_left gregorian c.args.over.now c.args.over.now.frame.accums c.args.number c.args.slot.now c.requires.declared c.args.vertex c.args.members.now c.if-not-slot.true

pub returns-then-vertex-accums : goal.returns-then-vertex-accums
returns-then-vertex-accums c =
    slot_past gregorian c.args.over.now c.args.over.now.frame.accums c.args.number c.args.slot.now c.requires.declared c.if-not-slot.false c.args.vertex c.args.members.now
    (subst (λ (b : Accums). b.slots.vertices ≤ c.args.vertex) c.accums_of-accums.ensures.value c.if-vertex-accums.true)

pub out_content-requires : goal.out_content-requires
out_content-requires c =
    let same = c.accums_of-accums.ensures.value in
    let a = c.args.over.now.frame.accums in
    let within = subst (λ (b : Accums). c.args.vertex < b.slots.vertices) same c.if-vertex-accums.false in
    let there = subst (λ (b : Accums). slice_get b.contents (c.args.first + c.from.result) ≡ Some c.in-Some.content.now) same c.in-Some.ensures in
    let at : c.args.first + c.from.result ≡ number_of a.slots c.args.number c.args.vertex = (let q = at_target a.slots c.args.number c.args.vertex c.args.first c.requires.first in omega (arith, q)) in
    sound_there gregorian c.args.over.now a c.args.number c.args.slot.now c.requires.declared c.if-not-slot.false c.args.vertex (c.args.first + c.from.result) c.in-Some.content.now (subst AreSound same c.accums_of-accums.ensures.sound) within at there

pub returns-in-None : goal.returns-in-None
returns-in-None c =
    let same = c.accums_of-accums.ensures.value in
    let a = c.args.over.now.frame.accums in
    let within = subst (λ (b : Accums). c.args.vertex < b.slots.vertices) same c.if-vertex-accums.false in
    let there = subst (λ (b : Accums). slice_get b.contents (c.args.first + c.from.result) ≡ None) same c.in-None.ensures in
    let at : c.args.first + c.from.result ≡ number_of a.slots c.args.number c.args.vertex = (let q = at_target a.slots c.args.number c.args.vertex c.args.first c.requires.first in omega (arith, q)) in
    slot_empty gregorian c.args.over.now a c.args.number c.args.slot.now c.requires.declared c.if-not-slot.false c.args.vertex (c.args.first + c.from.result) c.args.members.now within at there

pub returns-in_ok-value-in-Some : goal.returns-in_ok-value-in-Some
returns-in_ok-value-in-Some c =
    let same = c.accums_of-accums.ensures.value in
    let a = c.args.over.now.frame.accums in
    let within = subst (λ (b : Accums). c.args.vertex < b.slots.vertices) same c.if-vertex-accums.false in
    let there = subst (λ (b : Accums). slice_get b.contents (c.args.first + c.from.result) ≡ Some c.in-Some.content.now) same c.in-Some.ensures in
    let at : c.args.first + c.from.result ≡ number_of a.slots c.args.number c.args.vertex = (let q = at_target a.slots c.args.number c.args.vertex c.args.first c.requires.first in omega (arith, q)) in
    slot_told gregorian c.args.over.now a c.args.number c.args.slot.now c.requires.declared c.if-not-slot.false c.args.vertex (c.args.first + c.from.result) c.in-Some.content.now c.name_of.result.now c.in_ok-value-in-Some.value c.args.members.now
    c.put.new.members c.put.result within at there c.name_of.ensures c.in_ok-value-in-Some.ensures c.put.ensures
