use Rattle.std.proofs.Common.{◌<◌, arith}
use Rattle.gq_frame.specs.Targets.{targets_of}
use Rattle.gq_frame.proofs.SlotLemmas.{sound_there, content_read}
use Rattle.gq_frame.proofs.slot_places.read_target.Goals as goal

pub read-requires : goal.read-requires
read-requires c =
    let within : c.args.vertex < targets_of c.args.accums.now.slots.vertices c.in-Some.declared.now = omega (arith, c.targets.ensures) in
    sound_there c.args.accums.now c.args.slot c.args.vertex c.target-target.result c.in-Some.declared.now c.in-Some-get.content.now c.requires c.in-Some.ensures within c.target-target.ensures c.in-Some-get.ensures

pub returns-in-Some-get-clause-read : goal.returns-in-Some-get-clause-read
returns-in-Some-get-clause-read c =
    let within : c.args.vertex < targets_of c.args.accums.now.slots.vertices c.in-Some.declared.now = omega (arith, c.targets.ensures) in
    content_read c.args.accums.now c.args.slot c.args.vertex c.target-target.result c.in-Some.declared.now c.in-Some-get.content.now c.read.result c.in-Some.ensures within c.target-target.ensures c.in-Some-get.ensures c.read.ensures.read
