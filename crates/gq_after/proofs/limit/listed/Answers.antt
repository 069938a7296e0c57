use Rattle.std.proofs.Common.{◌<◌, length, arith}
use Rattle.gq_after.proofs.LimitLemmas.{vertex_apart}
use Rattle.gq_after.proofs.limit.listed.Goals as goal

pub push-requires : goal.push-requires
push-requires c =
    let n : c.loop-place.place < length c.args.vertices.now = omega arith in
    record { new = vertex_apart c.args.vertices.now c.loop-place.place c.loop-place.list c.requires.once n c.loop-place.invariant }
