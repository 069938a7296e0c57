use Rattle.std.proofs.Common.{◌-◌, arith, length, take, drop, length-drop, subst}
use Rattle.gq_io.specs.Sink.{Appends}
use Rattle.gq_io.proofs.Appending.{slice_then, appends_then}
use Rattle.gq_io.proofs.sink.write_all.Goals as goal

pub loop-at-preserved : goal.loop-at-preserved
loop-at-preserved g c =
    let bytes = c.args.bytes.now in
    let at = c.loop-at.at in
    let n = c.in_ok-at.field-0 in
    let taken = c.in_ok-at.ensures.taken in
    let both = appends_then (g.K.Sink.written c.args.out.now) (g.K.Sink.written c.loop-at.out) (g.K.Sink.written c.write.new.self) (take at bytes) (take n (take (length bytes - at) (drop at bytes))) c.loop-at.invariant.1 taken.after in
    (omega (arith, taken.most, length-drop at bytes), subst (Appends (g.K.Sink.written c.args.out.now) (g.K.Sink.written c.write.new.self)) (slice_then bytes at n) both, omega (arith, c.write.ensures.faults_stay))
