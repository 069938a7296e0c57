use Rattle.std.proofs.Common.{refl, arith}
use Rattle.gq_rules_calendar.specs.Gregorian.{gregorian}
use Rattle.gq_workers.specs.declared.run.BlockProgress.{BlockProgress}
use Rattle.gq_workers.proofs.RunLemmas.{chunk_steps}
use Rattle.gq_workers.proofs.block.next_chunk.Goals as goal

pub feed-requires : goal.feed-requires
feed-requires g c = (rw c.in-None.is at c.in_ok-fault.ensures).shaped.one

pub returns : goal.returns
returns g c =
    let new : BlockProgress = record { at = c.min-end.result; accums = c.feed.new.accums; fed = c.in_ok-run.field-0; found = record { batches = c.clear.new.self; inputs = c.truncate.new.self; room = c.try_chunk.new.found.room; sources = c.try_chunk.new.found.sources; targets = c.try_chunk.new.found.targets }; room = c.try_chunk.new.room } in
    let s = c.saturating_add.ensures in let n = c.count.ensures in let m = c.min-end.ensures in let some = c.requires.work.some in let more = c.requires.more in
    chunk_steps gregorian c.args.over.now c.args.work.now c.args.run.now new c.min-end.result c.try_chunk.new.found c.try_chunk.new.found.inputs c.requires.run
    (rw c.in-None.is at c.in_ok-fault.ensures) refl c.in_ok-run.ensures (omega (arith, s, n, m, some, more)) refl c.clear.ensures c.truncate.ensures refl refl
