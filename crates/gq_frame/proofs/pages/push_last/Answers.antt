use Rattle.std.proofs.Common.{◌-◌}
use Rattle.gq_frame.proofs.PageLemmas.{kept_at, put_either, room_of}
use Rattle.gq_frame.proofs.pages.push_last.Goals as goal

pub push-requires-clause-kept : goal.push-requires-clause-kept
push-requires-clause-kept c = kept_at _ _ _ c.requires c.at_mut.ensures.value

pub returns-then-has_room-clause-ok : goal.returns-then-has_room-clause-ok
returns-then-has_room-clause-ok c = (put_either _ _ _ _ _ _ c.requires c.len-count.ensures c.if-count-eq0.false c.at_mut.ensures.value (room_of c.args.pages.now (c.len-count.result - 1) _ _ c.at.ensures c.at_mut.ensures.value (c.has_room.ensures.room c.if-has_room.true)) c.push.ensures.ok c.push.ensures.err c.push.ensures.kept).0

pub returns-then-has_room-clause-err : goal.returns-then-has_room-clause-err
returns-then-has_room-clause-err c = (put_either _ _ _ _ _ _ c.requires c.len-count.ensures c.if-count-eq0.false c.at_mut.ensures.value (room_of c.args.pages.now (c.len-count.result - 1) _ _ c.at.ensures c.at_mut.ensures.value (c.has_room.ensures.room c.if-has_room.true)) c.push.ensures.ok c.push.ensures.err c.push.ensures.kept).1

pub returns-then-has_room-clause-pages : goal.returns-then-has_room-clause-pages
returns-then-has_room-clause-pages c = (put_either _ _ _ _ _ _ c.requires c.len-count.ensures c.if-count-eq0.false c.at_mut.ensures.value (room_of c.args.pages.now (c.len-count.result - 1) _ _ c.at.ensures c.at_mut.ensures.value (c.has_room.ensures.room c.if-has_room.true)) c.push.ensures.ok c.push.ensures.err c.push.ensures.kept).2
