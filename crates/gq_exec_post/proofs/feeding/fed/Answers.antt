use Rattle.gq_exec_post.proofs.FeedingLemmas.{fed_is, fed_keeps}
use Rattle.gq_exec_post.proofs.feeding.fed.Goals as goal

pub returns-clause-told : goal.returns-clause-told
returns-clause-told c =
    fed_is c.args.writing.accums c.feed_waiting.new.accums c.args.writing.waiting c.requires.sound c.requires.taken.each c.in-Ok.ensures c.judged.result c.judged.ensures

pub returns-clause-sound : goal.returns-clause-sound
returns-clause-sound c =
    fed_keeps c.args.writing.accums c.feed_waiting.new.accums c.args.writing.waiting c.requires.sound c.requires.taken.each c.in-Ok.ensures c.judged.result c.judged.ensures
