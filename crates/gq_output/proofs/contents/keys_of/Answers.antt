use Rattle.std.specs.Map.Iter.{deref}
use Rattle.std.proofs.lemmas.Map.Iter.{rest_all}
use Rattle.gq_rules_calendar.specs.Gregorian.{gregorian}
use Rattle.gq_eval_operand.specs.Meant.{sort_is}
use Rattle.gq_eval_context.specs.Looks.{world_over}
use Rattle.gq_output.proofs.ContentLemmas.{keys_all}
use Rattle.gq_output.proofs.contents.keys_of.Goals as goal

pub returns : goal.returns
returns c =
    keys_all (world_over gregorian c.args.over.now) (sort_is c.args.sort) c.args.keys.now c.loop-key.outs _ (rest_all deref _ _ _ c.in-None.is c.next.ensures.steps) c.loop-key.invariant
    c.into_iter-key-iterator.ensures.into_iter_gives.1
