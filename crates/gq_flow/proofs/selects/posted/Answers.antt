use Rattle.gq_rules_calendar.specs.Gregorian.{gregorian}
use Rattle.gq_flow.proofs.SelectLemmas.{all_goes, kept_apart, post_stops, tail_stops, types_are}
use Rattle.gq_flow.proofs.selects.posted.Goals as goal

pub returns-in-Err-clause-posts : goal.returns-in-Err-clause-posts
returns-in-Err-clause-posts c = post_stops gregorian c.args.over.now c.args.block.now c.args.after c.in-Err.fault c.in-Err.ensures.told

pub returns-in-Err-tail-clause-posts : goal.returns-in-Err-tail-clause-posts
returns-in-Err-tail-clause-posts c = tail_stops gregorian c.args.over.now c.args.block.now c.args.after c.in-Ok.after c.in-Err-tail.fault c.in-Ok.ensures.told c.in-Err-tail.ensures

pub tail-requires-clause-sources : goal.tail-requires-clause-sources
tail-requires-clause-sources c = kept_apart _ _ c.in-Ok.ensures.keeps.sources c.requires.left.sources_once

pub tail-requires-clause-targets : goal.tail-requires-clause-targets
tail-requires-clause-targets c = kept_apart _ _ c.in-Ok.ensures.keeps.targets c.requires.left.targets_once

pub returns-in-Ok-tail-clause-posts : goal.returns-in-Ok-tail-clause-posts
returns-in-Ok-tail-clause-posts c =
    all_goes gregorian c.args.over.now c.args.block.now c.args.after c.in-Ok.after c.in-Ok-tail.vertices c.types_of-types.result c.with_vertices.result c.in-Ok.ensures.told c.in-Ok-tail.ensures
    (types_are gregorian c.args.over.now c.args.block.now c.args.ends c.selects_target.result c.types_of-types.result c.requires.ends c.selects_target.ensures c.types_of-types.ensures) c.with_vertices.ensures
