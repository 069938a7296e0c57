use Rattle.std.proofs.Common.{rules}
use Rattle.gq_value.specs.AccumViews.{accum_of}
use Rattle.gq_rules_typing.specs.Kinds.{part_kinds}
use Rattle.gq_eval_builtins.specs.Wants.{wants_are}
use Rattle.gq_exec_contribute.proofs.InputLemmas.{keyed_found, fed_few}
use Rattle.gq_exec_contribute.proofs.inputs.+feed.Goals as goal

pub run_feed-returns-in_ok-inputs-in-Keyed : goal.run_feed-returns-in_ok-inputs-in-Keyed
run_feed-returns-in_ok-inputs-in-Keyed g t c =
    keyed_found (g.V.Sees.look c.args.sight.now) (accum_of c.args.kind.now) c.args.feed.now c.in-Keyed.keys c.as_slice.result.now c.in-Keyed.feeds c.as_slice-in-Keyed.result.now (wants_are c.keys_wanted.result) c.in_ok-row-in-Keyed.row c.in_ok-inputs-in-Keyed.inputs
    c.in-Keyed.is c.as_slice.ensures c.as_slice-in-Keyed.ensures c.keys_wanted.ensures (search rules) (search rules)

pub run_parts-returns-in-Some-part_at : goal.run_parts-returns-in-Some-part_at
run_parts-returns-in-Some-part_at g t c =
    fed_few (g.V.Sees.look c.args.sight.now) (part_kinds (accum_of c.args.kind.now)) c.args.feeds.now c.loop-place.place c.loop-place.inputs (accum_of c.in-Some-part_at.field-0.now) c.loop-place.invariant (search rules) (search rules) (search rules)
