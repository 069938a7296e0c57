use Rattle.std.proofs.Common.{map}
use Rattle.gq_value.specs.AccumViews.{accum_of}
use Rattle.gq_value.specs.Views.{val}
use Rattle.gq_eval_builtins.proofs.KeyLemmas.{inner_sound}
use Rattle.gq_eval_builtins.proofs.keys.at_key.Goals as goal

pub read-requires : goal.read-requires
read-requires c = inner_sound (accum_of c.args.kind.now) c.requires.is_map.0 (accum_of c.args.inner.now) c.args.content.now c.in-Some.part.now (map val c.args.row.now) c.requires.sound c.requires.is_map.1 c.in-Some.ensures
