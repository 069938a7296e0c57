use Rattle.gq_value.specs.AccumViews.{accum_of, base_of}
use Rattle.gq_value.specs.Views.{val}
use Rattle.gq_eval_builtins.proofs.ContainLemmas.{plain_found}
use Rattle.gq_eval_builtins.proofs.elements.has.Goals as goal

pub returns-then-is_plain : goal.returns-then-is_plain
returns-then-is_plain c = plain_found (accum_of c.args.kind.now) c.args.content.now (base_of c.args.base.now) (val c.args.value.now) c.contains.result c.requires.sound c.requires.of (c.is_plain.ensures c.if-is_plain.true) c.contains.ensures
