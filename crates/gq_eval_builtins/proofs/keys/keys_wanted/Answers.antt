use Rattle.std.proofs.Common.{sym, ap, ◌∙◌}
use Rattle.gq_value.specs.AccumViews.{accum_of}
use Rattle.gq_value.proofs.AccumLemmas.{accum_of-Group}
use Rattle.gq_rules_typing.specs.Kinds.{key_types}
use Rattle.gq_eval_builtins.proofs.KeyLemmas.{key_types_are}
use Rattle.gq_eval_builtins.proofs.keys.keys_wanted.Goals as goal

pub returns-in-Group : goal.returns-in-Group
returns-in-Group c = rw c.as_slice.ensures (key_types_are c.in-Group.shape.keys ∙ sym (ap key_types (ap accum_of c.in-Group.is ∙ accum_of-Group _)))
