use Rattle.std.proofs.Common.{map, ap, ◌∙◌}
use Rattle.gq_value.specs.AccumViews.{accum_of}
use Rattle.gq_value.specs.Views.{val}
use Rattle.gq_value.proofs.AccumLemmas.{accum_of-Group}
use Rattle.gq_eval_builtins.proofs.KeyLemmas.{group_lacks, group_searched, first_part}
use Rattle.gq_eval_builtins.proofs.keys.holds.Goals as goal

pub returns-in-None-part : goal.returns-in-None-part
returns-in-None-part c = group_lacks (accum_of c.args.kind.now) _ _ c.args.content.now (map val c.args.row.now) c.requires (ap accum_of c.in-Group.is ∙ accum_of-Group _) (first_part c.in-Group.shape.parts (rw c.as_slice.ensures at c.in-len1-up.len_at_least)) c.in-None-part.ensures ∙ c.truly-in-None-part.ensures

pub returns-in_ok-rows-in-empty : goal.returns-in_ok-rows-in-empty
returns-in_ok-rows-in-empty c =
    group_searched (accum_of c.args.kind.now) _ _ c.args.content.now (map val c.args.row.now) _ c.has_row.result c.requires (ap accum_of c.in-Group.is ∙ accum_of-Group _) c.in_ok-rows-in-empty.ensures (rw c.as_slice-in-empty.ensures at c.has_row.ensures) ∙ c.truly-in-empty.ensures
