use Rattle.std.proofs.Common.{◌∙◌, ap, sym, length}
use Rattle.gq_value.specs.declared.kind.Kind.{Kind}
use Rattle.gq_value.specs.AccumViews.{accum_of}
use Rattle.gq_value.proofs.AccumLemmas.{accum_of-Group}
use Rattle.gq_rules_typing.specs.Kinds.{part_kinds}
use Rattle.gq_check_select.proofs.InputLemmas.{parts_count}
use Rattle.gq_check_select.proofs.inputs.part_count.Goals as goal

pub returns-in-Group : goal.returns-in-Group
returns-in-Group c =
    c.len.ensures ∙ sym (parts_count c.in-Group.shape.parts) ∙ ap (λ k. length (part_kinds k)) (sym (accum_of-Group c.in-Group.shape))
    ∙ ap (λ (k : Kind). length (part_kinds (accum_of k))) (sym c.in-Group.is)
