use Rattle.std.proofs.Common.{◌∙◌, ◌≤◌, ap, sym, subst}
use Rattle.std.specs.List.{slice_get}
use Rattle.gq_value.specs.declared.kind.Kind.{Kind}
use Rattle.gq_value.specs.AccumViews.{accum_of}
use Rattle.gq_value.proofs.AccumLemmas.{accum_of-Group}
use Rattle.gq_rules_typing.specs.Kinds.{part_kinds}
use Rattle.gq_check_select.proofs.InputLemmas.{part_there, part_past}
use Rattle.gq_check_select.proofs.inputs.part_of.Goals as goal

pub returns-then-place-len : goal.returns-then-place-len
returns-then-place-len c =
    sym (part_there c.in-Group.shape.parts c.args.place c.at.result.now c.at.ensures)
    ∙ ap (λ k. slice_get (part_kinds k) c.args.place) (sym (accum_of-Group c.in-Group.shape))
    ∙ ap (λ (k : Kind). slice_get (part_kinds (accum_of k)) c.args.place) (sym c.in-Group.is)

pub returns-else-place-len : goal.returns-else-place-len
returns-else-place-len c =
    sym (part_past c.in-Group.shape.parts c.args.place (subst (λ n. n ≤ c.args.place) c.len.ensures c.if-place-len.false))
    ∙ ap (λ k. slice_get (part_kinds k) c.args.place) (sym (accum_of-Group c.in-Group.shape))
    ∙ ap (λ (k : Kind). slice_get (part_kinds (accum_of k)) c.args.place) (sym c.in-Group.is)
