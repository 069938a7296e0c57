use Rattle.std.proofs.Common.{◌∙◌, ap, sym, List, ℕ}
use Rattle.gq_value.specs.declared.kind.Kind.{Kind}
use Rattle.gq_value.specs.AccumViews.{accum_of}
use Rattle.gq_value.specs.Typed.{has_no_list, have_no_list}
use Rattle.gq_value.proofs.AccumLemmas.{accum_of-Group}
use Rattle.gq_scope.specs.Views.{parts_are}
use Rattle.gq_check_decls.proofs.lists.+lists.Goals as goal

pub has_no_list-returns-in-Group : goal.has_no_list-returns-in-Group
has_no_list-returns-in-Group t c =
    c.have_no_list.ensures ∙ ap (λ (ps : List (List ℕ × Kind)). have_no_list (parts_are ps)) c.as_slice.ensures
    ∙ ap has_no_list (sym (accum_of-Group c.in-Group.shape)) ∙ ap (λ (k : Kind). has_no_list (accum_of k)) (sym c.in-Group.is)
