use Rattle.std.proofs.Common.{◌∙◌, ap, sym, Ok, Bool, List, ℕ}
use Rattle.gq_value.specs.Accums.{GroupByAccum}
use Rattle.gq_value.specs.Typed.{have_no_list}
use Rattle.gq_value.specs.declared.kind.Kind.{Kind}
use Rattle.gq_value.specs.declared.kind.GroupShape as shape
use Rattle.gq_value.proofs.AccumLemmas.{accum_of-Group}
use Rattle.gq_rules_typing.specs.Judging.{Judged, ◌>>◌}
use Rattle.gq_scope.specs.Views.{parts_are}
use Rattle.gq_scope.specs.Held.{fields_of}
use Rattle.gq_check_decls.specs.Written.{good}
use Rattle.gq_check_decls.proofs.kinds.group.Goals as goal

pub returns : goal.returns
returns c =
    let no_list = c.have_no_list.ensures ∙ ap (λ (ps : List (List ℕ × Kind)). have_no_list (parts_are ps)) c.as_slice.ensures in
    let gives = λ (j : Judged Bool). j >> Ok (GroupByAccum (fields_of c.args.keys) (parts_are c.args.parts)) in
    ap gives (ap (good c.args.name.now) (sym no_list) ∙ c.in_ok-good.ensures)
    ∙ ap Ok (sym (accum_of-Group (shape.roll-GroupShape record { keys = c.args.keys; parts = c.args.parts })))
