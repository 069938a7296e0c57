use Rattle.std.proofs.Common.{◌∙◌, map, ap, sym, List, ℕ}
use Rattle.gq_value.specs.declared.kind.BaseType.{BaseType}
use Rattle.gq_value.specs.declared.kind.Kind.{Kind}
use Rattle.gq_value.specs.AccumViews.{base_of, accum_of}
use Rattle.gq_value.proofs.AccumLemmas.{accum_of-Group}
use Rattle.gq_rules_typing.specs.Kinds.{key_types}
use Rattle.gq_scope.proofs.BaseLemmas.{key_types_are}
use Rattle.gq_scope.proofs.kinds.key_types.Goals as goal

pub returns-in-Group : goal.returns-in-Group
returns-in-Group c =
    ap (map (λ (f : List ℕ × BaseType). base_of f.1)) c.as_slice.ensures
    ∙ key_types_are c.in-Group.shape.keys
    ∙ ap key_types (sym (accum_of-Group c.in-Group.shape))
    ∙ ap (λ (k : Kind). key_types (accum_of k)) (sym c.in-Group.is)
