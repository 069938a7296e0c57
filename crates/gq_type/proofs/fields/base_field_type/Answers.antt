use Rattle.std.proofs.Common.{◌∙◌, ap, sym, subst, map, false, List, ℕ}
use Rattle.gq_rules_typing.specs.Sorts.{Sorts}
use Rattle.gq_rules_typing.specs.FieldTypes.{field_or_fault, one_base, field_type}
use Rattle.gq_rules_typing.specs.Judging.{Of}
use Rattle.gq_scope.specs.Held.{setting_in}
use Rattle.gq_scope.specs.Views.{Judges, typed_is, base_is}
use Rattle.gq_scope.specs.Parts.{type_field}
use Rattle.gq_type.proofs.ScopeLemmas.{setting_sorts}
use Rattle.gq_type.proofs.fields.base_field_type.Goals as goal

pub returns-in-AnyVertex : goal.returns-in-AnyVertex
returns-in-AnyVertex c =
    let s = setting_in c.args.scope.now in
    subst (λ b. Judges typed_is (field_type s (Of (base_is b)) c.args.name.now) c.of_types-in-AnyVertex.result) (sym c.in-AnyVertex.is)
    (subst (λ (l : List ℕ). Judges typed_is (field_or_fault s c.args.name.now (one_base (map (type_field s false c.args.name.now) l))) c.of_types-in-AnyVertex.result)
    (c.own_vertices.ensures ∙ sym (ap (λ (o : Sorts). o.own_vertices) (setting_sorts c.args.scope.now))) c.of_types-in-AnyVertex.ensures)
