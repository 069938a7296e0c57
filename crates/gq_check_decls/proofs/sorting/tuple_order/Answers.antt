use Rattle.std.proofs.Common.{◌∙◌, ap, sym, subst, map, List, ℕ, Bool, Some}
use Rattle.std.specs.Option.{option_copied, option_map}
use Rattle.gq_value.specs.declared.kind.BaseType.{BaseType}
use Rattle.gq_rules_typing.specs.Statements.{Bytes}
use Rattle.gq_rules_typing.specs.Sorts.{names_of}
use Rattle.gq_rules_typing.specs.Judging.{Judged}
use Rattle.gq_rules_typing.specs.KindTypes.{sort_fields}
use Rattle.gq_scope.specs.Held.{fields_of, setting_in}
use Rattle.gq_check_from.specs.Faults.{Judges}
use Rattle.gq_check_decls.proofs.TupleLemmas.{fields_are, names_are}
use Rattle.gq_check_decls.proofs.sorting.tuple_order.Goals as goal

pub returns-in-Some : goal.returns-in-Some
returns-in-Some c =
    let at = fields_are (setting_in c.args.scope.now) c.args.number (Some (fields_of c.in-Some.fields.now))
    (sym (ap (λ o. option_map fields_of (option_copied o)) c.in-Some.is) ∙ c.tuple_at.ensures) in
    let names = ap (map (λ (f : Bytes × BaseType). f.0)) c.as_slice.ensures ∙ sym (names_are c.in-Some.fields.now) ∙ ap names_of (sym at) in
    subst (λ (j : Judged (List (ℕ × Bool))). Judges (λ by. by) j c.sort_fields-in-Some.result)
    (ap (λ (ns : List Bytes). sort_fields c.args.name.now ns c.args.order.now) names) c.sort_fields-in-Some.ensures
