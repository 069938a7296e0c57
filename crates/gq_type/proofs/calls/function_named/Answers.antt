use Rattle.std.proofs.Common.{◌∙◌, ap, sym, map, List, Some}
use Rattle.std.specs.Option.{option_copied, option_map}
use Rattle.gq_value.specs.declared.kind.BaseType.{BaseType}
use Rattle.gq_value.specs.AccumViews.{base_of}
use Rattle.gq_rules_typing.specs.Statements.{Bytes}
use Rattle.gq_rules_typing.specs.Words.{Makes}
use Rattle.gq_scope.specs.Held.{fields_of}
use Rattle.gq_type.proofs.CallLemmas.{own_function_is, tuple_function_is, tuple_there}
use Rattle.gq_type.proofs.calls.function_named.Goals as goal

pub returns-in-None : goal.returns-in-None
returns-in-None c = c.own_function.ensures ∙ own_function_is c.args.scope.now c.args.name.now c.tuple_named.result c.in-None.is c.tuple_named.ensures

pub returns-in-None-tuple_at : goal.returns-in-None-tuple_at
returns-in-None-tuple_at c =
    absurd (tuple_there c.args.scope.now c.args.name.now c.tuple_named.result c.in-Some.number c.in-Some.is c.tuple_named.ensures
    (sym (ap (λ o. option_map fields_of (option_copied o)) c.in-None-tuple_at.is) ∙ c.tuple_at.ensures))

pub returns-in-Some-tuple_at : goal.returns-in-Some-tuple_at
returns-in-Some-tuple_at c =
    ap (λ (l : List (Bytes × BaseType)). Some (Makes c.in-Some.number (map (λ f. base_of f.1) l))) c.as_slice.ensures
    ∙ tuple_function_is c.args.scope.now c.args.name.now c.tuple_named.result c.in-Some.number c.in-Some-tuple_at.fields.now c.in-Some.is c.tuple_named.ensures
    (sym (ap (λ o. option_map fields_of (option_copied o)) c.in-Some-tuple_at.is) ∙ c.tuple_at.ensures)
