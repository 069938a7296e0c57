use Rattle.std.proofs.Common.{◌∙◌, ap, List, map}
use Rattle.gq_value.specs.declared.kind.Kind.{Kind}
use Rattle.gq_rules_typing.specs.Statements.{Bytes}
use Rattle.gq_rules_typing.specs.Words.{place_of}
use Rattle.gq_eval_attributes.specs.Parts.{name_in}
use Rattle.gq_eval_attributes.proofs.PartLemmas.{fresh_opens}
use Rattle.gq_eval_attributes.proofs.groups.opening_part.Goals as goal

pub returns-in-Some-get-clause-told : goal.returns-in-Some-get-clause-told
returns-in-Some-get-clause-told c =
    fresh_opens c.args.shape.now (name_in c.args.field.now) c.in-Some.place c.in-Some-get.part.now c.opening.result
    (c.in-Some.ensures ∙ ap (λ (ps : List (Bytes × Kind)). place_of (map (λ (p : Bytes × Kind). p.0) ps) (name_in c.args.field.now)) c.as_slice.ensures) c.in-Some-get.ensures c.opening.ensures.read
