use Rattle.std.proofs.Common.{◌∙◌, ap, map}
use Rattle.gq_value.specs.declared.kind.Kind.{Kind}
use Rattle.gq_rules_typing.specs.Statements.{Bytes}
use Rattle.gq_rules_typing.specs.Words.{place_of}
use Rattle.gq_eval_attributes.proofs.PartLemmas.{among_parts}
use Rattle.gq_eval_attributes.proofs.groups.part_place.Goals as goal

pub returns : goal.returns
returns c =
    among_parts c.name_of.result.now c.args.parts.now c.place_of_name.result c.place_of_name.ensures
    ∙ ap (place_of (map (λ (p : Bytes × Kind). p.0) c.args.parts.now)) c.name_of.ensures
