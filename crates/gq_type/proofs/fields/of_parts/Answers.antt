use Rattle.std.proofs.Common.{◌∙◌, ap, subst, Option}
use Rattle.gq_rules_typing.specs.Judging as judging
use Rattle.gq_scope.specs.Views.{Judges, typed_is, part_read}
use Rattle.gq_type.proofs.FieldLemmas.{parts_read}
use Rattle.gq_type.proofs.fields.of_parts.Goals as goal

pub returns : goal.returns
returns c =
    subst (λ (j : judging.Judged judging.Typed). Judges typed_is j c.part_read.result)
    (ap (part_read c.args.name.now) c.part_kind.ensures ∙ parts_read c.args.scope.now c.args.parts.now c.args.name.now) c.part_read.ensures
