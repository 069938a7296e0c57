use Rattle.std.proofs.Common.{◌∙◌, ap, List, map}
use Rattle.gq_value.specs.Views.{val}
use Rattle.gq_value.specs.declared.kind.Kind.{Kind}
use Rattle.gq_rules_typing.specs.Statements.{Bytes}
use Rattle.gq_rules_typing.specs.Words.{place_of}
use Rattle.gq_eval_attributes.specs.Parts.{name_in}
use Rattle.gq_eval_attributes.proofs.PartLemmas.{held_sound, held_read, none_opens}
use Rattle.gq_eval_attributes.proofs.groups.row_part.Goals as goal

pub read-requires : goal.read-requires
read-requires c = held_sound c.args.shape.now c.args.content.now c.in-Some-part_at.held.now (map val c.args.row.now) c.in-Some.place c.in-Some-get.part.now c.requires c.in-Some-get.ensures c.in-Some-part_at.ensures

pub returns-in-Some-part_at-clause-told : goal.returns-in-Some-part_at-clause-told
returns-in-Some-part_at-clause-told c =
    held_read c.args.shape.now c.args.content.now c.in-Some-part_at.held.now (map val c.args.row.now) (name_in c.args.field.now) c.in-Some.place c.in-Some-get.part.now c.read.result c.requires
    (c.in-Some.ensures ∙ ap (λ (ps : List (Bytes × Kind)). place_of (map (λ (p : Bytes × Kind). p.0) ps) (name_in c.args.field.now)) c.as_slice.ensures)
    c.in-Some-get.ensures c.in-Some-part_at.ensures c.read.ensures.read

pub returns-in-None-part_at-clause-told : goal.returns-in-None-part_at-clause-told
returns-in-None-part_at-clause-told c =
    none_opens c.args.shape.now c.args.content.now (map val c.args.row.now) (name_in c.args.field.now) c.in-Some.place c.in-Some-get.part.now c.opening.result c.requires
    (c.in-Some.ensures ∙ ap (λ (ps : List (Bytes × Kind)). place_of (map (λ (p : Bytes × Kind). p.0) ps) (name_in c.args.field.now)) c.as_slice.ensures)
    c.in-Some-get.ensures c.in-None-part_at.ensures c.opening.ensures.read
