use Rattle.std.proofs.Common.{◌∙◌, ap, sym, get_or}
use Rattle.gq_token.specs.Class.{class_of}
use Rattle.gq_token.proofs.RunLemmas.{blank_item, line_item, word_item}
use Rattle.gq_token.proofs.item.next_item.Goals as goal

pub returns-in-Blank-clause-item : goal.returns-in-Blank-clause-item
returns-in-Blank-clause-item c =
    blank_item c.args.rest.now c.run_size.result c.requires.some
    (ap (class_of (get_or c.args.rest.now 0 0)) (sym c.byte_at.ensures) ∙ sym c.class_of.ensures ∙ c.in-Blank.is) c.run_size.ensures

pub returns-in-LineComment-clause-item : goal.returns-in-LineComment-clause-item
returns-in-LineComment-clause-item c =
    line_item c.args.rest.now c.run_size-in-LineComment.result c.requires.some
    (ap (class_of (get_or c.args.rest.now 0 0)) (sym c.byte_at.ensures) ∙ sym c.class_of.ensures ∙ c.in-LineComment.is)
    c.run_size-in-LineComment.ensures

pub returns-in-Word-clause-item : goal.returns-in-Word-clause-item
returns-in-Word-clause-item c =
    word_item c.args.rest.now c.run_size-in-Word.result c.requires.some
    (ap (class_of (get_or c.args.rest.now 0 0)) (sym c.byte_at.ensures) ∙ sym c.class_of.ensures ∙ c.in-Word.is) c.run_size-in-Word.ensures
