use Rattle.std.proofs.Common.{ℕ, sym, ap, ◌∙◌, rules, FitsSigned, w64, Some}
use Rattle.std.proofs.lemmas.Int.{to_z-of_z}
use Rattle.gq_load_csv.proofs.TextLemmas.{int_read, int_unread, int_no_text}
use Rattle.gq_load_csv.proofs.numbers.parsed_int.Goals as goal

pub returns-in-Ok-parse : goal.returns-in-Ok-parse
returns-in-Ok-parse c =
    let f : FitsSigned w64 c.in-Ok-parse.number = search rules in
    ap (λ z. Some z) (to_z-of_z w64 c.in-Ok-parse.number f) ∙ sym (int_read ℕ c.args.text.now c.in-Ok-parse.number (rw c.in-Ok.ensures.cases.0 at c.in-Ok-parse.ensures.value.0))

pub returns-in-Err-parse : goal.returns-in-Err-parse
returns-in-Err-parse c = sym (int_unread _ c.args.text.now c.in-Err-parse.field-0 (rw c.in-Ok.ensures.cases.0 at c.in-Err-parse.ensures.value.0))

pub returns-in-Err : goal.returns-in-Err
returns-in-Err c = sym (int_no_text c.args.text.now c.in-Err.ensures.cases.0)
