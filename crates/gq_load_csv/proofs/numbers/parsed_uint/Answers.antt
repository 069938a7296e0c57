use Rattle.std.proofs.Common.{ℕ, sym}
use Rattle.gq_load_csv.proofs.TextLemmas.{uint_read, uint_unread, uint_no_text}
use Rattle.gq_load_csv.proofs.numbers.parsed_uint.Goals as goal

pub returns-in-Ok-parse : goal.returns-in-Ok-parse
returns-in-Ok-parse c = sym (uint_read ℕ c.args.text.now c.in-Ok-parse.number (rw c.in-Ok.ensures.cases.0 at c.in-Ok-parse.ensures.value.0))

pub returns-in-Err-parse : goal.returns-in-Err-parse
returns-in-Err-parse c = sym (uint_unread _ c.args.text.now c.in-Err-parse.field-0 (rw c.in-Ok.ensures.cases.0 at c.in-Err-parse.ensures.value.0))

pub returns-in-Err : goal.returns-in-Err
returns-in-Err c = sym (uint_no_text c.args.text.now c.in-Err.ensures.cases.0)
