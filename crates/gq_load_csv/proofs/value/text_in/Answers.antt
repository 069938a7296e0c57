use Rattle.std.proofs.lemmas.Str.{is_utf8-from_IsUtf8}
use Rattle.gq_load_csv.proofs.TextLemmas.{no_utf8}
use Rattle.gq_load_csv.proofs.value.text_in.Goals as goal

pub returns-in_ok-of-in-Ok : goal.returns-in_ok-of-in-Ok
returns-in_ok-of-in-Ok c = rw (is_utf8-from_IsUtf8 c.args.field.now c.in-Ok.ensures.cases.1, c.in_ok-of-in-Ok.ensures, c.in-Ok.ensures.cases.0)

pub returns-in-Err : goal.returns-in-Err
returns-in-Err c = rw (no_utf8 c.args.field.now c.in-Err.ensures.cases.0)
