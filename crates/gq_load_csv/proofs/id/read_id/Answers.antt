use Rattle.std.proofs.Common.{◌≡◌, ◌<◌, length, arith}
use Rattle.std.specs.Prelude.{string_bytes}
use Rattle.gq_load_csv.proofs.TextLemmas.{text_id, no_text_id}
use Rattle.gq_load_csv.proofs.id.read_id.Goals as goal

pub returns-in_ok-push_str-in-Ok : goal.returns-in_ok-push_str-in-Ok
returns-in_ok-push_str-in-Ok c =
    let some : 0 < length c.args.field.now = grind arith in
    let is = text_id c.args.field.now some c.in-Ok.ensures.cases.1 in
    let bytes : string_bytes c.push_str.new.self ≡ c.args.field.now = rw (c.clear.ensures.bytes, c.in-Ok.ensures.cases.0) at c.in_ok-push_str-in-Ok.ensures.bytes in
    rw (c.in-Text.is, bytes) is

pub returns-in-Err : goal.returns-in-Err
returns-in-Err c = rw c.in-Text.is (no_text_id c.args.field.now c.in-Err.ensures.cases.0)
