use Rattle.std.proofs.Common.{◌<◌, length, arith}
use Rattle.gq_load_csv.proofs.TextLemmas.{text_id}
use Rattle.gq_load_csv.proofs.id.whole_text.Goals as goal

pub returns-in-Ok : goal.returns-in-Ok
returns-in-Ok c =
    let some : 0 < length c.args.field.now = grind arith in
    rw c.in-Ok.ensures.cases.0 (text_id c.args.field.now some c.in-Ok.ensures.cases.1)
