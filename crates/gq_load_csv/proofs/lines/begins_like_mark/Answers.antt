use Rattle.std.proofs.Common.{arith}
use Rattle.gq_load_csv.proofs.LineLemmas.{no_byte, no_mark}
use Rattle.gq_load_csv.proofs.lines.begins_like_mark.Goals as goal

pub returns-in-empty : goal.returns-in-empty
returns-in-empty c is = no_byte c.args.text.now (omega arith)

pub returns-in-len1-up : goal.returns-in-len1-up
returns-in-len1-up c is = no_mark c.args.text.now is
