use Rattle.std.proofs.Common.{arith}
use Rattle.std.proofs.lemmas.Bool.Decides.{nat_tests}
use Rattle.gq_load_csv.proofs.LineLemmas as lines
use Rattle.gq_load_csv.proofs.line.line_of.Goals as goal

pub returns-else-first-eq10 : goal.returns-else-first-eq10
returns-else-first-eq10 c = lines.line_of c.args.separator c.args.quote c.args.text.now c.requires.plain (grind (arith, nat_tests)) (omega arith)
