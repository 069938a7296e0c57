use Rattle.std.proofs.Common.{rules, arith}
use Rattle.gq_index.proofs.RunLemmas.{end_is}
use Rattle.gq_index.proofs.runs.is_end.Goals as goal

pub returns : goal.returns
returns c = λ yes_after. end_is c.args.segments.now c.args.place c.args.end c.requires.rising (omega arith) (search rules) (c.starts_after.ensures yes_after)
