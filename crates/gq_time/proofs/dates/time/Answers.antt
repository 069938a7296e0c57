use Rattle.std.proofs.Common.{arith}
use Rattle.gq_time.proofs.PlaceLemmas.{first_and_rest, none_then}
use Rattle.gq_time.proofs.TimeLemmas.{no_time}
use Rattle.gq_time.proofs.dates.time.Goals as goal

pub returns-in-84-clause-none : goal.returns-in-84-clause-none
returns-in-84-clause-none c =
    let is = first_and_rest c.args.text.now 84 c.in-84.len_at_least (omega arith) in
    none_then c.clock_with_end.result c.clock_with_end.ensures.none (λ none time h. no_time c.args.text.now _ time is (none time) h)
