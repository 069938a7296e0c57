use Rattle.std.proofs.Common.{◌≡◌, arith, get_or}
use Rattle.gq_time.proofs.PlaceLemmas.{first_and_rest, none_then}
use Rattle.gq_time.proofs.CountLemmas.{no_count, no_signed_count}
use Rattle.std.proofs.lemmas.List.{get_or_past}
use Rattle.std.proofs.lemmas.Bool.Decides.{nat_tests}
use Rattle.gq_time.proofs.counts.count.Goals as goal
use Rattle.gq_time.proofs.counts.count.Goals.{in_default-via-then-text-lt1, in_default-via-else-text-lt1+in_default-1}

pub returns-in-45-clause-none : goal.returns-in-45-clause-none
returns-in-45-clause-none c =
    let is = first_and_rest c.args.text.now 45 c.in-45.len_at_least (omega arith) in
    none_then c.counted.result c.counted.ensures.none (λ none seconds h. no_signed_count c.args.text.now _ seconds is (none seconds) h)

pub returns-in_default-clause-none : goal.returns-in_default-clause-none
returns-in_default-clause-none c =
    let unsigned : get_or c.args.text.now 0 0 ≡ 45 → ⊥ = elim c.in_default.branch [
      | in_default-via-then-text-lt1 w ↦ λ e. grind (arith, nat_tests, get_or_past c.args.text.now 0 0)
      | in_default-via-else-text-lt1+in_default-1 w ↦ λ e. grind (arith, nat_tests, get_or_past c.args.text.now 0 0)
    ] in
    none_then c.counted-in_default.result c.counted-in_default.ensures.none (λ none seconds h. no_count c.args.text.now seconds unsigned (none seconds) h)
