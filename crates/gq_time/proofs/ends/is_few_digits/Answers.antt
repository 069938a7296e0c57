use Rattle.std.proofs.Common.{arith}
use Rattle.std.proofs.lemmas.Bool.Decides.{nat_tests}
use Rattle.gq_time.proofs.PlaceLemmas.{sized}
use Rattle.gq_time.proofs.CountLemmas.{few_long}
use Rattle.gq_time.proofs.ends.is_few_digits.Goals as goal
use Rattle.gq_time.proofs.ends.is_few_digits.Goals.{then-is_empty-via-then-is_empty, then-is_empty-via-else-is_empty+then-text-gt9}

pub returns-then-is_empty : goal.returns-then-is_empty
returns-then-is_empty c = (
  λ e. cc,
  λ few. let long = few_long c.args.text.now few in
      elim c.then-is_empty.branch [
        | then-is_empty-via-then-is_empty w ↦ absurd (grind (arith, nat_tests, w.if-is_empty.ensures, long))
        | then-is_empty-via-else-is_empty+then-text-gt9 w ↦ absurd (omega arith)
      ],
)

pub returns-in-None : goal.returns-in-None
returns-in-None c =
    (λ e. cc, λ few. absurd (c.in-None.ensures.none few.1 (sized c.args.text.now few.0 few.1 few.3)))
