use Rattle.std.proofs.Common.{arith, ◌∙◌, subst, sym}
use Rattle.std.proofs.lemmas.List.{take_rest}
use Rattle.gq_time.specs.Reading.{IsEnd}
use Rattle.gq_time.proofs.PlaceLemmas.{none_then}
use Rattle.gq_time.proofs.TimeLemmas.{has_clock}
use Rattle.gq_time.proofs.dates.clock_with_end.Goals as goal
use Rattle.gq_time.proofs.dates.clock_with_end.Goals.{then-text-lt8-via-then-text-lt8, then-text-lt8-via-else-text-lt8+then-not-is_end}

pub returns-then-text-lt8-clause-none : goal.returns-then-text-lt8-clause-none
returns-then-text-lt8-clause-none c time h =
    let places = has_clock c.args.text.now time h.end h.whole in
    elim c.then-text-lt8.branch [
      | then-text-lt8-via-then-text-lt8 w ↦ omega (arith, places.long)
      | then-text-lt8-via-else-text-lt8+then-not-is_end w ↦
          let no = w.if-not-is_end.ensures.1 (subst IsEnd (sym (take_rest c.args.text.now 8 ∙ places.behind)) h.is_end) in
          cc
    ]

pub returns-clause-none : goal.returns-clause-none
returns-clause-none c =
    none_then c.clock.result c.clock.ensures.none (λ none time h. none time (has_clock c.args.text.now time h.end h.whole).front)
