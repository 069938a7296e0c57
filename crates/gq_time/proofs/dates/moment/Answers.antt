use Rattle.std.proofs.Common.{arith, ◌∙◌, subst, sym}
use Rattle.std.proofs.lemmas.List.{take_rest}
use Rattle.gq_time.specs.Reading.{TellsTime}
use Rattle.gq_time.proofs.TimeLemmas.{has_date}
use Rattle.gq_time.proofs.dates.moment.Goals as goal

pub returns-then-text-lt10-clause-none : goal.returns-then-text-lt10-clause-none
returns-then-text-lt10-clause-none c moment h =
    let places = has_date c.args.text.now h.mark moment.date h.behind h.whole in
    omega (arith, places.long)

pub returns-in-None-clause-none : goal.returns-in-None-clause-none
returns-in-None-clause-none c moment h =
    let places = has_date c.args.text.now h.mark moment.date h.behind h.whole in
    c.in-None.ensures.none moment.date (h.mark, h.is_mark, (places.front, h.from_year_0))

pub returns-in-None-time-clause-none : goal.returns-in-None-time-clause-none
returns-in-None-time-clause-none c moment h =
    let places = has_date c.args.text.now h.mark moment.date h.behind h.whole in
    c.in-None-time.ensures.none moment.time (subst (λ l. TellsTime l moment.time) (sym (take_rest c.args.text.now 10 ∙ places.rest)) h.time)
