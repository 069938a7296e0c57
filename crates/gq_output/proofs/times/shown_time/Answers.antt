use Rattle.std.proofs.Common.{rules, FitsSigned, w64}
use Rattle.std.proofs.lemmas.Int.{to_z-of_z}
use Rattle.gq_eval_context.specs.Times.{is_calendar}
use Rattle.gq_output.proofs.TimeLemmas.{written_within}
use Rattle.gq_output.proofs.times.shown_time.Goals as goal

pub returns : goal.returns
returns c =
    let fits : FitsSigned w64 c.args.seconds = c.ranges.seconds in
    written_within c.args.seconds c.within_calendar.result _ c.in_ok-text.text is_calendar (simp to_z-of_z at c.within_calendar.ensures.same) c.within_calendar.ensures.within (search rules) c.in_ok-text.ensures.only
