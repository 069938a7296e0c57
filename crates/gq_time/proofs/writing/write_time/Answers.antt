use Rattle.std.proofs.Common.{◌/◌, ◌%◌, ◌++◌, ap, ◌∙◌, string_bytes, FitsSigned, w16, w64, arith}
use Rattle.std.proofs.lemmas.Int.{to_z-of_z}
use Rattle.jiff_core.proofs.SignedLemmas.{signed_arith}
use Rattle.gq_time.specs.Texts.{digits}
use Rattle.gq_time.specs.Moments.{IsMoment}
use Rattle.gq_time.proofs.TimeLemmas.{written_text, written_same}
use Rattle.gq_time.proofs.writing.write_time.Goals as goal

pub returns-clause-text : goal.returns-clause-text
returns-clause-text c =
    let fits : FitsSigned w64 c.args.seconds = c.ranges.seconds in
    let of : IsMoment c.args.seconds c.moment_of-moment.result = simp to_z-of_z at c.moment_of-moment.ensures in
    let date = c.moment_of-moment.result.date in
    let small : FitsSigned w16 date.year = omega (arith, signed_arith, date.year_in) in
    let year = simp to_z-of_z at c.unsigned_abs-year.ensures.value in
    record {
      moment = c.moment_of-moment.result;
      of_moment = of;
      is = c.from_string.ensures ∙ written_text c.moment_of-moment.result (string_bytes c.push_two.new.text) (string_bytes c.push_two-2.new.text) (string_bytes c.push_part.new.text)
          (string_bytes c.push_part-2.new.text) (string_bytes c.push_part-3.new.text) (string_bytes c.push_part-4.new.text) (string_bytes c.push_part-5.new.text)
          (c.in_ok-push_two.ensures ∙ ap (λ l. l ++ digits 2 (c.unsigned_abs-year.result / 100)) c.in_ok-text.ensures.bytes ∙ ap (λ y. digits 2 (y / 100)) year)
          (c.in_ok-push_two-2.ensures ∙ ap (λ y. string_bytes c.push_two.new.text ++ digits 2 (y % 100)) year)
          c.in_ok-push_part.ensures
          c.in_ok-push_part-2.ensures
          c.in_ok-push_part-3.ensures
          c.in_ok-push_part-4.ensures
          c.in_ok-push_part-5.ensures;
    }

pub returns-clause-only : goal.returns-clause-only
returns-clause-only c = λ other h. written_same c.args.seconds other _ h (returns-clause-text c)
