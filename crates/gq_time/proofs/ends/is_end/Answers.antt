use Rattle.std.proofs.Common.{◌≡◌, refl, arith, ◌⊎◌, get_or, length, ◌-◌}
use Rattle.gq_time.proofs.PlaceLemmas.{front_and_last}
use Rattle.gq_time.proofs.TimeLemmas.{end_before_zone, zone_after}
use Rattle.gq_time.proofs.ends.is_end.Goals as goal

pub returns-in-90 : goal.returns-in-90
returns-in-90 c =
    let text = c.args.text.now in
    let is_zone : (get_or text (length text - 1) 0 ≡ 90) ⊎ (get_or text (length text - 1) 0 ≡ 122) = grind arith in
    let whole = front_and_last text (get_or text (length text - 1) 0) c.in-90.len_at_least refl in
    (λ yes. zone_after text _ _ whole is_zone (c.is_fraction.ensures.0 yes), λ end. c.is_fraction.ensures.1 (end_before_zone text _ _ whole (grind arith) end))
