-- A text reads as one number of seconds at most, and that is in range.
use Rattle.std.proofs.Common.{◌≡◌, ℕ, List, sym, ◌∙◌, arith, inl, inr, ℤ, subst}
use Rattle.jiff_core.specs.declared.civil.datetime.DateTime.{DateTime}
use Rattle.gq_time.specs.Moments.{IsDatetime}
use Rattle.gq_time.specs.Reading.{TellsMoment, TellsCount, Tells}
use Rattle.gq_time.proofs.MomentLemmas.{in_range_from_year}
use Rattle.gq_time.proofs.CountLemmas.{tells_count_same, tells_count_byte}
use Rattle.gq_time.proofs.TimeLemmas.{has_date, date_mark, moment_same}

-- a moment isn't a count, since a mark isn't a digit
apart : (text : List ℕ) (m : DateTime) (s : ℤ) → TellsMoment text m → TellsCount text s → ⊥
apart text m s h k =
    let date = has_date text h.mark m.date h.behind h.whole in
    let mark = date_mark text h.mark m.date h.behind h.whole in
    let byte = tells_count_byte text s k date.long in
    elim h.is_mark [ inl is ↦ omega arith | inr is ↦ omega arith ]

pub tells_same : (text : List ℕ) (s t : ℤ) → Tells text s → Tells text t → s ≡ t
tells_same text s t (inl (a, h, is)) (inl (b, k, are)) = is ∙ moment_same text a b h k ∙ sym are
tells_same text s t (inl (a, h, is)) (inr k) = absurd (apart text a t h k)
tells_same text s t (inr h) (inl (b, k, are)) = absurd (apart text b s k h)
tells_same text s t (inr h) (inr k) = tells_count_same text s t h k

pub tells_in_range : (text : List ℕ) (s : ℤ) → Tells text s → IsDatetime s
tells_in_range text s (inl (m, h, is)) = subst IsDatetime (sym is) (in_range_from_year m h.from_year_0)
tells_in_range text s (inr (inl h)) = h.in_range
tells_in_range text s (inr (inr (digits, is, h))) = h.in_range
