use Rattle.std.proofs.Common.{ap, ◌∙◌, sym, subst, arith, inl, inr, List, ℕ, w64, to_z, of_z}
use Rattle.std.proofs.lemmas.Int.{ints}
use Rattle.std.proofs.lemmas.Option.{IfSome_then}
use Rattle.gq_time.specs.Reading.{trimmed, Tells}
use Rattle.gq_time.proofs.PlaceLemmas.{none_then}
use Rattle.gq_time.proofs.ReadingLemmas.{tells_same, tells_in_range}
use Rattle.gq_time.proofs.reading.read_time.Goals as goal

pub returns-in-Some-clause-some : goal.returns-in-Some-clause-some
returns-in-Some-clause-some c =
    let same = c.trimmed-text.ensures ∙ ap trimmed c.as_bytes.ensures.value in
    let seconds = to_z w64 (of_z w64 c.to_second.result) in
    subst (λ (l : List ℕ). Tells l seconds) same (inl (c.in-Some.moment, c.in-Some.ensures.some, omega (arith, ints, c.to_second.ensures.value)))

pub returns-in-Some-clause-only : goal.returns-in-Some-clause-only
returns-in-Some-clause-only c = λ other h. tells_same (trimmed c.args.text.now) other _ h (returns-in-Some-clause-some c)

pub returns-in-Some-clause-in_range : goal.returns-in-Some-clause-in_range
returns-in-Some-clause-in_range c = tells_in_range (trimmed c.args.text.now) _ (returns-in-Some-clause-some c)

pub returns-in-None-clause-some : goal.returns-in-None-clause-some
returns-in-None-clause-some c =
    let same = c.trimmed-text.ensures ∙ ap trimmed c.as_bytes.ensures.value in
    IfSome_then c.count.result c.count.ensures.some (λ seconds h. subst (λ (l : List ℕ). Tells l seconds) same (inr h))

pub returns-in-None-clause-only : goal.returns-in-None-clause-only
returns-in-None-clause-only c =
    IfSome_then c.count.result (returns-in-None-clause-some c) (λ seconds is other h. tells_same (trimmed c.args.text.now) other seconds h is)

pub returns-in-None-clause-none : goal.returns-in-None-clause-none
returns-in-None-clause-none c =
    let same = c.trimmed-text.ensures ∙ ap trimmed c.as_bytes.ensures.value in
    none_then c.count.result c.count.ensures.none (λ none other h.
    elim (subst (λ (l : List ℕ). Tells l other) (sym same) h) [
      | inl moment ↦ c.in-None.ensures.none moment.0 moment.1
      | inr count ↦ none other count
    ])

pub returns-in-None-clause-in_range : goal.returns-in-None-clause-in_range
returns-in-None-clause-in_range c =
    IfSome_then c.count.result (returns-in-None-clause-some c) (λ seconds is. tells_in_range (trimmed c.args.text.now) seconds is)
