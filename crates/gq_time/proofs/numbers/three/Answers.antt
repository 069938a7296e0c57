use Rattle.std.proofs.Common.{◌+◌, ◌∙◌, subst}
use Rattle.std.proofs.lemmas.List.{take_rest}
use Rattle.gq_time.specs.Places.{IsNumber}
use Rattle.gq_time.proofs.PlaceLemmas.{HasThree, has_three, sized, two_bytes, three_found}
use Rattle.gq_time.proofs.numbers.three.Goals as goal
use Rattle.gq_time.proofs.numbers.three.Goals.{then-text-size-via-then-text-size, then-text-size-via-else-text-size+then-text-size-2, then-text-size-via-else-text-size+else-text-size-2+then-text-size-3}

pub returns-then-text-size-clause-none : goal.returns-then-text-size-clause-none
returns-then-text-size-clause-none c a b d is =
    let h : HasThree c.args.text.now c.args.size c.args.mark a b d = has_three c.args.text.now c.args.size c.args.mark a b d is in
    elim c.then-text-size.branch [
      | then-text-size-via-then-text-size w ↦ w.if-text-size.true h.long
      | then-text-size-via-else-text-size+then-text-size-2 w ↦ w.if-text-size-2.true h.mark_one
      | then-text-size-via-else-text-size+else-text-size-2+then-text-size-3 w ↦ w.if-text-size-3.true h.mark_two
    ]

pub returns-in-None-clause-none : goal.returns-in-None-clause-none
returns-in-None-clause-none c a b d is =
    let h = has_three c.args.text.now c.args.size c.args.mark a b d is in
    c.in-None.ensures.none a (sized _ c.args.size a h.first)

pub returns-in-None-number-clause-none : goal.returns-in-None-number-clause-none
returns-in-None-number-clause-none c a b d is =
    let h = has_three c.args.text.now c.args.size c.args.mark a b d is in
    c.in-None-number.ensures.none b (sized _ 2 b (two_bytes c.args.text.now c.args.size ∙ h.second))

pub returns-in-None-number-2-clause-none : goal.returns-in-None-number-2-clause-none
returns-in-None-number-2-clause-none c a b d is =
    let h = has_three c.args.text.now c.args.size c.args.mark a b d is in
    c.in-None-number-2.ensures.none d (sized _ 2 d (take_rest c.args.text.now (c.args.size + 4) ∙ h.third))

pub returns-in-Some-number-2-clause-some : goal.returns-in-Some-number-2-clause-some
returns-in-Some-number-2-clause-some c =
    let text = c.args.text.now in
    let size = c.args.size in
    three_found text size c.args.mark _ c.if-text-size.false c.if-text-size-2.false c.if-text-size-3.false
    c.in-Some.ensures.some
    (subst (λ l. IsNumber l c.in-Some-number.second) (two_bytes text size) c.in-Some-number.ensures.some)
    (subst (λ l. IsNumber l c.in-Some-number-2.third) (take_rest text (size + 4)) c.in-Some-number-2.ensures.some)
