use Rattle.std.proofs.Common.{◌≡◌, ◌+◌, ◌/◌, ◌%◌, ◌++◌, ◌∷◌, [], ap, sym, ◌∙◌, arith, append_assoc, string_bytes}
use Rattle.gq_time.proofs.DigitLemmas.{two_digits}
use Rattle.gq_time.proofs.writing.push_two.Goals as goal

pub returns : goal.returns
returns c =
    let old = string_bytes c.args.text.now in
    let n = c.args.number in
    let ten : c.from.result ≡ 48 + n / 10 = omega arith in
    let one : c.from-2.result ≡ 48 + n % 10 = omega arith in
    let first : string_bytes c.push.new.self ≡ old ++ (48 + n / 10) ∷ [] =
    c.in_ok-push.ensures.bytes ∙ ap (λ l. old ++ l) (c.in_ok-push.ensures.ascii (omega (arith, ten)) ∙ ap (λ b. b ∷ []) ten) in
    let second : string_bytes c.push-2.new.self ≡ string_bytes c.push.new.self ++ (48 + n % 10) ∷ [] =
    c.in_ok-push-2.ensures.bytes ∙ ap (λ l. string_bytes c.push.new.self ++ l) (c.in_ok-push-2.ensures.ascii (omega (arith, one)) ∙ ap (λ b. b ∷ []) one) in
    second ∙ ap (λ l. l ++ (48 + n % 10) ∷ []) first ∙ append_assoc old ((48 + n / 10) ∷ []) ((48 + n % 10) ∷ []) ∙ ap (λ l. old ++ l) (sym (two_digits n (omega arith)))
