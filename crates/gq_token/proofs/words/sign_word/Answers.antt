use Rattle.std.proofs.Common.{◌≡◌, ◌∙◌, true, false, ap, sym, refl, inl, arith, get_or, drop, subst}
use Rattle.std.proofs.lemmas.List.{take_rest}
use Rattle.gq_token.specs.Bytes.{is_word_start, is_word_byte}
use Rattle.gq_token.specs.Class.{IsRun}
use Rattle.gq_token.proofs.RunLemmas.{sign_global, sign_global_alone, sign_attached, sign_attached_alone}
use Rattle.gq_token.proofs.words.sign_word.Goals as goal

pub returns-then-not-begins_word-clause-fault : goal.returns-then-not-begins_word-clause-fault
returns-then-not-begins_word-clause-fault c =
    let rest = c.args.rest.now in
    let none : is_word_start (get_or rest 2 0) ≡ false = ap is_word_start (sym c.byte_at-then-byte_at-eq64.ensures) ∙ sym c.begins_word.ensures
    ∙ c.if-not-begins_word.true in
    (0, inl (sign_global_alone rest c.requires.some c.requires.sign (sym c.byte_at.ensures ∙ c.if-byte_at-eq64.true) none, refl), omega arith)

pub returns-then-byte_at-eq64-clause-item : goal.returns-then-byte_at-eq64-clause-item
returns-then-byte_at-eq64-clause-item c =
    let rest = c.args.rest.now in
    let word : is_word_start (get_or rest 2 0) ≡ true = ap is_word_start (sym c.byte_at-then-byte_at-eq64.ensures) ∙ sym c.begins_word.ensures
    ∙ c.if-not-begins_word.false in
    let run : IsRun is_word_byte (drop 2 rest) c.run_size-word.result =
    subst (λ l. IsRun is_word_byte l c.run_size-word.result) (take_rest rest 2) c.run_size-word.ensures in
    sign_global rest c.run_size-word.result _ c.requires.some c.requires.sign (sym c.byte_at.ensures ∙ c.if-byte_at-eq64.true) word run refl

pub returns-then-not-begins_word-2-clause-fault : goal.returns-then-not-begins_word-2-clause-fault
returns-then-not-begins_word-2-clause-fault c =
    let rest = c.args.rest.now in
    let none : is_word_start (get_or rest 1 0) ≡ false = ap is_word_start (sym c.byte_at-2.ensures) ∙ sym c.begins_word-2.ensures ∙ c.if-not-begins_word-2.true in
    (0, inl (sign_attached_alone rest c.requires.some c.requires.sign (λ same. c.if-byte_at-eq64.false (c.byte_at.ensures ∙ same)) none, refl), omega arith)

pub returns-clause-item : goal.returns-clause-item
returns-clause-item c =
    let rest = c.args.rest.now in
    let word : is_word_start (get_or rest 1 0) ≡ true = ap is_word_start (sym c.byte_at-2.ensures) ∙ sym c.begins_word-2.ensures ∙ c.if-not-begins_word-2.false in
    let run : IsRun is_word_byte (drop 1 rest) c.run_size-word-2.result =
    subst (λ l. IsRun is_word_byte l c.run_size-word-2.result) (take_rest rest 1) c.run_size-word-2.ensures in
    sign_attached rest c.run_size-word-2.result _ c.requires.some c.requires.sign word run refl
