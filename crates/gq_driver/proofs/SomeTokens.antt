-- SomeTokens: a text is split into tokens, or has a fault.
use Rattle.std.proofs.Common.{◌≡◌, ◌≢◌, ℕ, zero, suc, ◌+◌, ◌-◌, ◌^◌, ◌<◌, ◌≤◌, ◌⊎◌, inl, inr, Bool, true, false, List, [], ◌∷◌, ◌++◌, length, take, drop, get_or, Option, Some, None, refl, ap, sym, ◌∙◌, arith, length-drop}
use Rattle.std.specs.Prelude.{nat_eq, not, ◌==◌}
use Rattle.std.specs.Str.{IsUtf8, is_utf8}
use Rattle.std.specs.Str.Lossy.{utf8_valid_len}
use Rattle.std.proofs.lemmas.Bool.{cases_lt, eqb-true, eqb-false}
use Rattle.std.proofs.lemmas.List.{take_all, take_rest}
use Rattle.std.proofs.lemmas.Str.{IsUtf8-from_is_utf8, is_utf8-from_IsUtf8}
use Rattle.gq_token.specs.declared.token.Token.{Token}
use Rattle.gq_token.specs.declared.token.TokenKind.TheVariants.{Word, Global, Attached, Number, Text, Symbol}
use Rattle.gq_token.specs.declared.fault.LexFault.{LexFault}
use Rattle.gq_token.specs.declared.fault.LexFault.TheVariants.{NotUtf8, BadToken, OpenComment, OpenText, TooBig, OutOfMemory}
use Rattle.gq_token.specs.declared.class.Class.{Class}
use Rattle.gq_token.specs.declared.class.Class.TheVariants as class
use Rattle.gq_token.specs.Bytes.{is_blank, is_digit, is_word_start, is_word_byte, number_of}
use Rattle.gq_token.specs.Texts.{closes, said, bad_escape, escape_of}
use Rattle.gq_token.specs.Spelling.{Item, Gap, TokenOf, ends_at_close}
use Rattle.gq_token.specs.Cut.{placed, HasTokens}
use Rattle.gq_token.specs.Faults.{HasFault}
use Rattle.gq_token.specs.Class.{class_of, symbol_size, IsRun}
use Rattle.gq_token.specs.Items.{IsItem, FaultHere, EndsAt, NeverEnds}
use Rattle.gq_token.proofs.ClassLemmas.{class_sign, class_number, class_text}
use Rattle.gq_token.proofs.RunLemmas.{blank_item, line_item, word_item, digits_item, digits_too_big, sign_global, sign_global_alone, sign_attached, sign_attached_alone}
use Rattle.gq_token.proofs.CommentLemmas.{block_item, block_open}
use Rattle.gq_token.proofs.SymbolLemmas.{symbol_item, no_symbol_item}
use Rattle.gq_token.proofs.TextLemmas.{text_item, text_open, text_fault}
use Rattle.gq_token.proofs.CutLemmas.{CutBefore, cut_start, cut_whole}
use Rattle.gq_token.proofs.StepLemmas.{remains, step_within, step_cut, step_fault}

-- ---- runs of bytes

-- some bytes continue a run, up to one that doesn't
some_run : (goes : ℕ → Bool) (bytes : List ℕ) → (size : ℕ) × IsRun goes bytes size
some_run goes [] = (0, record { within = omega arith; inside = refl; behind = λ below. absurd (omega arith) })
some_run goes (c ∷ cs) = by (goes c) refl (some_run goes cs)
  where
    by : (b : Bool) → goes c ≡ b → (size : ℕ) × IsRun goes cs size → (size : ℕ) × IsRun goes (c ∷ cs) size
    by false is rest = (0, record { within = omega arith; inside = refl; behind = λ below. is })
    by true is (size, run) = (suc size, record { within = omega (arith, run.within); inside = rw is run.inside; behind = λ below. run.behind (omega arith) })

-- ---- ends

-- one of the first prefixes passes a test, or none does
ends_below : (test : List ℕ → Bool) (bytes : List ℕ) (n : ℕ) → ((size : ℕ) × (size ≤ n) × (test (take size bytes) ≡ true)) ⊎ ((k : ℕ) → k ≤ n → test (take k bytes) ≡ false)
ends_below test bytes zero = by (test (take 0 bytes)) refl
  where
    by : (b : Bool) → test (take 0 bytes) ≡ b → ((size : ℕ) × (size ≤ 0) × (test (take size bytes) ≡ true)) ⊎ ((k : ℕ) → k ≤ 0 → test (take k bytes) ≡ false)
    by true is = inl (0, omega arith, is)
    by false is = inr (λ k low. ap (λ m. test (take m bytes)) {x = k} {y = 0} (omega arith) ∙ is)
ends_below test bytes (suc n) = by (test (take (suc n) bytes)) refl (ends_below test bytes n)
  where
    beside : ((k : ℕ) → k ≤ n → test (take k bytes) ≡ false) → test (take (suc n) bytes) ≡ false → (k : ℕ) → k ≤ suc n → (k < suc n) ⊎ (suc n ≤ k) → test (take k bytes) ≡ false
    beside none is k low (inl less) = none k (omega arith)
    beside none is k low (inr more) = ap (λ m. test (take m bytes)) {x = k} {y = suc n} (omega arith) ∙ is

    by : (b : Bool) → test (take (suc n) bytes) ≡ b → ((size : ℕ) × (size ≤ n) × (test (take size bytes) ≡ true)) ⊎ ((k : ℕ) → k ≤ n → test (take k bytes) ≡ false)
        → ((size : ℕ) × (size ≤ suc n) × (test (take size bytes) ≡ true)) ⊎ ((k : ℕ) → k ≤ suc n → test (take k bytes) ≡ false)
    by b is (inl (size, low, passes)) = inl (size, omega arith, passes)
    by true is (inr none) = inl (suc n, omega arith, is)
    by false is (inr none) = inr (λ k low. beside none is k low (cases_lt k (suc n)))

-- so the bytes end somewhere, or nowhere
some_end : (test : List ℕ → Bool) (bytes : List ℕ) → ((size : ℕ) × EndsAt test bytes size) ⊎ NeverEnds test bytes
some_end test bytes = by (ends_below test bytes (length bytes))
  where
    never : ((k : ℕ) → k ≤ length bytes → test (take k bytes) ≡ false) → (n : ℕ) → (n < length bytes) ⊎ (length bytes ≤ n) → test (take n bytes) ≡ false
    never none n (inl less) = none n (omega arith)
    never none n (inr more) = ap test (take_all n bytes more ∙ sym (take_all (length bytes) bytes (omega arith))) ∙ none (length bytes) (omega arith)

    by : ((size : ℕ) × (size ≤ length bytes) × (test (take size bytes) ≡ true)) ⊎ ((k : ℕ) → k ≤ length bytes → test (take k bytes) ≡ false)
        → ((size : ℕ) × EndsAt test bytes size) ⊎ NeverEnds test bytes
    by (inl (size, low, passes)) = inl (size, record { within = low; ends = passes })
    by (inr none) = inr (λ n. never none n (cases_lt n (length bytes)))

-- ---- texts

-- a closed text has a value or a bad escape
said_or_bad : (bytes : List ℕ) → closes bytes ≡ true → ((ys : List ℕ) × (said bytes ≡ Some ys)) ⊎ ((n : ℕ) × (bad_escape bytes ≡ Some n))
said_or_bad [] closed = cc
said_or_bad (c ∷ []) closed = inl ([], rw closed refl)
said_or_bad (c ∷ d ∷ cs) closed = by (nat_eq c 34) (nat_eq c 92) refl refl closed (λ is. said_or_bad cs is) (λ is. said_or_bad (d ∷ cs) is)
  where
    escaped : (o : Option ℕ) → escape_of d ≡ o → nat_eq c 34 ≡ false → nat_eq c 92 ≡ true → ((ys : List ℕ) × (said cs ≡ Some ys)) ⊎ ((n : ℕ) × (bad_escape cs ≡ Some n))
        → ((ys : List ℕ) × (said (c ∷ d ∷ cs) ≡ Some ys)) ⊎ ((n : ℕ) × (bad_escape (c ∷ d ∷ cs) ≡ Some n))
    escaped None is quote slash rest = inr (0, rw (slash, is) refl)
    escaped (Some e) is quote slash (inl (ys, says)) = inl (e ∷ ys, rw (quote, slash, is, says) refl)
    escaped (Some e) is quote slash (inr (n, bad)) = inr (n + 2, rw (slash, is, bad) refl)

    plain : nat_eq c 34 ≡ false → nat_eq c 92 ≡ false → ((ys : List ℕ) × (said (d ∷ cs) ≡ Some ys)) ⊎ ((n : ℕ) × (bad_escape (d ∷ cs) ≡ Some n))
        → ((ys : List ℕ) × (said (c ∷ d ∷ cs) ≡ Some ys)) ⊎ ((n : ℕ) × (bad_escape (c ∷ d ∷ cs) ≡ Some n))
    plain quote slash (inl (ys, says)) = inl (c ∷ ys, rw (quote, slash, says) refl)
    plain quote slash (inr (n, bad)) = inr (n + 1, rw (slash, bad) refl)

    by : (a b : Bool) → nat_eq c 34 ≡ a → nat_eq c 92 ≡ b → closes (c ∷ d ∷ cs) ≡ true
        → (closes cs ≡ true → ((ys : List ℕ) × (said cs ≡ Some ys)) ⊎ ((n : ℕ) × (bad_escape cs ≡ Some n)))
        → (closes (d ∷ cs) ≡ true → ((ys : List ℕ) × (said (d ∷ cs) ≡ Some ys)) ⊎ ((n : ℕ) × (bad_escape (d ∷ cs) ≡ Some n)))
        → ((ys : List ℕ) × (said (c ∷ d ∷ cs) ≡ Some ys)) ⊎ ((n : ℕ) × (bad_escape (c ∷ d ∷ cs) ≡ Some n))
    by true b quote slash is behind next = absurd (cc (rw quote at is))
    by false true quote slash is behind next = escaped (escape_of d) refl quote slash (behind (rw (quote, slash) at is))
    by false false quote slash is behind next = plain quote slash (next (rw (quote, slash) at is))

-- ---- one item

-- the beginning of a rest at a place: an item, or a fault
abbrev Begins : List ℕ → ℕ → Type 0
Begins rest at = ((size : ℕ) × (item : Item) × IsItem rest size item) ⊎ ((fault : LexFault) × FaultHere rest at fault × (fault ≢ OutOfMemory))

module _ (rest : List ℕ) (at : ℕ) (some : 0 < length rest) where
  -- its first bytes
  abbrev first : ℕ
  first = get_or rest 0 0

  abbrev second : ℕ
  second = get_or rest 1 0

  comment_begins : class_of first second ≡ class.BlockComment → ((size : ℕ) × EndsAt ends_at_close (drop 2 rest) size) ⊎ NeverEnds ends_at_close (drop 2 rest) → Begins rest at
  comment_begins is (inl (size, ends)) = inl (2 + size, Gap, block_item rest size (2 + size) some is ends refl)
  comment_begins is (inr never) = inr (OpenComment at, (block_open rest some is never, refl), λ e. cc)

  -- a byte that can't begin an item
  nothing_begins : FaultHere rest at (BadToken at) → Begins rest at
  nothing_begins here = inr (BadToken at, here, λ e. cc)

  global_begins : first ≡ 64 → second ≡ 64 → (b : Bool) → is_word_start (get_or rest 2 0) ≡ b → (size : ℕ) × IsRun is_word_byte (drop 2 rest) size → Begins rest at
  global_begins sign same true word (size, run) = inl (2 + size, TokenOf Global, sign_global rest size (2 + size) some sign same word run refl)
  global_begins sign same false word run = nothing_begins (0, inl (sign_global_alone rest some sign same word, refl), omega arith)

  attached_begins : first ≡ 64 → second ≢ 64 → (b : Bool) → is_word_start (get_or rest 1 0) ≡ b → (size : ℕ) × IsRun is_word_byte (drop 1 rest) size → Begins rest at
  attached_begins sign other true word (size, run) = inl (1 + size, TokenOf Attached, sign_attached rest size (1 + size) some sign word run refl)
  attached_begins sign other false word run = nothing_begins (0, inl (sign_attached_alone rest some sign other word, refl), omega arith)

  sign_begins : first ≡ 64 → (b : Bool) → nat_eq second 64 ≡ b → Begins rest at
  sign_begins sign true same = global_begins sign (eqb-true second 64 same) (is_word_start (get_or rest 2 0)) refl (some_run is_word_byte (drop 2 rest))
  sign_begins sign false other = attached_begins sign (eqb-false second 64 other) (is_word_start (get_or rest 1 0)) refl (some_run is_word_byte (drop 1 rest))

  number_begins : is_digit first ≡ true → (size : ℕ) → IsRun is_digit rest size → (number_of (take size rest) < 2 ^ 64) ⊎ (2 ^ 64 ≤ number_of (take size rest)) → Begins rest at
  number_begins digit size run (inl fits) = inl (size, TokenOf (Number (number_of (take size rest))), digits_item rest size some digit run fits)
  number_begins digit size run (inr big) = inr (TooBig at, (digits_too_big rest size some digit run big, refl), λ e. cc)

  body_begins : first ≡ 34 → (size : ℕ) → EndsAt closes (drop 1 rest) size
      → ((ys : List ℕ) × (said (take size (drop 1 rest)) ≡ Some ys)) ⊎ ((n : ℕ) × (bad_escape (take size (drop 1 rest)) ≡ Some n)) → Begins rest at
  body_begins quote size ends (inl (ys, says)) = inl (1 + size, TokenOf (Text ys), text_item rest size (1 + size) ys some quote ends refl says)
  body_begins quote size ends (inr (n, bad)) = inr (BadToken (at + 1 + n), text_fault rest size at (BadToken (at + 1 + n)) some quote ends (n, bad, refl), λ e. cc)

  text_begins : first ≡ 34 → ((size : ℕ) × EndsAt closes (drop 1 rest) size) ⊎ NeverEnds closes (drop 1 rest) → Begins rest at
  text_begins quote (inl (size, ends)) = body_begins quote size ends (said_or_bad (take size (drop 1 rest)) ends.ends)
  text_begins quote (inr never) = inr (OpenText at, (text_open rest some quote never, refl), λ e. cc)

  symbol_begins : class_of first second ≡ class.Other → (n : ℕ) → symbol_size first second ≡ n → Begins rest at
  symbol_begins is zero size = nothing_begins (0, inl (no_symbol_item rest some is size, refl), omega arith)
  symbol_begins is (suc n) size = inl (suc n, TokenOf Symbol, symbol_item rest (suc n) some is size (λ e. absurd (omega (arith, e))))

  begins_by : (k : Class) → class_of first second ≡ k → Begins rest at
  begins_by class.Blank is = let run = some_run is_blank rest in inl (run.0, Gap, blank_item rest run.0 some is run.1)
  begins_by class.LineComment is = let run = some_run (λ c. not (c == 10)) rest in inl (run.0, Gap, line_item rest run.0 some is run.1)
  begins_by class.BlockComment is = comment_begins is (some_end ends_at_close (drop 2 rest))
  begins_by class.Word is = let run = some_run is_word_byte rest in inl (run.0, TokenOf Word, word_item rest run.0 some is run.1)
  begins_by class.Sign is = sign_begins (class_sign first second is) (nat_eq second 64) refl
  begins_by class.Number is = let run = some_run is_digit rest in number_begins (class_number first second is) run.0 run.1 (cases_lt (number_of (take run.0 rest)) (2 ^ 64))
  begins_by class.Text is = text_begins (class_text first second is) (some_end closes (drop 1 rest))
  begins_by class.Other is = symbol_begins is (symbol_size first second) refl

  some_item : Begins rest at
  some_item = begins_by (class_of first second) refl

-- ---- all bytes

-- how bytes are split
abbrev IsCut : List ℕ → Type 0
IsCut bytes = ((fault : LexFault) × HasFault bytes fault) ⊎ ((tokens : List Token) × HasTokens bytes tokens)

module _ (bytes : List ℕ) (utf8 : IsUtf8 bytes) where
  -- from a place on, with at most `left` bytes left
  cut_from : (left at : ℕ) (found : List Token) → length bytes - at ≤ left → at ≤ length bytes → CutBefore bytes at found → IsCut bytes
  cut_from zero at found low within had = inr (found, cut_whole bytes at found utf8 had (omega arith))
  cut_from (suc left) at found low within had = by (cases_lt at (length bytes)) (λ to longer less inside more. cut_from left to longer less inside more)
    where
      step : at < length bytes → Begins (remains bytes at) at
          → ((to : ℕ) (longer : List Token) → length bytes - to ≤ left → to ≤ length bytes → CutBefore bytes to longer → IsCut bytes) → IsCut bytes
      step below (inl (size, item, is)) next =
          let longer = found ++ placed (Some item) at (at + size) [] in
          next (at + size) longer (omega (arith, is.some)) (step_within bytes at size item within is) (step_cut bytes at found had size item longer is refl)
      step below (inr (fault, here, known)) next = inl (fault, step_fault bytes at found had fault utf8 below here known)

      by : (at < length bytes) ⊎ (length bytes ≤ at)
          → ((to : ℕ) (longer : List Token) → length bytes - to ≤ left → to ≤ length bytes → CutBefore bytes to longer → IsCut bytes) → IsCut bytes
      by (inr over) next = inr (found, cut_whole bytes at found utf8 had over)
      by (inl below) next =
          step below (some_item (remains bytes at) at (omega (arith, ap length (take_rest bytes at), length-drop at bytes))) next

-- bytes have a fault or tokens
pub tokens_or_fault : (bytes : List ℕ) → ((fault : LexFault) × HasFault bytes fault) ⊎ ((tokens : List Token) × HasTokens bytes tokens)
tokens_or_fault bytes = by (is_utf8 bytes) refl
  where
    by : (b : Bool) → is_utf8 bytes ≡ b → IsCut bytes
    by false is = inl (NotUtf8 (utf8_valid_len bytes), ((λ utf8. cc (is_utf8-from_IsUtf8 bytes utf8, is)), refl))
    by true is = cut_from bytes (IsUtf8-from_is_utf8 bytes is) (length bytes) 0 [] (omega arith) (omega arith) (cut_start bytes)
