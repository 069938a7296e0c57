-- EndLemmas: where a comment and a text end, as a search from the left finds.
use Rattle.std.proofs.Common.{◌≡◌, ℕ, zero, suc, ◌+◌, ◌-◌, ◌<◌, ◌≤◌, Bool, true, false, List, [], ◌∷◌, length, take, drop, get_or, refl, ap, sym, ◌∙◌, ◌≢◌, arith, inl, inr, ◌⊎◌}
use Rattle.std.specs.Prelude.{nat_eq, ◌&&◌}
use Rattle.std.proofs.lemmas.Bool.{cases_lt, ne_eqb}
use Rattle.std.proofs.lemmas.List.{drop_all, drop-drop, drop_more, get_or-drop, get_or_past}
use Rattle.gq_token.specs.Texts.{closes}
use Rattle.gq_token.specs.Spelling.{ends_at_close}
use Rattle.gq_token.specs.Items.{EndsAt, NeverEnds}

-- no prefix up to a place passes the test, and from there on only the rest matters
pub record NotYet (test : List ℕ → Bool) (bytes : List ℕ) (at : ℕ) : Type 0 where
  pub same : (n : ℕ) → test (take (at + n) bytes) ≡ test (take n (drop at bytes))
  pub before : (n : ℕ) → n < at → test (take n bytes) ≡ false

-- it holds at the start
pub not_yet_start : (test : List ℕ → Bool) (bytes : List ℕ) → NotYet test bytes 0
not_yet_start test bytes = record { same = λ n. ap (λ k. test (take k bytes)) (omega arith); before = λ n below. absurd (omega arith) }

-- the bytes from a place on, with prefixes of them tested alone
module _ (test : List ℕ → Bool) (bytes : List ℕ) (at : ℕ) (yet : NotYet test bytes at) where
  -- some bytes are skipped
  pub not_yet_more : (step next : ℕ) → next ≡ at + step → ((n : ℕ) → n < step → test (take n (drop at bytes)) ≡ false)
      → ((n : ℕ) → test (take (step + n) (drop at bytes)) ≡ test (take n (drop next bytes))) → NotYet test bytes next
  not_yet_more step next is none moves = record { same = same; before = before }
    where
      same : (n : ℕ) → test (take (next + n) bytes) ≡ test (take n (drop next bytes))
      same n = ap (λ k. test (take k bytes)) {x = next + n} {y = at + (step + n)} (omega arith) ∙ yet.same (step + n) ∙ moves n

      within : (n : ℕ) → n < next → at ≤ n → test (take n bytes) ≡ false
      within n below from = ap (λ k. test (take k bytes)) {x = n} {y = at + (n - at)} (omega arith) ∙ yet.same (n - at) ∙ none (n - at) (omega arith)

      by : (n : ℕ) → n < next → (n < at) ⊎ (at ≤ n) → test (take n bytes) ≡ false
      by n below (inl early) = yet.before n early
      by n below (inr late) = within n below late

      before : (n : ℕ) → n < next → test (take n bytes) ≡ false
      before n below = by n below (cases_lt n at)

  -- the end is found
  pub ends_here : (step next : ℕ) → next ≡ at + step → next ≤ length bytes → test (take step (drop at bytes)) ≡ true → EndsAt test bytes next
  ends_here step next is within ends = record { within = within; ends = ap (λ k. test (take k bytes)) is ∙ yet.same step ∙ ends }

  -- there is none
  pub never_ends : length bytes ≤ at → test [] ≡ false → NeverEnds test bytes
  never_ends over none n = by (cases_lt n at)
    where
      nothing : (m : ℕ) (xs : List ℕ) → xs ≡ [] → test (take m xs) ≡ false
      nothing zero xs is = none
      nothing (suc m) xs is = rw is none

      by : (n < at) ⊎ (at ≤ n) → test (take n bytes) ≡ false
      by (inl early) = yet.before n early
      by (inr late) = ap (λ k. test (take k bytes)) {x = n} {y = at + (n - at)} (omega arith) ∙ yet.same (n - at)
          ∙ nothing (n - at) (drop at bytes) (drop_all at bytes over)

-- a byte that begins no `*/`
comment_plain : (c : ℕ) (cs : List ℕ) → (nat_eq c 42 && nat_eq (get_or cs 0 0) 47) ≡ false → (n : ℕ) → ends_at_close (c ∷ take n cs) ≡ ends_at_close (take n cs)
comment_plain c [] plain zero = refl
comment_plain c [] plain (suc n) = refl
comment_plain c (d ∷ ds) plain zero = refl
comment_plain c (d ∷ ds) plain (suc n) = rw plain refl

-- a step over it
pub comment_more : (bytes : List ℕ) (at next : ℕ) → NotYet ends_at_close bytes at → at < length bytes → next ≡ at + 1
    → (nat_eq (get_or bytes at 0) 42 && nat_eq (get_or bytes (at + 1) 0) 47) ≡ false → NotYet ends_at_close bytes next
comment_more bytes at next yet below is plain = not_yet_more ends_at_close bytes at yet 1 next is none moves
  where
    whole : drop at bytes ≡ get_or bytes at 0 ∷ drop next bytes
    whole = drop_more bytes at 0 below ∙ ap (λ k. get_or bytes at 0 ∷ drop k bytes) (sym is)

    second : get_or (drop next bytes) 0 0 ≡ get_or bytes (at + 1) 0
    second = get_or-drop next bytes 0 0 ∙ ap (λ k. get_or bytes k 0) {x = next + 0} {y = at + 1} (omega arith)

    none : (n : ℕ) → n < 1 → ends_at_close (take n (drop at bytes)) ≡ false
    none zero below = refl
    none (suc n) below = absurd (omega arith)

    moves : (n : ℕ) → ends_at_close (take (1 + n) (drop at bytes)) ≡ ends_at_close (take n (drop next bytes))
    moves n =
        let one : 1 + n ≡ suc n = omega arith in
        ap (λ k. ends_at_close (take k (drop at bytes))) one ∙ ap (λ l. ends_at_close (take (suc n) l)) whole
        ∙ comment_plain (get_or bytes at 0) (drop next bytes) (ap (λ d. nat_eq (get_or bytes at 0) 42 && nat_eq d 47) second ∙ plain) n

-- the end is after `*/`
pub comment_end : (bytes : List ℕ) (at next : ℕ) → NotYet ends_at_close bytes at → at < length bytes → next ≡ at + 2
    → get_or bytes at 0 ≡ 42 → get_or bytes (at + 1) 0 ≡ 47 → EndsAt ends_at_close bytes next
comment_end bytes at next yet below is star slash = ends_here ends_at_close bytes at yet 2 next is (omega (arith, more)) ends
  where
    more : at + 1 < length bytes
    more = by (cases_lt (at + 1) (length bytes))
      where
        by : (at + 1 < length bytes) ⊎ (length bytes ≤ at + 1) → at + 1 < length bytes
        by (inl there) = there
        by (inr past) = let none : get_or bytes (at + 1) 0 ≡ 0 = get_or_past bytes (at + 1) 0 past in absurd (omega (arith, none, slash))

    whole : drop at bytes ≡ 42 ∷ 47 ∷ drop (at + 1 + 1) bytes
    whole = drop_more bytes at 0 below ∙ ap (λ l. get_or bytes at 0 ∷ l) (drop_more bytes (at + 1) 0 more) ∙ rw (star, slash) refl

    ends : ends_at_close (take 2 (drop at bytes)) ≡ true
    ends = ap (λ l. ends_at_close (take 2 l)) whole

-- a byte that is neither a quote nor a backslash
text_plain : (c : ℕ) (cs : List ℕ) → nat_eq c 34 ≡ false → nat_eq c 92 ≡ false → (n : ℕ) → closes (c ∷ take n cs) ≡ closes (take n cs)
text_plain c [] quote slash zero = quote
text_plain c [] quote slash (suc n) = quote
text_plain c (d ∷ ds) quote slash zero = quote
text_plain c (d ∷ ds) quote slash (suc n) = rw (quote, slash) refl

-- a backslash and the next byte are skipped together
text_escape : (cs : List ℕ) (n : ℕ) → closes (take (suc (suc n)) (92 ∷ cs)) ≡ closes (take n (drop 1 cs))
text_escape [] zero = refl
text_escape [] (suc n) = refl
text_escape (d ∷ ds) n = refl

-- a step over a byte
pub text_more : (bytes : List ℕ) (at next : ℕ) → NotYet closes bytes at → at < length bytes → next ≡ at + 1
    → get_or bytes at 0 ≢ 34 → get_or bytes at 0 ≢ 92 → NotYet closes bytes next
text_more bytes at next yet below is quote slash = not_yet_more closes bytes at yet 1 next is none moves
  where
    whole : drop at bytes ≡ get_or bytes at 0 ∷ drop next bytes
    whole = drop_more bytes at 0 below ∙ ap (λ k. get_or bytes at 0 ∷ drop k bytes) (sym is)

    none : (n : ℕ) → n < 1 → closes (take n (drop at bytes)) ≡ false
    none zero below = refl
    none (suc n) below = absurd (omega arith)

    moves : (n : ℕ) → closes (take (1 + n) (drop at bytes)) ≡ closes (take n (drop next bytes))
    moves n =
        let one : 1 + n ≡ suc n = omega arith in
        ap (λ k. closes (take k (drop at bytes))) one ∙ ap (λ l. closes (take (suc n) l)) whole
        ∙ text_plain (get_or bytes at 0) (drop next bytes) (ne_eqb (get_or bytes at 0) 34 quote) (ne_eqb (get_or bytes at 0) 92 slash) n

-- a step over a backslash and the byte after it
pub text_more_escape : (bytes : List ℕ) (at next : ℕ) → NotYet closes bytes at → at < length bytes → next ≡ at + 2 → get_or bytes at 0 ≡ 92
    → NotYet closes bytes next
text_more_escape bytes at next yet below is slash = not_yet_more closes bytes at yet 2 next is none moves
  where
    whole : drop at bytes ≡ 92 ∷ drop (at + 1) bytes
    whole = drop_more bytes at 0 below ∙ ap (λ c. c ∷ drop (at + 1) bytes) slash

    none : (n : ℕ) → n < 2 → closes (take n (drop at bytes)) ≡ false
    none zero below = refl
    none (suc zero) below = ap (λ l. closes (take 1 l)) whole
    none (suc (suc n)) below = absurd (omega arith)

    moves : (n : ℕ) → closes (take (2 + n) (drop at bytes)) ≡ closes (take n (drop next bytes))
    moves n =
        let two : 2 + n ≡ suc (suc n) = omega arith in
        ap (λ k. closes (take k (drop at bytes))) two ∙ ap (λ l. closes (take (suc (suc n)) l)) whole
        ∙ text_escape (drop (at + 1) bytes) n ∙ ap (λ l. closes (take n l)) (drop-drop 1 (at + 1) bytes)
        ∙ ap (λ k. closes (take n (drop k bytes))) {x = at + 1 + 1} {y = next} (omega arith)

-- the end is after the closing quote
pub text_end : (bytes : List ℕ) (at next : ℕ) → NotYet closes bytes at → at < length bytes → next ≡ at + 1 → get_or bytes at 0 ≡ 34 → EndsAt closes bytes next
text_end bytes at next yet below is quote = ends_here closes bytes at yet 1 next is (omega arith) ends
  where
    ends : closes (take 1 (drop at bytes)) ≡ true
    ends = ap (λ l. closes (take 1 l)) (drop_more bytes at 0 below ∙ ap (λ c. c ∷ drop (at + 1) bytes) quote)
