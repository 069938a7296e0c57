-- Utf8Lemmas: a text in a script that is UTF-8 is UTF-8, and so is its value.
use Rattle.std.proofs.Common.{◌≡◌, ℕ, zero, suc, ◌+◌, ◌<◌, ◌≤◌, Bool, true, false, List, [], ◌∷◌, ◌++◌, length, take, drop, get_or, Option, Some, None, refl, ap, sym, subst, ◌∙◌, arith, length-take, inl, inr, ◌⊎◌}
use Rattle.std.specs.Prelude.{if◌then◌else◌, nat_eq, option_map}
use Rattle.std.specs.Str.{IsUtf8, IsAscii}
use Rattle.std.proofs.Math.Utf8.{encodes, encode, scalars, scalar}
use Rattle.std.proofs.lemmas.List.{append-nil, get_or-take}
use Rattle.std.proofs.lemmas.Bool.{ne_eqb, eqb-true, cases_lt, and_parts}
use Rattle.std.proofs.lemmas.Bool.Decides.{nat_tests}
use Rattle.std.proofs.lemmas.Str.{IsUtf8-nil, IsUtf8-append, IsUtf8-encode, IsUtf8-drop, IsUtf8-take, IsUtf8-from_ascii, IsCharBoundary-after_ascii, encode_ascii, length-encode, len_utf8_bounds, inside_one}
use Rattle.gq_token.specs.Texts.{closes, said, escape_of, byte_then}
use Rattle.gq_token.specs.Items.{EndsAt}
use Rattle.gq_token.proofs.TextLemmas.{byte_then_parts}

-- a closed text ends with a quote
closes_last : (bytes : List ℕ) → closes bytes ≡ true → (n : ℕ) × (length bytes ≡ suc n) × (get_or bytes n 0 ≡ 34)
closes_last [] closed = cc
closes_last (c ∷ []) closed = (0, refl, eqb-true c 34 closed)
closes_last (c ∷ d ∷ cs) closed = by (nat_eq c 34) (nat_eq c 92) closed (λ is. closes_last cs is) (λ is. closes_last (d ∷ cs) is)
  where
    by : (a b : Bool) → (if a then false else (if b then closes cs else closes (d ∷ cs))) ≡ true
        → (closes cs ≡ true → (n : ℕ) × (length cs ≡ suc n) × (get_or cs n 0 ≡ 34))
        → (closes (d ∷ cs) ≡ true → (n : ℕ) × (length (d ∷ cs) ≡ suc n) × (get_or (d ∷ cs) n 0 ≡ 34))
        → (n : ℕ) × (length (c ∷ d ∷ cs) ≡ suc n) × (get_or (c ∷ d ∷ cs) n 0 ≡ 34)
    by true b is escaped plain = cc
    by false true is escaped plain = let last = escaped is in (suc (suc last.0), ap (λ n. suc (suc n)) last.1, last.2)
    by false false is escaped plain = let last = plain is in (suc last.0, ap suc last.1, last.2)

-- the bytes from an opening quote up to the closing one are UTF-8
pub body_utf8 : (rest : List ℕ) (size : ℕ) → 0 < length rest → IsUtf8 rest → get_or rest 0 0 ≡ 34 → EndsAt closes (drop 1 rest) size
    → IsUtf8 (take size (drop 1 rest))
body_utf8 rest size some utf8 quote ends =
    let behind : IsUtf8 (drop 1 rest) = IsUtf8-drop rest 1 utf8 (IsCharBoundary-after_ascii rest 0 utf8 some (omega arith)) in
    let last = closes_last (take size (drop 1 rest)) ends.ends in
    let total : size ≡ last.0 + 1 = omega (arith, last.1, ends.within, length-take size (drop 1 rest)) in
    let at : get_or (drop 1 rest) last.0 0 ≡ 34 = sym (get_or-take size (drop 1 rest) last.0 0 (omega arith)) ∙ last.2 in
    let cut = IsCharBoundary-after_ascii (drop 1 rest) last.0 behind (omega (arith, ends.within)) (omega (arith, at)) in
    subst (λ n. IsUtf8 (take n (drop 1 rest))) (sym total) (IsUtf8-take (drop 1 rest) (last.0 + 1) behind cut)

-- a byte above ASCII is read as itself
said_high : (p : ℕ) (rest : List ℕ) → 128 ≤ p → said (p ∷ rest) ≡ byte_then (Some p) (said rest)
said_high p [] high = rw (ne_eqb p 34 (λ e. omega arith)) refl
said_high p (d ∷ ds) high = rw (ne_eqb p 34 (λ e. omega arith), ne_eqb p 92 (λ e. omega arith)) refl

-- and so are several
said_highs : (ps rest : List ℕ) → ((k : ℕ) → k < length ps → 128 ≤ get_or ps k 0) → said (ps ++ rest) ≡ option_map (λ ys. ps ++ ys) (said rest)
said_highs [] rest high = by (said rest)
  where
    by : (o : Option (List ℕ)) → o ≡ option_map (λ ys. [] ++ ys) o
    by None = refl
    by (Some ys) = refl
said_highs (p ∷ ps) rest high =
    said_high p (ps ++ rest) (high 0 (omega arith)) ∙ ap (byte_then (Some p)) (said_highs ps rest (λ k below. high (suc k) (omega arith))) ∙ by (said rest)
  where
    by : (o : Option (List ℕ)) → byte_then (Some p) (option_map (λ ys. ps ++ ys) o) ≡ option_map (λ ys. (p ∷ ps) ++ ys) o
    by None = refl
    by (Some ys) = refl

-- all bytes of a character above ASCII are above ASCII
high_bytes : (c : ℕ) → 128 ≤ c → (k : ℕ) → k < length (encode c) → 128 ≤ get_or (encode c) k 0
high_bytes c high k below = by (cases_lt (get_or (encode c) k 0) 128)
  where
    by : (get_or (encode c) k 0 < 128) ⊎ (128 ≤ get_or (encode c) k 0) → 128 ≤ get_or (encode c) k 0
    by (inl low) = let same : c ≡ get_or (encode c) k 0 = inside_one c [] (encode c) k (sym (append-nil (encode c))) below low in absurd (omega arith)
    by (inr above) = above

-- an ASCII byte before UTF-8
ascii_before : (c : ℕ) (ys : List ℕ) → c < 128 → IsUtf8 ys → IsUtf8 (c ∷ ys)
ascii_before c ys low utf8 = IsUtf8-append (c ∷ []) ys (IsUtf8-from_ascii (c ∷ []) ascii) utf8
  where
    ascii : IsAscii (c ∷ [])
    ascii zero = low
    ascii (suc i) = omega arith

-- an escape means an ASCII byte
escape_low : (d meant : ℕ) → escape_of d ≡ Some meant → meant < 128
escape_low d meant is = grind (arith, nat_tests)

-- a byte above ASCII begins no escape
no_high_escape : (d : ℕ) → 128 ≤ d → escape_of d ≡ None
no_high_escape d high =
    rw (ne_eqb d 34 (λ e. omega arith), ne_eqb d 92 (λ e. omega arith), ne_eqb d 110 (λ e. omega arith), ne_eqb d 116 (λ e. omega arith), ne_eqb d 114 (λ e. omega arith)) refl

-- the value of the bytes from here on is UTF-8
abbrev SaysUtf8 : List ℕ → Type 0
SaysUtf8 bytes = (ys : List ℕ) → said bytes ≡ Some ys → IsUtf8 ys

-- a byte that is read as itself
plain_says : (c : ℕ) (e : List ℕ) → c < 128 → nat_eq c 34 ≡ false → nat_eq c 92 ≡ false → SaysUtf8 e → SaysUtf8 (c ∷ e)
plain_says c [] low quote slash says ys is = cc (rw quote at is)
plain_says c (d ∷ ds) low quote slash says ys is =
    let parts = byte_then_parts (Some c) (said (d ∷ ds)) ys (rw (quote, slash) at is) in
    let same : c ≡ parts.0 = cc (parts.2) in
    subst IsUtf8 (sym (parts.4 ∙ ap (λ n. n ∷ parts.1) (sym same))) (ascii_before c parts.1 low (says parts.1 parts.3))

-- a quote ends it
quote_says : (e : List ℕ) → SaysUtf8 (34 ∷ e)
quote_says [] ys is = let same : [] ≡ ys = cc is in subst IsUtf8 same IsUtf8-nil
quote_says (d ∷ ds) ys is = cc

-- an escape
escape_says : (d : ℕ) (ds : List ℕ) → SaysUtf8 ds → SaysUtf8 (92 ∷ d ∷ ds)
escape_says d ds says ys is =
    let parts = byte_then_parts (escape_of d) (said ds) ys is in
    subst IsUtf8 (sym parts.4) (ascii_before parts.0 parts.1 (escape_low d parts.0 parts.2) (says parts.1 parts.3))

-- a character above ASCII
high_says : (c : ℕ) (e : List ℕ) → 128 ≤ c → IsUtf8 (encode c) → SaysUtf8 e → SaysUtf8 (encode c ++ e)
high_says c e high utf8 says ys is = by (said e) refl (sym (said_highs (encode c) e (high_bytes c high)) ∙ is)
  where
    by : (o : Option (List ℕ)) → said e ≡ o → option_map (λ zs. encode c ++ zs) o ≡ Some ys → IsUtf8 ys
    by None s same = cc
    by (Some zs) s same = let whole : encode c ++ zs ≡ ys = cc in subst IsUtf8 whole (IsUtf8-append (encode c) zs utf8 (says zs s))

-- a backslash before a character above ASCII has no value
high_escape_says : (d : ℕ) (e : List ℕ) → 128 ≤ d → SaysUtf8 (92 ∷ (encode d ++ e))
high_escape_says d e high = by (encode d) refl
  where
    by : (bs : List ℕ) → encode d ≡ bs → SaysUtf8 (92 ∷ (bs ++ e))
    by [] is = absurd (omega (arith, ap length is, length-encode d, (len_utf8_bounds d).0))
    by (b ∷ bs) is = λ ys says.
        let first : 128 ≤ b = subst (λ l. 128 ≤ get_or l 0 0) is (high_bytes d high 0 (omega (arith, ap length is))) in
        let parts = byte_then_parts (escape_of b) (said (bs ++ e)) ys says in
        let none : escape_of b ≡ None = no_high_escape b first in
        cc (parts.2)

-- a character before bytes
char_says : (c : ℕ) (e : List ℕ) → IsUtf8 (encode c) → SaysUtf8 e → SaysUtf8 (92 ∷ e) → SaysUtf8 (encode c ++ e)
char_says c e utf8 says escaped = by (cases_lt c 128)
  where
    low : c < 128 → (b s : Bool) → nat_eq c 34 ≡ b → nat_eq c 92 ≡ s → SaysUtf8 (c ∷ e)
    low below true s quote slash = subst (λ n. SaysUtf8 (n ∷ e)) (sym (eqb-true c 34 quote)) (quote_says e)
    low below false true quote slash = subst (λ n. SaysUtf8 (n ∷ e)) (sym (eqb-true c 92 slash)) escaped
    low below false false quote slash = plain_says c e below quote slash says

    by : (c < 128) ⊎ (128 ≤ c) → SaysUtf8 (encode c ++ e)
    by (inl below) = subst (λ l. SaysUtf8 (l ++ e)) (sym (encode_ascii c below)) (low below (nat_eq c 34) (nat_eq c 92) refl refl)
    by (inr above) = high_says c e above utf8 says

-- a backslash before a character
slash_says : (d : ℕ) (e : List ℕ) → SaysUtf8 e → SaysUtf8 (92 ∷ (encode d ++ e))
slash_says d e says = by (cases_lt d 128)
  where
    by : (d < 128) ⊎ (128 ≤ d) → SaysUtf8 (92 ∷ (encode d ++ e))
    by (inl below) = subst (λ l. SaysUtf8 (92 ∷ (l ++ e))) (sym (encode_ascii d below)) (escape_says d e says)
    by (inr above) = high_escape_says d e above

-- the value of characters is UTF-8, also after a backslash
chars_say : (cs : List ℕ) → scalars cs ≡ true → SaysUtf8 (encodes cs) × SaysUtf8 (92 ∷ encodes cs)
chars_say [] ok = ((λ ys is. cc), (λ ys is. cc))
chars_say (c ∷ cs) ok =
    let parts = and_parts (scalar c) (scalars cs) ok in
    let behind = chars_say cs parts.1 in
    (char_says c (encodes cs) (IsUtf8-encode c parts.0) behind.0 behind.1, slash_says c (encodes cs) behind.0)

-- the value of a text that is UTF-8 is UTF-8
pub said_utf8 : (bytes ys : List ℕ) → IsUtf8 bytes → said bytes ≡ Some ys → IsUtf8 ys
said_utf8 bytes ys utf8 is = (chars_say utf8.0 utf8.1.0).0 ys (subst (λ b. said b ≡ Some ys) (sym utf8.1.1) is)
