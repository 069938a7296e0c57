-- Cursors: what a field leaves of its line.
use Rattle.std.proofs.Common.{◌≡◌, ℕ, zero, suc, ◌+◌, ◌<◌, ◌≤◌, List, [], ◌∷◌, ◌++◌, length, Option, Some, None, Bool, true, false, refl, sym, ap, subst, ◌∙◌, arith, take, drop, get_or, add-one, ◌-◌, ◌*◌, ◌^◌, ℤ, pos, Bor}
use Rattle.std.specs.Prelude.{if◌then◌else◌, ◌==◌}
use Rattle.std.specs.List.{list_all}
use Rattle.std.specs.Str.Parse.{AllDigits}
use Rattle.std.specs.Char.{digit_value}
use Rattle.std.specs.Option.{option_map}
use Rattle.std.specs.Int.{IsInRange}
use Rattle.std.specs.Fmt.{decimal, signed_decimal}
use Rattle.std.specs.Prelude.{IsAscii, IfSome, option_and_then}
use Rattle.std.proofs.lemmas.Str.{digit_value_digit}
use Rattle.std.proofs.lemmas.Bool.{ltb-true}
use Rattle.gq_graph.specs.declared.types.IdKind.TheVariants as id
use Rattle.gq_load_csv.specs.Digits.{IsOwn}
use Rattle.gq_load_csv.specs.Fields.{id_in, field_value, key_value}
use Rattle.gq_load_csv.specs.Texts.{int_in, uint_in}
use Rattle.std.proofs.lemmas.List.{append_assoc, append-nil, drop_all, take_all, take_more, length-take-le, get_or-take}
use Rattle.std.proofs.lemmas.Str.Parse.{digit_from_value}
use Rattle.std.proofs.lemmas.Bool.Decides.{nat_tests}
use Rattle.csv.specs.Records.{field_at}
use Rattle.gq_load_csv.specs.Cursors.{is_inner, IsApart, left, Stands, Goes, IsField, IsNumber, HasNumber, IsRun, IsWithin, first_of, is_low, behind_end}
use Rattle.gq_load_csv.specs.declared.cursor.Cursor.{Cursor}
use Rattle.gq_load_csv.specs.Lines.{IsPlain, is_plain_byte, line_from}
use Rattle.gq_load_csv.specs.Records.{config_of}
use Rattle.csv.specs.Reading.{records}
use Rattle.gq_load_csv.specs.declared.lines.Lines.{Lines}
use Rattle.gq_graph.specs.declared.types.Attribute.{Attribute}
use Rattle.gq_graph.specs.declared.types.IdKind.{IdKind}
use Rattle.gq_graph.specs.Defaults.{INT, sort_of}
use Rattle.gq_value.specs.declared.value.Value.TheVariants as value
use Rattle.gq_load_csv.proofs.PlainLemmas.{field_short, key_short}
use Rattle.gq_load_csv.proofs.DigitLemmas.{SoFar, at_first, one_more, no_overflow, all_read}
use Rattle.gq_load_csv.proofs.LineLemmas.{turn, neither, both, byte_here, plain_behind, length_behind}

-- ---- lines from any field on

-- what follows the fields that were read doesn't depend on them
abbrev Before : ℕ → List ℕ → Type 0
Before separator text = (f : List (List ℕ)) (p : List ℕ) → line_from separator f p text ≡ (f ++ (line_from separator [] p text).0, (line_from separator [] p text).1)

before_byte : (separator c : ℕ) (rest : List ℕ) (f : List (List ℕ)) (p : List ℕ) → Before separator rest → (a e : Bool)
    → (if a then line_from separator (f ++ p ∷ []) [] rest else if e then (f ++ p ∷ [], rest) else line_from separator f (p ++ c ∷ []) rest)
    ≡ (
      f ++ (if a then line_from separator (p ∷ []) [] rest else if e then (p ∷ [], rest) else line_from separator [] (p ++ c ∷ []) rest).0,
      (if a then line_from separator (p ∷ []) [] rest else if e then (p ∷ [], rest) else line_from separator [] (p ++ c ∷ []) rest).1,
    )
before_byte separator c rest f p more true e =
    more (f ++ p ∷ []) []
    ∙ ap (λ (fs : List (List ℕ)). (fs, (line_from separator [] [] rest).1)) (append_assoc f (p ∷ []) (line_from separator [] [] rest).0)
    ∙ ap (λ (l : List (List ℕ) × List ℕ). (f ++ l.0, l.1)) (sym (more (p ∷ []) []))
before_byte separator c rest f p more false true = refl
before_byte separator c rest f p more false false = more f (p ++ c ∷ [])

fields_before : (separator : ℕ) (text : List ℕ) → Before separator text
unfolding line_from
fields_before separator [] f p = refl
fields_before separator (c ∷ rest) f p = before_byte separator c rest f p (fields_before separator rest) (c == separator) (c == 10)

-- bytes within a field are added to it
inner_read : (separator : ℕ) (text : List ℕ) (size : ℕ) (p : List ℕ) → list_all (is_inner separator) (take size text) ≡ true → size ≤ length text
    → line_from separator [] p text ≡ line_from separator [] (p ++ take size text) (drop size text)
inner_read separator text zero p inner low = ap (λ q. line_from separator [] q text) (sym (append-nil p))
inner_read separator [] (suc n) p inner low = absurd (omega (arith, low))
inner_read separator (c ∷ rest) (suc n) p inner low =
    let here = both (is_inner separator c) (list_all (is_inner separator) (take n rest)) inner in
    let is = neither (c == separator) (c == 10) here.0 in
    turn separator [] p c rest false false is.0 is.1
    ∙ inner_read separator rest n (p ++ c ∷ []) here.1 (omega (arith, low))
    ∙ ap (λ q. line_from separator [] q (drop n rest)) (append_assoc p (c ∷ []) (take n rest))

-- ---- the ends of a field

abbrev With : List ℕ → List (List ℕ) × List ℕ → List (List ℕ) × List ℕ
With field line = (field ∷ line.0, line.1)

pub at_separator : (separator : ℕ) (text : List ℕ) (size : ℕ) → list_all (is_inner separator) (take size text) ≡ true → size < length text → get_or text size 0 ≡ separator
    → line_from separator [] [] text ≡ With (take size text) (line_from separator [] [] (drop (size + 1) text))
at_separator separator text size inner low is =
    let same : (separator == separator) ≡ true = grind (arith, nat_tests) in
    inner_read separator text size [] inner (omega (arith, low))
    ∙ ap (line_from separator [] (take size text)) (byte_here text size separator low is)
    ∙ turn separator [] (take size text) separator (drop (size + 1) text) true (separator == 10) same refl
    ∙ fields_before separator (drop (size + 1) text) (take size text ∷ []) []

pub at_line_end : (separator : ℕ) (text : List ℕ) (size : ℕ) → list_all (is_inner separator) (take size text) ≡ true → size < length text → get_or text size 0 ≡ 10 → (10 == separator) ≡ false
    → line_from separator [] [] text ≡ With (take size text) ([], drop (size + 1) text)
at_line_end separator text size inner low is other =
    inner_read separator text size [] inner (omega (arith, low))
    ∙ ap (line_from separator [] (take size text)) (byte_here text size 10 low is)
    ∙ turn separator [] (take size text) 10 (drop (size + 1) text) false true other refl

pub at_text_end : (separator : ℕ) (text : List ℕ) (size : ℕ) → list_all (is_inner separator) (take size text) ≡ true → size ≤ length text → length text ≤ size
    → line_from separator [] [] text ≡ With (take size text) ([], [])
unfolding line_from
at_text_end separator text size inner low high =
    inner_read separator text size [] inner low ∙ ap (line_from separator [] (take size text)) (drop_all size text high)

-- ---- cursors

pub left_open : (separator : ℕ) (cursor : Cursor) → cursor.is_over ≡ false → left separator cursor ≡ line_from separator [] [] cursor.rest.now
left_open separator cursor begun = ap (λ (b : Bool). if b then ([], cursor.rest.now) else line_from separator [] [] cursor.rest.now) begun

pub left_over : (separator : ℕ) (cursor : Cursor) → cursor.is_over ≡ true → left separator cursor ≡ ([], cursor.rest.now)
left_over separator cursor over = ap (λ (b : Bool). if b then ([], cursor.rest.now) else line_from separator [] [] cursor.rest.now) over

behind : (xs : List (List ℕ)) (i : ℕ) → drop (i + 1) xs ≡ drop 1 (drop i xs)
behind xs i = rw add-one (go xs i)
  where
    go : (xs : List (List ℕ)) (i : ℕ) → drop (suc i) xs ≡ drop 1 (drop i xs)
    go [] zero = refl
    go [] (suc i) = refl
    go (x ∷ xs) zero = refl
    go (x ∷ xs) (suc i) = go xs i

field_first : (xs : List (List ℕ)) (i : ℕ) (x : List ℕ) (rest : List (List ℕ)) → drop i xs ≡ x ∷ rest → field_at xs i ≡ Some x
unfolding field_at
field_first [] zero x rest is = absurd (cc)
field_first [] (suc i) x rest is = absurd (cc)
field_first (y ∷ xs) zero x rest is = let e : y ≡ x = cc in ap (λ (f : List ℕ). Some f) e
field_first (y ∷ xs) (suc i) x rest is = field_first xs i x rest is

pub field_next : (separator : ℕ) (old new : Cursor) (field : List ℕ) → left separator old ≡ With field (left separator new) → IsField separator old old.next field
field_next separator old new field is line stands =
    field_first line.0 old.next field (left separator new).0 (stands.fields ∙ ap (λ (l : List (List ℕ) × List ℕ). l.0) is)

pub stands_next : (separator : ℕ) (old new : Cursor) (field : List ℕ) → left separator old ≡ With field (left separator new) → new.next ≡ old.next + 1
    → (line : List (List ℕ) × List ℕ) → Stands separator line old → Stands separator line new
stands_next separator old new field is next line stands = record {
  fields = ap (λ (n : ℕ). drop n line.0) next ∙ behind line.0 old.next ∙ ap (drop 1) (stands.fields ∙ ap (λ (l : List (List ℕ) × List ℕ). l.0) is);
  behind = stands.behind ∙ ap (λ (l : List (List ℕ) × List ℕ). l.1) is;
}

pub stays : (separator : ℕ) (cursor : Cursor) → Goes separator cursor cursor
stays separator cursor = record { stands = λ line stands. stands; plain = λ p plain. plain }

pub goes_further : (separator : ℕ) (a b c : Cursor) → Goes separator a b → Goes separator b c → Goes separator a c
goes_further separator a b c first next = record {
  stands = λ line stands. next.stands line (first.stands line stands);
  plain = λ p plain. next.plain p (first.plain p plain);
}

pub field_later : (separator : ℕ) (old new : Cursor) (number : ℕ) (field : List ℕ) → Goes separator old new → IsField separator new number field → IsField separator old number field
field_later separator old new number field goes is line stands = is line (goes.stands line stands)

pub number_later : (separator : ℕ) (old new : Cursor) (number n : ℕ) → Goes separator old new → new.next ≡ number → IsNumber separator new n
    → (line : List (List ℕ) × List ℕ) → Stands separator line old → HasNumber (field_at line.0 number) n
number_later separator old new number n goes there is line stands =
    record { field = is.field; here = ap (field_at line.0) (sym there) ∙ is.here line (goes.stands line stands); short = is.short }

-- ---- digits

pub digits_inner : (separator : ℕ) (text : List ℕ) → IsApart separator → AllDigits 10 text → list_all (is_inner separator) text ≡ true
digits_inner separator [] apart digits = refl
digits_inner separator (c ∷ rest) apart digits =
    let low = digit_from_value c digits.0 in
    let other : (c == separator) ≡ false = grind (arith, nat_tests) in
    let line : (c == 10) ≡ false = grind (arith, nat_tests) in
    rw (other, line) (digits_inner separator rest apart digits.1)

-- a pass over the digits at the beginning of a text, up to a place
pub record Running (text : List ℕ) (place number : ℕ) : Type 0 where
  pub digits : AllDigits 10 (take place text)
  pub so_far : (k : ℕ) → place ≤ k → 0 < k → k ≤ 18 → k ≤ length text → SoFar (take k text) place number

pub running_first : (text : List ℕ) → Running text 0 0
running_first text = record {
  digits = tt;
  so_far = λ k from some few low. let n = length-take-le k text low in at_first (take k text) (omega (arith, n, some)) (omega (arith, n, few));
}

digits_last : (xs : List ℕ) (c : ℕ) → AllDigits 10 xs → digit_value c < 10 → AllDigits 10 (xs ++ c ∷ [])
digits_last [] c digits digit = (digit, tt)
digits_last (x ∷ xs) c digits digit = (digits.0, digits_last xs c digits.1 digit)

pub running_more : (text : List ℕ) (i n c : ℕ) → Running text i n → i < length text → get_or text i 0 ≡ c → IsInRange 48 57 c → Running text (i + 1) (n * 10 + (c - 48))
running_more text i n c run low is digit =
    let value : digit_value c ≡ c - 48 = omega (arith, digit_value_digit c digit) in
    let small : digit_value c < 10 = omega (arith, value, digit.0, digit.1) in
    let more : take (i + 1) text ≡ take i text ++ c ∷ [] = take_more text i 0 low ∙ ap (λ b. take i text ++ b ∷ []) is in
    record {
      digits = subst (AllDigits 10) (sym more) (digits_last (take i text) c run.digits small);
      so_far = λ k from some few within.
          let size = length-take-le k text within in
          one_more (take k text) i n c (run.so_far k (omega (arith, from)) some few within) (omega (arith, size, from)) (get_or-take k text i 0 (omega (arith, from)) ∙ is) digit;
    }

pub running_fits : (text : List ℕ) (i n d : ℕ) → Running text i n → i < length text → i < 18 → d < 10 → n * 10 + d < 10 ^ 18
running_fits text i n d run low few digit =
    let size = length-take-le (i + 1) text (omega (arith, low)) in
    no_overflow (take (i + 1) text) i n d (run.so_far (i + 1) (omega arith) (omega arith) (omega (arith, few)) (omega (arith, low))) (omega (arith, size)) digit

pub running_run : (text : List ℕ) (i n : ℕ) → Running text i n → i ≤ length text → i ≤ 18 → IsRun text (record { size = i; number = n })
running_run text i n run low few = record {
  within = low;
  digits = run.digits;
  short = λ some. let size = length-take-le i text low in all_read (take i text) i n (run.so_far i (omega arith) some few low) (omega (arith, size)) (omega (arith, size));
}

-- ---- ids

pub own_int : (field : List ℕ) → IsOwn field → id_in id.Int field ≡ Some field
own_int field is = ap (λ t. option_map signed_decimal (int_in t)) is.whole ∙ is.int

pub own_uint : (field : List ℕ) → IsOwn field → id_in id.UInt field ≡ Some field
own_uint field is = ap (λ t. option_map decimal (uint_in t)) is.whole ∙ is.uint

pub ascii_from : (xs : List ℕ) → list_all is_low xs ≡ true → IsAscii xs
ascii_from [] e i = omega arith
ascii_from (x ∷ xs) e zero = ltb-true x 128 (both (is_low x) (list_all is_low xs) e).0
ascii_from (x ∷ xs) e (suc i) = ascii_from xs (both (is_low x) (list_all is_low xs) e).1 i

-- ---- a field's bytes

pub all_more : (p : ℕ → Bool) (text : List ℕ) (i c : ℕ) → i < length text → get_or text i 0 ≡ c → list_all p (take i text) ≡ true → p c ≡ true → list_all p (take (i + 1) text) ≡ true
all_more p text i c low is so_far here =
    ap (list_all p) (take_more text i 0 low ∙ ap (λ b. take i text ++ b ∷ []) is) ∙ last (take i text) so_far
  where
    last : (xs : List ℕ) → list_all p xs ≡ true → list_all p (xs ++ c ∷ []) ≡ true
    last [] e = rw here refl
    last (x ∷ xs) e = let b = both (p x) (list_all p xs) e in rw (b.0, last xs b.1) refl

pub inner_byte : (separator c : ℕ) → (c == separator) ≡ false → (c == 10) ≡ false → is_inner separator c ≡ true
inner_byte separator c other line = rw (other, line) refl

-- the rest of a text, as a slice of it
pub slice_behind : (text : List ℕ) (n : ℕ) → n ≤ length text → take (length text - n) (drop n text) ≡ drop n text
slice_behind text n low = take_all (length text - n) (drop n text) (omega (arith, length_behind n text low))

-- ---- the cursor behind a field

pub left_apart : (separator : ℕ) (old new : Cursor) (size : ℕ) → old.is_over ≡ false → new.is_over ≡ false → new.rest.now ≡ drop (size + 1) old.rest.now
    → list_all (is_inner separator) (take size old.rest.now) ≡ true → size < length old.rest.now → get_or old.rest.now size 0 ≡ separator
    → left separator old ≡ With (take size old.rest.now) (left separator new)
left_apart separator old new size begun still rest inner low is =
    left_open separator old begun ∙ at_separator separator old.rest.now size inner low is
    ∙ ap (With (take size old.rest.now)) (sym (left_open separator new still ∙ ap (line_from separator [] []) rest))

pub left_line : (separator : ℕ) (old new : Cursor) (size : ℕ) → old.is_over ≡ false → new.is_over ≡ true → new.rest.now ≡ drop (size + 1) old.rest.now
    → list_all (is_inner separator) (take size old.rest.now) ≡ true → size < length old.rest.now → get_or old.rest.now size 0 ≡ 10 → (10 == separator) ≡ false
    → left separator old ≡ With (take size old.rest.now) (left separator new)
left_line separator old new size begun over rest inner low is other =
    left_open separator old begun ∙ at_line_end separator old.rest.now size inner low is other
    ∙ ap (With (take size old.rest.now)) (sym (left_over separator new over ∙ ap (λ (r : List ℕ). ([], r)) rest))

pub left_end : (separator : ℕ) (old new : Cursor) (size : ℕ) → old.is_over ≡ false → new.is_over ≡ true → new.rest.now ≡ []
    → list_all (is_inner separator) (take size old.rest.now) ≡ true → size ≤ length old.rest.now → length old.rest.now ≤ size
    → left separator old ≡ With (take size old.rest.now) (left separator new)
left_end separator old new size begun over rest inner low high =
    left_open separator old begun ∙ at_text_end separator old.rest.now size inner low high
    ∙ ap (With (take size old.rest.now)) (sym (left_over separator new over ∙ ap (λ (r : List ℕ). ([], r)) rest))

pub goes_next : (separator : ℕ) (old new : Cursor) (field : List ℕ) (n : ℕ) → left separator old ≡ With field (left separator new) → new.next ≡ old.next + 1
    → new.rest.now ≡ drop n old.rest.now → Goes separator old new
goes_next separator old new field n is next rest = record {
  stands = stands_next separator old new field is next;
  plain = λ p plain. ap (list_all p) rest ∙ plain_behind p n old.rest.now plain;
}

-- ---- the end of a line

pub end_here : (text : List ℕ) (i : ℕ) → i < length text → get_or text i 0 ≡ 10 → behind_end text ≡ behind_end (drop i text) → drop (i + 1) text ≡ behind_end text
end_here text i low is so_far = sym (so_far ∙ ap behind_end (byte_here text i 10 low is))

pub end_later : (text : List ℕ) (i c : ℕ) → i < length text → get_or text i 0 ≡ c → (c == 10) ≡ false → behind_end text ≡ behind_end (drop i text) → behind_end text ≡ behind_end (drop (i + 1) text)
end_later text i c low is other so_far =
    so_far ∙ ap behind_end (byte_here text i c low is) ∙ ap (λ (b : Bool). if b then drop (i + 1) text else behind_end (drop (i + 1) text)) other

pub end_none : (text : List ℕ) (i : ℕ) → length text ≤ i → behind_end text ≡ behind_end (drop i text) → behind_end text ≡ []
end_none text i high so_far = so_far ∙ ap behind_end (drop_all i text high)

-- the text behind a line, from any field on
behind_byte : (separator c : ℕ) (rest : List ℕ) (f : List (List ℕ)) (p : List ℕ) → (10 == separator) ≡ false
    → ((g : List (List ℕ)) (q : List ℕ) → (line_from separator g q rest).1 ≡ behind_end rest)
    → (a e : Bool) → (c == separator) ≡ a → (c == 10) ≡ e
    → (if a then line_from separator (f ++ p ∷ []) [] rest else if e then (f ++ p ∷ [], rest) else line_from separator f (p ++ c ∷ []) rest).1
    ≡ (if e then rest else behind_end rest)
behind_byte separator c rest f p line more true true same end = absurd (grind (arith, nat_tests))
behind_byte separator c rest f p line more true false same end = more (f ++ p ∷ []) []
behind_byte separator c rest f p line more false true same end = refl
behind_byte separator c rest f p line more false false same end = more f (p ++ c ∷ [])

pub behind_line_is : (separator : ℕ) (text : List ℕ) → (10 == separator) ≡ false → (f : List (List ℕ)) (p : List ℕ) → (line_from separator f p text).1 ≡ behind_end text
unfolding line_from
behind_line_is separator [] line f p = refl
behind_line_is separator (c ∷ rest) line f p = behind_byte separator c rest f p line (behind_line_is separator rest line) (c == separator) (c == 10) refl refl

-- ---- cursors of a line

pub within_first : (lines : Lines) (cursor : Cursor) → IsPlain lines.separator lines.quote lines.rest.now → IsApart lines.separator
    → cursor.rest.now ≡ lines.rest.now → cursor.next ≡ 0 → cursor.is_over ≡ false → IsWithin lines cursor
within_first lines cursor plain apart rest next begun =
    let same : left lines.separator cursor ≡ line_from lines.separator [] [] lines.rest.now = left_open lines.separator cursor begun ∙ ap (line_from lines.separator [] []) rest in
    record {
      plain = plain;
      apart = apart;
      stands = record {
        fields = ap (λ (n : ℕ). drop n (line_from lines.separator [] [] lines.rest.now).0) next ∙ sym (ap (λ (l : List (List ℕ) × List ℕ). l.0) same);
        behind = sym (ap (λ (l : List (List ℕ) × List ℕ). l.1) same);
      };
      rest = ap (list_all (is_plain_byte lines.quote)) rest ∙ plain.plain;
    }

pub within_later : (lines : Lines) (old new : Cursor) → IsWithin lines old → Goes lines.separator old new → IsWithin lines new
within_later lines old new is goes = record {
  plain = is.plain;
  apart = is.apart;
  stands = goes.stands (line_from lines.separator [] [] lines.rest.now) is.stands;
  rest = goes.plain (is_plain_byte lines.quote) is.rest;
}

pub id_later : (separator : ℕ) (kind : IdKind) (old mid : Cursor) (number : ℕ) (o : Option (Bor (List ℕ))) → Goes separator old mid → mid.next ≡ number
    → IfSome o (λ i. IsField separator mid mid.next i.now) → IfSome o (λ i. id_in kind i.now ≡ Some i.now)
    → IfSome o (λ i. (line : List (List ℕ) × List ℕ) → Stands separator line old → option_and_then (id_in kind) (field_at line.0 number) ≡ Some i.now)
id_later separator kind old mid number None goes there field is = tt
id_later separator kind old mid number (Some i) goes there field is = λ line stands.
    ap (option_and_then (id_in kind)) (ap (field_at line.0) (sym there) ∙ field line (goes.stands line stands)) ∙ is

pub numbers_later : (separator : ℕ) (old mid : Cursor) (number : ℕ) (o : Option ℕ) → Goes separator old mid → mid.next ≡ number → IfSome o (IsNumber separator mid)
    → IfSome o (λ n. (line : List (List ℕ) × List ℕ) → Stands separator line old → HasNumber (field_at line.0 number) n)
numbers_later separator old mid number None goes there is = tt
numbers_later separator old mid number (Some n) goes there is = number_later separator old mid number n goes there is

pub field_int : (read : List ℕ → Option ℤ) (attribute : Attribute) (found : Option (List ℕ)) (n : ℕ) → sort_of attribute.kind ≡ INT → HasNumber found n
    → option_and_then (field_value read attribute) found ≡ Some (value.Int (pos n))
field_int read attribute found n int is = ap (option_and_then (field_value read attribute)) is.here ∙ field_short read attribute is.field n int is.short

pub key_int : (read : List ℕ → Option ℤ) (attribute : Attribute) (found : Option (List ℕ)) (n : ℕ) → sort_of attribute.kind ≡ INT → HasNumber found n
    → option_and_then (key_value read attribute) found ≡ Some (value.Int (pos n))
key_int read attribute found n int is = ap (option_and_then (key_value read attribute)) is.here ∙ key_short read attribute is.field n int is.short

-- the records behind a line
pub others_left : (lines : Lines) (cursor : Cursor) (rest : List ℕ) → IsWithin lines cursor → (left lines.separator cursor).1 ≡ rest
    → records (config_of lines.separator lines.quote) rest ≡ (first_of lines).others
others_left lines cursor rest is same = ap (records (config_of lines.separator lines.quote)) (sym same ∙ sym is.stands.behind)

pub over_rest : (lines : Lines) (cursor : Cursor) → cursor.is_over ≡ true → (left lines.separator cursor).1 ≡ cursor.rest.now
over_rest lines cursor over = ap (λ (l : List (List ℕ) × List ℕ). l.1) (left_over lines.separator cursor over)

pub open_rest : (lines : Lines) (cursor : Cursor) → IsWithin lines cursor → cursor.is_over ≡ false → (left lines.separator cursor).1 ≡ behind_end cursor.rest.now
open_rest lines cursor is begun =
    ap (λ (l : List (List ℕ) × List ℕ). l.1) (left_open lines.separator cursor begun) ∙ behind_line_is lines.separator cursor.rest.now is.plain.line [] []

pub plain_end : (p : ℕ → Bool) (text : List ℕ) → list_all p text ≡ true → list_all p (behind_end text) ≡ true
plain_end p [] plain = refl
plain_end p (c ∷ rest) plain =
    let others : list_all p rest ≡ true = (both (p c) (list_all p rest) plain).1 in
    by (c == 10) others (plain_end p rest others)
  where
    by : (e : Bool) → list_all p rest ≡ true → list_all p (behind_end rest) ≡ true → list_all p (if e then rest else behind_end rest) ≡ true
    by true others more = others
    by false others more = more
