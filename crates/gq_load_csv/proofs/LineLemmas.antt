-- Lines: how csv's state machine splits a text in which only the separator and line ends are special.
use Rattle.std.proofs.Common.{◌≡◌, ℕ, zero, suc, ◌+◌, ◌-◌, ◌<◌, ◌≤◌, List, [], ◌∷◌, ◌++◌, length, Option, Some, None, Bool, true, false, inl, inr, ◌⊎◌, refl, sym, ap, ap₂, ◌∙◌, arith, take, drop, get_or, add-one}
use Rattle.std.specs.Option.{option_map}
use Rattle.csv.specs.Records.{field_at}
use Rattle.std.specs.Prelude.{slice_get, IfSome, if◌then◌else◌, ◌||◌, ◌&&◌, ◌==◌, not, is_some, is_none, unwrap_or}
use Rattle.std.specs.List.{list_all}
use Rattle.std.proofs.Math.Seq.{drop-cons, take-suc}
use Rattle.std.proofs.lemmas.List.{drop_all, take_all}
use Rattle.csv.specs.Machine.{Read, field_after, fields_after, is_end, next_record}
use Rattle.csv.specs.Reading.{records, strip_bom}
use Rattle.csv.specs.declared.parser.State.{State}
use Rattle.csv.specs.declared.parser.State.TheVariants as st
use Rattle.csv.specs.declared.parser.Action.{Action}
use Rattle.csv.specs.declared.parser.Action.TheVariants as act
use Rattle.std.specs.Borrow.{Bor}
use Rattle.std.proofs.lemmas.List.{map-append}
use Rattle.std.proofs.lemmas.Bool.{cases_Bool}
use Rattle.memchr.specs.Find.{IsFirst, Nowhere, Passes, is_byte, is_byte2}
use Rattle.gq_load_csv.specs.Lines.{is_plain_byte, line_from, says}
use Rattle.gq_load_csv.specs.Records.{config_of}
use Rattle.gq_load_csv.proofs.PartLemmas.{records_scan}
use Rattle.gq_load_csv.proofs.RecordLemmas.{left_is}

-- ---- plain bytes

pub both : (a b : Bool) → (a && b) ≡ true → (a ≡ true) × (b ≡ true)
both true b e = (refl, e)
both false b e = absurd (cc)

pub neither : (a b : Bool) → (not a && not b) ≡ true → (a ≡ false) × (b ≡ false)
neither false false e = (refl, refl)
neither false true e = absurd (cc)
neither true b e = absurd (cc)

pub plain_behind : (p : ℕ → Bool) (n : ℕ) (text : List ℕ) → list_all p text ≡ true → list_all p (drop n text) ≡ true
plain_behind p zero text e = e
plain_behind p (suc n) [] e = refl
plain_behind p (suc n) (c ∷ rest) e = plain_behind p n rest (both (p c) (list_all p rest) e).1

-- ---- searches for special bytes

pub no_such : (o : Option ℕ) (P : ℕ → Type 0) (n : ℕ) → IsFirst P 0 n o → is_none o ≡ true → Nowhere P 0 n
no_such None P n h e = h
no_such (Some k) P n h e = absurd (cc)

-- if no byte passes one test, all pass the other
all_pass : (p test : ℕ → Bool) → ((c : ℕ) → test c ≡ false → p c ≡ true) → (text : List ℕ) → Nowhere (Passes test text) 0 (length text) → list_all p text ≡ true
all_pass p test on [] none = refl
all_pass p test on (c ∷ rest) none = go (cases_Bool (test c)) (all_pass p test on rest (λ k low high passes. none (suc k) (omega arith) (omega arith) passes))
  where
    go : (test c ≡ true) ⊎ (test c ≡ false) → list_all p rest ≡ true → (p c && list_all p rest) ≡ true
    go (inl is) others = absurd (none 0 (omega arith) (omega arith) is)
    go (inr isnt) others = rw (on c isnt, others) refl

none_of : (a b : Bool) → (a || b) ≡ false → (not a && not b) ≡ true
none_of false false e = refl
none_of false true e = absurd (cc)
none_of true b e = absurd (cc)

pub no_quote_or_return : (q : ℕ) (text : List ℕ) → Nowhere (Passes (is_byte2 q 13) text) 0 (length text) → list_all (is_plain_byte (Some q)) text ≡ true
no_quote_or_return q text none = all_pass (is_plain_byte (Some q)) (is_byte2 q 13) (λ c e. none_of (c == q) (c == 13) e) text none

pub no_return : (text : List ℕ) → Nowhere (Passes (is_byte 13) text) 0 (length text) → list_all (is_plain_byte None) text ≡ true
no_return text none = all_pass (is_plain_byte None) (is_byte 13) (λ c e. rw e refl) text none

-- ---- pieces

pub said_more : (xs ys : List (Bor (List ℕ))) → says (xs ++ ys) ≡ says xs ++ says ys
said_more xs ys = map-append (λ (piece : Bor (List ℕ)). piece.now) xs ys

pub said_at : (xs : List (Bor (List ℕ))) (n : ℕ) → option_map (λ (piece : Bor (List ℕ)). piece.now) (slice_get xs n) ≡ field_at (says xs) n
unfolding field_at
said_at [] zero = refl
said_at [] (suc n) = refl
said_at (x ∷ xs) zero = refl
said_at (x ∷ xs) (suc n) = said_at xs n

pub said_here : (xs : List (Bor (List ℕ))) (n : ℕ) (o : Option (Bor (List ℕ))) → o ≡ slice_get xs n → IfSome o (λ piece. field_at (says xs) n ≡ Some piece.now)
said_here xs n None e = tt
said_here xs n (Some piece) e = sym (said_at xs n) ∙ ap (option_map (λ (p : Bor (List ℕ)). p.now)) (sym e)

-- ---- one line

abbrev stepped : Bool → Bool → Bool → State × Action
stepped a b e =
    if a then (st.StartField, act.EndField) else if b || e then ((if b then st.AfterCr else st.StartRecord), act.EndRecord) else (st.InField, act.Copy)

abbrev after : ℕ → Option ℕ → List (List ℕ) → List ℕ → ℕ → List ℕ → State × Action → Option Read
after d q f p c rest r =
    if is_end r.1 then Some (fields_after r.1 f p, r.0, rest)
    else next_record (config_of d q) r.0 (fields_after r.1 f p) (field_after r.1 c p) rest

abbrev as_read : List (List ℕ) × List ℕ → Option Read
as_read l = Some (l.0, st.StartRecord, l.1)

abbrev Lined : ℕ → Option ℕ → List ℕ → Type 0
Lined d q text = (f : List (List ℕ)) (p : List ℕ) → (next_record (config_of d q) st.InField f p text ≡ as_read (line_from d f p text))
    × (next_record (config_of d q) st.StartField f p text ≡ as_read (line_from d f p text))

one_byte : (d : ℕ) (q : Option ℕ) (c : ℕ) (rest : List ℕ) (f : List (List ℕ)) (p : List ℕ) → Lined d q rest → (a e : Bool)
    → after d q f p c rest (stepped a false e)
    ≡ as_read (if a then line_from d (f ++ p ∷ []) [] rest else if e then (f ++ p ∷ [], rest) else line_from d f (p ++ c ∷ []) rest)
one_byte d q c rest f p lined true e = (lined (f ++ p ∷ []) []).1
one_byte d q c rest f p lined false true = refl
one_byte d q c rest f p lined false false = (lined f (p ++ c ∷ [])).0

lines : (d : ℕ) (q : Option ℕ) (text : List ℕ) → list_all (is_plain_byte q) text ≡ true → Lined d q text
unfolding next_record line_from
lines d q [] e f p = (refl, refl)
lines d q (c ∷ rest) e f p = on (lines d q rest here.1)
  where
    here : (is_plain_byte q c ≡ true) × (list_all (is_plain_byte q) rest ≡ true)
    here = both (is_plain_byte q c) (list_all (is_plain_byte q) rest) e

    quote : (is_some q && (c == unwrap_or q 34)) ≡ false
    quote = (neither (is_some q && (c == unwrap_or q 34)) (c == 13) here.0).0

    cr : (c == 13) ≡ false
    cr = (neither (is_some q && (c == unwrap_or q 34)) (c == 13) here.0).1

    on : Lined d q rest → (next_record (config_of d q) st.InField f p (c ∷ rest) ≡ as_read (line_from d f p (c ∷ rest)))
        × (next_record (config_of d q) st.StartField f p (c ∷ rest) ≡ as_read (line_from d f p (c ∷ rest)))
    on lined =
        let same : after d q f p c rest (stepped (c == d) false (c == 10))
        ≡ as_read (if c == d then line_from d (f ++ p ∷ []) [] rest else if c == 10 then (f ++ p ∷ [], rest) else line_from d f (p ++ c ∷ []) rest) =
        one_byte d q c rest f p lined (c == d) (c == 10) in
        (rw cr same, rw (quote, cr) same)

-- if no line ends here, a record begins as a field does
begun : (d : ℕ) (q : Option ℕ) (c : ℕ) (rest : List ℕ) → (c == 13) ≡ false → (c == 10) ≡ false
    → next_record (config_of d q) st.StartRecord [] [] (c ∷ rest) ≡ next_record (config_of d q) st.StartField [] [] (c ∷ rest)
unfolding next_record
begun d q c rest cr line = rw (cr, line) refl

-- ---- the records of a text

-- a line end before a text changes nothing
pub end_before : (d : ℕ) (q : Option ℕ) (text : List ℕ) → records (config_of d q) (10 ∷ text) ≡ records (config_of d q) text
end_before d q text = records_scan (config_of d q) (10 ∷ text) ∙ sym (records_scan (config_of d q) text)

pub none_left : (d : ℕ) (q : Option ℕ) → records (config_of d q) [] ≡ []
none_left d q = records_scan (config_of d q) []

-- the first record is the first line
pub first_line : (d : ℕ) (q : Option ℕ) (c : ℕ) (rest : List ℕ) → list_all (is_plain_byte q) (c ∷ rest) ≡ true → (c == 10) ≡ false
    → records (config_of d q) (c ∷ rest) ≡ (line_from d [] [] (c ∷ rest)).0 ∷ records (config_of d q) (line_from d [] [] (c ∷ rest)).1
first_line d q c rest e line =
    left_is (config_of d q) st.StartRecord (c ∷ rest) ((line_from d [] [] (c ∷ rest)).0, st.StartRecord, (line_from d [] [] (c ∷ rest)).1)
    (begun d q c rest cr line ∙ (lines d q (c ∷ rest) e [] []).1)
  where
    cr : (c == 13) ≡ false
    cr = (neither (is_some q && (c == unwrap_or q 34)) (c == 13) (both (is_plain_byte q c) (list_all (is_plain_byte q) rest) e).0).1

-- ---- a pass over the bytes of a line

-- the bytes from one place up to another
abbrev pub piece : ℕ → ℕ → List ℕ → List ℕ
piece start place text = take (place - start) (drop start text)

-- the state of a read of a line, up to a place
pub record SoFar (separator : ℕ) (text : List ℕ) (fields : List (List ℕ)) (start place : ℕ) : Type 0 where
  pub order : start ≤ place
  pub line : line_from separator [] [] text ≡ line_from separator fields (piece start place text) (drop place text)

pub at_first : (separator : ℕ) (text : List ℕ) → SoFar separator text [] 0 0
at_first separator text = record { order = omega arith; line = refl }

-- the rest of a text at a place, by its first byte
pub byte_here : (text : List ℕ) (place c : ℕ) → place < length text → get_or text place 0 ≡ c → drop place text ≡ c ∷ drop (place + 1) text
byte_here text place c low is =
    drop-cons text place 0 low ∙ ap (λ b. b ∷ drop (suc place) text) is ∙ ap (λ n. c ∷ drop n text) (sym (add-one place))

got_behind : (n k : ℕ) (xs : List ℕ) → get_or (drop n xs) k 0 ≡ get_or xs (n + k) 0
got_behind zero k xs = let e : k ≡ zero + k = omega arith in ap (λ (n : ℕ). get_or xs n 0) e
got_behind (suc n) k [] = refl
got_behind (suc n) k (x ∷ xs) = let e : suc (n + k) ≡ suc n + k = omega arith in got_behind n k xs ∙ ap (λ (n : ℕ). get_or (x ∷ xs) n 0) e

pub length_behind : (n : ℕ) (xs : List ℕ) → n ≤ length xs → length (drop n xs) ≡ length xs - n
length_behind zero xs low = omega arith
length_behind (suc n) [] low = absurd (omega arith)
length_behind (suc n) (x ∷ xs) low = length_behind n xs (omega arith) ∙ omega arith

-- extending a piece by one byte
piece_more : (start place : ℕ) (text : List ℕ) (c : ℕ) → start ≤ place → place < length text → get_or text place 0 ≡ c → piece start (place + 1) text ≡ piece start place text ++ c ∷ []
piece_more start place text c order low is =
    let n : ℕ = place - start in
    let next : place + 1 - start ≡ suc n = omega arith in
    let there : start + n ≡ place = omega arith in
    let room : n < length (drop start text) = omega (arith, length_behind start text (omega arith)) in
    ap (λ k. take k (drop start text)) next ∙ take-suc (drop start text) n 0 room
    ∙ ap (λ b. piece start place text ++ b ∷ []) (got_behind start n text ∙ ap (λ k. get_or text k 0) there ∙ is)

piece_none : (place : ℕ) (text : List ℕ) → piece place place text ≡ []
piece_none place text = let none : place - place ≡ 0 = omega arith in ap (λ k. take k (drop place text)) none

pub turn : (separator : ℕ) (f : List (List ℕ)) (p : List ℕ) (c : ℕ) (rest : List ℕ) (a e : Bool) → (c == separator) ≡ a → (c == 10) ≡ e
    → line_from separator f p (c ∷ rest)
    ≡ (if a then line_from separator (f ++ p ∷ []) [] rest else if e then (f ++ p ∷ [], rest) else line_from separator f (p ++ c ∷ []) rest)
unfolding line_from
turn separator f p c rest a e is line = rw (is, line) refl

pub copied : (separator : ℕ) (text : List ℕ) (fields : List (List ℕ)) (start place c : ℕ) → SoFar separator text fields start place → place < length text
    → get_or text place 0 ≡ c → (c == separator) ≡ false → (c == 10) ≡ false → SoFar separator text fields start (place + 1)
copied separator text fields start place c so low is other line =
    record {
      order = omega (arith, so.order);
      line = so.line ∙ ap (line_from separator fields (piece start place text)) (byte_here text place c low is)
          ∙ turn separator fields (piece start place text) c (drop (place + 1) text) false false other line
          ∙ ap (λ p. line_from separator fields p (drop (place + 1) text)) (sym (piece_more start place text c so.order low is));
    }

pub parted : (separator : ℕ) (text : List ℕ) (fields new : List (List ℕ)) (start place c : ℕ) → SoFar separator text fields start place → place < length text
    → get_or text place 0 ≡ c → (c == separator) ≡ true → new ≡ fields ++ piece start place text ∷ [] → SoFar separator text new (place + 1) (place + 1)
parted separator text fields new start place c so low is same put =
    record {
      order = omega arith;
      line = so.line ∙ ap (line_from separator fields (piece start place text)) (byte_here text place c low is)
          ∙ turn separator fields (piece start place text) c (drop (place + 1) text) true (c == 10) same refl
          ∙ ap₂ (λ f p. line_from separator f p (drop (place + 1) text)) (sym put) (sym (piece_none (place + 1) text));
    }

pub ended : (separator : ℕ) (text : List ℕ) (fields new : List (List ℕ)) (start place c : ℕ) → SoFar separator text fields start place → place < length text
    → get_or text place 0 ≡ c → (c == separator) ≡ false → (c == 10) ≡ true → new ≡ fields ++ piece start place text ∷ []
    → line_from separator [] [] text ≡ (new, drop (place + 1) text)
ended separator text fields new start place c so low is other line put =
    so.line ∙ ap (line_from separator fields (piece start place text)) (byte_here text place c low is)
    ∙ turn separator fields (piece start place text) c (drop (place + 1) text) false true other line
    ∙ ap (λ (f : List (List ℕ)). (f, drop (place + 1) text)) (sym put)

-- the last line may lack a line end
pub all_read : (separator : ℕ) (text : List ℕ) (fields new : List (List ℕ)) (start place : ℕ) → SoFar separator text fields start place → length text ≤ place
    → place ≤ length text → new ≡ fields ++ drop start text ∷ [] → line_from separator [] [] text ≡ (new, drop (length text + 1) text)
unfolding line_from
all_read separator text fields new start place so high low put =
    let none : drop place text ≡ [] = drop_all place text high in
    let gone : drop (length text + 1) text ≡ [] = drop_all (length text + 1) text (omega arith) in
    let same : place ≡ length text = omega arith in
    let long : length (drop start text) ≤ place - start = omega (arith, length_behind start text (omega (arith, so.order)), same) in
    so.line ∙ ap (line_from separator fields (piece start place text)) none
    ∙ ap₂ (λ (f : List (List ℕ)) (r : List ℕ). (f, r)) (ap (λ p. fields ++ p ∷ []) (take_all (place - start) (drop start text) long) ∙ sym put) (sym gone)

-- ---- a byte order mark

pub no_mark : (text : List ℕ) → (get_or text 0 0 == 239) ≡ false → strip_bom text ≡ text
unfolding strip_bom
no_mark [] isnt = refl
no_mark (a ∷ []) isnt = refl
no_mark (a ∷ b ∷ []) isnt = refl
no_mark (a ∷ b ∷ c ∷ rest) isnt = rw isnt refl

-- ---- a read of a line

pub empty : (text : List ℕ) → length text ≡ 0 → text ≡ []
empty [] e = refl
empty (c ∷ rest) e = absurd (omega (arith, e))

pub line_of : (d : ℕ) (q : Option ℕ) (text : List ℕ) → list_all (is_plain_byte q) text ≡ true → (get_or text 0 0 == 10) ≡ false → 0 < length text
    → records (config_of d q) text ≡ (line_from d [] [] text).0 ∷ records (config_of d q) (line_from d [] [] text).1
line_of d q [] e line some = absurd (omega (arith, some))
line_of d q (c ∷ rest) e line some = first_line d q c rest e line

-- the records of a text after its first line is read
pub one_read : (d : ℕ) (q : Option ℕ) (all text behind : List ℕ) (fields : List (List ℕ)) (size : ℕ) → records (config_of d q) all ≡ records (config_of d q) text
    → list_all (is_plain_byte q) text ≡ true → (get_or text 0 0 == 10) ≡ false → 0 < length text → line_from d [] [] text ≡ (fields, drop (size + 1) text) → behind ≡ drop (size + 1) text
    → records (config_of d q) all ≡ fields ∷ records (config_of d q) behind
one_read d q all text behind fields size same plain line some read is =
    same ∙ line_of d q text plain line some
    ∙ ap (λ (l : List (List ℕ) × List ℕ). l.0 ∷ records (config_of d q) l.1) read
    ∙ ap (λ (rest : List ℕ). fields ∷ records (config_of d q) rest) (sym is)

pub no_byte : (text : List ℕ) → length text < 1 → strip_bom text ≡ text
unfolding strip_bom
no_byte [] low = refl
no_byte (c ∷ rest) low = absurd (omega (arith, low))
