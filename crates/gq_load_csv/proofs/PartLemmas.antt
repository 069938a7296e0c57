-- Parts: a file that is cut after a line end, with no quote before the cut. Its records are those of the first part
-- followed by those of the second.
use Rattle.std.proofs.Common.{◌≡◌, ◌⊎◌, ℕ, zero, suc, ◌+◌, ◌<◌, List, [], ◌∷◌, ◌++◌, length, Option, Some, None, Bool, true, false, inl, inr, refl, sym, ap, ap₂, ◌∙◌, arith}
use Rattle.std.specs.Prelude.{if◌then◌else◌, ◌||◌, ◌&&◌, ◌==◌, is_some, unwrap_or}
use Rattle.csv.specs.Machine.{Read, ends_at_end, field_after, fields_after, is_end, next_record, step, in_field, start_field, start_record}
use Rattle.csv.specs.Reading.{records, records_from, records_next, strip_bom, is_bom}
use Rattle.csv.specs.declared.parser.Config.{Config}
use Rattle.csv.specs.declared.parser.State.{State}
use Rattle.csv.specs.declared.parser.State.TheVariants as st
use Rattle.csv.specs.declared.parser.Action.{Action}
use Rattle.csv.specs.declared.parser.Action.TheVariants as act
use Rattle.gq_load_csv.specs.Records.{config_of, records_of}
use Rattle.gq_load_csv.proofs.RecordLemmas.{Leaves, fewer, nothing, leaves, at_end}

-- ---- the records of a text, byte by byte

abbrev scan : Config → State → List (List ℕ) → List ℕ → List ℕ → List (List (List ℕ))
scan cfg s f p [] = if ends_at_end s then (f ++ (p ∷ [])) ∷ [] else []
scan cfg s f p (c ∷ rest) =
    if is_end (step cfg s c).1 then fields_after (step cfg s c).1 f p ∷ scan cfg (step cfg s c).0 [] [] rest
    else scan cfg (step cfg s c).0 (fields_after (step cfg s c).1 f p) (field_after (step cfg s c).1 c p) rest

scan_next : (cfg : Config) (s : State) (f : List (List ℕ)) (p xs : List ℕ) → scan cfg s f p xs ≡ records_next (λ t ys. scan cfg t [] [] ys) (next_record cfg s f p xs)
unfolding next_record
scan_next cfg s f p [] = go (ends_at_end s)
  where
    go : (b : Bool) → (if b then (f ++ (p ∷ [])) ∷ [] else []) ≡ records_next (λ t ys. scan cfg t [] [] ys) (if b then Some (f ++ (p ∷ []), st.StartRecord, []) else None)
    go true = refl
    go false = refl
scan_next cfg s f p (c ∷ rest) = go (is_end (step cfg s c).1) (scan_next cfg (step cfg s c).0 (fields_after (step cfg s c).1 f p) (field_after (step cfg s c).1 c p) rest)
  where
    go : (b : Bool)
        → scan cfg (step cfg s c).0 (fields_after (step cfg s c).1 f p) (field_after (step cfg s c).1 c p) rest
        ≡ records_next (λ t ys. scan cfg t [] [] ys) (next_record cfg (step cfg s c).0 (fields_after (step cfg s c).1 f p) (field_after (step cfg s c).1 c p) rest)
        → (if b then fields_after (step cfg s c).1 f p ∷ scan cfg (step cfg s c).0 [] [] rest
        else scan cfg (step cfg s c).0 (fields_after (step cfg s c).1 f p) (field_after (step cfg s c).1 c p) rest)
        ≡ records_next (λ t ys. scan cfg t [] [] ys)
        (if b then Some (fields_after (step cfg s c).1 f p, (step cfg s c).0, rest)
        else next_record cfg (step cfg s c).0 (fields_after (step cfg s c).1 f p) (field_after (step cfg s c).1 c p) rest)
    go true rec = refl
    go false rec = rec

from_scan : (cfg : Config) (n : ℕ) (s : State) (xs : List ℕ) → length xs < n → records_from cfg n s xs ≡ scan cfg s [] [] xs
unfolding records_from
from_scan cfg zero s xs low = absurd (omega arith)
from_scan cfg (suc n) s xs low = go (next_record cfg s [] [] xs) (λ q e. leaves cfg xs s [] [] q e) (λ t ys l. from_scan cfg n t ys l) ∙ sym (scan_next cfg s [] [] xs)
  where
    after : (q : Read) → Leaves xs q → ((t : State) (ys : List ℕ) → length ys < n → records_from cfg n t ys ≡ scan cfg t [] [] ys) → records_from cfg n q.1 q.2 ≡ scan cfg q.1 [] [] q.2
    after q (fewer lt) same = same q.1 q.2 (omega arith)
    after q (nothing start none) same = rw (start, none) (at_end cfg n)

    go : (o : Option Read) → ((q : Read) → o ≡ Some q → Leaves xs q) → ((t : State) (ys : List ℕ) → length ys < n → records_from cfg n t ys ≡ scan cfg t [] [] ys)
        → records_next (records_from cfg n) o ≡ records_next (λ t ys. scan cfg t [] [] ys) o
    go None l same = refl
    go (Some q) l same = ap (λ rows. q.0 ∷ rows) (after q (l q refl) same)

pub records_scan : (cfg : Config) (xs : List ℕ) → records cfg xs ≡ scan cfg st.StartRecord [] [] xs
records_scan cfg xs = from_scan cfg (length xs + 1) st.StartRecord xs (omega arith)

-- ---- outside of quotes

abbrev is_begun : State → Bool
is_begun st.StartField = true
is_begun st.InField = true
is_begun _ = false

abbrev is_fresh : State → Bool
is_fresh st.StartRecord = true
is_fresh st.AfterCr = true
is_fresh _ = false

-- inside a record, or between two records with nothing collected yet
abbrev Plain : State → List (List ℕ) → List ℕ → Type 0
Plain s f p = (is_begun s ≡ true) ⊎ ((is_fresh s ≡ true) × (f ≡ []) × (p ≡ []))

-- whether a byte is the quote
abbrev pub is_quote : Option ℕ → ℕ → Bool
is_quote quote c = is_some quote && (c == unwrap_or quote 34)

-- no byte is the quote
abbrev pub HasNoQuote : Option ℕ → List ℕ → Type 0
HasNoQuote quote [] = Unit {0}
HasNoQuote quote (c ∷ rest) = (is_quote quote c ≡ false) × HasNoQuote quote rest

-- the effect of a byte that isn't a quote
data Goes (fresh : Bool) (r : State × Action) : Type 0 where
  within : is_begun r.0 ≡ true → is_end r.1 ≡ false → Goes fresh r
  ends : is_fresh r.0 ≡ true → is_end r.1 ≡ true → Goes fresh r
  skips : fresh ≡ true → is_fresh r.0 ≡ true → r.1 ≡ act.Skip → Goes fresh r

field_goes : (fresh : Bool) (d c : ℕ) (q : Option ℕ) → Goes fresh (in_field (config_of d q) c)
field_goes fresh d c q = go (c == d) (c == 13) (c == 10)
  where
    go : (a b e : Bool) → Goes fresh (if a then (st.StartField, act.EndField) else if b || e then ((if b then st.AfterCr else st.StartRecord), act.EndRecord) else (st.InField, act.Copy))
    go true b e = within refl refl
    go false true e = ends refl refl
    go false false true = ends refl refl
    go false false false = within refl refl

start_field_goes : (fresh : Bool) (d c : ℕ) (q : Option ℕ) → is_quote q c ≡ false → Goes fresh (start_field (config_of d q) c)
start_field_goes fresh d c q none = rw none (field_goes fresh d c q)

start_record_goes : (d c : ℕ) (q : Option ℕ) → is_quote q c ≡ false → Goes true (start_record (config_of d q) c)
start_record_goes d c q none = go (c == 13) (c == 10) (start_field_goes true d c q none)
  where
    go : (b e : Bool) → Goes true (start_field (config_of d q) c) → Goes true (if b || e then (st.StartRecord, act.Skip) else start_field (config_of d q) c)
    go true e on = skips refl refl refl
    go false true on = skips refl refl refl
    go false false on = on

after_cr_goes : (d c : ℕ) (q : Option ℕ) → is_quote q c ≡ false → Goes true (step (config_of d q) st.AfterCr c)
after_cr_goes d c q none = go (c == 10) (start_record_goes d c q none)
  where
    go : (b : Bool) → Goes true (start_record (config_of d q) c) → Goes true (if b then (st.StartRecord, act.Skip) else start_record (config_of d q) c)
    go true on = skips refl refl refl
    go false on = on

-- ---- after a line end

abbrev Parted : ℕ → Option ℕ → List ℕ → List ℕ → Type 0
Parted d q a b = (s : State) (f : List (List ℕ)) (p : List ℕ) → Plain s f p
    → scan (config_of d q) s f p (a ++ 10 ∷ b) ≡ scan (config_of d q) s f p (a ++ 10 ∷ []) ++ scan (config_of d q) st.StartRecord [] [] b

-- if the text after a byte splits, so does the text with that byte
one_byte : (d : ℕ) (q : Option ℕ) (c : ℕ) (a b : List ℕ) (fresh : Bool) (f : List (List ℕ)) (p : List ℕ) (r : State × Action) → Parted d q a b → (fresh ≡ true → (f ≡ []) × (p ≡ [])) → Goes fresh r
    → (if is_end r.1 then fields_after r.1 f p ∷ scan (config_of d q) r.0 [] [] (a ++ 10 ∷ b) else scan (config_of d q) r.0 (fields_after r.1 f p) (field_after r.1 c p) (a ++ 10 ∷ b))
    ≡ (if is_end r.1 then fields_after r.1 f p ∷ scan (config_of d q) r.0 [] [] (a ++ 10 ∷ []) else scan (config_of d q) r.0 (fields_after r.1 f p) (field_after r.1 c p) (a ++ 10 ∷ []))
    ++ scan (config_of d q) st.StartRecord [] [] b
one_byte d q c a b fresh f p r parted none (within is on) = rw on (parted r.0 (fields_after r.1 f p) (field_after r.1 c p) (inl is))
one_byte d q c a b fresh f p r parted none (ends is end) = rw end (ap (λ rows. fields_after r.1 f p ∷ rows) (parted r.0 [] [] (inr (is, refl, refl))))
one_byte d q c a b fresh f p r parted none (skips was is skip) = let e = none was in rw skip (parted r.0 f p (inr (is, e.0, e.1)))

scan_parts : (d : ℕ) (q : Option ℕ) (a b : List ℕ) → (10 == d) ≡ false → is_quote q 10 ≡ false → HasNoQuote q a → Parted d q a b
scan_parts d q [] b line no_quote tt = at_line
  where
    at_line : Parted d q [] b
    at_line st.StartField f p (inl is) = rw (no_quote, line) refl
    at_line st.InField f p (inl is) = rw line refl
    at_line st.StartRecord f p (inr is) = rw (is.1, is.2) refl
    at_line st.AfterCr f p (inr is) = rw (is.1, is.2) refl
    at_line st.StartRecord f p (inl is) = absurd (cc)
    at_line st.AfterCr f p (inl is) = absurd (cc)
    at_line st.StartField f p (inr is) = absurd (let e = is.0 in cc)
    at_line st.InField f p (inr is) = absurd (let e = is.0 in cc)
    at_line st.InQuoted f p (inl is) = absurd (cc)
    at_line st.InQuoted f p (inr is) = absurd (let e = is.0 in cc)
    at_line st.AfterQuote f p (inl is) = absurd (cc)
    at_line st.AfterQuote f p (inr is) = absurd (let e = is.0 in cc)
    at_line st.InEscape f p (inl is) = absurd (cc)
    at_line st.InEscape f p (inr is) = absurd (let e = is.0 in cc)
    at_line st.InComment f p (inl is) = absurd (cc)
    at_line st.InComment f p (inr is) = absurd (let e = is.0 in cc)
scan_parts d q (c ∷ a) b line no_quote none = at_byte (scan_parts d q a b line no_quote none.1)
  where
    at_byte : Parted d q a b → Parted d q (c ∷ a) b
    at_byte behind st.StartField f p (inl is) = one_byte d q c a b false f p (step (config_of d q) st.StartField c) behind (λ e. absurd (cc)) (start_field_goes false d c q none.0)
    at_byte behind st.InField f p (inl is) = one_byte d q c a b false f p (step (config_of d q) st.InField c) behind (λ e. absurd (cc)) (field_goes false d c q)
    at_byte behind st.StartRecord f p (inr is) = one_byte d q c a b true f p (step (config_of d q) st.StartRecord c) behind (λ e. (is.1, is.2)) (start_record_goes d c q none.0)
    at_byte behind st.AfterCr f p (inr is) = one_byte d q c a b true f p (step (config_of d q) st.AfterCr c) behind (λ e. (is.1, is.2)) (after_cr_goes d c q none.0)
    at_byte behind st.StartRecord f p (inl is) = absurd (cc)
    at_byte behind st.AfterCr f p (inl is) = absurd (cc)
    at_byte behind st.StartField f p (inr is) = absurd (let e = is.0 in cc)
    at_byte behind st.InField f p (inr is) = absurd (let e = is.0 in cc)
    at_byte behind st.InQuoted f p (inl is) = absurd (cc)
    at_byte behind st.InQuoted f p (inr is) = absurd (let e = is.0 in cc)
    at_byte behind st.AfterQuote f p (inl is) = absurd (cc)
    at_byte behind st.AfterQuote f p (inr is) = absurd (let e = is.0 in cc)
    at_byte behind st.InEscape f p (inl is) = absurd (cc)
    at_byte behind st.InEscape f p (inr is) = absurd (let e = is.0 in cc)
    at_byte behind st.InComment f p (inl is) = absurd (cc)
    at_byte behind st.InComment f p (inr is) = absurd (let e = is.0 in cc)

-- ---- a file

-- the records of a text that is cut after a line end, with no quote before the cut
pub records_parts : (d : ℕ) (q : Option ℕ) (a b : List ℕ) → (10 == d) ≡ false → is_quote q 10 ≡ false → HasNoQuote q a
    → records (config_of d q) (a ++ 10 ∷ b) ≡ records (config_of d q) (a ++ 10 ∷ []) ++ records (config_of d q) b
records_parts d q a b line no_quote none =
    records_scan (config_of d q) (a ++ 10 ∷ b)
    ∙ scan_parts d q a b line no_quote none st.StartRecord [] [] (inr (refl, refl, refl))
    ∙ sym (ap₂ (λ (xs ys : List (List (List ℕ))). xs ++ ys) (records_scan (config_of d q) (a ++ 10 ∷ [])) (records_scan (config_of d q) b))

-- a byte order mark is only at the beginning, and a cut at a line end doesn't split one
no_bom_line : (b : List ℕ) → strip_bom (10 ∷ b) ≡ 10 ∷ b
unfolding strip_bom
no_bom_line [] = refl
no_bom_line (c ∷ []) = refl
no_bom_line (c ∷ e ∷ rest) = refl

no_bom_one : (x : ℕ) (b : List ℕ) → strip_bom (x ∷ 10 ∷ b) ≡ x ∷ 10 ∷ b
unfolding strip_bom
no_bom_one x [] = refl
no_bom_one x (c ∷ rest) = go (x == 239)
  where
    go : (t : Bool) → (if (t && false) && (c == 191) then rest else x ∷ 10 ∷ c ∷ rest) ≡ x ∷ 10 ∷ c ∷ rest
    go true = refl
    go false = refl

no_bom_two : (x y : ℕ) (b : List ℕ) → strip_bom (x ∷ y ∷ 10 ∷ b) ≡ x ∷ y ∷ 10 ∷ b
unfolding strip_bom
no_bom_two x y b = go ((x == 239) && (y == 187))
  where
    go : (t : Bool) → (if t && false then b else x ∷ y ∷ 10 ∷ b) ≡ x ∷ y ∷ 10 ∷ b
    go true = refl
    go false = refl

-- the records of a file that is cut after a line end, with no quote before the cut and no byte order mark after it
pub file_parts : (d : ℕ) (q : Option ℕ) (a b : List ℕ) → (10 == d) ≡ false → is_quote q 10 ≡ false → HasNoQuote q a → strip_bom b ≡ b
    → records_of d q (a ++ 10 ∷ b) ≡ records_of d q (a ++ 10 ∷ []) ++ records_of d q b
unfolding strip_bom
file_parts d q [] b line no_quote none plain =
    ap (records (config_of d q)) (no_bom_line b) ∙ records_parts d q [] b line no_quote none
    ∙ ap (λ xs. records (config_of d q) (10 ∷ []) ++ records (config_of d q) xs) (sym plain)
file_parts d q (x ∷ []) b line no_quote none plain =
    ap (records (config_of d q)) (no_bom_one x b) ∙ records_parts d q (x ∷ []) b line no_quote none
    ∙ ap₂ (λ ys xs. records (config_of d q) ys ++ records (config_of d q) xs) (sym (no_bom_one x [])) (sym plain)
file_parts d q (x ∷ y ∷ []) b line no_quote none plain =
    ap (records (config_of d q)) (no_bom_two x y b) ∙ records_parts d q (x ∷ y ∷ []) b line no_quote none
    ∙ ap₂ (λ ys xs. records (config_of d q) ys ++ records (config_of d q) xs) (sym (no_bom_two x y [])) (sym plain)
file_parts d q (x ∷ y ∷ z ∷ a) b line no_quote none plain = go (is_bom x y z) (records_parts d q (x ∷ y ∷ z ∷ a) b line no_quote none) (records_parts d q a b line no_quote none.1.1.1)
  where
    go : (t : Bool)
        → records (config_of d q) (x ∷ y ∷ z ∷ a ++ 10 ∷ b) ≡ records (config_of d q) (x ∷ y ∷ z ∷ a ++ 10 ∷ []) ++ records (config_of d q) b
        → records (config_of d q) (a ++ 10 ∷ b) ≡ records (config_of d q) (a ++ 10 ∷ []) ++ records (config_of d q) b
        → records (config_of d q) (if t then a ++ 10 ∷ b else x ∷ y ∷ z ∷ (a ++ 10 ∷ b))
        ≡ records (config_of d q) (if t then a ++ 10 ∷ [] else x ∷ y ∷ z ∷ (a ++ 10 ∷ [])) ++ records (config_of d q) (strip_bom b)
    go true whole rest = rest ∙ ap (λ xs. records (config_of d q) (a ++ 10 ∷ []) ++ records (config_of d q) xs) (sym plain)
    go false whole rest = whole ∙ ap (λ xs. records (config_of d q) (x ∷ y ∷ z ∷ (a ++ 10 ∷ [])) ++ records (config_of d q) xs) (sym plain)
