-- What remains of a text after a record is read.
use Rattle.std.proofs.Common.{◌≡◌, ℕ, zero, suc, ◌+◌, ◌<◌, List, [], ◌∷◌, ◌++◌, length, Option, Some, None, Bool, true, false, refl, sym, ap, ap₂, ◌∙◌, arith, add-one, Bor}
use Rattle.std.specs.Prelude.{if◌then◌else◌, ◌||◌, ◌&&◌, ◌==◌, not, drop, take}
use Rattle.std.proofs.Common.{inl, inr}
use Rattle.std.specs.Option.{option_map, is_none}
use Rattle.csv.specs.Machine.{Read, ends_at_end, field_after, fields_after, is_end, next_record, step}
use Rattle.csv.specs.Reading.{Reached, ReadRecord, Ready, records_from, records_next, source_of, buffered_of, strip_bom, has_failed}
use Rattle.csv.specs.declared.parser.Config.{Config}
use Rattle.csv.specs.declared.parser.State.{State}
use Rattle.csv.specs.declared.parser.State.TheVariants as st
use Rattle.csv.specs.declared.reader.Reader.{Reader}
use Rattle.csv.specs.declared.reader.Headers.{Headers}
use Rattle.csv.proofs.ReadFacts.{rows-more, rows-end}
use Rattle.std.proofs.lemmas.Bool.{false≢true}
use Rattle.gq_load_csv.specs.Unread.{left, unread, is_ready}

-- ---- enough iterations

-- what a record leaves: fewer bytes, or nothing if none were left
pub data Leaves (xs : List ℕ) (q : Read) : Type 0 where
  fewer : length q.2 < length xs → Leaves xs q
  nothing : q.1 ≡ st.StartRecord → q.2 ≡ [] → Leaves xs q

some-inj : {A : Type 0} {x y : A} → Some x ≡ Some y → x ≡ y
some-inj {A} {x} {y} e = ap (λ (o : Option A). or o x) e
  where
    or : Option A → A → A
    or None d = d
    or (Some a) d = a

pub leaves : (cfg : Config) (xs : List ℕ) (s : State) (f : List (List ℕ)) (p : List ℕ) (q : Read) → next_record cfg s f p xs ≡ Some q → Leaves xs q
unfolding next_record
leaves cfg [] s f p q e = go (ends_at_end s) e
  where
    go : (b : Bool) → (if b then Some (f ++ (p ∷ []), st.StartRecord, []) else None) ≡ Some q → Leaves [] q
    go true h = let i = some-inj h in nothing (sym (ap (λ (r : Read). r.1) i)) (sym (ap (λ (r : Read). r.2) i))
    go false h = cc
leaves cfg (c ∷ rest) s f p q e = go (is_end (step cfg s c).1) (λ h. leaves cfg rest (step cfg s c).0 (fields_after (step cfg s c).1 f p) (field_after (step cfg s c).1 c p) q h) e
  where
    deeper : Leaves rest q → Leaves (c ∷ rest) q
    deeper (fewer lt) = fewer (omega arith)
    deeper (nothing a d) = nothing a d

    go : (b : Bool) → (next_record cfg (step cfg s c).0 (fields_after (step cfg s c).1 f p) (field_after (step cfg s c).1 c p) rest ≡ Some q → Leaves rest q)
        → (if b then Some (fields_after (step cfg s c).1 f p, (step cfg s c).0, rest) else next_record cfg (step cfg s c).0 (fields_after (step cfg s c).1 f p) (field_after (step cfg s c).1 c p) rest) ≡ Some q → Leaves (c ∷ rest) q
    go true rec h = let i : rest ≡ q.2 = ap (λ (r : Read). r.2) (some-inj h) in let l = ap length i in fewer (omega arith)
    go false rec h = deeper (rec h)

-- at the end of a text no record is left, however many iterations there are
pub at_end : (cfg : Config) (n : ℕ) → records_from cfg n st.StartRecord [] ≡ []
unfolding records_from next_record
at_end cfg zero = refl
at_end cfg (suc n) = refl

-- any number of iterations above the number of bytes gives the same records
enough : (cfg : Config) (n m : ℕ) (s : State) (xs : List ℕ) → length xs < n → length xs < m → records_from cfg n s xs ≡ records_from cfg m s xs
unfolding records_from
enough cfg zero m s xs a b = absurd (omega arith)
enough cfg (suc n) zero s xs a b = absurd (omega arith)
enough cfg (suc n) (suc m) s xs a b = go (next_record cfg s [] [] xs) (λ q e. leaves cfg xs s [] [] q e) (λ t ys c d. enough cfg n m t ys c d)
  where
    after : (q : Read) → Leaves xs q → ((t : State) (ys : List ℕ) → length ys < n → length ys < m → records_from cfg n t ys ≡ records_from cfg m t ys) → records_from cfg n q.1 q.2 ≡ records_from cfg m q.1 q.2
    after q (fewer lt) same = same q.1 q.2 (omega arith) (omega arith)
    after q (nothing start none) same = rw (start, none) (at_end cfg n ∙ sym (at_end cfg m))

    go : (o : Option Read) → ((q : Read) → o ≡ Some q → Leaves xs q) → ((t : State) (ys : List ℕ) → length ys < n → length ys < m → records_from cfg n t ys ≡ records_from cfg m t ys) → records_next (records_from cfg n) o ≡ records_next (records_from cfg m) o
    go None l same = refl
    go (Some q) l same = ap (λ rows. q.0 ∷ rows) (after q (l q refl) same)

-- ---- one record

-- what is left of a text, given its next record
pub left_is : (cfg : Config) (s : State) (xs : List ℕ) (q : Read) → next_record cfg s [] [] xs ≡ Some q → left cfg s (Some xs) ≡ q.0 ∷ left cfg q.1 (Some q.2)
unfolding records_from
left_is cfg s xs q e = rw add-one (ap (records_next (records_from cfg (length xs))) e ∙ ap (λ rows. q.0 ∷ rows) (after (leaves cfg xs s [] [] q e)))
  where
    after : Leaves xs q → records_from cfg (length xs) q.1 q.2 ≡ records_from cfg (length q.2 + 1) q.1 q.2
    after (fewer lt) = enough cfg (length xs) (length q.2 + 1) q.1 q.2 (omega arith) (omega arith)
    after (nothing start none) = rw (start, none) (at_end cfg (length xs) ∙ sym (at_end cfg 1))

left_none : (cfg : Config) (s : State) (xs : List ℕ) → next_record cfg s [] [] xs ≡ None → left cfg s (Some xs) ≡ []
unfolding records_from
left_none cfg s xs e = rw add-one (ap (records_next (records_from cfg (length xs))) e)

-- ---- a reader's read

abbrev rest : Bor (List ℕ) → Option (List ℕ)
rest s = Some s.now

-- a reader of bytes has a known rest
known : (r : Reader (Bor (List ℕ))) → has_failed r ≡ false → (xs : List ℕ) × (source_of rest r ≡ Some xs)
known r goes = rw goes (go (not r.bom_checked && (r.at == 0) && (r.filled == 0)))
  where
    go : (b : Bool) → (xs : List ℕ) × ((if b then option_map strip_bom (rest r.rdr) else buffered_of (rest r.rdr) r) ≡ Some xs)
    go true = (strip_bom r.rdr.now, refl)
    go false = (drop r.at (take r.filled r.buffer) ++ r.rdr.now, refl)

taken : (a b : Reader (Bor (List ℕ))) (fields : List (List ℕ)) → has_failed a ≡ false → ReadRecord rest a b true fields
    → unread rest a ≡ fields ∷ unread rest b
unfolding Reached
taken a b fields goes read =
    let k = known a goes in
    let g = rows-more rest a b fields a.config a.state k.0 k.0 [] refl k.1 (refl, refl) read in
    let p = g.2.0 in
    let is = left_is a.config a.state k.0 p g.2.1 in
    ap (left a.config a.state) k.1 ∙ is ∙ ap₂ (λ (f : List (List ℕ)) (rows : List (List (List ℕ))). f ∷ rows) (sym g.2.2)
    (ap₂ (λ (s : State) (xs : List ℕ). left a.config s (Some xs)) g.2.3.0 g.2.3.1 ∙ ap₂ (λ (c : Config) (o : Option (List ℕ)). left c b.state o) (sym read.2) (sym g.1))

ended : (a b : Reader (Bor (List ℕ))) (fields : List (List ℕ)) → has_failed a ≡ false → ReadRecord rest a b false fields → unread rest a ≡ []
ended a b fields goes read =
    let k = known a goes in
    ap (left a.config a.state) k.1 ∙ left_none a.config a.state k.0 (rows-end rest a b fields a.config k.0 refl k.1 read)

failed : (a : Reader (Bor (List ℕ))) → has_failed a ≡ true → unread rest a ≡ []
failed a gone = rw gone

pub ready : (r : Reader (Bor (List ℕ))) → is_ready r ≡ true → Ready r
ready r is = go r.first r.has_headers r.headers refl refl refl is
  where
    go : (first named : Bool) (headers : Option Headers) → r.first ≡ first → r.has_headers ≡ named → r.headers ≡ headers
        → (first || (not named && is_none headers)) ≡ true → Ready r
    go true named headers f n h is = inl f
    go false false None f n h is = inr (inr (n, h))
    go false false (Some x) f n h is = absurd (false≢true is)
    go false true headers f n h is = absurd (false≢true is)

-- what a reader has left, before and after a read
pub next_is : (a b : Reader (Bor (List ℕ))) (fields : List (List ℕ)) (found : Bool)
    → (has_failed a ≡ false → ReadRecord rest a b found fields) → (has_failed a ≡ true → found ≡ false)
    → unread rest a ≡ (if found then fields ∷ unread rest b else [])
next_is a b fields found read gone = go (has_failed a) found refl read gone
  where
    go : (gone found : Bool) → has_failed a ≡ gone → (has_failed a ≡ false → ReadRecord rest a b found fields) → (has_failed a ≡ true → found ≡ false)
        → unread rest a ≡ (if found then fields ∷ unread rest b else [])
    go true true is read none = absurd (false≢true (sym (none is)))
    go true false is read none = failed a is
    go false true is read none = taken a b fields is (read is)
    go false false is read none = ended a b fields is (read is)
