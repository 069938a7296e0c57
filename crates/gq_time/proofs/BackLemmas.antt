-- A written text reads as its seconds.
use Rattle.std.proofs.Common.{◌≡◌, ℕ, ◌-◌, ◌≤◌, false, List, [], ◌∷◌, ◌++◌, reverse, length, get_or, refl, sym, ap, subst, ◌∙◌, arith, inl, inr, ℤ, unsigned_abs}
use Rattle.std.proofs.lemmas.List.{length-append, get_or_append_left, get_or-append_right, get_or-reverse, reverse-reverse}
use Rattle.std.proofs.lemmas.Bool.Decides.{nat_tests}
use Rattle.jiff_core.specs.declared.civil.datetime.DateTime.{DateTime}
use Rattle.gq_time.specs.Texts.{digits, date_text, clock_text, moment_text, IsWritten}
use Rattle.gq_time.specs.Reading.{is_blank, without_first_blanks, trimmed, Tells, Reads}
use Rattle.gq_time.proofs.DigitLemmas.{length-digits, digits_byte}
use Rattle.gq_time.proofs.TimeLemmas.{length-date_text, length-clock_text}

-- a text that begins with a byte other than a blank or a tab keeps its beginning
kept : (text : List ℕ) → 33 ≤ get_or text 0 0 → without_first_blanks text ≡ text
kept [] h = refl
kept (c ∷ text) h = let no : is_blank c ≡ false = grind (arith, nat_tests) in rw no refl

-- and one that also ends so keeps both ends
kept_whole : (text : List ℕ) → 33 ≤ get_or text 0 0 → 1 ≤ length text → 33 ≤ get_or text (length text - 1) 0 → trimmed text ≡ text
kept_whole text first some last =
    let back : 33 ≤ get_or (reverse text) 0 0 = rw (get_or-reverse text 0 0 (omega arith)) (subst (λ i. 33 ≤ get_or text i 0) (omega arith) last) in
    ap (λ l. reverse (without_first_blanks (reverse l))) (kept text first) ∙ ap reverse (kept (reverse text) back) ∙ reverse-reverse text

-- the first byte of a moment's text, its last one, and its length
record HasEnds (text : List ℕ) : Type 0 where
  first : 33 ≤ get_or text 0 0
  long : length text ≡ 19
  last : 33 ≤ get_or text 18 0

has_ends : (m : DateTime) → HasEnds (moment_text m)
has_ends m =
    let y = unsigned_abs m.date.year in
    let t = m.time in
    let date = date_text 45 m.date in
    let clock = clock_text t in
    let front = digits 4 y in
    let first = digits_byte 4 y 0 (omega arith) in
    let last = digits_byte 2 t.second 1 (omega arith) in
    let date_long = length-date_text 45 m.date in
    let clock_long = length-clock_text t in
    let minute_on = digits 2 t.minute ++ 58 ∷ digits 2 t.second in
    let one = get_or_append_left date (32 ∷ clock) 0 0 (omega arith) in
    let two = get_or_append_left front (45 ∷ (digits 2 m.date.month ++ 45 ∷ digits 2 m.date.day)) 0 0 (omega (arith, length-digits 4 y)) in
    let a = get_or-append_right date (32 ∷ clock) 10 18 0 date_long (omega arith) in
    let b = get_or-append_right (digits 2 t.hour) (58 ∷ minute_on) 2 7 0 (length-digits 2 t.hour) (omega arith) in
    let c = get_or-append_right (digits 2 t.minute) (58 ∷ digits 2 t.second) 2 4 0 (length-digits 2 t.minute) (omega arith) in
    record {
      first = omega (arith, one, two, first);
      long = omega (arith, length-append date (32 ∷ clock), date_long, clock_long);
      last = omega (arith, a, b, c, last);
    }

-- a written text reads as its seconds
pub reads_back : (s : ℤ) (text : List ℕ) → IsWritten s text → Reads text s
reads_back s text h =
    let m = h.moment in
    let ends = has_ends m in
    let same : trimmed text ≡ moment_text m = ap trimmed h.is ∙ kept_whole (moment_text m) ends.first (omega (arith, ends.long)) (subst (λ i. 33 ≤ get_or (moment_text m) i 0) (omega (arith, ends.long)) ends.last) in
    subst (λ l. Tells l s) (sym same) (inl (
      m,
      record {
        mark = 45;
        behind = 32 ∷ clock_text m.time;
        is_mark = inl refl;
        from_year_0 = h.of_moment.from_year_0;
        whole = refl;
        time = inr (inl refl);
      },
      h.of_moment.are,
    ))
