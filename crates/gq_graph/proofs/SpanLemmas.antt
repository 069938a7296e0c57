-- SpanLemmas: rows as parts of a list, when rows are added and written over.
use Rattle.std.proofs.Common.{inl, inr, ℕ, suc, ◌+◌, ◌-◌, ◌<◌, ◌≤◌, ◌≡◌, ◌≢◌, List, [], ◌∷◌, ◌++◌, length, get_or, set, take, drop, map, refl, ap, sym, ◌∙◌, subst, arith, length-set, length-append}
use Rattle.std.specs.Prelude.{◌⊎◌}
use Rattle.std.proofs.lemmas.Bool.{cases_lt, cases_eq}
use Rattle.std.proofs.lemmas.List.{append_assoc, length-map, length-take, length-take-le, length-drop, get_or-take, take-map, get_or-map, get_or-drop, get_or_append_left, get_or_push, get_or-set_same, get_or-set_other, length_push, drop-drop, drop-set-lt, drop_at, drop-append-le, take_at, take-append-le, take-append-drop, take_all, take_more, map_push, map-set, same_lists}
use Rattle.std.proofs.lemmas.List.Edits.{length-paste, drop-paste, paste_all}
use Rattle.std.proofs.Math.Seq.{paste}
use Rattle.gq_value.specs.declared.value.Value.{Value}
use Rattle.gq_graph.specs.declared.row_values.Span.{Span}
use Rattle.gq_graph.specs.Spans.{part_of, rows_of, no_span, span_at, IsBefore, AreApart, written}

-- ---- values moved one by one

-- lists that agree from a place on agree there
pub same_here : {X : Type 0} (xs ys : List X) (i : ℕ) (d : X) → drop i xs ≡ drop i ys → get_or xs i d ≡ get_or ys i d
same_here {X} xs ys i d same = sym (first xs) ∙ ap (λ l. get_or l 0 d) same ∙ first ys
  where
    first : (zs : List X) → get_or (drop i zs) 0 d ≡ get_or zs i d
    first zs = get_or-drop i zs 0 d ∙ ap (λ n. get_or zs n d) (omega arith)

-- and after it, if the item there was changed
pub same_behind : {X : Type 0} (xs ys : List X) (i : ℕ) (y : X) → drop i xs ≡ drop i ys → drop (i + 1) (set xs i y) ≡ drop (i + 1) ys
same_behind xs ys i y same =
    drop-set-lt (i + 1) xs i y (omega arith) ∙ sym (drop-drop 1 i xs) ∙ ap (drop 1) same ∙ drop-drop 1 i ys

pub moved_more : {X : Type 0} (old row now : List X) (i : ℕ) (x d : X) → now ≡ old ++ take i row → i < length row → x ≡ get_or row i d
    → now ++ x ∷ [] ≡ old ++ take (i + 1) row
moved_more old row now i x d is low this =
    ap (λ l. l ++ x ∷ []) is ∙ append_assoc old (take i row) (x ∷ [])
    ∙ ap (λ l. old ++ l) (ap (λ z. take i row ++ z ∷ []) this ∙ sym (take_more row i d low))

pub pasted_all : (values row : List Value) (start n : ℕ) → n ≡ length row → paste values start row n ≡ written values start row
pasted_all values row start n is = paste_all values start row n is ∙ ap (λ m. take start values ++ (row ++ drop (start + m) values)) is

-- ---- parts of longer lists

pub part_stays : (values more : List Value) (span : Span) → span.start + span.len ≤ length values → part_of (values ++ more) span ≡ part_of values span
part_stays values more span within =
    ap (take span.len) (drop-append-le span.start values more (omega arith))
    ∙ take-append-le span.len (drop span.start values) more (omega (arith, length-drop span.start values))

pub part_new : (values row : List Value) (span : Span) → span.start ≡ length values → span.len ≡ length row → part_of (values ++ row) span ≡ row
part_new values row span start len =
    ap (take span.len) (drop_at values row span.start (sym start)) ∙ take_all span.len row (omega (arith, len))

-- ---- parts of a list that was written over

written_long : (values row : List Value) (start : ℕ) → start + length row ≤ length values → length (written values start row) ≡ length values
written_long values row start fits =
    ap length (sym (paste_all values start row (length row) refl)) ∙ length-paste values start row (length row) fits (omega arith)

part_before : (values row : List Value) (start : ℕ) (span : Span) → start ≤ length values → span.start + span.len ≤ start
    → part_of (written values start row) span ≡ part_of values span
part_before values row start span low before =
    let front : span.start + span.len ≤ length (take start values) = omega (arith, length-take-le start values low) in
    part_stays (take start values) (row ++ drop (start + length row) values) span front
    ∙ sym (part_stays (take start values) (drop start values) span front)
    ∙ ap (λ l. part_of l span) (take-append-drop start values)

part_behind : (values row : List Value) (start : ℕ) (span : Span) → start + length row ≤ length values → start + length row ≤ span.start
    → part_of (written values start row) span ≡ part_of values span
part_behind values row start span fits behind =
    let n = start + length row in let m = span.start - n in
    let sum : n + m ≡ span.start = omega (arith, behind) in
    let rest : drop n (written values start row) ≡ drop n values =
    ap (drop n) (sym (paste_all values start row (length row) refl)) ∙ drop-paste values start row (length row) (omega arith) (omega arith) in
    ap (λ k. take span.len (drop k (written values start row))) (sym sum)
    ∙ ap (take span.len) (sym (drop-drop m n (written values start row)) ∙ ap (drop m) rest ∙ drop-drop m n values)
    ∙ ap (λ k. take span.len (drop k values)) sum

part_own : (values row : List Value) (span : Span) → span.start + length row ≤ length values → span.len ≡ length row
    → part_of (written values span.start row) span ≡ row
part_own values row span fits len =
    ap (take span.len) (drop_at (take span.start values) (row ++ drop (span.start + length row) values) span.start (length-take-le span.start values (omega arith)))
    ∙ take_at row (drop (span.start + length row) values) span.len (sym len)

-- ---- rows

same_map : {X Y : Type 0} (f g : X → Y) (d : X) (xs : List X) → ((k : ℕ) → k < length xs → f (get_or xs k d) ≡ g (get_or xs k d)) → map f xs ≡ map g xs
same_map f g d [] same = refl
same_map f g d (x ∷ xs) same =
    ap (λ y. y ∷ map f xs) (same 0 (omega arith)) ∙ ap (λ ys. g x ∷ ys) (same_map f g d xs (λ k low. same (suc k) (omega arith)))

-- rows stay as they are when values are added
pub rows_stay : (spans : List Span) (values more : List Value) → AreApart spans (length values) → rows_of spans (values ++ more) ≡ rows_of spans values
rows_stay spans values more are = same_map (part_of (values ++ more)) (part_of values) no_span spans (λ k low. part_stays values more (span_at spans k) (are.within k low))

pub row_at : (spans : List Span) (values : List Value) (k : ℕ) → k < length spans → get_or (rows_of spans values) k [] ≡ part_of values (span_at spans k)
row_at spans values k low = get_or-map (part_of values) spans k no_span [] low

-- one row more
pub rows_pushed : (spans : List Span) (values row : List Value) (span : Span) → AreApart spans (length values) → span.start ≡ length values → span.len ≡ length row
    → rows_of (spans ++ span ∷ []) (values ++ row) ≡ rows_of spans values ++ row ∷ []
rows_pushed spans values row span are start len =
    map_push (part_of (values ++ row)) spans span
    ∙ ap (λ l. l ++ part_of (values ++ row) span ∷ []) (rows_stay spans values row are)
    ∙ ap (λ r. rows_of spans values ++ r ∷ []) (part_new values row span start len)

pub apart_pushed : (spans : List Span) (values row : List Value) (span : Span) → AreApart spans (length values) → span.start ≡ length values → span.len ≡ length row
    → AreApart (spans ++ span ∷ []) (length (values ++ row))
apart_pushed spans values row span are start len =
    let all = spans ++ span ∷ [] in
    let front : (k : ℕ) → k < length spans → span_at all k ≡ span_at spans k = λ k low. get_or_append_left spans (span ∷ []) no_span k low in
    let back : span_at all (length spans) ≡ span = get_or_push spans span no_span (length spans) refl in
    record {
      within = λ k low. elim (cases_lt k (length spans)) [
        | inl under ↦ subst (λ (s : Span). s.start + s.len ≤ length (values ++ row)) (sym (front k under)) (omega (arith, are.within k under, length-append values row))
        | inr over ↦
            let last : k ≡ length spans = omega (arith, length_push spans span) in
            subst (λ (s : Span). s.start + s.len ≤ length (values ++ row)) (sym (ap (span_at all) last ∙ back)) (omega (arith, start, len, length-append values row))
      ];
      apart = λ i j before low.
          let first : i < length spans = omega (arith, length_push spans span) in
          elim (cases_lt j (length spans)) [
            | inl under ↦ subst (λ (s : Span). IsBefore s (span_at all j) ⊎ IsBefore (span_at all j) s) (sym (front i first))
                (subst (λ (s : Span). IsBefore (span_at spans i) s ⊎ IsBefore s (span_at spans i)) (sym (front j under)) (are.apart i j before under))
            | inr over ↦
                let last : j ≡ length spans = omega (arith, length_push spans span) in
                inl (subst (λ (s : Span). IsBefore s (span_at all j)) (sym (front i first))
                (subst (λ (s : Span). IsBefore (span_at spans i) s) (sym (ap (span_at all) last ∙ back)) (omega (arith, start, are.within i first))))
          ];
    }

-- a row that is moved after all others
pub rows_moved : (spans : List Span) (values row : List Value) (n : ℕ) (span : Span) → AreApart spans (length values) → span.start ≡ length values → span.len ≡ length row
    → rows_of (set spans n span) (values ++ row) ≡ set (rows_of spans values) n row
rows_moved spans values row n span are start len =
    map-set (part_of (values ++ row)) spans n span
    ∙ ap (λ l. set l n (part_of (values ++ row) span)) (rows_stay spans values row are)
    ∙ ap (λ r. set (rows_of spans values) n r) (part_new values row span start len)

pub apart_moved : (spans : List Span) (values row : List Value) (n : ℕ) (span : Span) → n < length spans → AreApart spans (length values) → span.start ≡ length values
    → span.len ≡ length row → AreApart (set spans n span) (length (values ++ row))
apart_moved spans values row n span inside are start len =
    let all = set spans n span in
    let own : span_at all n ≡ span = get_or-set_same spans n span no_span inside in
    let other : (k : ℕ) → k ≢ n → span_at all k ≡ span_at spans k = λ k not. get_or-set_other spans n k span no_span not in
    record {
      within = λ k low. elim (cases_eq k n) [
        | inl is ↦ subst (λ (s : Span). s.start + s.len ≤ length (values ++ row)) (sym (ap (span_at all) is ∙ own)) (omega (arith, start, len, length-append values row))
        | inr not ↦ subst (λ (s : Span). s.start + s.len ≤ length (values ++ row)) (sym (other k not)) (omega (arith, are.within k (omega (arith, low, length-set spans n span)), length-append values row))
      ];
      apart = λ i j before low.
          let under : j < length spans = omega (arith, low, length-set spans n span) in
          elim (cases_eq i n) [
            | inl is ↦
                let not : j ≢ n = λ same. clash i j n before is same in
                inr (subst (λ (s : Span). IsBefore (span_at all j) s) (sym (ap (span_at all) is ∙ own))
                (subst (λ (s : Span). IsBefore s span) (sym (other j not)) (omega (arith, start, are.within j under))))
            | inr differs ↦ elim (cases_eq j n) [
              | inl is ↦ inl (subst (λ (s : Span). IsBefore (span_at all i) s) (sym (ap (span_at all) is ∙ own))
                  (subst (λ (s : Span). IsBefore s span) (sym (other i differs)) (omega (arith, start, are.within i (omega (arith, before, under))))))
              | inr not ↦ subst (λ (s : Span). IsBefore s (span_at all j) ⊎ IsBefore (span_at all j) s) (sym (other i differs))
                  (subst (λ (s : Span). IsBefore (span_at spans i) s ⊎ IsBefore s (span_at spans i)) (sym (other j not)) (are.apart i j before under))
            ]
          ];
    }
  where
    clash : (i j n : ℕ) → i < j → i ≡ n → j ≡ n → ⊥
    clash i j n before a b = omega (arith, before, a, b)

-- a row that is written over
pub rows_written : (spans : List Span) (values row : List Value) (n : ℕ) → n < length spans → AreApart spans (length values) → (span_at spans n).len ≡ length row
    → rows_of spans (written values (span_at spans n).start row) ≡ set (rows_of spans values) n row
rows_written spans values row n inside are len =
    same_lists (rows_of spans now) (set (rows_of spans values) n row) long (λ k d low.
    let under : k < length spans = omega (arith, low, length-map spans (part_of now)) in
    get_or-map (part_of now) spans k no_span d under ∙ elim (cases_eq k n) [
      | inl is ↦ ap (λ m. part_of now (span_at spans m)) is ∙ part_own values row this fits len
          ∙ sym (ap (λ m. get_or (set (rows_of spans values) n row) m d) is ∙ get_or-set_same (rows_of spans values) n row d (omega (arith, inside, length-map spans (part_of values))))
      | inr not ↦ unmoved k under not ∙ sym (get_or-set_other (rows_of spans values) n k row d not ∙ get_or-map (part_of values) spans k no_span d under)
    ])
  where
    this : Span
    this = span_at spans n

    now : List Value
    now = written values this.start row

    fits : this.start + length row ≤ length values
    fits = omega (arith, len, are.within n inside)

    long : length (rows_of spans now) ≡ length (set (rows_of spans values) n row)
    long = length-map spans (part_of now) ∙ sym (length-set (rows_of spans values) n row ∙ length-map spans (part_of values))

    sides : (p : Span) → IsBefore p this ⊎ IsBefore this p → part_of now p ≡ part_of values p
    sides p (inl before) = part_before values row this.start p (omega (arith, fits)) before
    sides p (inr behind) = part_behind values row this.start p fits (omega (arith, len, behind))

    turned : (a b : Span) → IsBefore a b ⊎ IsBefore b a → IsBefore b a ⊎ IsBefore a b
    turned a b (inl x) = inr x
    turned a b (inr y) = inl y

    unmoved : (k : ℕ) → k < length spans → k ≢ n → part_of now (span_at spans k) ≡ part_of values (span_at spans k)
    unmoved k under not = elim (cases_lt k n) [
      | inl before ↦ sides (span_at spans k) (are.apart k n before inside)
      | inr behind ↦ sides (span_at spans k) (turned this (span_at spans k) (are.apart n k (past k n behind not) under))
    ]
      where
        past : (a b : ℕ) → b ≤ a → a ≢ b → b < a
        past a b most differ = elim (cases_eq a b) [
          | inl is ↦ absurd (differ is)
          | inr _ ↦ omega (arith, most, differ)
        ]

pub apart_written : (spans : List Span) (values row : List Value) (n : ℕ) → n < length spans → AreApart spans (length values) → (span_at spans n).len ≡ length row
    → AreApart spans (length (written values (span_at spans n).start row))
apart_written spans values row n inside are len =
    subst (AreApart spans) (sym (written_long values row (span_at spans n).start (omega (arith, len, are.within n inside)))) are

-- what a row of the list is after a row was pushed, moved or written over
pub pushed_is : (spans after : List Span) (values now row : List Value) (rows : List (List Value)) (span : Span) → rows_of spans values ≡ rows → AreApart spans (length values)
    → after ≡ spans ++ span ∷ [] → now ≡ values ++ row → span.start ≡ length values → span.len ≡ length row → rows_of after now ≡ rows ++ row ∷ []
pushed_is spans after values now row rows span view are more moved start len =
    ap (λ s. rows_of s now) more ∙ ap (rows_of (spans ++ span ∷ [])) moved ∙ rows_pushed spans values row span are start len ∙ ap (λ l. l ++ row ∷ []) view

pub moved_is : (spans after : List Span) (values now row : List Value) (rows : List (List Value)) (n : ℕ) (span : Span) → rows_of spans values ≡ rows → AreApart spans (length values)
    → after ≡ set spans n span → now ≡ values ++ row → span.start ≡ length values → span.len ≡ length row → rows_of after now ≡ set rows n row
moved_is spans after values now row rows n span view are more moved start len =
    ap (λ s. rows_of s now) more ∙ ap (rows_of (set spans n span)) moved ∙ rows_moved spans values row n span are start len ∙ ap (λ l. set l n row) view

pub written_is : (spans : List Span) (values now row : List Value) (rows : List (List Value)) (n : ℕ) (span : Span) → rows_of spans values ≡ rows → AreApart spans (length values)
    → n < length spans → span ≡ span_at spans n → span.len ≡ length row → now ≡ written values span.start row → rows_of spans now ≡ set rows n row
written_is spans values now row rows n span view are inside this len done =
    ap (rows_of spans) (done ∙ ap (λ (s : Span). written values s.start row) this)
    ∙ rows_written spans values row n inside are (ap (λ (s : Span). s.len) (sym this) ∙ len) ∙ ap (λ l. set l n row) view

pub inside_view : (spans : List Span) (values : List Value) (rows : List (List Value)) (n : ℕ) → rows_of spans values ≡ rows → n < length rows → n < length spans
inside_view spans values rows n view low = omega (arith, low, ap length view, length-map spans (part_of values))

-- only the first rows
pub cut_is : (spans after : List Span) (values : List Value) (rows : List (List Value)) (len : ℕ) → rows_of spans values ≡ rows → after ≡ take len spans → rows_of after values ≡ take len rows
cut_is spans after values rows len view cut = ap (λ s. rows_of s values) cut ∙ sym (take-map (part_of values) len spans) ∙ ap (take len) view

pub apart_cut : (spans after : List Span) (n len : ℕ) → after ≡ take len spans → AreApart spans n → AreApart after n
apart_cut spans after n len cut are = subst (λ (s : List Span). AreApart s n) (sym cut) (record {
  within = λ k low. subst (λ (s : Span). s.start + s.len ≤ n) (sym (here k low)) (are.within k (under k low));
  apart = λ i j before low.
      subst (λ (s : Span). IsBefore s (span_at front j) ⊎ IsBefore (span_at front j) s) (sym (here i (omega (arith, before, low))))
      (subst (λ (s : Span). IsBefore (span_at spans i) s ⊎ IsBefore s (span_at spans i)) (sym (here j low)) (are.apart i j before (under j low)));
})
  where
    front : List Span
    front = take len spans

    few : (k : ℕ) → k < length front → k < len
    few k low = omega (arith, low, length-take len spans)

    under : (k : ℕ) → k < length front → k < length spans
    under k low = omega (arith, low, length-take len spans)

    here : (k : ℕ) → k < length front → span_at front k ≡ span_at spans k
    here k low = get_or-take len spans k no_span (few k low)
