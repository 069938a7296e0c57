-- PackedLemmas: what a write behind a span, and what more spans and more room, change in the lists.
use Rattle.std.proofs.Common.{inl, inr, ℕ, ◌+◌, ◌-◌, ◌<◌, ◌≤◌, ◌≡◌, ◌≢◌, ◌⊎◌, set, List, [], ◌∷◌, ◌++◌, length, get_or, take, drop, map, refl, ap, ap₂, sym, ◌∙◌, subst, arith, length-append, length-set}
use Rattle.std.specs.List.{insert}
use Rattle.std.specs.List.Sorted.{IsPartitionPoint, IsPartitionedBy}
use Rattle.std.specs.Prelude.{true, false, leb, min}
use Rattle.std.proofs.Math.Seq.{drop-append-add}
use Rattle.std.proofs.lemmas.List.{append_assoc, ext_get_or, get_or-take, get_or-drop, get_or-map, get_or-set_same, get_or-set_other, get_or_append_left, get_or-append_right, get_or_past, length-take, length-take-le, length-drop, length-map, map-append, map-set, map_push, take_more, take_all, drop_all}
use Rattle.std.proofs.lemmas.Bool.{cases_eq}
use Rattle.gq_index.specs.declared.packed.Span.{Span}
use Rattle.gq_index.specs.declared.walks.Neighbor.{Neighbor}
use Rattle.gq_index.specs.declared.walks.Traversal.{Traversal}
use Rattle.gq_index.specs.Packed.{span_at, moved, part, parts, AreApart, HasRoom}
use Rattle.gq_index.specs.Walks.{walked, ways_at, way_of, taken_from, AreListed}
use Rattle.gq_index.proofs.ListLemmas.{inserted, listed_more}
use Rattle.gq_index.proofs.WalkLemmas.{lt_or_le}

abbrev pub no_way : Neighbor
no_way = record { kind = 0; row = 0; target = 0 }

abbrev pub no_span : Span
no_span = record { start = 0; stop = 0 }

-- ---- one list

-- a list of other ways, but not within the span
part_agree : (a b : List Neighbor) (s : Span) → length a ≡ length b → ((i : ℕ) → s.start ≤ i → i < s.stop → get_or a i no_way ≡ get_or b i no_way)
    → part a s ≡ part b s
part_agree a b s long same =
    let n : ℕ = s.stop - s.start in
    let la = length-take n (drop s.start a) in let lb = length-take n (drop s.start b) in
    let da = length-drop s.start a in let db = length-drop s.start b in
    ext_get_or no_way (part a s) (part b s) (la ∙ ap (λ m. min n m) (da ∙ ap (λ m. m - s.start) long ∙ sym db) ∙ sym lb)
    (λ j h. let low : j < n = omega (arith, la) in
    get_or-take n (drop s.start a) j no_way low ∙ get_or-drop s.start a j no_way
    ∙ same (s.start + j) (omega arith) (omega arith)
    ∙ sym (get_or-take n (drop s.start b) j no_way low ∙ get_or-drop s.start b j no_way))

-- a write outside of a span doesn't change its list
part_other : (ways : List Neighbor) (p : ℕ) (w : Neighbor) (s : Span) → (p < s.start) ⊎ (s.stop ≤ p) → part (set ways p w) s ≡ part ways s
part_other ways p w s out =
    part_agree (set ways p w) ways s (length-set ways p w)
    (λ i low high. get_or-set_other ways p i w no_way (λ e. elim out [ inl h ↦ absurd (omega (arith, e)) | inr h ↦ absurd (omega (arith, e)) ]))

-- a write behind a list appends to it
part_more : (ways : List Neighbor) (w : Neighbor) (s : Span) → s.start ≤ s.stop → s.stop < length ways
    → part (set ways s.stop w) (record { start = s.start; stop = s.stop + 1 }) ≡ part ways s ++ w ∷ []
part_more ways w s up high =
    let new : List Neighbor = set ways s.stop w in
    let next : s.stop + 1 - s.start ≡ (s.stop - s.start) + 1 = omega arith in
    let here : s.start + (s.stop - s.start) ≡ s.stop = omega arith in
    ap (λ n. take n (drop s.start new)) next
    ∙ take_more (drop s.start new) (s.stop - s.start) no_way (omega (arith, length-drop s.start new, length-set ways s.stop w))
    ∙ ap₂ (λ (xs : List Neighbor) (x : Neighbor). xs ++ x ∷ []) (part_other ways s.stop w s (inr (omega arith)))
    (get_or-drop s.start new (s.stop - s.start) no_way ∙ ap (λ i. get_or new i no_way) here ∙ get_or-set_same ways s.stop w no_way high)

pub insert_end : (list : List Neighbor) (w : Neighbor) → list ++ w ∷ [] ≡ insert list (length list) w
insert_end list w = ap₂ (λ (xs ys : List Neighbor). xs ++ w ∷ ys) (sym (take_all (length list) list (omega arith))) (sym (drop_all (length list) list (omega arith)))

-- ---- all lists

pub part_at : (spans : List Span) (ways : List Neighbor) (v : ℕ) → v < length spans → ways_at (parts spans ways) v ≡ part ways (span_at spans v)
part_at spans ways v h = get_or-map (part ways) spans v no_span [] h

pub part_past : (spans : List Span) (ways : List Neighbor) (v : ℕ) → length spans ≤ v → ways_at (parts spans ways) v ≡ []
part_past spans ways v h = get_or_past (parts spans ways) v [] (omega (arith, length-map spans (part ways)))

pub next_room : (spans : List Span) (size v : ℕ) → AreApart spans size → (span_at spans v).stop < size
    → (v + 1 < length spans → (span_at spans v).stop < (span_at spans (v + 1)).start) → HasRoom spans size v
next_room spans size v apart here next = record {
  here = here;
  before = λ b low high. elim (lt_or_le (v + 1) b) [
    | inl far ↦ omega (arith, next (omega arith), apart.up (v + 1) (omega arith), apart.apart (v + 1) b far high)
    | inr near ↦ let is : v + 1 ≡ b = omega arith in subst (λ (b : ℕ). (span_at spans v).stop < (span_at spans b).start) is (next (omega arith))
  ];
}

module _ (spans : List Span) (ways : List Neighbor) (v : ℕ) (w : Neighbor) (apart : AreApart spans (length ways)) (there : v < length spans) (room : HasRoom spans (length ways) v) where
  abbrev span : Span
  span = span_at spans v

  abbrev wider : Span
  wider = record { start = span.start; stop = span.stop + 1 }

  new_spans : List Span
  new_spans = set spans v wider

  outside : (b : ℕ) → b < length spans → b ≢ v → (span.stop < (span_at spans b).start) ⊎ ((span_at spans b).stop ≤ span.stop)
  outside b h ne = elim (lt_or_le v b) [
    | inl behind ↦ inl (room.before b behind h)
    | inr before ↦ let low : b < v = other (lt_or_le b v) before in inr (omega (arith, apart.apart b v low there, apart.up v there))
  ]
    where
      other : (b < v) ⊎ (v ≤ b) → b ≤ v → b < v
      other (inl low) le = low
      other (inr high) le = absurd (ne (omega arith))

  pub parts_put : parts (set spans v wider) (set ways span.stop w) ≡ set (parts spans ways) v (part ways span ++ w ∷ [])
  parts_put =
      map-set (part (set ways span.stop w)) spans v wider
      ∙ ap (set (parts spans (set ways span.stop w)) v) (part_more ways w span (apart.up v there) room.here)
      ∙ ext_get_or [] (set (parts spans (set ways span.stop w)) v new) (set (parts spans ways) v new)
      (length-set (parts spans (set ways span.stop w)) v new ∙ length-map spans (part (set ways span.stop w)) ∙ sym (length-map spans (part ways)) ∙ sym (length-set (parts spans ways) v new))
      (λ b h. at b (omega (arith, h, length-set (parts spans (set ways span.stop w)) v new, length-map spans (part (set ways span.stop w)))))
    where
      new : List Neighbor
      new = part ways span ++ w ∷ []

      at : (b : ℕ) → b < length spans → get_or (set (parts spans (set ways span.stop w)) v new) b [] ≡ get_or (set (parts spans ways) v new) b []
      at b h = elim (cases_eq b v) [
        | inl same ↦ subst (λ (b : ℕ). get_or (set (parts spans (set ways span.stop w)) v new) b [] ≡ get_or (set (parts spans ways) v new) b []) (sym same)
            (get_or-set_same (parts spans (set ways span.stop w)) v new [] (omega (arith, there, length-map spans (part (set ways span.stop w))))
            ∙ sym (get_or-set_same (parts spans ways) v new [] (omega (arith, there, length-map spans (part ways)))))
        | inr ne ↦
            get_or-set_other (parts spans (set ways span.stop w)) v b new [] ne ∙ part_at spans (set ways span.stop w) b h
            ∙ part_other ways span.stop w (span_at spans b) (outside b h ne) ∙ sym (part_at spans ways b h) ∙ sym (get_or-set_other (parts spans ways) v b new [] ne)
      ]

  at_same : span_at (set spans v wider) v ≡ wider
  at_same = get_or-set_same spans v wider no_span there

  at_other : (b : ℕ) → b ≢ v → span_at (set spans v wider) b ≡ span_at spans b
  at_other b ne = get_or-set_other spans v b wider no_span ne

  pub apart_put : AreApart (set spans v wider) (length (set ways span.stop w))
  apart_put = record {
    up = λ b h. elim (cases_eq b v) [
      | inl same ↦ subst (λ (b : ℕ). (span_at (set spans v wider) b).start ≤ (span_at (set spans v wider) b).stop) (sym same)
          (subst (λ (s : Span). s.start ≤ s.stop) (sym at_same) (omega (arith, apart.up v there)))
      | inr ne ↦ subst (λ (s : Span). s.start ≤ s.stop) (sym (at_other b ne)) (apart.up b (low b h))
    ];
    within = λ b h. elim (cases_eq b v) [
      | inl same ↦ subst (λ (b : ℕ). (span_at (set spans v wider) b).stop ≤ length (set ways span.stop w)) (sym same)
          (subst (λ (s : Span). s.stop ≤ length (set ways span.stop w)) (sym at_same) (omega (arith, room.here, length-set ways span.stop w)))
      | inr ne ↦ subst (λ (s : Span). s.stop ≤ length (set ways span.stop w)) (sym (at_other b ne)) (omega (arith, apart.within b (low b h), length-set ways span.stop w))
    ];
    apart = λ a b less h. elim (cases_eq a v) [
      | inl same ↦
          let ne : b ≢ v = λ e. absurd (omega (arith, e, same)) in
          subst (λ (a : ℕ). (span_at (set spans v wider) a).stop ≤ (span_at (set spans v wider) b).start) (sym same)
          (subst (λ (s : Span). s.stop ≤ (span_at (set spans v wider) b).start) (sym at_same)
          (subst (λ (s : Span). span.stop + 1 ≤ s.start) (sym (at_other b ne)) (omega (arith, room.before b (omega (arith, same)) (low b h)))))
      | inr ne ↦
          subst (λ (s : Span). s.stop ≤ (span_at (set spans v wider) b).start) (sym (at_other a ne)) (behind a b less h)
    ];
  }
    where
      low : (b : ℕ) → b < length (set spans v wider) → b < length spans
      low b h = omega (arith, h, length-set spans v wider)

      behind : (a b : ℕ) → a < b → b < length (set spans v wider) → (span_at spans a).stop ≤ (span_at (set spans v wider) b).start
      behind a b less h = elim (cases_eq b v) [
        | inl same ↦ subst (λ (b : ℕ). (span_at spans a).stop ≤ (span_at (set spans v wider) b).start) (sym same)
            (subst (λ (s : Span). (span_at spans a).stop ≤ s.start) (sym at_same) (apart.apart a v (omega (arith, same)) there))
        | inr ne ↦ subst (λ (s : Span). (span_at spans a).stop ≤ s.start) (sym (at_other b ne)) (apart.apart a b less (low b h))
      ]

-- a walk behind those from its source
pub walk_put : (n count : ℕ) (spans : List Span) (ways : List Neighbor) (walks : List Traversal) (w : Traversal) → w.source < length spans
    → (IsPartitionedBy (λ (y : Neighbor). leb y.kind w.kind) (part ways (span_at spans w.source))
    → IsPartitionPoint (λ (y : Neighbor). leb y.kind w.kind ≡ true) (λ (y : Neighbor). leb y.kind w.kind ≡ false) (part ways (span_at spans w.source)) (length (part ways (span_at spans w.source))))
    → w.kind < count → AreListed n count (parts spans ways) walks
    → AreListed n count (set (parts spans ways) w.source (part ways (span_at spans w.source) ++ way_of w ∷ [])) (walks ++ w ∷ [])
walk_put n count spans ways walks w there point low are =
    let list : List Neighbor = part ways (span_at spans w.source) in
    listed_more n count (parts spans ways) (list ++ way_of w ∷ []) walks w (omega (arith, there, are.long, length-map spans (part ways))) are
    (λ is. inserted count w.source (length list) list (list ++ way_of w ∷ []) (way_of w) (taken_from w.source walks) low
    (ap (map (walked w.source)) (sym (part_at spans ways w.source there)) ∙ is) (omega arith) point (insert_end list (way_of w)))

-- ---- more lists, and more room

pub apart_none : (size : ℕ) → AreApart [] size
apart_none size = record { up = λ v h. absurd (omega arith); within = λ v h. absurd (omega arith); apart = λ a b less h. absurd (omega arith) }

pub apart_wider : (spans : List Span) (a b : ℕ) → a ≤ b → AreApart spans a → AreApart spans b
apart_wider spans a b le before = record { up = before.up; within = λ v h. omega (arith, before.within v h); apart = before.apart }

pub apart_push : (spans : List Span) (place size : ℕ) → place ≤ size → AreApart spans place → AreApart (spans ++ record { start = place; stop = place } ∷ []) size
apart_push spans place size le before = record {
  up = λ v h. elim (lt_or_le v (length spans)) [
    | inl low ↦ subst (λ (s : Span). s.start ≤ s.stop) (sym (old v low)) (before.up v low)
    | inr high ↦ subst (λ (s : Span). s.start ≤ s.stop) (sym (last v high h)) (omega arith)
  ];
  within = λ v h. elim (lt_or_le v (length spans)) [
    | inl low ↦ subst (λ (s : Span). s.stop ≤ size) (sym (old v low)) (omega (arith, before.within v low))
    | inr high ↦ subst (λ (s : Span). s.stop ≤ size) (sym (last v high h)) le
  ];
  apart = λ a b less h.
      let low : a < length spans = omega (arith, less, h, length-append spans (new ∷ [])) in
      subst (λ (s : Span). s.stop ≤ (span_at (spans ++ new ∷ []) b).start) (sym (old a low))
      (elim (lt_or_le b (length spans)) [
        | inl here ↦ subst (λ (s : Span). (span_at spans a).stop ≤ s.start) (sym (old b here)) (before.apart a b less here)
        | inr high ↦ subst (λ (s : Span). (span_at spans a).stop ≤ s.start) (sym (last b high h)) (before.within a low)
      ]);
}
  where
    new : Span
    new = record { start = place; stop = place }

    old : (v : ℕ) → v < length spans → span_at (spans ++ new ∷ []) v ≡ span_at spans v
    old v low = get_or_append_left spans (new ∷ []) no_span v low

    last : (v : ℕ) → length spans ≤ v → v < length (spans ++ new ∷ []) → span_at (spans ++ new ∷ []) v ≡ new
    last v high h =
        let is : v - length spans ≡ 0 = omega (arith, h, length-append spans (new ∷ [])) in
        get_or-append_right spans (new ∷ []) (length spans) v no_span refl high ∙ ap (λ i. get_or (new ∷ []) i no_span) is

pub part_none : (ways : List Neighbor) (place : ℕ) → part ways (record { start = place; stop = place }) ≡ []
part_none ways place = let none : place - place ≡ 0 = omega arith in ap (λ n. take n (drop place ways)) none

both : (a b n : ℕ) → n ≤ a → n ≤ b → min n a ≡ min n b
both a b n ha hb = grind (arith)

-- more room doesn't change the lists
pub parts_roomy : (spans : List Span) (ways new : List Neighbor) → AreApart spans (length ways) → length ways ≤ length new
    → ((i : ℕ) → i < length ways → get_or new i no_way ≡ get_or ways i no_way) → parts spans new ≡ parts spans ways
parts_roomy spans ways new apart more same =
    ext_get_or [] (parts spans new) (parts spans ways) (length-map spans (part new) ∙ sym (length-map spans (part ways)))
    (λ v h. let there : v < length spans = omega (arith, h, length-map spans (part new)) in
    part_at spans new v there ∙ within (span_at spans v) (apart.within v there) ∙ sym (part_at spans ways v there))
  where
    within : (s : Span) → s.stop ≤ length ways → part new s ≡ part ways s
    within s high =
        let n : ℕ = s.stop - s.start in
        let la = length-take n (drop s.start new) in let lb = length-take n (drop s.start ways) in
        let da = length-drop s.start new in let db = length-drop s.start ways in
        ext_get_or no_way (part new s) (part ways s) (la ∙ both (length (drop s.start new)) (length (drop s.start ways)) n (omega (arith, da)) (omega (arith, db)) ∙ sym lb)
        (λ j h. let low : j < n = omega (arith, la) in
        get_or-take n (drop s.start new) j no_way low ∙ get_or-drop s.start new j no_way
        ∙ same (s.start + j) (omega arith)
        ∙ sym (get_or-take n (drop s.start ways) j no_way low ∙ get_or-drop s.start ways j no_way))

-- one more list is copied
pub copied_more : {V : Type 0} (f : V → List Neighbor) (lists : List (List Neighbor)) (vs : List V) (i : ℕ) (v : V) → i < length lists
    → map f vs ≡ take i lists → f v ≡ ways_at lists i → map f (vs ++ v ∷ []) ≡ take (i + 1) lists
copied_more f lists vs i v low all e =
    map_push f vs v ∙ ap₂ (λ (xs : List (List Neighbor)) (x : List Neighbor). xs ++ x ∷ []) all e ∙ sym (take_more lists i [] low)

-- ---- other lists behind these

first_spans : (others : List Span) (size i : ℕ) → i ≤ length others → AreApart others size → AreApart (take i others) size
first_spans others size i le before = record {
  up = λ v h. let low : v < i = omega (arith, h, long) in subst (λ (s : Span). s.start ≤ s.stop) (sym (same v low)) (before.up v (omega arith));
  within = λ v h. let low : v < i = omega (arith, h, long) in subst (λ (s : Span). s.stop ≤ size) (sym (same v low)) (before.within v (omega arith));
  apart = λ a b less h.
      let low : b < i = omega (arith, h, long) in
      subst (λ (s : Span). s.stop ≤ (span_at (take i others) b).start) (sym (same a (omega arith)))
      (subst (λ (s : Span). (span_at others a).stop ≤ s.start) (sym (same b low)) (before.apart a b less (omega arith)));
}
  where
    long : length (take i others) ≡ i
    long = length-take-le i others le

    same : (v : ℕ) → v < i → span_at (take i others) v ≡ span_at others v
    same v low = get_or-take i others v no_span low

joined_spans : (spans others : List Span) (first limit : ℕ) → first ≤ limit → AreApart spans first → AreApart others (limit - first)
    → AreApart (spans ++ map (moved first) others) limit
joined_spans spans others first limit le before behind = record {
  up = λ v h. elim (lt_or_le v (length spans)) [
    | inl low ↦ subst (λ (s : Span). s.start ≤ s.stop) (sym (old v low)) (before.up v low)
    | inr high ↦ subst (λ (s : Span). s.start ≤ s.stop) (sym (new v high h)) (omega (arith, behind.up (v - length spans) (there v high h)))
  ];
  within = λ v h. elim (lt_or_le v (length spans)) [
    | inl low ↦ subst (λ (s : Span). s.stop ≤ limit) (sym (old v low)) (omega (arith, before.within v low))
    | inr high ↦ subst (λ (s : Span). s.stop ≤ limit) (sym (new v high h)) (omega (arith, le, behind.within (v - length spans) (there v high h)))
  ];
  apart = λ a b less h. elim (lt_or_le b (length spans)) [
    | inl here ↦ subst (λ (s : Span). s.stop ≤ (span_at all b).start) (sym (old a (omega arith)))
        (subst (λ (s : Span). (span_at spans a).stop ≤ s.start) (sym (old b here)) (before.apart a b less here))
    | inr high ↦ subst (λ (s : Span). (span_at all a).stop ≤ s.start) (sym (new b high h)) (elim (lt_or_le a (length spans)) [
      | inl low ↦ subst (λ (s : Span). s.stop ≤ first + (span_at others (b - length spans)).start) (sym (old a low)) (omega (arith, before.within a low))
      | inr above ↦
          let ha : a < length all = omega (arith, less, h) in
          subst (λ (s : Span). s.stop ≤ first + (span_at others (b - length spans)).start) (sym (new a above ha))
          (omega (arith, behind.apart (a - length spans) (b - length spans) (omega arith) (there b high h)))
    ])
  ];
}
  where
    all : List Span
    all = spans ++ map (moved first) others

    there : (v : ℕ) → length spans ≤ v → v < length all → v - length spans < length others
    there v high h = omega (arith, high, h, length-append spans (map (moved first) others), length-map others (moved first))

    old : (v : ℕ) → v < length spans → span_at all v ≡ span_at spans v
    old v low = get_or_append_left spans (map (moved first) others) no_span v low

    new : (v : ℕ) → length spans ≤ v → v < length all → span_at all v ≡ moved first (span_at others (v - length spans))
    new v high h =
        get_or-append_right spans (map (moved first) others) (length spans) v no_span refl high
        ∙ get_or-map (moved first) others (v - length spans) no_span no_span (there v high h)

-- one more span is moved
pub moved_more : (old spans others : List Span) (first i : ℕ) (s : Span) → i < length others → s ≡ span_at others i
    → spans ≡ old ++ map (moved first) (take i others) → spans ++ moved first s ∷ [] ≡ old ++ map (moved first) (take (i + 1) others)
moved_more old spans others first i s low is all =
    ap₂ (λ (xs : List Span) (x : Span). xs ++ moved first x ∷ []) all is
    ∙ append_assoc old (map (moved first) (take i others)) (moved first (span_at others i) ∷ [])
    ∙ ap (λ l. old ++ l) (sym (map_push (moved first) (take i others) (span_at others i)) ∙ ap (map (moved first)) (sym (take_more others i no_span low)))

pub moved_apart : (old spans others : List Span) (first limit i : ℕ) → first ≤ limit → i ≤ length others → AreApart old first → AreApart others (limit - first)
    → spans ≡ old ++ map (moved first) (take i others) → AreApart spans limit
moved_apart old spans others first limit i le low before behind is =
    subst (λ (l : List Span). AreApart l limit) (sym is) (joined_spans old (take i others) first limit le before (first_spans others (limit - first) i low behind))

part_moved : (ways more : List Neighbor) (s : Span) → part (ways ++ more) (moved (length ways) s) ≡ part more s
part_moved ways more s =
    let same : length ways + s.stop - (length ways + s.start) ≡ s.stop - s.start = omega arith in
    ap₂ (λ (n : ℕ) (l : List Neighbor). take n l) same (drop-append-add ways more s.start)

parts_moved : (ways more : List Neighbor) (others : List Span) → parts (map (moved (length ways)) others) (ways ++ more) ≡ parts others more
parts_moved ways more [] = refl
parts_moved ways more (s ∷ others) = ap₂ (λ (x : List Neighbor) (xs : List (List Neighbor)). x ∷ xs) (part_moved ways more s) (parts_moved ways more others)

-- the lists of both, one after the other
pub parts_joined : (spans others : List Span) (ways more : List Neighbor) → AreApart spans (length ways)
    → parts (spans ++ map (moved (length ways)) others) (ways ++ more) ≡ parts spans ways ++ parts others more
parts_joined spans others ways more apart =
    map-append (part (ways ++ more)) spans (map (moved (length ways)) others)
    ∙ ap₂ (λ (xs ys : List (List Neighbor)). xs ++ ys)
    (parts_roomy spans ways (ways ++ more) apart (omega (arith, length-append ways more)) (λ i low. get_or_append_left ways more no_way i low))
    (parts_moved ways more others)
