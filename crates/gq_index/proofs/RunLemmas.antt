-- RunLemmas: the effect of one more walk on segments and places, and what the search for a segment finds.
use Rattle.std.proofs.Common.{eq-eqb, inl, inr, ℕ, zero, suc, ◌+◌, ◌-◌, ◌/◌, ◌^◌, ◌<◌, ◌≤◌, ◌≡◌, Bool, true, false, cond, not, List, [], ◌∷◌, ◌++◌, ◌==◌, ◌&&◌, ◌||◌, nat_le, length, get_or, map, refl, ap, ap₂, sym, ◌∙◌, subst, arith, zero-add}
use Rattle.std.specs.List.{count_by}
use Rattle.std.proofs.lemmas.List.{get_or_append_left, get_or_push, length_push, map_push}
use Rattle.std.proofs.lemmas.List.FromFn.{get_or-map-range_with_len, length-map-range_with_len}
use Rattle.std.proofs.lemmas.List.Sums.{sum_by-cons, sum_by_push, count_by-le-length}
use Rattle.std.proofs.lemmas.Bool.Decides.{nat_tests}
use Rattle.std.proofs.lemmas.Bool.{cases_eq}
use Rattle.std.proofs.lemmas.Grind.{common_steps}
use Rattle.gq_index.specs.declared.walks.Traversal.{Traversal}
use Rattle.gq_index.specs.declared.runs.Segment.{Segment}
use Rattle.gq_index.specs.declared.runs.Reached.{Reached}
use Rattle.gq_index.specs.Places.{below, many}
use Rattle.gq_index.specs.Walks.{walk_at}
use Rattle.gq_index.specs.Runs.{segment_at, reached_at, walk_of, segment_of, shown, IsRising, opens, run_count, Holds}
use Rattle.gq_index.proofs.PlaceLemmas.{nat_up, below_more, many_zero, many_more, map_below_agree}

pub halved_more : (w v m : ℕ) → 0 < w → v ≤ w / 2 → w < 2 ^ m → (1 ≤ m) × (v < 2 ^ (m - 1))
halved_more w v zero some half less = absurd (omega arith)
halved_more w v (suc n) some half less = (omega arith, grind (arith, common_steps))

pub stepped : (w v e d s t : ℕ) → 0 < w → v ≤ w / 2 → t ≡ s + 1 → s ≤ e + d → w < 2 ^ (e + d - s) → (t ≤ e + d) × (v < 2 ^ (e + d - t))
stepped w v e d s t some half next under less =
    let r = halved_more w v (e + d - s) some half less in
    let same : e + d - t ≡ e + d - s - 1 = omega arith in
    (omega arith, rw same r.1)

pub count_cons : {X : Type 0} (p : X → Bool) (x : X) (xs : List X) → count_by p (x ∷ xs) ≡ cond (p x) 1 0 + count_by p xs
count_cons p x xs = sum_by-cons (λ y. cond (p y) 1 0) x xs

-- if exactly the first n pass, n pass
pub count_front : {X : Type 0} (p : X → Bool) (d : X) (xs : List X) (n : ℕ) → n ≤ length xs
    → ((k : ℕ) → k < n → p (get_or xs k d) ≡ true) → ((k : ℕ) → n ≤ k → k < length xs → p (get_or xs k d) ≡ false) → count_by p xs ≡ n
count_front p d [] n long front back = omega arith
count_front p d (x ∷ xs) zero long front back =
    count_cons p x xs ∙ ap (λ b. cond b 1 0 + count_by p xs) (back 0 (omega arith) (omega arith))
    ∙ zero-add (count_by p xs) ∙ count_front p d xs 0 (omega arith) (λ k h. absurd (omega arith)) (λ k _ h. back (suc k) (omega arith) (omega arith))
count_front p d (x ∷ xs) (suc n) long front back =
    count_cons p x xs ∙ ap (λ b. cond b 1 0 + count_by p xs) (front 0 (omega arith))
    ∙ ap (λ m. 1 + m) (count_front p d xs n (omega arith) (λ k h. front (suc k) (omega arith)) (λ k g h. back (suc k) (omega arith) (omega arith)))
    ∙ omega arith

pub count_length : {X : Type 0} (p : X → Bool) (xs : List X) → count_by p xs ≤ length xs
count_length p xs = count_by-le-length p xs

le_holds : (a b : ℕ) → a ≤ b → nat_le a b ≡ true
le_holds a b h = grind (arith, nat_tests)

le_fails : (a b : ℕ) → b < a → nat_le a b ≡ false
le_fails a b h = grind (arith, nat_tests)

pub found_is : (segments : List Segment) (place low : ℕ) → low ≤ length segments
    → ((k : ℕ) → k < low → (segment_at segments k).start ≤ place) → ((k : ℕ) → low ≤ k → k < length segments → place < (segment_at segments k).start)
    → low ≡ count_by (λ (s : Segment). nat_le s.start place) segments
found_is segments place low long before after =
    sym (count_front (λ (s : Segment). nat_le s.start place) (record { source = 0; kind = 0; start = 0 }) segments low long
    (λ k h. le_holds (segment_at segments k).start place (before k h)) (λ k g h. le_fails (segment_at segments k).start place (after k g h)))

-- the number of segments that start at or before a place: the last of them does, and the next one doesn't
pub end_is : (segments : List Segment) (place end : ℕ) → IsRising segments → end ≤ length segments
    → (0 < end → (segment_at segments (end - 1)).start ≤ place) → (end < length segments → place < (segment_at segments end).start)
    → end ≡ count_by (λ (s : Segment). nat_le s.start place) segments
end_is segments place end rising long before after =
    found_is segments place end long
    (λ k h. omega (arith, rising k (end - 1) (omega arith) (omega arith), before (omega arith)))
    (λ k g h. omega (arith, rising end k g h, after (omega arith)))

shown_is : (segments : List Segment) (reached : List Reached) → shown segments reached ≡ map (λ i. walk_of (segment_of segments i) (reached_at reached i)) (below (length reached))
unfolding shown
shown_is segments reached = refl

length_shown : (segments : List Segment) (reached : List Reached) → length (shown segments reached) ≡ length reached
length_shown segments reached =
    ap length (shown_is segments reached) ∙ length-map-range_with_len (λ i. walk_of (segment_of segments i) (reached_at reached i)) 0 (length reached)

pub shown_at : (segments : List Segment) (reached : List Reached) (i : ℕ) → i < length reached
    → walk_at (shown segments reached) i ≡ walk_of (segment_of segments i) (reached_at reached i)
shown_at segments reached i h =
    ap (λ l. walk_at l i) (shown_is segments reached)
    ∙ get_or-map-range_with_len (λ i. walk_of (segment_of segments i) (reached_at reached i)) 0 (length reached) i i (record { source = 0; kind = 0; row = 0; target = 0 }) h (zero-add i)

-- from the last start on, the last segment is the one
last_segment : (segments : List Segment) (i : ℕ) → ((k : ℕ) → k < length segments → (segment_at segments k).start ≤ i)
    → segment_of segments i ≡ segment_at segments (length segments - 1)
last_segment segments i all =
    ap (λ n. segment_at segments (n - 1)) (sym (found_is segments i (length segments) (omega arith) all (λ k g h. absurd (omega arith))))

-- a later segment changes nothing before its start
earlier_segment : (segments : List Segment) (s : Segment) (i : ℕ) → i < s.start → 0 < length segments
    → segment_of (segments ++ s ∷ []) i ≡ segment_of segments i
earlier_segment segments s i late some =
    let before : ℕ = count_by (λ (s : Segment). nat_le s.start i) segments in
    let same : count_by (λ (s : Segment). nat_le s.start i) (segments ++ s ∷ []) ≡ before =
    sum_by_push (λ (s : Segment). cond (nat_le s.start i) 1 0) segments s ∙ ap (λ b. before + cond b 1 0) (le_fails s.start i late) ∙ omega arith in
    ap (λ n. segment_at (segments ++ s ∷ []) (n - 1)) same
    ∙ get_or_append_left segments (s ∷ []) (record { source = 0; kind = 0; start = 0 }) (before - 1) (omega (arith, count_length (λ (s : Segment). nat_le s.start i) segments))

pub many_agree : (p q : ℕ → Bool) (n : ℕ) → ((k : ℕ) → k < n → p k ≡ q k) → many p n ≡ many q n
many_agree p q =
    let P : ℕ → Type 0 = λ n. ((k : ℕ) → k < n → p k ≡ q k) → many p n ≡ many q n
    in nat_up P (λ _. many_zero p ∙ sym (many_zero q))
    (λ n before same. many_more p n ∙ ap (λ m. m + cond (p n) 1 0) (before (λ k h. same k (omega arith))) ∙ ap (λ b. many q n + cond b 1 0) (same n (omega arith)) ∙ sym (many_more q n))

walk_kept : (walks : List Traversal) (w : Traversal) (i : ℕ) → i < length walks → walk_at (walks ++ w ∷ []) i ≡ walk_at walks i
walk_kept walks w i h = get_or_append_left walks (w ∷ []) (record { source = 0; kind = 0; row = 0; target = 0 }) i h

opens_kept : (walks : List Traversal) (w : Traversal) (i : ℕ) → i < length walks → opens (walks ++ w ∷ []) i ≡ opens walks i
opens_kept walks w i h =
    ap (λ (a : Traversal). (i == 0) || not ((a.source == (walk_at (walks ++ w ∷ []) (i - 1)).source) && (a.kind == (walk_at (walks ++ w ∷ []) (i - 1)).kind))) (walk_kept walks w i h)
    ∙ ap (λ (a : Traversal). (i == 0) || not (((walk_at walks i).source == a.source) && ((walk_at walks i).kind == a.kind))) (walk_kept walks w (i - 1) (omega arith))

pub run_count_more : (walks : List Traversal) (w : Traversal) → run_count (walks ++ w ∷ []) ≡ run_count walks + cond (opens (walks ++ w ∷ []) (length walks)) 1 0
unfolding run_count
run_count_more walks w =
    ap (many (opens (walks ++ w ∷ []))) (length_push walks w)
    ∙ many_more (opens (walks ++ w ∷ [])) (length walks)
    ∙ ap (λ m. m + cond (opens (walks ++ w ∷ []) (length walks)) 1 0) (many_agree (opens (walks ++ w ∷ [])) (opens walks) (length walks) (opens_kept walks w))

-- the walk that was appended
put_last : (walks : List Traversal) (w : Traversal) (n : ℕ) → length walks ≡ n → walk_at (walks ++ w ∷ []) n ≡ w
put_last walks w n e = get_or_push walks w (record { source = 0; kind = 0; row = 0; target = 0 }) n e

shown_more : (old new : List Segment) (reached : List Reached) (r : Reached)
    → ((i : ℕ) → i < length reached → segment_of new i ≡ segment_of old i)
    → shown new (reached ++ r ∷ []) ≡ shown old reached ++ walk_of (segment_of new (length reached)) r ∷ []
shown_more old new reached r same =
    let n : ℕ = length reached in
    let F : ℕ → Traversal = λ i. walk_of (segment_of new i) (reached_at (reached ++ r ∷ []) i) in
    shown_is new (reached ++ r ∷ []) ∙ ap (λ m. map F (below m)) (length_push reached r) ∙ ap (map F) (below_more n) ∙ map_push F (below n) n
    ∙ ap (λ l. l ++ F n ∷ []) (map_below_agree F (λ i. walk_of (segment_of old i) (reached_at reached i)) n
    (λ i h. ap (λ s. walk_of s (reached_at (reached ++ r ∷ []) i)) (same i h)
    ∙ ap (walk_of (segment_of old i)) (get_or_append_left reached (r ∷ []) (record { row = 0; target = 0 }) i h)))
    ∙ ap (λ l. l ++ F n ∷ []) (sym (shown_is old reached))
    ∙ ap (λ x. shown old reached ++ walk_of (segment_of new n) x ∷ []) (get_or_push reached r (record { row = 0; target = 0 }) n refl)

walk_is : (s : Segment) (w : Traversal) → w.source ≡ s.source → w.kind ≡ s.kind → walk_of s (record { row = w.row; target = w.target }) ≡ w
walk_is s w a b =
    ap (λ x. record { source = x; kind = s.kind; row = w.row; target = w.target }) (sym a)
    ∙ ap (λ x. record { source = w.source; kind = x; row = w.row; target = w.target }) (sym b)

long_walks : {segments : List Segment} {reached : List Reached} {walks : List Traversal} → Holds segments reached walks → length walks ≡ length reached
long_walks {segments} {reached} h = sym (ap length h.shows) ∙ length_shown segments reached

-- the last walk has the last segment's source and type
last_walk : {segments : List Segment} {reached : List Reached} {walks : List Traversal} → Holds segments reached walks → 0 < length reached
    → walk_at walks (length reached - 1) ≡ walk_of (segment_at segments (length segments - 1)) (reached_at reached (length reached - 1))
last_walk {segments} {reached} {walks} h some =
    let i : ℕ = length reached - 1 in
    ap (λ l. walk_at l i) (sym h.shows) ∙ shown_at segments reached i (omega arith)
    ∙ ap (λ s. walk_of s (reached_at reached i)) (last_segment segments i (λ k g. omega (arith, h.within k g)))

pub opens_at : (walks : List Traversal) (w : Traversal) (n : ℕ) → length walks ≡ n → (s : Segment) → 0 < n → (walk_at walks (n - 1)).source ≡ s.source → (walk_at walks (n - 1)).kind ≡ s.kind
    → opens (walks ++ w ∷ []) n ≡ not ((w.source == s.source) && (w.kind == s.kind))
opens_at walks w n e s some a b =
    let later : (n == 0) ≡ false = grind (arith, nat_tests) in
    ap (λ t. t || not (((walk_at (walks ++ w ∷ []) n).source == (walk_at (walks ++ w ∷ []) (n - 1)).source) && ((walk_at (walks ++ w ∷ []) n).kind == (walk_at (walks ++ w ∷ []) (n - 1)).kind))) later
    ∙ ap (λ (x : Traversal). not ((x.source == (walk_at (walks ++ w ∷ []) (n - 1)).source) && (x.kind == (walk_at (walks ++ w ∷ []) (n - 1)).kind))) (put_last walks w n e)
    ∙ ap (λ (x : Traversal). not ((w.source == x.source) && (w.kind == x.kind))) (walk_kept walks w (n - 1) (omega arith))
    ∙ ap (λ x. not ((w.source == x) && (w.kind == (walk_at walks (n - 1)).kind))) a
    ∙ ap (λ x. not ((w.source == s.source) && (w.kind == x))) b

pub same_pushed : (segments : List Segment) (reached : List Reached) (walks : List Traversal) (w : Traversal) → Holds segments reached walks → 0 < length segments
    → w.source ≡ (segment_at segments (length segments - 1)).source → w.kind ≡ (segment_at segments (length segments - 1)).kind
    → Holds segments (reached ++ (record { row = w.row; target = w.target }) ∷ []) (walks ++ w ∷ [])
same_pushed segments reached walks w h some a b =
    let n : ℕ = length reached in
    let r : Reached = record { row = w.row; target = w.target } in
    let last : Segment = segment_at segments (length segments - 1) in
    let here : 0 < n = omega (arith, h.within 0 some) in
    let is_last : segment_of segments n ≡ last = last_segment segments n (λ k g. omega (arith, h.within k g)) in
    let found = last_walk h here in
    let closed : opens (walks ++ w ∷ []) (length walks) ≡ false =
    ap (opens (walks ++ w ∷ [])) (long_walks h)
    ∙ opens_at walks w n (long_walks h) last here (ap (λ (x : Traversal). x.source) found) (ap (λ (x : Traversal). x.kind) found)
    ∙ ap not (both_true (eq-eqb w.source last.source a) (eq-eqb w.kind last.kind b)) in
    record {
      shows = shown_more segments segments reached r (λ _ _. refl) ∙ ap (λ l. l ++ walk_of (segment_of segments n) r ∷ []) h.shows
          ∙ ap (λ x. walks ++ x ∷ []) (ap (λ s. walk_of s r) is_last ∙ walk_is last w a b);
      rising = h.rising;
      within = λ k g. omega (arith, h.within k g, length_push reached r);
      opening = h.opening;
      begun = λ _. some;
      runs = h.runs ∙ sym (run_count_more walks w ∙ ap (λ x. run_count walks + cond x 1 0) closed ∙ omega arith);
    }
  where
    both_true : {x y : Bool} → x ≡ true → y ≡ true → (x && y) ≡ true
    both_true {x} {y} p q = ap (λ b. b && y) p ∙ q

new_start : (segments : List Segment) (s : Segment) (n k : ℕ) → s.start ≡ n → ((k : ℕ) → k < length segments → (segment_at segments k).start < n)
    → k < length segments + 1 → (segment_at (segments ++ s ∷ []) k).start ≤ n
new_start segments s n k is within h = elim (cases_eq k (length segments)) [
  | inl last ↦ rw (ap (λ (x : Segment). x.start) (get_or_push segments s (record { source = 0; kind = 0; start = 0 }) k (sym last)) ∙ is) (omega arith)
  | inr other ↦ let low : k < length segments = omega arith in
      rw (ap (λ (x : Segment). x.start) (get_or_append_left segments (s ∷ []) (record { source = 0; kind = 0; start = 0 }) k low)) (omega (arith, within k low))
]

new_rising : (segments : List Segment) (s : Segment) (n a b : ℕ) → s.start ≡ n → ((k : ℕ) → k < length segments → (segment_at segments k).start < n) → IsRising segments
    → a ≤ b → b < length segments + 1 → (segment_at (segments ++ s ∷ []) a).start ≤ (segment_at (segments ++ s ∷ []) b).start
new_rising segments s n a b is within rising le h = elim (cases_eq b (length segments)) [
  | inl last ↦
      let end : (segment_at (segments ++ s ∷ []) b).start ≡ n = ap (λ (x : Segment). x.start) (get_or_push segments s (record { source = 0; kind = 0; start = 0 }) b (sym last)) ∙ is in
      rw end (new_start segments s n a is within (omega arith))
  | inr other ↦
      let low : b < length segments = omega arith in
      let at_a : (segment_at (segments ++ s ∷ []) a).start ≡ (segment_at segments a).start = ap (λ (x : Segment). x.start) (get_or_append_left segments (s ∷ []) (record { source = 0; kind = 0; start = 0 }) a (omega arith)) in
      let at_b : (segment_at (segments ++ s ∷ []) b).start ≡ (segment_at segments b).start = ap (λ (x : Segment). x.start) (get_or_append_left segments (s ∷ []) (record { source = 0; kind = 0; start = 0 }) b low) in
      omega (arith, at_a, at_b, rising a b le low)
]

fresh_opens : (segments : List Segment) (reached : List Reached) (walks : List Traversal) (w : Traversal) → Holds segments reached walks
    → (0 < length segments → ((w.source == (segment_at segments (length segments - 1)).source) && (w.kind == (segment_at segments (length segments - 1)).kind)) ≡ false)
    → opens (walks ++ w ∷ []) (length reached) ≡ true
fresh_opens segments reached walks w h differs = elim (cases_eq (length reached) 0) [
  | inl none ↦ ap (opens (walks ++ w ∷ [])) none
  | inr some ↦
      let here : 0 < length reached = omega arith in
      let last : Segment = segment_at segments (length segments - 1) in
      opens_at walks w (length reached) (long_walks h) last here (ap (λ (x : Traversal). x.source) (last_walk h here)) (ap (λ (x : Traversal). x.kind) (last_walk h here))
      ∙ ap not (differs (h.begun here))
]

nothing : (n m : ℕ) → (0 < n → 0 < m) → m ≡ 0 → n ≡ 0
nothing zero m some none = refl
nothing (suc n) m some none = let here : 0 < m = some (omega arith) in absurd (omega arith)

new_opening : (segments : List Segment) (s : Segment) (n : ℕ) → s.start ≡ n → (0 < n → 0 < length segments) → (0 < length segments → (segment_at segments 0).start ≡ 0)
    → (segment_at (segments ++ s ∷ []) 0).start ≡ 0
new_opening segments s n is begun opening = elim (cases_eq (length segments) 0) [
  | inl none ↦ ap (λ (x : Segment). x.start) (get_or_push segments s (record { source = 0; kind = 0; start = 0 }) 0 none) ∙ is ∙ nothing n (length segments) begun none
  | inr some ↦ let here : 0 < length segments = omega arith in
      ap (λ (x : Segment). x.start) (get_or_append_left segments (s ∷ []) (record { source = 0; kind = 0; start = 0 }) 0 here) ∙ opening here
]

pub fresh_pushed : (segments : List Segment) (reached : List Reached) (walks : List Traversal) (w : Traversal) → Holds segments reached walks
    → (0 < length segments → ((w.source == (segment_at segments (length segments - 1)).source) && (w.kind == (segment_at segments (length segments - 1)).kind)) ≡ false)
    → Holds (segments ++ (record { source = w.source; kind = w.kind; start = length reached }) ∷ []) (reached ++ (record { row = w.row; target = w.target }) ∷ []) (walks ++ w ∷ [])
fresh_pushed segments reached walks w h differs =
    let n : ℕ = length reached in
    let r : Reached = record { row = w.row; target = w.target } in
    let s : Segment = record { source = w.source; kind = w.kind; start = n } in
    let long : length (segments ++ s ∷ []) ≡ length segments + 1 = length_push segments s in
    let is_last : segment_of (segments ++ s ∷ []) n ≡ s =
    last_segment (segments ++ s ∷ []) n (λ k g. new_start segments s n k refl h.within (omega arith))
    ∙ get_or_push segments s (record { source = 0; kind = 0; start = 0 }) (length (segments ++ s ∷ []) - 1) (omega arith) in
    record {
      shows = shown_more segments (segments ++ s ∷ []) reached r (λ i g. earlier_segment segments s i g (h.begun (omega arith)))
          ∙ ap (λ l. l ++ walk_of (segment_of (segments ++ s ∷ []) n) r ∷ []) h.shows
          ∙ ap (λ x. walks ++ walk_of x r ∷ []) is_last;
      rising = λ a b le g. new_rising segments s n a b refl h.within h.rising le (omega arith);
      within = λ k g. omega (arith, new_start segments s n k refl h.within (omega arith), length_push reached r);
      opening = λ _. new_opening segments s n refl h.begun h.opening;
      begun = λ _. omega arith;
      runs = long ∙ ap (λ m. m + 1) h.runs ∙ sym (run_count_more walks w ∙ ap (λ x. run_count walks + cond x 1 0) (ap (opens (walks ++ w ∷ [])) (long_walks h) ∙ fresh_opens segments reached walks w h differs));
    }

-- some segment starts at or before each place
pub some_found : {segments : List Segment} {reached : List Reached} {walks : List Traversal} → Holds segments reached walks → (place : ℕ) → place < length reached
    → 1 ≤ count_by (λ (s : Segment). nat_le s.start place) segments
some_found {segments} {reached} h place low =
    let here : 0 < length segments = h.begun (omega arith) in
    first_counts segments place here (le_holds (segment_at segments 0).start place (omega (arith, h.opening here)))
  where
    first_counts : (segments : List Segment) (place : ℕ) → 0 < length segments → nat_le (segment_at segments 0).start place ≡ true → 1 ≤ count_by (λ (s : Segment). nat_le s.start place) segments
    first_counts [] place some at = absurd (omega arith)
    first_counts (s ∷ rest) place some at = omega (arith, count_cons (λ (s : Segment). nat_le s.start place) s rest ∙ ap (λ b. cond b 1 0 + count_by (λ (s : Segment). nat_le s.start place) rest) at)

pub length_runs : (segments : List Segment) (reached : List Reached) (walks : List Traversal) → shown segments reached ≡ walks → length walks ≡ length reached
length_runs segments reached walks e = sym (ap length e) ∙ length_shown segments reached

pub holds_none : Holds [] [] []
unfolding shown run_count
holds_none = record {
  shows = refl;
  rising = λ a b le h. absurd (omega arith);
  within = λ k h. absurd (omega arith);
  opening = λ h. absurd (omega arith);
  begun = λ h. absurd (omega arith);
  runs = sym (many_zero (opens []));
}

-- without segments and places no walks are shown
pub none_shown : (segments : List Segment) (reached : List Reached) → segments ≡ [] → reached ≡ [] → shown segments reached ≡ []
none_shown segments reached first second = ap₂ shown first second ∙ holds_none.shows

pub none_held : (segments : List Segment) (reached : List Reached) → segments ≡ [] → reached ≡ [] → Holds segments reached (shown segments reached)
none_held segments reached first second =
    subst (λ (s : List Segment). Holds s reached (shown s reached)) (sym first)
    (subst (λ (r : List Reached). Holds [] r (shown [] r)) (sym second) (subst (Holds [] []) (sym holds_none.shows) holds_none))
