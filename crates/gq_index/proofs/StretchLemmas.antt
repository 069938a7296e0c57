-- StretchLemmas: which walk stands at a place of stretches, and what one more stretch adds.
use Rattle.std.proofs.Common.{ℕ, zero, suc, ◌+◌, ◌-◌, ◌<◌, ◌≤◌, ◌≡◌, Bool, true, false, cond, not, List, [], ◌∷◌, ◌++◌, ◌==◌, ◌&&◌, length, get_or, take, drop, map, refl, ap, sym, ◌∙◌, subst, arith, append-nil}
use Rattle.std.specs.List.{filter}
use Rattle.std.proofs.lemmas.List.{append_assoc, get_or_append_left, get_or-append_right, get_or-map, length-append, length-map}
use Rattle.std.proofs.lemmas.List.Concat.{flat_map-append}
use Rattle.std.proofs.lemmas.Bool.Decides.{nat_tests}
use Rattle.gq_index.specs.declared.stretches.Stretch.{Stretch}
use Rattle.gq_index.specs.declared.walks.Neighbor.{Neighbor}
use Rattle.gq_index.specs.declared.walks.Traversal.{Traversal}
use Rattle.gq_index.specs.Runs.{opens, run_count}
use Rattle.gq_index.specs.Stretches.{stretch_at, way_at, walks_in, walks_along, end_of, FollowFrom, AreStretches}
use Rattle.gq_index.specs.Walks.{no_walk, walk_at, walked}
use Rattle.gq_index.proofs.RunLemmas.{opens_at, run_count_more}

-- if what passes is one part, that part is what is kept
pub filter_part : {X : Type 0} (p : X → Bool) (d : X) (xs : List X) (a n : ℕ) → a + n ≤ length xs
    → ((k : ℕ) → k < a → p (get_or xs k d) ≡ false) → ((k : ℕ) → a ≤ k → k < a + n → p (get_or xs k d) ≡ true)
    → ((k : ℕ) → a + n ≤ k → k < length xs → p (get_or xs k d) ≡ false) → filter p xs ≡ take n (drop a xs)
filter_part p d [] zero zero long front part back = refl
filter_part p d [] zero (suc n) long front part back = absurd (omega arith)
filter_part p d [] (suc a) n long front part back = absurd (omega arith)
filter_part p d (x ∷ xs) zero zero long front part back =
    ap (λ t. cond t (x ∷ filter p xs) (filter p xs)) (back 0 (omega arith) (omega arith))
    ∙ filter_part p d xs 0 0 (omega arith) (λ k h. absurd (omega arith)) (λ k g h. absurd (omega arith)) (λ k _ h. back (suc k) (omega arith) (omega arith))
filter_part p d (x ∷ xs) zero (suc n) long front part back =
    ap (λ t. cond t (x ∷ filter p xs) (filter p xs)) (part 0 (omega arith) (omega arith))
    ∙ ap (λ l. x ∷ l) (filter_part p d xs 0 n (omega arith) (λ k h. absurd (omega arith)) (λ k g h. part (suc k) (omega arith) (omega arith)) (λ k g h. back (suc k) (omega arith) (omega arith)))
filter_part p d (x ∷ xs) (suc a) n long front part back =
    ap (λ t. cond t (x ∷ filter p xs) (filter p xs)) (front 0 (omega arith))
    ∙ filter_part p d xs a n (omega arith) (λ k h. front (suc k) (omega arith)) (λ k g h. part (suc k) (omega arith) (omega arith)) (λ k g h. back (suc k) (omega arith) (omega arith))

length_in : (s : Stretch) → length (walks_in s) ≡ length s.ways.now
length_in s = length-map s.ways.now (walked s.source)

-- a stretch begins behind those before it
start_behind : (n : ℕ) (stretches : List Stretch) (k : ℕ) → FollowFrom n stretches → k < length stretches → n ≤ (stretch_at stretches k).start
start_behind n [] k follow h = absurd (omega arith)
start_behind n (s ∷ rest) zero follow h = omega (arith, follow.0)
start_behind n (s ∷ rest) (suc k) follow h = omega (arith, follow.0, start_behind (end_of s) rest k follow.2 (omega arith))

-- the walk at a place of a stretch
pub walk_there : (n : ℕ) (stretches : List Stretch) (k place : ℕ) → FollowFrom n stretches → k < length stretches
    → (stretch_at stretches k).start ≤ place → place < end_of (stretch_at stretches k)
    → walk_at (walks_along stretches) (place - n)
    ≡ walked (stretch_at stretches k).source (way_at (stretch_at stretches k).ways.now (place - (stretch_at stretches k).start))
walk_there n [] k place follow h low high = absurd (omega arith)
walk_there n (s ∷ rest) zero place follow h low high =
    let here : place - s.start < length s.ways.now = omega arith in
    let same : place - n ≡ place - s.start = omega (arith, follow.0) in
    ap (walk_at (walks_along (s ∷ rest))) same
    ∙ get_or_append_left (walks_in s) (walks_along rest) no_walk (place - s.start) (omega (arith, length_in s))
    ∙ get_or-map (walked s.source) s.ways.now (place - s.start) (record { kind = 0; row = 0; target = 0 }) no_walk here
walk_there n (s ∷ rest) (suc k) place follow h low high =
    let behind : end_of s ≤ (stretch_at rest k).start = start_behind (end_of s) rest k follow.2 (omega arith) in
    let same : place - n - length s.ways.now ≡ place - end_of s = omega (arith, follow.0) in
    get_or-append_right (walks_in s) (walks_along rest) (length s.ways.now) (place - n) no_walk (length_in s) (omega (arith, follow.0))
    ∙ ap (walk_at (walks_along rest)) same
    ∙ walk_there (end_of s) rest k place follow.2 (omega arith) low high

-- a place is in the last stretch that starts at or before it
pub ends_behind : (n : ℕ) (stretches : List Stretch) (k place : ℕ) → FollowFrom n stretches → k < length stretches
    → (k + 1 < length stretches → place < (stretch_at stretches (k + 1)).start) → place < n + length (walks_along stretches)
    → place < end_of (stretch_at stretches k)
ends_behind n [] k place follow h next low = absurd (omega arith)
ends_behind n (s ∷ []) zero place follow h next low = omega (arith, follow.0, length_in s, ap length (append-nil (walks_in s)))
ends_behind n (s ∷ t ∷ rest) zero place follow h next low = let later : place < t.start = next (omega arith) in omega (arith, follow.2.0)
ends_behind n (s ∷ rest) (suc k) place follow h next low =
    let P : ℕ → Type 0 = λ j. place < (stretch_at (s ∷ rest) j).start in
    let e : suc k + 1 ≡ suc (k + 1) = omega arith in
    ends_behind (end_of s) rest k place follow.2 (omega arith) (λ g. subst P e (next (omega arith)))
    (omega (arith, follow.0, length-append (walks_in s) (walks_along rest), length_in s))

-- the first stretch starts at the first place
pub first_start : (stretches : List Stretch) → FollowFrom 0 stretches → 0 < length stretches → (stretch_at stretches 0).start ≡ 0
first_start [] follow some = absurd (omega arith)
first_start (s ∷ rest) follow some = follow.0

-- where walks are, stretches are
pub some_stretch : (stretches : List Stretch) → 0 < length (walks_along stretches) → 0 < length stretches
some_stretch [] some = absurd (omega arith)
some_stretch (s ∷ rest) some = omega arith

-- some stretch starts at or before each place
pub some_before : (stretches : List Stretch) (end place : ℕ) → FollowFrom 0 stretches → place < length (walks_along stretches)
    → (end < length stretches → place < (stretch_at stretches end).start) → 0 < end
some_before stretches zero place follow low behind =
    let some : 0 < length stretches = some_stretch stretches (omega arith) in
    absurd (omega (arith, behind some, first_start stretches follow some))
some_before stretches (suc end) place follow low behind = omega arith

-- one more stretch
follow_more : (n : ℕ) (stretches : List Stretch) (s : Stretch) → FollowFrom n stretches → s.start ≡ n + length (walks_along stretches)
    → 0 < length s.ways.now → FollowFrom n (stretches ++ s ∷ [])
follow_more n [] s follow is some = (omega arith, some, tt)
follow_more n (t ∷ rest) s follow is some =
    (follow.0, follow.1, follow_more (end_of t) rest s follow.2 (omega (arith, follow.0, length-append (walks_in t) (walks_along rest), length_in t)) some)

along_more : (stretches : List Stretch) (s : Stretch) → walks_along (stretches ++ s ∷ []) ≡ walks_along stretches ++ walks_in s
along_more stretches s = flat_map-append walks_in stretches (s ∷ []) ∙ ap (λ l. walks_along stretches ++ l) (append-nil (walks_in s))

-- more walks have at least as many runs
runs_grow : (walks more : List Traversal) → run_count walks ≤ run_count (walks ++ more)
runs_grow walks [] = let same : walks ++ [] ≡ walks = append-nil walks in rw same (omega arith)
runs_grow walks (w ∷ more) =
    let same : (walks ++ w ∷ []) ++ more ≡ walks ++ w ∷ more = append_assoc walks (w ∷ []) more in
    let P : List Traversal → Type 0 = λ l. run_count walks ≤ run_count l in
    subst P same (omega (arith, run_count_more walks w, runs_grow (walks ++ w ∷ []) more))

-- a walk from another source than that of the last one begins a run
new_opens : (walks : List Traversal) (w : Traversal) → (0 < length walks → (walk_at walks (length walks - 1)).source < w.source)
    → opens (walks ++ w ∷ []) (length walks) ≡ true
new_opens [] w later = refl
new_opens (x ∷ xs) w later =
    let last : Traversal = walk_at (x ∷ xs) (length (x ∷ xs) - 1) in
    let less : last.source < w.source = later (omega arith) in
    let other : (w.source == last.source) ≡ false = grind (arith, nat_tests) in
    opens_at (x ∷ xs) w (length (x ∷ xs)) refl (record { source = last.source; kind = last.kind; start = 0 }) (omega arith) refl refl
    ∙ ap (λ b. not (b && (w.kind == last.kind))) other

runs_more : (walks : List Traversal) (v : ℕ) (ways : List Neighbor) → 0 < length ways → (0 < length walks → (walk_at walks (length walks - 1)).source < v)
    → run_count walks + 1 ≤ run_count (walks ++ map (walked v) ways)
runs_more walks v [] some later = absurd (omega arith)
runs_more walks v (way ∷ ways) some later =
    let w : Traversal = walked v way in
    let same : (walks ++ w ∷ []) ++ map (walked v) ways ≡ walks ++ w ∷ map (walked v) ways = append_assoc walks (w ∷ []) (map (walked v) ways) in
    let P : List Traversal → Type 0 = λ l. run_count walks + 1 ≤ run_count l in
    let one : run_count (walks ++ w ∷ []) ≡ run_count walks + 1 = run_count_more walks w ∙ ap (λ b. run_count walks + cond b 1 0) (new_opens walks w later) in
    subst P same (omega (arith, one, runs_grow (walks ++ w ∷ []) (map (walked v) ways)))

pub pushed : (stretches : List Stretch) (s : Stretch) (count : ℕ) (walks : List Traversal) → AreStretches stretches count → walks_along stretches ≡ walks → s.start ≡ count
    → 0 < length s.ways.now → (0 < length walks → (walk_at walks (length walks - 1)).source < s.source)
    → AreStretches (stretches ++ s ∷ []) (count + length s.ways.now)
pushed stretches s count walks are shows start some later =
    let more = along_more stretches s in
    let Q : List Traversal → Type 0 = λ l. 0 < length l → (walk_at l (length l - 1)).source < s.source in
    let R : List Traversal → Type 0 = λ l. length (stretches ++ s ∷ []) ≤ run_count l in
    record {
      follow = follow_more 0 stretches s are.follow (omega (arith, are.counted)) some;
      counted = ap length more ∙ length-append (walks_along stretches) (walks_in s) ∙ omega (arith, are.counted, length_in s);
      few = subst R (sym more) (omega (arith, are.few, length-append stretches (s ∷ []), runs_more (walks_along stretches) s.source s.ways.now some (subst Q (sym shows) later)));
    }

pub pushed_shows : (stretches : List Stretch) (s : Stretch) (walks : List Traversal) → walks_along stretches ≡ walks
    → walks_along (stretches ++ s ∷ []) ≡ walks ++ map (walked s.source) s.ways.now
pushed_shows stretches s walks shows = along_more stretches s ∙ ap (λ l. l ++ walks_in s) shows
