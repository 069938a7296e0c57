-- PageLemmas: contents in pages: where one is stored, and the list of all after a page has changed.
use Rattle.std.proofs.Common.{◌≡◌, ℕ, zero, suc, ◌+◌, ◌-◌, ◌*◌, ◌/◌, ◌%◌, ◌<◌, ◌≤◌, ◌≢◌, true, List, [], ◌∷◌, ◌++◌, take, length, get_or, Some, None, Result, Ok, Err, OnOk, OnErr, refl, sym, ap, ◌∙◌, subst, arith, length-append, div-add-mod', mod-lt}
use Rattle.std.specs.Arc.{arc_value}
use Rattle.std.specs.List.{slice_get, slice_set}
use Rattle.std.specs.declared.alloc.Global.{Global}
use Rattle.std.specs.declared.sync.Arc.{Arc}
use Rattle.std.proofs.Math.Seq.{take-length}
use Rattle.gq_value.specs.Val.{Val}
use Rattle.gq_accum_laws.specs.Fits.{fits}
use Rattle.gq_nest.specs.declared.content.Content.{Content}
use Rattle.gq_nest.specs.Entries.{every}
use Rattle.gq_nest.specs.Shows.{ShowsTheSame}
use Rattle.gq_nest.specs.Tells.{CanBeSet, Tells}
use Rattle.gq_frame.specs.declared.page.Page.{Page}
use Rattle.gq_frame.specs.declared.page.Page.TheVariants as page
use Rattle.gq_frame.specs.declared.single.Single.{Single}
use Rattle.gq_frame.specs.declared.single.Single.TheVariants as single
use Rattle.gq_frame.specs.Targets.{ShowTheSame}
use Rattle.gq_frame.specs.Pages.{AddsSame, AllFit, AllowsAt, ArePages, Becomes, ChangesAt, IsApart, IsFilled, IsFull, IsHeld, IsKept, IsOwnCopy, Keeps, SealEach, Seals, ShareEach, Shares, contents_of, content_of, each_of, items_of, page_size}
use Rattle.gq_frame.proofs.OpenSteps.{shows_itself, same_length}
use Rattle.gq_frame.proofs.SingleLemmas.{each_get, each_length, each_set, held_set, same_put}
use Rattle.gq_frame.proofs.TargetLemmas.{get_below, take_more}

some_is : {A : Type 0} {a b : A} → Some a ≡ Some b → a ≡ b
some_is h = cc

none_apart : {A P : Type 0} (x : A) → None ≡ Some x → P
none_apart x h = absurd (cc h)

-- ---- lists

module _ {A : Type 0} where
  front : (xs ys : List A) (k : ℕ) → k < length xs → slice_get (xs ++ ys) k ≡ slice_get xs k
  front [] ys k l = absurd (omega (arith, l))
  front (x ∷ xs) ys zero l = refl
  front (x ∷ xs) ys (suc k) l = front xs ys k (omega (arith, l))

  behind : (xs ys : List A) (m k : ℕ) → m ≡ length xs + k → slice_get (xs ++ ys) m ≡ slice_get ys k
  behind [] ys m k e = let f : m ≡ k = omega (arith, e) in ap (slice_get ys) f
  behind (x ∷ xs) ys zero k e = absurd (omega (arith, e))
  behind (x ∷ xs) ys (suc m) k e = behind xs ys m k (omega (arith, e))

  set_front : (xs ys : List A) (k : ℕ) (w : A) → k < length xs → slice_set (xs ++ ys) k w ≡ slice_set xs k w ++ ys
  set_front [] ys k w l = absurd (omega (arith, l))
  set_front (x ∷ xs) ys zero w l = refl
  set_front (x ∷ xs) ys (suc k) w l = ap (λ t. x ∷ t) (set_front xs ys k w (omega (arith, l)))

  set_behind : (xs ys : List A) (m k : ℕ) (w : A) → m ≡ length xs + k → slice_set (xs ++ ys) m w ≡ xs ++ slice_set ys k w
  set_behind [] ys m k w e = let f : m ≡ k = omega (arith, e) in ap (λ (i : ℕ). slice_set ys i w) f
  set_behind (x ∷ xs) ys zero k w e = absurd (omega (arith, e))
  set_behind (x ∷ xs) ys (suc m) k w e = ap (λ t. x ∷ t) (set_behind xs ys m k w (omega (arith, e)))

  pub grouped : (xs ys zs : List A) → (xs ++ ys) ++ zs ≡ xs ++ (ys ++ zs)
  grouped [] ys zs = refl
  grouped (x ∷ xs) ys zs = ap (λ t. x ∷ t) (grouped xs ys zs)

  pub none_after : (xs : List A) → xs ++ [] ≡ xs
  none_after [] = refl
  none_after (x ∷ xs) = ap (λ t. x ∷ t) (none_after xs)

  pub every_append : (P : A → Type 0) (xs ys : List A) → every P xs → every P ys → every P (xs ++ ys)
  every_append P [] ys p q = q
  every_append P (x ∷ xs) ys p q = (p.0, every_append P xs ys p.1 q)

  pub every_first : (P : A → Type 0) (xs : List A) → every P (take 0 xs)
  every_first P xs = tt

  pub every_more : (P : A → Type 0) (xs : List A) (i : ℕ) (x : A) → i < length xs → x ≡ get_or xs i x → P x → every P (take i xs) → every P (take (i + 1) xs)
  every_more P xs i x l is h p = subst (every P) (sym (take_more xs i x l is)) (every_append P (take i xs) (x ∷ []) p (h, tt))

  pub every_done : (P : A → Type 0) (xs : List A) (i : ℕ) → length xs ≤ i → i ≤ length xs → every P (take i xs) → every P xs
  every_done P xs i l m p = subst (every P) ((let e : i ≡ length xs = omega (arith, l, m) in ap (λ n. take n xs) e) ∙ take-length xs) p

-- ---- contents that show the same

pub same_refl : (xs : List Content) → ShowTheSame xs xs
same_refl [] = tt
same_refl (x ∷ xs) = (shows_itself x x refl, same_refl xs)

-- a content appended, if there was memory
pub adds_same : {E : Type 0} (r : Result (Unit {0}) E) (c d : Content) (old new : List Content) → OnOk r (new ≡ old ++ d ∷ []) → ShowsTheSame c d → OnOk r (AddsSame c old new)
adds_same (Ok u) c d old new is h = record { copy = d; added = is; same = h }
adds_same (Err u) c d old new is h = tt

same_append : (xs ys us vs : List Content) → ShowTheSame xs ys → ShowTheSame us vs → ShowTheSame (xs ++ us) (ys ++ vs)
same_append [] [] us vs s t = t
same_append [] (y ∷ ys) us vs s t = absurd s
same_append (x ∷ xs) [] us vs s t = absurd s
same_append (x ∷ xs) (y ∷ ys) us vs s t = (s.0, same_append xs ys us vs s.1 t)

-- the content in the same place
same_before : (xs ys : List Content) → ShowTheSame xs ys → (i : ℕ) (d : Content) → slice_get ys i ≡ Some d → (c : Content) × (slice_get xs i ≡ Some c) × ShowsTheSame c d
same_before [] [] s i d g = none_apart d g
same_before [] (y ∷ ys) s i d g = absurd s
same_before (x ∷ xs) [] s i d g = absurd s
same_before (x ∷ xs) (y ∷ ys) s zero d g = (x, refl, subst (ShowsTheSame x) (some_is g) s.0)
same_before (x ∷ xs) (y ∷ ys) s (suc i) d g = same_before xs ys s.1 i d g

length_set : (xs : List Content) (i : ℕ) (w : Content) → length (slice_set xs i w) ≡ length xs
length_set [] i w = refl
length_set (x ∷ xs) zero w = refl
length_set (x ∷ xs) (suc i) w = ap suc (length_set xs i w)

get_set : (xs : List Content) (i : ℕ) (w : Content) → i < length xs → slice_get (slice_set xs i w) i ≡ Some w
get_set [] i w l = absurd (omega (arith, l))
get_set (x ∷ xs) zero w l = refl
get_set (x ∷ xs) (suc i) w l = get_set xs i w (omega (arith, l))

set_twice : (xs : List Content) (i : ℕ) (v w : Content) → slice_set (slice_set xs i v) i w ≡ slice_set xs i w
set_twice [] i v w = refl
set_twice (x ∷ xs) zero v w = refl
set_twice (x ∷ xs) (suc i) v w = ap (λ t. x ∷ t) (set_twice xs i v w)

-- ---- one page

pub own_items : (p q : Page) (xs : List Content) → IsOwnCopy p q → q ≡ page.Own xs → ShowTheSame (items_of p) xs
own_items p q xs h e = subst (λ (x : Page). ShowTheSame (items_of p) (items_of x)) e h.same

pub own_bound : (p q : Page) (xs : List Content) (at : ℕ) → IsOwnCopy p q → q ≡ page.Own xs → at < length (items_of p) → at < length xs
own_bound p q xs at h e l = let n = same_length (items_of p) xs (own_items p q xs h e) in omega (arith, n, l)

pub keeps_own : (p q : Page) (xs : List Content) (at : ℕ) (w : Content) → IsOwnCopy p q → q ≡ page.Own xs → Keeps p (page.Own (slice_set xs at w))
keeps_own p q xs at w h e = record { count = length_set xs at w ∙ same_length (items_of p) xs (own_items p q xs h e); kept = λ k. tt }

pub allows_own : (p q : Page) (xs : List Content) (at : ℕ) (v : Val) (c : Content) → IsOwnCopy p q → q ≡ page.Own xs → AllowsAt v at (items_of p) → slice_get xs at ≡ Some c → CanBeSet c v
allows_own p q xs at v c h e allows g =
    let b = same_before (items_of p) xs (own_items p q xs h e) at c g in
    let can = allows b.0 b.1 in
    record { kind = can.kind; holds = can.holds; shows = b.2.each can.kind can.holds can.shows; settable = can.settable; takes = can.takes }

pub own_self : (p : Page) (xs : List Content) → p ≡ page.Own xs → IsOwnCopy p p
own_self p xs e = record { apart = subst IsApart (sym e) tt; same = same_refl (items_of p); kept = λ k. k }

pub loose_self : (p : Page) (ss : List Single) → p ≡ page.Loose ss → IsOwnCopy p p
loose_self p ss e = record { apart = subst IsApart (sym e) tt; same = same_refl (items_of p); kept = λ k. k }

pub own_as : (p : Page) (xs : List Content) → p ≡ page.Own xs → IsOwnCopy p (page.Own xs)
own_as p xs e = record { apart = tt; same = subst (λ (q : Page). ShowTheSame (items_of q) xs) (sym e) (same_refl xs); kept = λ k. tt }

pub loose_as : (p : Page) (ss : List Single) → p ≡ page.Loose ss → IsOwnCopy p (page.Loose ss)
loose_as p ss e = record { apart = tt; same = subst (λ (q : Page). ShowTheSame (items_of q) (each_of ss)) (sym e) (same_refl (each_of ss)); kept = λ k. subst IsKept e k }

pub own_last : (p : Page) (s : Arc (List Content) Global) (xs : List Content) → p ≡ page.Shared s → xs ≡ arc_value s → IsOwnCopy p (page.Own xs)
own_last p s xs e f = record { apart = tt; same = subst (λ (q : Page). ShowTheSame (items_of q) xs) (sym e) (subst (ShowTheSame (arc_value s)) (sym f) (same_refl (arc_value s))); kept = λ k. tt }

pub own_copy : (p : Page) (s : Arc (List Content) Global) (xs : List Content) → p ≡ page.Shared s → ShowTheSame (arc_value s) xs → IsOwnCopy p (page.Own xs)
own_copy p s xs e h = record { apart = tt; same = subst (λ (q : Page). ShowTheSame (items_of q) xs) (sym e) h; kept = λ k. tt }

pub shares_shared : (p : Page) (s t : Arc (List Content) Global) → p ≡ page.Shared s → arc_value t ≡ arc_value s → Shares p (page.Shared t)
shares_shared p s t e f = subst (λ (q : Page). Shares q (page.Shared t)) (sym e) (record {
  same = subst (ShowTheSame (arc_value s)) (sym f) (same_refl (arc_value s));
  kept = λ k. subst (λ xs. (length xs ≡ page_size) × AllFit xs) (sym f) k;
})

pub ruleset own_laws = (own_bound, keeps_own, allows_own, own_self, own_as, own_last, own_copy, loose_self, loose_as, shares_shared)

-- ---- a page of contents one by one

loose_items : (p q : Page) (ss : List Single) → IsOwnCopy p q → q ≡ page.Loose ss → ShowTheSame (items_of p) (each_of ss)
loose_items p q ss h e = subst (λ (x : Page). ShowTheSame (items_of p) (items_of x)) e h.same

pub loose_bound : (p q : Page) (ss : List Single) (at : ℕ) → IsOwnCopy p q → q ≡ page.Loose ss → at < length (items_of p) → at < length ss
loose_bound p q ss at h e l = let n = same_length (items_of p) (each_of ss) (loose_items p q ss h e) in let m = each_length ss in omega (arith, n, m, l)

pub keeps_loose : (p q : Page) (ss : List Single) (at : ℕ) (s t : Single) → IsOwnCopy p q → q ≡ page.Loose ss → slice_get ss at ≡ Some s → (IsHeld s → IsHeld t) → Keeps p (page.Loose (slice_set ss at t))
keeps_loose p q ss at s t h e g held = record {
  count = ap length (each_set ss at t) ∙ length_set (each_of ss) at (content_of t) ∙ same_length (items_of p) (each_of ss) (loose_items p q ss h e);
  kept = λ k. held_set ss at s t g held (subst IsKept e (h.kept k));
}

pub allows_loose : (p q : Page) (ss : List Single) (at : ℕ) (v : Val) (s : Single) → IsOwnCopy p q → q ≡ page.Loose ss → AllowsAt v at (items_of p) → slice_get ss at ≡ Some s → CanBeSet (content_of s) v
allows_loose p q ss at v s h e allows g =
    let b = same_before (items_of p) (each_of ss) (loose_items p q ss h e) at (content_of s) (each_get ss at s g) in
    let can = allows b.0 b.1 in
    record { kind = can.kind; holds = can.holds; shows = b.2.each can.kind can.holds can.shows; settable = can.settable; takes = can.takes }

pub changes_loose : (R : Content → Content → Type 0) (p q : Page) (ss : List Single) (at : ℕ) (s t : Single) → IsOwnCopy p q → q ≡ page.Loose ss → at < length (items_of p) → slice_get ss at ≡ Some s → Becomes R s t
    → ChangesAt R at (items_of p) (items_of (page.Loose (slice_set ss at t)))
changes_loose R p q ss at s t h e l g b = record {
  middle = slice_set (each_of ss) at b.was;
  same = same_put (items_of p) (each_of ss) at (content_of s) b.was (loose_items p q ss h e) (each_get ss at s g) b.same;
  was = b.was;
  now = content_of t;
  stood = get_set (each_of ss) at b.was (let n = each_length ss in let m = loose_bound p q ss at h e l in omega (arith, n, m));
  becomes = b.becomes;
  contents = each_set ss at t ∙ sym (set_twice (each_of ss) at b.was (content_of t));
}

-- ---- where a content is stored

pub page_there : (ps : List Page) (n k : ℕ) → ArePages ps → k < page_size → n * page_size + k < length (contents_of ps) → (p : Page) × (slice_get ps n ≡ Some p) × (k < length (items_of p))
page_there [] n k a l h = absurd (omega (arith, h))
page_there (p ∷ []) zero k a l h = (p, refl, (let e = length-append (items_of p) [] in omega (arith, h, e)))
page_there (p ∷ []) (suc n) k a l h = absurd (let e = length-append (items_of p) [] in let f = a.1 in omega (arith, h, e, f))
page_there (p ∷ q ∷ ps) zero k a l h = (p, refl, (let f = a.1 in omega (arith, f, l)))
page_there (p ∷ q ∷ ps) (suc n) k a l h = page_there (q ∷ ps) n k a.2 l (let e = length-append (items_of p) (contents_of (q ∷ ps)) in let f = a.1 in omega (arith, h, e, f))

pub get_there : (ps : List Page) (n k : ℕ) (p : Page) → ArePages ps → slice_get ps n ≡ Some p → k < length (items_of p) → slice_get (contents_of ps) (n * page_size + k) ≡ slice_get (items_of p) k
get_there [] n k p a g l = none_apart p g
get_there (q ∷ ps) zero k p a g l = let e : q ≡ p = some_is g in
    (let z : 0 * page_size + k ≡ k = omega arith in ap (slice_get (contents_of (q ∷ ps))) z) ∙ front (items_of q) (contents_of ps) k (subst (λ (x : Page). k < length (items_of x)) (sym e) l) ∙ ap (λ (x : Page). slice_get (items_of x) k) e
get_there (q ∷ []) (suc n) k p a g l = none_apart p g
get_there (q ∷ r ∷ ps) (suc n) k p a g l = behind (items_of q) (contents_of (r ∷ ps)) (suc n * page_size + k) (n * page_size + k) (let f = a.1 in omega (arith, f)) ∙ get_there (r ∷ ps) n k p a.2 g l

-- ---- a page in the place of another

pub changes_there : (R : Content → Content → Type 0) (ps : List Page) (n k : ℕ) (p q : Page) → ArePages ps → slice_get ps n ≡ Some p → k < length (items_of p) → ChangesAt R k (items_of p) (items_of q)
    → ChangesAt R (n * page_size + k) (contents_of ps) (contents_of (slice_set ps n q))
changes_there R [] n k p q a g l h = none_apart p g
changes_there R (r ∷ ps) zero k p q a g l h = let z : k ≡ 0 * page_size + k = omega arith in subst (λ (m : ℕ). ChangesAt R m (contents_of (r ∷ ps)) (items_of q ++ contents_of ps)) z (record {
  middle = h.middle ++ contents_of ps;
  same = same_append (items_of r) h.middle (contents_of ps) (contents_of ps) (subst (λ (x : Page). ShowTheSame (items_of x) h.middle) (sym e) h.same) (same_refl (contents_of ps));
  was = h.was;
  now = h.now;
  stood = front h.middle (contents_of ps) k below ∙ h.stood;
  becomes = h.becomes;
  contents = ap (λ xs. xs ++ contents_of ps) h.contents ∙ sym (set_front h.middle (contents_of ps) k h.now below);
})
  where
    e : r ≡ p
    e = some_is g

    below : k < length h.middle
    below = get_below h.middle k h.was h.stood
changes_there R (r ∷ []) (suc n) k p q a g l h = none_apart p g
changes_there R (r ∷ s ∷ ps) (suc n) k p q a g l h =
    let t = changes_there R (s ∷ ps) n k p q a.2 g l h in
    let further : suc n * page_size + k ≡ length (items_of r) + (n * page_size + k) = (let f = a.1 in omega (arith, f)) in
    record {
      middle = items_of r ++ t.middle;
      same = same_append (items_of r) (items_of r) (contents_of (s ∷ ps)) t.middle (same_refl (items_of r)) t.same;
      was = t.was;
      now = t.now;
      stood = behind (items_of r) t.middle (suc n * page_size + k) (n * page_size + k) further ∙ t.stood;
      becomes = t.becomes;
      contents = ap (λ xs. items_of r ++ xs) t.contents ∙ sym (set_behind (items_of r) t.middle (suc n * page_size + k) (n * page_size + k) t.now further);
    }

filled_as : (p q : Page) (ps : List Page) → length (items_of q) ≡ length (items_of p) → IsFilled p ps → IsFilled q ps
filled_as p q [] e f = omega (arith, e, f)
filled_as p q (r ∷ ps) e f = e ∙ f

filled_before : (r : Page) (ps : List Page) (n : ℕ) (q : Page) → IsFilled r ps → IsFilled r (slice_set ps n q)
filled_before r [] n q f = f
filled_before r (s ∷ ps) zero q f = f
filled_before r (s ∷ ps) (suc n) q f = f

pub keeps_there : (ps : List Page) (n : ℕ) (p q : Page) → ArePages ps → slice_get ps n ≡ Some p → Keeps p q → ArePages (slice_set ps n q) × (length (contents_of (slice_set ps n q)) ≡ length (contents_of ps))
keeps_there [] n p q a g h = none_apart p g
keeps_there (r ∷ ps) zero p q a g h = (
  (h.kept (subst IsKept e a.0), filled_as r q ps count a.1, a.2),
  (let b = length-append (items_of q) (contents_of ps) in let c = length-append (items_of r) (contents_of ps) in omega (arith, b, c, count)),
)
  where
    e : r ≡ p
    e = some_is g

    count : length (items_of q) ≡ length (items_of r)
    count = h.count ∙ ap (λ (x : Page). length (items_of x)) (sym e)
keeps_there (r ∷ ps) (suc n) p q a g h = let t = keeps_there ps n p q a.2 g h in (
  (a.0, filled_before r ps n q a.1, t.0),
  (let b = length-append (items_of r) (contents_of (slice_set ps n q)) in let c = length-append (items_of r) (contents_of ps) in let d = t.1 in omega (arith, b, c, d)),
)

-- ---- by the index of a content

-- the page of a content, and its index there
module _ (ps : List Page) (cs : List Content) (at : ℕ) (view : contents_of ps ≡ cs) (a : ArePages ps) where
  whole : at / page_size * page_size + at % page_size ≡ at
  whole = div-add-mod' at page_size

  there : at < length cs → (p : Page) × (slice_get ps (at / page_size) ≡ Some p) × (at % page_size < length (items_of p))
  there l = page_there ps (at / page_size) (at % page_size) a (mod-lt at (omega arith)) (let e = whole in let v = ap length view in omega (arith, e, v, l))

  pub page_index : at < length cs → at / page_size < length ps
  page_index l = let t = there l in get_below ps (at / page_size) t.0 t.1

  pub index_there : (p : Page) → at < length cs → slice_get ps (at / page_size) ≡ Some p → at % page_size < length (items_of p)
  index_there p l g = let t = there l in subst (λ (q : Page). at % page_size < length (items_of q)) (some_is (sym t.1 ∙ g)) t.2

  pub content_there : (p : Page) (x : Content) → at < length cs → slice_get ps (at / page_size) ≡ Some p → slice_get (items_of p) (at % page_size) ≡ Some x → slice_get cs at ≡ Some x
  content_there p x l g h = ap (slice_get cs) (sym whole) ∙ ap (λ ys. slice_get ys (at / page_size * page_size + at % page_size)) (sym view)
      ∙ get_there ps (at / page_size) (at % page_size) p a g (index_there p l g) ∙ h

  pub changed_there : (R : Content → Content → Type 0) (p q : Page) → at < length cs → slice_get ps (at / page_size) ≡ Some p → ChangesAt R (at % page_size) (items_of p) (items_of q) → ChangesAt R at cs (contents_of (slice_set ps (at / page_size) q))
  changed_there R p q l g h = subst (λ ys. ChangesAt R at ys (contents_of (slice_set ps (at / page_size) q))) view
      (subst (λ (m : ℕ). ChangesAt R m (contents_of ps) (contents_of (slice_set ps (at / page_size) q))) whole
      (changes_there R ps (at / page_size) (at % page_size) p q a g (index_there p l g) h))

  pub allowed_there : (v : Val) (p : Page) → at < length cs → slice_get ps (at / page_size) ≡ Some p → AllowsAt v at cs → AllowsAt v (at % page_size) (items_of p)
  allowed_there v p l g h = λ c e. h c (content_there p c l g e)

-- as many contents as before
pub kept_there : (ps : List Page) (n m : ℕ) (p q : Page) → m ≡ length (contents_of ps) → ArePages ps → slice_get ps n ≡ Some p → Keeps p q → ArePages (slice_set ps n q) × (m ≡ length (contents_of (slice_set ps n q)))
kept_there ps n m p q e a g h = let t = keeps_there ps n p q a g h in (t.0, e ∙ sym t.1)

-- ---- one content more

pub put_last : (ps : List Page) (n : ℕ) (p q : Page) (x : Content) → ArePages ps → suc n ≡ length ps → slice_get ps n ≡ Some p → length (items_of p) < page_size → items_of q ≡ items_of p ++ x ∷ [] → IsKept q
    → (contents_of (slice_set ps n q) ≡ contents_of ps ++ x ∷ []) × ArePages (slice_set ps n q)
put_last [] n p q x a e g room is kept = none_apart p g
put_last (r ∷ []) zero p q x a e g room is kept = let same : p ≡ r = sym (some_is g) in (
  none_after (items_of q) ∙ is ∙ ap (λ (y : Page). items_of y ++ x ∷ []) same ∙ ap (λ ys. ys ++ x ∷ []) (sym (none_after (items_of r))),
  (kept, (let b = ap length is in let c = length-append (items_of p) (x ∷ []) in omega (arith, b, c, room)), tt),
)
put_last (r ∷ s ∷ ps) zero p q x a e g room is kept = absurd (omega (arith, e))
put_last (r ∷ []) (suc n) p q x a e g room is kept = none_apart p g
put_last (r ∷ s ∷ ps) (suc n) p q x a e g room is kept = let t = put_last (s ∷ ps) n p q x a.2 (omega (arith, e)) g room is kept in (
  ap (λ ys. items_of r ++ ys) t.0 ∙ sym (grouped (items_of r) (contents_of (s ∷ ps)) (x ∷ [])),
  (a.0, filled_before r (s ∷ ps) n q a.1, t.1),
)

-- the same page has the same room
pub room_of : (ps : List Page) (n : ℕ) (p q : Page) → slice_get ps n ≡ Some p → slice_get ps n ≡ Some q → length (items_of p) < page_size → length (items_of q) < page_size
room_of ps n p q g h l = subst (λ (x : Page). length (items_of x) < page_size) (some_is (sym g ∙ h)) l

-- the last page with one content more, or unchanged
pub put_more : (ps : List Page) (m : ℕ) (p q : Page) (x : Content) → ArePages ps → m ≡ length ps → m ≢ 0 → slice_get ps (m - 1) ≡ Some p → length (items_of p) < page_size → items_of q ≡ items_of p ++ x ∷ [] → IsKept q
    → (contents_of (slice_set ps (m - 1) q) ≡ contents_of ps ++ x ∷ []) × ArePages (slice_set ps (m - 1) q)
put_more ps m p q x a e n g room is kept = put_last ps (m - 1) p q x a (omega (arith, e, n)) g room is kept

same_there : (ps : List Page) (n : ℕ) (p q : Page) → slice_get ps n ≡ Some p → items_of q ≡ items_of p → contents_of (slice_set ps n q) ≡ contents_of ps
same_there [] n p q g e = none_apart p g
same_there (r ∷ ps) zero p q g e = ap (λ ys. ys ++ contents_of ps) (e ∙ ap items_of (sym (some_is g)))
same_there (r ∷ ps) (suc n) p q g e = ap (λ ys. items_of r ++ ys) (same_there ps n p q g e)

pub put_none : (ps : List Page) (n : ℕ) (p q : Page) → ArePages ps → slice_get ps n ≡ Some p → items_of q ≡ items_of p → IsKept q → (contents_of (slice_set ps n q) ≡ contents_of ps) × ArePages (slice_set ps n q)
put_none ps n p q a g e kept = (same_there ps n p q g e, (keeps_there ps n p q a g (record { count = ap length e; kept = λ k. kept })).0)

-- after a push to the last page, whether there was memory or not
pub put_either : {E : Type 0} (ps : List Page) (m : ℕ) (p q : Page) (x : Content) (r : Result (Unit {0}) E) → ArePages ps → m ≡ length ps → m ≢ 0 → slice_get ps (m - 1) ≡ Some p → length (items_of p) < page_size
    → OnOk r (items_of q ≡ items_of p ++ x ∷ []) → OnErr r (items_of q ≡ items_of p) → IsKept q
    → OnOk r (contents_of (slice_set ps (m - 1) q) ≡ contents_of ps ++ x ∷ []) × OnErr r (contents_of (slice_set ps (m - 1) q) ≡ contents_of ps) × ArePages (slice_set ps (m - 1) q)
put_either ps m p q x (Ok u) a e n g room ok err kept = let t = put_more ps m p q x a e n g room ok kept in (t.0, tt, t.1)
put_either ps m p q x (Err u) a e n g room ok err kept = let t = put_none ps (m - 1) p q a g err kept in (tt, t.0, t.1)

pub full_none : (ps : List Page) (n : ℕ) → n ≡ length ps → n ≡ 0 → IsFull ps
full_none [] n e z = λ p g. none_apart p g
full_none (p ∷ ps) n e z = absurd (omega (arith, e, z))

pub full_last : (ps : List Page) (n : ℕ) (q : Page) → n ≡ length ps → slice_get ps (n - 1) ≡ Some q → page_size ≤ length (items_of q) → IsFull ps
full_last ps n q e g l = λ p h. let same : q ≡ p = some_is (sym g ∙ ap (λ (m : ℕ). slice_get ps (m - 1)) e ∙ h) in subst (λ (x : Page). page_size ≤ length (items_of x)) same l

pub new_last : (ps : List Page) (q : Page) → ArePages ps → IsFull ps → IsKept q → length (items_of q) ≤ page_size → (contents_of (ps ++ q ∷ []) ≡ contents_of ps ++ items_of q) × ArePages (ps ++ q ∷ [])
new_last [] q a full kept few = (none_after (items_of q), (kept, few, tt))
new_last (r ∷ []) q a full kept few = (
  ap (λ ys. items_of r ++ ys) (none_after (items_of q)) ∙ ap (λ ys. ys ++ items_of q) (sym (none_after (items_of r))),
  (a.0, (let b = full r refl in let c = a.1 in omega (arith, b, c)), (kept, few, tt)),
)
new_last (r ∷ s ∷ ps) q a full kept few = let t = new_last (s ∷ ps) q a.2 (λ p g. full p (ap (slice_get (r ∷ s ∷ ps)) (let e : length (r ∷ s ∷ ps) - 1 ≡ suc (length (s ∷ ps) - 1) = omega arith in e) ∙ g)) kept few in (
  ap (λ ys. items_of r ++ ys) t.0 ∙ sym (grouped (items_of r) (contents_of (s ∷ ps)) (items_of q)),
  (a.0, a.1, t.1),
)

-- after a push of a new page
pub new_either : {E : Type 0} (ps qs : List Page) (q : Page) (x : Content) (r : Result (Unit {0}) E) → ArePages ps → IsFull ps → IsKept q → items_of q ≡ x ∷ [] → OnOk r (qs ≡ ps ++ q ∷ []) → OnErr r (qs ≡ ps)
    → OnOk r (contents_of qs ≡ contents_of ps ++ x ∷ []) × ArePages qs
new_either ps qs q x (Ok u) a full kept is ok err = let t = new_last ps q a full kept (let n = ap length is in omega (arith, n)) in (
  subst (λ rs. contents_of rs ≡ contents_of ps ++ x ∷ []) (sym ok) (t.0 ∙ ap (λ ys. contents_of ps ++ ys) is),
  subst ArePages (sym ok) t.1,
)
new_either ps qs q x (Err u) a full kept is ok err = (tt, subst ArePages (sym err) a)

-- after a push of a new page with one content by itself
pub new_single : {E : Type 0} (ps qs : List Page) (ss : List Single) (x : Content) (r : Result (Unit {0}) E) → ArePages ps → IsFull ps → ss ≡ single.Own x ∷ [] → OnOk r (qs ≡ ps ++ page.Loose ss ∷ []) → OnErr r (qs ≡ ps)
    → OnOk r (contents_of qs ≡ contents_of ps ++ x ∷ []) × ArePages qs
new_single ps qs ss x r a full is ok err = new_either ps qs (page.Loose ss) x r a full (subst (every IsHeld) (sym is) (tt, tt)) (ap each_of is) ok err

-- ---- pages that copies share

pub shared_all : (ps qs : List Page) → ShareEach ps qs → ArePages ps → ArePages qs × ShowTheSame (contents_of ps) (contents_of qs)
shared_all [] [] s a = (tt, tt)
shared_all [] (q ∷ qs) s a = absurd s
shared_all (p ∷ ps) [] s a = absurd s
shared_all (p ∷ []) (q ∷ []) s a = ((s.0.kept a.0, (let e = same_length (items_of p) (items_of q) s.0.same in let f = a.1 in omega (arith, e, f)), tt), same_append (items_of p) (items_of q) [] [] s.0.same tt)
shared_all (p ∷ []) (q ∷ r ∷ qs) s a = absurd s.1
shared_all (p ∷ o ∷ ps) (q ∷ []) s a = absurd s.1
shared_all (p ∷ o ∷ ps) (q ∷ r ∷ qs) s a = let t = shared_all (o ∷ ps) (r ∷ qs) s.1 a.2 in (
  (s.0.kept a.0, same_length (items_of p) (items_of q) s.0.same ∙ a.1, t.0),
  same_append (items_of p) (items_of q) (contents_of (o ∷ ps)) (contents_of (r ∷ qs)) s.0.same t.1,
)

share_last : (ps qs : List Page) (p q : Page) → Shares p q → ShareEach ps qs → ShareEach (ps ++ p ∷ []) (qs ++ q ∷ [])
share_last [] [] p q h s = (h, tt)
share_last [] (r ∷ qs) p q h s = absurd s
share_last (o ∷ ps) [] p q h s = absurd s
share_last (o ∷ ps) (r ∷ qs) p q h s = (s.0, share_last ps qs p q h s.1)

pub share_first : (ps qs : List Page) → qs ≡ [] → ShareEach (take 0 ps) qs
share_first ps qs e = subst (ShareEach []) (sym e) tt

pub share_more : (ps : List Page) (i : ℕ) (p q : Page) (qs qs' : List Page) → i < length ps → p ≡ get_or ps i p → Shares p q → qs' ≡ qs ++ q ∷ [] → ShareEach (take i ps) qs → ShareEach (take (i + 1) ps) qs'
share_more ps i p q qs qs' l is h more s = subst (ShareEach (take (i + 1) ps)) (sym more) (subst (λ t. ShareEach t (qs ++ q ∷ [])) (sym (take_more ps i p l is)) (share_last (take i ps) qs p q h s))

pub share_done : (ps : List Page) (i : ℕ) (qs : List Page) → length ps ≤ i → i ≤ length ps → ShareEach (take i ps) qs → ShareEach ps qs
share_done ps i qs l m s = subst (λ t. ShareEach t qs) ((let e : i ≡ length ps = omega (arith, l, m) in ap (λ n. take n ps) e) ∙ take-length ps) s

-- ---- pages that are sealed

pub seal_none : (ps : List Page) → SealEach ps ps
seal_none [] = tt
seal_none (p ∷ ps) = (record { same = refl; kept = λ h. h }, seal_none ps)

pub seal_more : (ps qs : List Page) (n : ℕ) (p q : Page) → SealEach ps qs → slice_get qs n ≡ Some p → Seals p q → SealEach ps (slice_set qs n q)
seal_more [] [] n p q s g h = none_apart p g
seal_more [] (r ∷ qs) n p q s g h = absurd s
seal_more (o ∷ ps) [] n p q s g h = none_apart p g
seal_more (o ∷ ps) (r ∷ qs) zero p q s g h = let e : r ≡ p = some_is g in let u = subst (λ (x : Page). Seals x q) (sym e) h in (record { same = u.same ∙ s.0.same; kept = λ k. u.kept (s.0.kept k) }, s.1)
seal_more (o ∷ ps) (r ∷ qs) (suc n) p q s g h = (s.0, seal_more ps qs n p q s.1 g h)

pub seal_length : (ps qs : List Page) → SealEach ps qs → length qs ≡ length ps
seal_length [] [] s = refl
seal_length [] (q ∷ qs) s = absurd s
seal_length (p ∷ ps) [] s = absurd s
seal_length (p ∷ ps) (q ∷ qs) s = ap suc (seal_length ps qs s.1)

pub sealed_all : (ps qs : List Page) → SealEach ps qs → ArePages ps → (contents_of qs ≡ contents_of ps) × ArePages qs
sealed_all [] [] s a = (refl, tt)
sealed_all [] (q ∷ qs) s a = absurd s
sealed_all (p ∷ ps) [] s a = absurd s
sealed_all (p ∷ []) (q ∷ []) s a = (ap (λ ys. ys ++ []) s.0.same, (s.0.kept a.0, (let e = ap length s.0.same in let f = a.1 in omega (arith, e, f)), tt))
sealed_all (p ∷ []) (q ∷ r ∷ qs) s a = absurd s.1
sealed_all (p ∷ o ∷ ps) (q ∷ []) s a = absurd s.1
sealed_all (p ∷ o ∷ ps) (q ∷ r ∷ qs) s a = let t = sealed_all (o ∷ ps) (r ∷ qs) s.1 a.2 in (
  ap (λ ys. items_of q ++ ys) t.0 ∙ ap (λ ys. ys ++ contents_of (o ∷ ps)) s.0.same,
  (s.0.kept a.0, ap length s.0.same ∙ a.1, t.1),
)

-- ---- whether all fits

pub kept_at : (ps : List Page) (n : ℕ) (p : Page) → ArePages ps → slice_get ps n ≡ Some p → IsKept p
kept_at [] n p a g = none_apart p g
kept_at (q ∷ ps) zero p a g = subst IsKept (some_is g) a.0
kept_at (q ∷ ps) (suc n) p a g = kept_at ps n p a.2 g

pub fit_all : (ps : List Page) → every (λ p. AllFit (items_of p)) ps → AllFit (contents_of ps)
fit_all [] h = tt
fit_all (p ∷ ps) h = every_append (λ c. Tells c true fits) (items_of p) (contents_of ps) h.0 (fit_all ps h.1)
