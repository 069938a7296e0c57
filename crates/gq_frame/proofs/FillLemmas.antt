-- FillLemmas: many contents that are alike, one by one and by full pages.
use Rattle.std.proofs.Common.{◌≡◌, ℕ, ◌+◌, true, List, [], ◌∷◌, ◌++◌, length, Result, Ok, Err, OnOk, OnErr, refl, sym, ap, ◌∙◌, subst, arith, length-append}
use Rattle.gq_nest.specs.declared.content.Content.{Content}
use Rattle.gq_nest.specs.Entries.{every}
use Rattle.gq_nest.specs.Shows.{ShowsTheSame}
use Rattle.gq_frame.specs.declared.page.Page.{Page}
use Rattle.gq_frame.specs.Targets.{ShowTheSame}
use Rattle.gq_frame.specs.Pages.{AddsCopy, ArePages, Fills, IsFull, IsFullOf, IsFullPage, IsKept, PushesPage, Shares, contents_of, items_of, page_size}
use Rattle.gq_frame.proofs.OpenSteps.{same_length}
use Rattle.gq_frame.proofs.PageLemmas.{every_append, grouped, new_last, none_after}

-- what shows the same as contents that are alike is like them
like_these : (c : Content) (xs ys : List Content) → every (ShowsTheSame c) xs → ShowTheSame xs ys → every (ShowsTheSame c) ys
like_these c [] [] h s = tt
like_these c [] (y ∷ ys) h s = absurd s
like_these c (x ∷ xs) [] h s = absurd s
like_these c (x ∷ xs) (y ∷ ys) h s = (record { each = λ k v shows. s.0.each k v (h.0.each k v shows) }, like_these c xs ys h.1 s.1)

-- ---- contents

pub fill_none : (c : Content) (old : List Content) → Fills c 0 old old
fill_none c old = record { more = []; added = sym (none_after old); many = refl; like = tt }

pub fill_more : (c : Content) (n m : ℕ) (old now new : List Content) → Fills c n old now → Fills c m now new → Fills c (n + m) old new
fill_more c n m old now new f g = record {
  more = f.more ++ g.more;
  added = g.added ∙ ap (λ t. t ++ g.more) f.added ∙ grouped old f.more g.more;
  many = let a = length-append f.more g.more in let b = f.many in let d = g.many in omega (arith, a, b, d);
  like = every_append (ShowsTheSame c) f.more g.more f.like g.like;
}

fill_single : (c d : Content) (old new : List Content) → new ≡ old ++ d ∷ [] → ShowsTheSame c d → Fills c 1 old new
fill_single c d old new e s = record { more = d ∷ []; added = e; many = refl; like = (s, tt) }

pub fill_one : (c d : Content) (n : ℕ) (old now new : List Content) → Fills c n old now → new ≡ now ++ d ∷ [] → ShowsTheSame c d → Fills c (n + 1) old new
fill_one c d n old now new f e s = fill_more c n 1 old now new f (fill_single c d now new e s)

pub fill_as : (c : Content) (n m : ℕ) (old new : List Content) → n ≡ m → Fills c n old new → Fills c m old new
fill_as c n m old new e f = subst (λ (i : ℕ). Fills c i old new) e f

-- ---- a page

pub full_more : (c d : Content) (now new : List Content) → new ≡ now ++ d ∷ [] → ShowsTheSame c d → every (ShowsTheSame c) now → every (ShowsTheSame c) new
full_more c d now new e s h = subst (every (ShowsTheSame c)) (sym e) (every_append (ShowsTheSame c) now (d ∷ []) h (s, tt))

pub full_of : (c : Content) (p : Page) (xs : List Content) → items_of p ≡ xs → IsKept p → length xs ≡ page_size → every (ShowsTheSame c) xs → IsFullOf c p
full_of c p xs e kept n h = record { full = (kept, ap length e ∙ n); like = subst (every (ShowsTheSame c)) (sym e) h }

-- ---- a copy of it behind the pages

pub copy_either : {E : Type 0} (ps qs : List Page) (p q : Page) (r : Result (Unit {0}) E) → ArePages ps → IsFull ps → IsFullPage p → Shares p q → OnOk r (qs ≡ ps ++ q ∷ []) → OnErr r (qs ≡ ps)
    → OnOk r (AddsCopy p ps qs) × OnErr r (contents_of qs ≡ contents_of ps) × ArePages qs
copy_either ps qs p q (Ok u) a full page s ok err =
    let n = same_length (items_of p) (items_of q) s.same in
    let t = new_last ps q a full (s.kept page.0) (let m = page.1 in omega (arith, n, m)) in
    (record { more = items_of q; added = ap contents_of ok ∙ t.0; same = s.same }, tt, subst ArePages (sym ok) t.1)
copy_either ps qs p q (Err u) a full page s ok err = (tt, ap contents_of err, subst ArePages (sym err) a)

-- as many contents as the pages and one more have
pub copy_count : (p : Page) (ps qs : List Page) (n : ℕ) → n ≡ length (contents_of ps) → IsFullPage p → AddsCopy p ps qs → n + page_size ≡ length (contents_of qs)
copy_count p ps qs n e page s =
    let a = ap length s.added in let b = length-append (contents_of ps) s.more in let d = same_length (items_of p) s.more s.same in let f = page.1 in
    omega (arith, a, b, d, e, f)

pub copy_fills : (p : Page) (ps qs : List Page) (cs : List Content) → contents_of ps ≡ cs → AddsCopy p ps qs → PushesPage p true cs (contents_of qs)
copy_fills p ps qs cs e s = λ c h. record {
  more = s.more;
  added = s.added ∙ ap (λ t. t ++ s.more) e;
  many = same_length (items_of p) s.more s.same ∙ h.full.1;
  like = like_these c (items_of p) s.more h.like s.same;
}
