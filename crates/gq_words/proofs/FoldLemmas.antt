-- The fold of a word's feeds doesn't depend on their order, or on the seats through which they come.
use Rattle.std.proofs.Common.{◌≡◌, ℕ, zero, suc, Bool, true, false, cond, ◌==◌, bit_and, bit_or, List, [], ◌∷◌, ◌++◌, map, set, sym, refl, ap, ◌∙◌, ◌≢◌, append-nil, arith}
use Rattle.std.specs.List.{fold, filter, Contains}
use Rattle.std.proofs.lemmas.Nat.Bits.{bit_at_or, bit_at_and, same_from_bits}
use mathlib.Core.Option.{some, some-injective, some-ne-none}
use lib.ListN.{get_elem?}
use lib.Seq.{set-set}
use Rattle.atomic_table.proofs.Lists.{set_here, set_else}
use Rattle.gq_words.specs.declared.fold.Op.{Op}
use Rattle.gq_words.specs.declared.fold.Op.TheVariants.{Max, Min, Or, And}
use Rattle.gq_words.specs.declared.view.View.{View}
use Rattle.gq_words.specs.Fold.{Feed, applied, folded}
use Rattle.gq_words.specs.Rule.{all_feeds, spent, joined}
use Rattle.gq_words.proofs.ListLemmas.{within, set-comm}

or_swap : (w x y : ℕ) → bit_or (bit_or w x) y ≡ bit_or (bit_or w y) x
or_swap w x y = same_from_bits _ _ (λ i. omega (arith, bit_at_or (bit_or w x) y i, bit_at_or w x i, bit_at_or (bit_or w y) x i, bit_at_or w y i))

and_swap : (w x y : ℕ) → bit_and (bit_and w x) y ≡ bit_and (bit_and w y) x
and_swap w x y = same_from_bits _ _ (λ i. omega (arith, bit_at_and (bit_and w x) y i, bit_at_and w x i, bit_at_and (bit_and w y) x i, bit_at_and w y i))

applied_swap : (op : Op) (w x y : ℕ) → applied op (applied op w x) y ≡ applied op (applied op w y) x
applied_swap Max w x y = omega arith
applied_swap Min w x y = omega arith
applied_swap Or w x y = or_swap w x y
applied_swap And w x y = and_swap w x y

applied_again : (op : Op) (w x : ℕ) → applied op (applied op w x) x ≡ applied op w x
applied_again Max w x = omega arith
applied_again Min w x = omega arith
applied_again Or w x = same_from_bits _ _ (λ i. omega (arith, bit_at_or (bit_or w x) x i, bit_at_or w x i))
applied_again And w x = same_from_bits _ _ (λ i. omega (arith, bit_at_and (bit_and w x) x i, bit_at_and w x i))

module _ (op : Op) (i : ℕ) where
  -- the word after one feed
  abbrev pub after : Feed → ℕ → ℕ
  after f w = cond (f.0 == i) (applied op w f.1) w

  chosen : (b c : Bool) (w x y : ℕ) → cond c (applied op (cond b (applied op w x) w) y) (cond b (applied op w x) w) ≡ cond b (applied op (cond c (applied op w y) w) x) (cond c (applied op w y) w)
  chosen true true w x y = applied_swap op w x y
  chosen true false w x y = refl
  chosen false true w x y = refl
  chosen false false w x y = refl

  after_swap : (f g : Feed) (w : ℕ) → after g (after f w) ≡ after f (after g w)
  after_swap f g w = chosen (f.0 == i) (g.0 == i) w f.1 g.1

  chosen_again : (b : Bool) (w x : ℕ) → cond b (applied op (cond b (applied op w x) w) x) (cond b (applied op w x) w) ≡ cond b (applied op w x) w
  chosen_again true w x = applied_again op w x
  chosen_again false w x = refl

  after_again : (f : Feed) (w : ℕ) → after f (after f w) ≡ after f w
  after_again f w = chosen_again (f.0 == i) w f.1

  kept_or_not : (b : Bool) (w : ℕ) (f : Feed) (fs : List Feed) → fold (applied op) w (map (λ g. g.1) (cond b (f ∷ fs) fs)) ≡ fold (applied op) (cond b (applied op w f.1) w) (map (λ g. g.1) fs)
  kept_or_not true w f fs = refl
  kept_or_not false w f fs = refl

  folded-cons : (w : ℕ) (f : Feed) (fs : List Feed) → folded op w i (f ∷ fs) ≡ folded op (after f w) i fs
  folded-cons w f fs = kept_or_not (f.0 == i) w f (filter (λ (g : Feed). g.0 == i) fs)

  pub folded-append : (w : ℕ) (fs gs : List Feed) → folded op w i (fs ++ gs) ≡ folded op (folded op w i fs) i gs
  folded-append w [] gs = refl
  folded-append w (f ∷ fs) gs = folded-cons w f (fs ++ gs) ∙ (folded-append (after f w) fs gs ∙ ap (λ (a : ℕ). folded op a i gs) (sym (folded-cons w f fs)))

  folded_over : (f : Feed) (w : ℕ) (fs : List Feed) → folded op (after f w) i fs ≡ after f (folded op w i fs)
  folded_over f w [] = refl
  folded_over f w (g ∷ gs) =
      folded-cons (after f w) g gs
      ∙ (ap (λ (a : ℕ). folded op a i gs) (after_swap f g w)
      ∙ (folded_over f (after g w) gs ∙ ap (after f) (sym (folded-cons w g gs))))

  folded-snoc : (w : ℕ) (fs : List Feed) (f : Feed) → folded op w i (fs ++ f ∷ []) ≡ after f (folded op w i fs)
  folded-snoc w fs f = folded-append w fs (f ∷ []) ∙ folded-cons (folded op w i fs) f []

  folded_swap : (w : ℕ) (fs gs : List Feed) → folded op (folded op w i fs) i gs ≡ folded op (folded op w i gs) i fs
  folded_swap w [] gs = refl
  folded_swap w (f ∷ fs) gs =
      ap (λ (a : ℕ). folded op a i gs) (folded-cons w f fs)
      ∙ (folded_swap (after f w) fs gs
      ∙ (ap (λ (a : ℕ). folded op a i fs) (folded_over f w gs) ∙ sym (folded-cons (folded op w i gs) f fs)))

  -- a feed that is contained in the others anyway
  absorbed : (w : ℕ) (fs : List Feed) (f : Feed) → Contains fs f → folded op (after f w) i fs ≡ folded op w i fs
  absorbed w [] f (k, inside, is) = absurd (omega arith)
  absorbed w (x ∷ xs) f (zero, inside, is) =
      folded-cons (after f w) x xs
      ∙ (ap (λ (a : ℕ). folded op a i xs) (ap (λ (g : Feed). after g (after f w)) is ∙ (after_again f w ∙ ap (λ (g : Feed). after g w) (sym is))) ∙ sym (folded-cons w x xs))
  absorbed w (x ∷ xs) f (suc k, inside, is) =
      folded-cons (after f w) x xs
      ∙ (ap (λ (a : ℕ). folded op a i xs) (after_swap f x w) ∙ (absorbed (after x w) xs f (k, omega arith, is) ∙ sym (folded-cons w x xs)))

  -- feeds that are all contained in the others
  all_absorbed : (w : ℕ) (fs gs : List Feed) → ((f : Feed) → Contains gs f → Contains fs f) → folded op (folded op w i gs) i fs ≡ folded op w i fs
  all_absorbed w fs [] among = refl
  all_absorbed w fs (g ∷ gs) among =
      ap (λ (a : ℕ). folded op a i fs) (folded-cons w g gs)
      ∙ (all_absorbed (after g w) fs gs (λ f there. among f (suc there.0, omega arith, there.2)) ∙ absorbed w fs g (among g (0, omega arith, refl)))

  -- only the set of the feeds matters
  pub same_feeds : (w : ℕ) (fs gs : List Feed) → ((f : Feed) → Contains fs f → Contains gs f) → ((f : Feed) → Contains gs f → Contains fs f) → folded op w i fs ≡ folded op w i gs
  same_feeds w fs gs there back = sym (all_absorbed w fs gs back) ∙ (folded_swap w gs fs ∙ all_absorbed w gs fs there)

  -- one more feed in the view k
  pub all_fed : (w : ℕ) (vs : List View) (k : ℕ) (v u : View) (f : Feed) → get_elem? vs k ≡ some v → u.feeds ≡ v.feeds ++ f ∷ []
      → folded op w i (all_feeds (set vs k u)) ≡ after f (folded op w i (all_feeds vs))
  all_fed w [] k v u f at is = absurd (some-ne-none v (sym at))
  all_fed w (x ∷ xs) zero v u f at is =
      let same : v.feeds ≡ x.feeds = ap (λ (m : View). m.feeds) (sym (some-injective x v at)) in
      let more : u.feeds ≡ x.feeds ++ f ∷ [] = is ∙ ap (λ (fs : List Feed). fs ++ f ∷ []) same in
      folded-append w u.feeds (all_feeds xs)
      ∙ (ap (λ (fs : List Feed). folded op (folded op w i fs) i (all_feeds xs)) more
      ∙ (ap (λ (a : ℕ). folded op a i (all_feeds xs)) (folded-snoc w x.feeds f)
      ∙ (folded_over f (folded op w i x.feeds) (all_feeds xs) ∙ ap (after f) (sym (folded-append w x.feeds (all_feeds xs))))))
  all_fed w (x ∷ xs) (suc k) v u f at is =
      folded-append w x.feeds (all_feeds (set xs k u))
      ∙ (all_fed (folded op w i x.feeds) xs k v u f at is ∙ ap (after f) (sym (folded-append w x.feeds (all_feeds xs))))

  -- the feeds of the view k may come last
  pub taken_out : (w : ℕ) (vs : List View) (k : ℕ) (v u : View) → get_elem? vs k ≡ some v → u.feeds ≡ []
      → folded op w i (all_feeds vs) ≡ folded op (folded op w i (all_feeds (set vs k u))) i v.feeds
  taken_out w [] k v u at is = absurd (some-ne-none v (sym at))
  taken_out w (x ∷ xs) zero v u at is =
      let same : x.feeds ≡ v.feeds = ap (λ (m : View). m.feeds) (some-injective x v at) in
      folded-append w x.feeds (all_feeds xs)
      ∙ (folded_swap w x.feeds (all_feeds xs)
      ∙ (ap (folded op (folded op w i (all_feeds xs)) i) same
      ∙ ap (λ (fs : List Feed). folded op (folded op w i (fs ++ all_feeds xs)) i v.feeds) (sym is)))
  taken_out w (x ∷ xs) (suc k) v u at is =
      folded-append w x.feeds (all_feeds xs)
      ∙ (taken_out (folded op w i x.feeds) xs k v u at is
      ∙ ap (λ (a : ℕ). folded op a i v.feeds) (sym (folded-append w x.feeds (all_feeds (set xs k u)))))

  -- the feeds of one view are moved to another one
  pub all_joined : (w : ℕ) (vs : List View) (id other : ℕ) (v u : View) → get_elem? vs id ≡ some v → get_elem? vs other ≡ some u → other ≢ id
      → folded op w i (all_feeds vs) ≡ folded op w i (all_feeds (set (set vs id (joined v u)) other spent))
  all_joined w vs id other v u at there apart =
      let both : View = joined v u in let rest : List View = set (set vs id spent) other spent in
      let here : get_elem? (set (set vs id both) other spent) id ≡ some both = set_else (set vs id both) other id spent (λ e. apart (sym e)) ∙ set_here vs id both (within vs id v at) in
      let there' : get_elem? (set vs id spent) other ≡ some u = set_else vs id other spent apart ∙ there in
      let same : set (set (set vs id both) other spent) id spent ≡ rest = sym (set-comm (set vs id both) id other spent spent (λ e. apart (sym e))) ∙ ap (λ (l : List View). set l other spent) (set-set vs id both spent) in
      let left : folded op w i (all_feeds vs) ≡ folded op (folded op (folded op w i (all_feeds rest)) i u.feeds) i v.feeds =
      taken_out w vs id v spent at refl ∙ ap (λ (a : ℕ). folded op a i v.feeds) (taken_out w (set vs id spent) other u spent there' refl) in
      let right : folded op w i (all_feeds (set (set vs id both) other spent)) ≡ folded op (folded op (folded op w i (all_feeds rest)) i v.feeds) i u.feeds =
      taken_out w (set (set vs id both) other spent) id both spent here refl
      ∙ (ap (λ (l : List View). folded op (folded op w i (all_feeds l)) i both.feeds) same ∙ folded-append (folded op w i (all_feeds rest)) v.feeds u.feeds) in
      left ∙ (folded_swap (folded op w i (all_feeds rest)) u.feeds v.feeds ∙ sym right)

-- a view changes, and its feeds don't
pub all_same : (vs : List View) (k : ℕ) (v u : View) → get_elem? vs k ≡ some v → u.feeds ≡ v.feeds → all_feeds (set vs k u) ≡ all_feeds vs
all_same [] k v u at is = refl
all_same (x ∷ xs) zero v u at is = ap (λ (fs : List Feed). fs ++ all_feeds xs) (is ∙ sym (ap (λ (m : View). m.feeds) (some-injective x v at)))
all_same (x ∷ xs) (suc k) v u at is = ap (λ (fs : List Feed). x.feeds ++ fs) (all_same xs k v u at is)

-- one more view, without feeds
pub all-snoc : (vs : List View) (u : View) → u.feeds ≡ [] → all_feeds (vs ++ u ∷ []) ≡ all_feeds vs
all-snoc [] u is = ap (λ (fs : List Feed). fs ++ []) is
all-snoc (x ∷ xs) u is = ap (λ (fs : List Feed). x.feeds ++ fs) (all-snoc xs u is)

-- no view has a feed
all_none : (vs : List View) → ((k : ℕ) (v : View) → get_elem? vs k ≡ some v → v.feeds ≡ []) → all_feeds vs ≡ []
all_none [] none_fed = refl
all_none (x ∷ xs) none_fed = ap (λ (fs : List Feed). fs ++ all_feeds xs) (none_fed 0 x refl) ∙ all_none xs (λ k v at. none_fed (suc k) v at)

-- only one view has feeds
pub all_alone : (vs : List View) (k : ℕ) (v : View) → get_elem? vs k ≡ some v → ((j : ℕ) (u : View) → get_elem? (set vs k spent) j ≡ some u → u.feeds ≡ []) → all_feeds vs ≡ v.feeds
all_alone [] k v at others = absurd (some-ne-none v (sym at))
all_alone (x ∷ xs) zero v at others =
    ap (λ (fs : List Feed). x.feeds ++ fs) (all_none xs (λ j u there. others (suc j) u there))
    ∙ (append-nil x.feeds ∙ ap (λ (m : View). m.feeds) (some-injective x v at))
all_alone (x ∷ xs) (suc k) v at others =
    ap (λ (fs : List Feed). fs ++ all_feeds xs) (others 0 x refl) ∙ all_alone xs k v at (λ j u there. others (suc j) u there)
