-- MadeLemmas: mapped values, alternatives, and optional parts.
use Rattle.std.proofs.Common.{◌≡◌, ℕ, ◌≤◌, List, [], ◌++◌, length, true, Option, Some, None, ◌⊎◌, inl, inr, ⊎_elim, refl, sym, ap, ◌∙◌, subst}
use Rattle.gq_grammar.specs.Lexemes.{Lexemes, Terminal}
use Rattle.gq_grammar.specs.Languages.{Language, Maybe, ◌∣◌, Made}
use Rattle.gq_grammar.specs.Parsers.{Parser, and_then, made, or_else, ◌or◌, maybe_at, maybe}
use Rattle.gq_grammar.proofs.Sets.{Starts, disjoint, clash, starts_left, starts_right, starts_on}
use Rattle.gq_grammar.proofs.Claims.{Spelled, Goes, Reads, Takes, some_inj, or_cases, goes_more}

-- ---- a value that is computed from what is read

pub made_some : {A B : Type 0} (f : A → B) (o : Option (A × Lexemes)) (b : B) (r : Lexemes) → and_then o (λ a r. Some (f a, r)) ≡ Some (b, r) → (a : A) × (o ≡ Some (a, r)) × (b ≡ f a)
made_some f None b r h = cc
made_some {A} {B} f (Some p) b r h =
    let i : ◌≡◌ {A = B × Lexemes} (f p.0, p.1) (b, r) = some_inj h in
    (p.0, ap (λ z. Some (p.0, z)) (ap (λ z. z.1) i), sym (ap (λ z. z.0) i))

made_at : {A B : Type 0} (f : A → B) (p : Parser A) (l : Lexemes) (a : A) (r : Lexemes) → p l ≡ Some (a, r) → made f p l ≡ Some (f a, r)
made_at f p l a r e = ap (λ o. and_then o (λ a r. Some (f a, r))) e

spelled_made : {A B : Type 0} (f : A → B) (D : Language A) (l : Lexemes) (a : A) (b : B) (r : Lexemes) → b ≡ f a → Spelled D l a r → Spelled (Made f D) l b r
spelled_made f D l a b r e s = record { text = s.text; is = s.is; derives = (a, s.derives, e) }

goes_made : {A B : Type 0} (f : A → B) (p : Parser A) (cs : List Terminal) (a : A) (b : B) (l y : Lexemes) → b ≡ f a → Goes p cs a l y → Goes (made f p) cs b l y
goes_made f p cs a b l y e g = ⊎_elim
    (λ exact. inl (made_at f p l a y exact ∙ ap (λ z. Some (z, y)) (sym e)))
    (λ on. inr (on.0, record { found = f on.1.found; eaten = on.1.eaten; left = on.1.left; is = made_at f p l on.1.found on.1.left on.1.is; after = on.1.after }))
    g

pub made_reads : {A B : Type 0} {n : ℕ} {D D' : Language A} {p : Parser A} {fs cs : List Terminal} (f : A → B) → Reads n D D' p fs cs → Reads n (Made f D) (Made f D') (made f p) fs cs
made_reads {D' = D'} {p = p} {cs = cs} f g = record {
  sound = λ l b r h. let w = made_some f (p l) b r h in spelled_made f D' l w.0 b r w.2 (g.sound l w.0 r w.1);
  opens = λ l b r h. let w = made_some f (p l) b r h in g.opens l w.0 r w.1;
  begins = λ b x d. g.begins d.0 x d.1;
  whole = λ b x y d le. goes_made f p cs d.0 b (x ++ y) y d.2 (g.whole d.0 x y d.1 le);
}

pub made_takes : {A B : Type 0} {n : ℕ} {D D' : Language A} {p : Parser A} {fs cs : List Terminal} (f : A → B) → Takes n D D' p fs cs → Takes n (Made f D) (Made f D') (made f p) fs cs
made_takes {D' = D'} {p = p} {cs = cs} f g = record {
  sound = λ l b r h. let w = made_some f (p l) b r h in spelled_made f D' l w.0 b r w.2 (g.sound l w.0 r w.1);
  opens = λ l b r h. let w = made_some f (p l) b r h in g.opens l w.0 r w.1;
  total = λ l. let w = g.total l in (f w.0, w.1, made_at f p l w.0 w.1 w.2);
  begins = λ b x d. g.begins d.0 x d.1;
  whole = λ b x y d le. goes_made f p cs d.0 b (x ++ y) y d.2 (g.whole d.0 x y d.1 le);
}

-- ---- alternatives

pub or_some : {X : Type 0} (o1 o2 : Option X) (x : X) → or_else o1 o2 ≡ Some x → (o1 ≡ Some x) ⊎ ((o1 ≡ None) × (o2 ≡ Some x))
or_some None o2 x h = inr (refl, h)
or_some (Some z) o2 x h = inl h

pub either_first : {A : Type 0} (p q : Parser A) (cs hs : List Terminal) (a : A) (l y : Lexemes) → Goes p cs a l y → Goes (◌or◌ p q) (cs ++ hs) a l y
either_first p q cs hs a l y g = ⊎_elim
    (λ exact. inl (ap (λ o. or_else o (q l)) exact))
    (λ on. inr (starts_left cs hs y on.0, record { found = on.1.found; eaten = on.1.eaten; left = on.1.left; is = ap (λ o. or_else o (q l)) on.1.is; after = on.1.after }))
    g

pub either_second : {A : Type 0} (p q : Parser A) (cs hs : List Terminal) (a : A) (l y : Lexemes) → p l ≡ None → Goes q hs a l y → Goes (◌or◌ p q) (cs ++ hs) a l y
either_second p q cs hs a l y none g = ⊎_elim
    (λ exact. inl (ap (λ o. or_else o (q l)) none ∙ exact))
    (λ on. inr (starts_right cs hs y on.0, record { found = on.1.found; eaten = on.1.eaten; left = on.1.left; is = ap (λ o. or_else o (q l)) none ∙ on.1.is; after = on.1.after }))
    g

pub either_reads : {A : Type 0} {n : ℕ} {D D' E E' : Language A} {p q : Parser A} {fs cs gs hs : List Terminal} → Reads n D D' p fs cs → Reads n E E' q gs hs → disjoint fs gs ≡ true → Reads n (◌∣◌ D E) (◌∣◌ D' E') (◌or◌ p q) (fs ++ gs) (cs ++ hs)
either_reads {n = n} {D = D} {D' = D'} {E = E} {E' = E'} {p = p} {q = q} {fs = fs} {cs = cs} {gs = gs} {hs = hs} f g apart' = record {
  sound = λ l a r h. ⊎_elim
      (λ e. let s = f.sound l a r e in record { text = s.text; is = s.is; derives = inl s.derives })
      (λ e. let s = g.sound l a r e.1 in record { text = s.text; is = s.is; derives = inr s.derives })
      (or_some (p l) (q l) (a, r) h);
  opens = λ l a r h. ⊎_elim (λ e. starts_left fs gs l (f.opens l a r e)) (λ e. starts_right fs gs l (g.opens l a r e.1)) (or_some (p l) (q l) (a, r) h);
  begins = λ a x d. ⊎_elim (λ d. starts_left fs gs x (f.begins a x d)) (λ d. starts_right fs gs x (g.begins a x d)) d;
  whole = λ a x y d le. ⊎_elim
      (λ d. either_first p q cs hs a (x ++ y) y (f.whole a x y d le))
      (λ d. either_second p q cs hs a (x ++ y) y
      (⊎_elim (λ none. none) (λ some. absurd (clash fs gs apart' (x ++ y) (f.opens (x ++ y) some.0.0 some.0.1 some.1) (starts_on gs x y (g.begins a x d)))) (or_cases (p (x ++ y))))
      (g.whole a x y d le))
      d;
}

-- ---- alternatives with a common beginning: the first is tried first, and if it matches, it reads further than the
-- second

pub choice_reads : {A : Type 0} {n : ℕ} {D D' E E' : Language A} {p q : Parser A} {fs cs gs hs : List Terminal} (over : List Terminal) → Reads n D D' p fs cs → Reads n E E' q gs hs
    → ((a : A) (x y : Lexemes) (b : A) (r : Lexemes) → E a x → length (x ++ y) ≤ n → p (x ++ y) ≡ Some (b, r) → Starts over y × ((z : Lexemes) × (y ≡ z ++ r)))
    → Reads n (◌∣◌ D E) (◌∣◌ D' E') (◌or◌ p q) (fs ++ gs) (cs ++ (over ++ hs))
choice_reads {n = n} {D = D} {D' = D'} {E = E} {E' = E'} {p = p} {q = q} {fs = fs} {cs = cs} {gs = gs} {hs = hs} over f g past = record {
  sound = λ l a r h. ⊎_elim
      (λ e. let s = f.sound l a r e in record { text = s.text; is = s.is; derives = inl s.derives })
      (λ e. let s = g.sound l a r e.1 in record { text = s.text; is = s.is; derives = inr s.derives })
      (or_some (p l) (q l) (a, r) h);
  opens = λ l a r h. ⊎_elim (λ e. starts_left fs gs l (f.opens l a r e)) (λ e. starts_right fs gs l (g.opens l a r e.1)) (or_some (p l) (q l) (a, r) h);
  begins = λ a x d. ⊎_elim (λ d. starts_left fs gs x (f.begins a x d)) (λ d. starts_right fs gs x (g.begins a x d)) d;
  whole = λ a x y d le. ⊎_elim
      (λ d. either_first p q cs (over ++ hs) a (x ++ y) y (f.whole a x y d le))
      (λ d. ⊎_elim
      (λ none. either_second p q cs (over ++ hs) a (x ++ y) y none (goes_more q over hs (g.whole a x y d le)))
      (λ some.
      let w = past a x y some.0.0 some.0.1 d le some.1 in
      inr (starts_right cs (over ++ hs) y (starts_left over hs y w.0), record { found = some.0.0; eaten = w.1.0; left = some.0.1; is = ap (λ o. or_else o (q (x ++ y))) some.1; after = w.1.1 }))
      (or_cases (p (x ++ y))))
      d;
}

-- ---- optional parts

maybe_some : {A : Type 0} (o : Option (A × Lexemes)) (l : Lexemes) (c : Option A) (r : Lexemes) → maybe_at o l ≡ Some (c, r) → ((c ≡ None) × (l ≡ r)) ⊎ ((a : A) × (c ≡ Some a) × (o ≡ Some (a, r)))
maybe_some {A} None l c r h =
    let i : ◌≡◌ {A = Option A × Lexemes} (None, l) (c, r) = some_inj h in inl (sym (ap (λ z. z.0) i), ap (λ z. z.1) i)
maybe_some {A} (Some p) l c r h =
    let i : ◌≡◌ {A = Option A × Lexemes} (Some p.0, p.1) (c, r) = some_inj h in inr (p.0, sym (ap (λ z. z.0) i), ap (λ z. Some (p.0, z)) (ap (λ z. z.1) i))

maybe_total : {A : Type 0} (o : Option (A × Lexemes)) (l : Lexemes) → (c : Option A) × (r : Lexemes) × (maybe_at o l ≡ Some (c, r))
maybe_total None l = (None, l, refl)
maybe_total (Some p) l = (Some p.0, p.1, refl)

spelled_none : {A : Type 0} (D : Language A) (l r : Lexemes) (c : Option A) → c ≡ None → l ≡ r → Spelled (Maybe D) l c r
spelled_none D l r c e h = record { text = []; is = h; derives = subst (λ c. Maybe D c []) (sym e) refl }

spelled_some : {A : Type 0} (D : Language A) (l r : Lexemes) (c : Option A) (a : A) → c ≡ Some a → Spelled D l a r → Spelled (Maybe D) l c r
spelled_some D l r c a e s = record { text = s.text; is = s.is; derives = subst (λ c. Maybe D c s.text) (sym e) s.derives }

starts_head : (fs : List Terminal) (x y : Lexemes) → Starts fs x → Starts fs (x ++ y)
starts_head fs x y h = starts_on fs x y h

pub maybe_begins : {A : Type 0} {D : Language A} (fs : List Terminal) → ((a : A) (x : Lexemes) → D a x → Starts fs x) → (c : Option A) (x : Lexemes) → Maybe D c x → (x ≡ []) ⊎ Starts fs x
maybe_begins fs f None x d = inl d
maybe_begins fs f (Some a) x d = inr (f a x d)

maybe_none : {A : Type 0} (fs cs : List Terminal) (p : Parser A) (y : Lexemes) (o : Option (A × Lexemes)) → p y ≡ o → ((a : A) (r : Lexemes) → p y ≡ Some (a, r) → (text : Lexemes) × (y ≡ text ++ r) × Starts fs y) → Goes (maybe p) (fs ++ cs) None y y
maybe_none fs cs p y None e f = inl (ap (λ o. maybe_at o y) e)
maybe_none fs cs p y (Some z) e f =
    let w = f z.0 z.1 e in
    inr (starts_left fs cs y w.2, record { found = Some z.0; eaten = w.0; left = z.1; is = ap (λ o. maybe_at o y) e; after = w.1 })

maybe_goes : {A : Type 0} {D : Language A} (n : ℕ) (p : Parser A) (fs cs : List Terminal) → ((a : A) (r y : Lexemes) → p y ≡ Some (a, r) → (text : Lexemes) × (y ≡ text ++ r) × Starts fs y) → ((a : A) (x y : Lexemes) → D a x → length (x ++ y) ≤ n → Goes p cs a (x ++ y) y)
    → (c : Option A) (x y : Lexemes) → Maybe D c x → length (x ++ y) ≤ n → Goes (maybe p) (fs ++ cs) c (x ++ y) y
maybe_goes n p fs cs f g None x y d le =
    subst (λ z. Goes (maybe p) (fs ++ cs) None z y) (sym (ap (λ z. z ++ y) d)) (maybe_none fs cs p y (p y) refl (λ a r. f a r y))
maybe_goes n p fs cs f g (Some a) x y d le = ⊎_elim
    (λ exact. inl (ap (λ o. maybe_at o (x ++ y)) exact))
    (λ on. inr (starts_right fs cs y on.0, record { found = Some on.1.found; eaten = on.1.eaten; left = on.1.left; is = ap (λ o. maybe_at o (x ++ y)) on.1.is; after = on.1.after }))
    (g a x y d le)

pub maybe_takes : {A : Type 0} {n : ℕ} {D D' : Language A} {p : Parser A} {fs cs : List Terminal} → Reads n D D' p fs cs → Takes n (Maybe D) (Maybe D') (maybe p) fs (fs ++ cs)
maybe_takes {n = n} {D = D} {D' = D'} {p = p} {fs = fs} {cs = cs} g = record {
  sound = λ l c r h. ⊎_elim
      (λ none. spelled_none D' l r c none.0 none.1)
      (λ some. spelled_some D' l r c some.0 some.1 (g.sound l some.0 r some.2))
      (maybe_some (p l) l c r h);
  opens = λ l c r h. ⊎_elim (λ none. inl none.1) (λ some. inr (g.opens l some.0 r some.2)) (maybe_some (p l) l c r h);
  total = λ l. maybe_total (p l) l;
  begins = maybe_begins {D = D} fs g.begins;
  whole = maybe_goes {D = D} n p fs cs (λ a r y h. let s = g.sound y a r h in (s.text, s.is, g.opens y a r h)) g.whole;
}
