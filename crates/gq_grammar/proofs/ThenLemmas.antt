-- ThenLemmas: one part after another; the first, the second or neither may be empty.
use Rattle.std.proofs.Common.{◌≡◌, ℕ, suc, ◌≤◌, List, ◌++◌, length, true, Option, Some, None, inl, inr, ⊎_elim, refl, sym, ap, ◌∙◌, subst, append_assoc}
use Rattle.gq_grammar.specs.Lexemes.{Lexemes, Terminal}
use Rattle.gq_grammar.specs.Languages.{Language, ◌then◌}
use Rattle.gq_grammar.specs.Parsers.{Parser, and_then, both}
use Rattle.gq_grammar.proofs.Sets.{Starts, disjoint, clash, starts_left, starts_right, starts_on, starts_some}
use Rattle.gq_grammar.proofs.Claims.{Spelled, Ahead, Goes, Reads, Takes, some_inj, cut, shorter, no_longer, goes_more}

pub then_some : {A B : Type 0} (o : Option (A × Lexemes)) (f : A → Lexemes → Option (B × Lexemes)) (z : B × Lexemes) → and_then o f ≡ Some z → (a : A) × (r : Lexemes) × (o ≡ Some (a, r)) × (f a r ≡ Some z)
then_some None f z h = cc
then_some (Some p) f z h = (p.0, p.1, refl, h)

both_second : {A B : Type 0} (a : A) (o : Option (B × Lexemes)) (c : A × B) (s : Lexemes) → and_then o (λ b s. Some ((a, b), s)) ≡ Some (c, s) → (a ≡ c.0) × (o ≡ Some (c.1, s))
both_second a None c s h = cc
both_second {A} {B} a (Some p) c s h =
    let e : ◌≡◌ {A = (A × B) × Lexemes} ((a, p.0), p.1) (c, s) = some_inj h in
    (ap (λ z. z.0.0) e, ap (λ z. Some (z.0.1, z.1)) e)

pub both_first : {A B : Type 0} (o : Option (A × Lexemes)) (q : Parser B) (c : A × B) (s : Lexemes) → and_then o (λ a r. and_then (q r) (λ b s. Some ((a, b), s))) ≡ Some (c, s) → (r : Lexemes) × (o ≡ Some (c.0, r)) × (q r ≡ Some (c.1, s))
both_first None q c s h = cc
both_first (Some p) q c s h =
    let w = both_second p.0 (q p.1) c s h in
    (p.1, ap (λ a. Some (a, p.1)) w.0, w.1)

pub both_some : {A B : Type 0} (p : Parser A) (q : Parser B) (l : Lexemes) (c : A × B) (s : Lexemes) → both p q l ≡ Some (c, s) → (r : Lexemes) × (p l ≡ Some (c.0, r)) × (q r ≡ Some (c.1, s))
both_some p q l c s h = both_first (p l) q c s h

both_at : {A B : Type 0} (p : Parser A) (q : Parser B) (l : Lexemes) (a : A) (b : B) (r s : Lexemes) → p l ≡ Some (a, r) → q r ≡ Some (b, s) → both p q l ≡ Some ((a, b), s)
both_at p q l a b r s e f =
    ap (λ o. and_then o (λ a r. and_then (q r) (λ b s. Some ((a, b), s)))) e ∙ ap (λ o. and_then o (λ b s. Some ((a, b), s))) f

pub spelled_both : {A B : Type 0} (D : Language A) (E : Language B) (l : Lexemes) (c : A × B) (r s : Lexemes) → Spelled D l c.0 r → Spelled E r c.1 s → Spelled (◌then◌ D E) l c s
spelled_both D E l c r s a b = record {
  text = a.text ++ b.text;
  is = a.is ∙ ap (λ z. a.text ++ z) b.is ∙ sym (append_assoc a.text b.text s);
  derives = (a.text, b.text, refl, a.derives, b.derives);
}

-- the first stops exactly, and then the second reads
pub goes_both : {A B : Type 0} (p : Parser A) (q : Parser B) (hs : List Terminal) (a : A) (b : B) (l m y : Lexemes) → p l ≡ Some (a, m) → Goes q hs b m y → Goes (both p q) hs (a, b) l y
goes_both p q hs a b l m y e (inl g) = inl (both_at p q l a b m y e g)
goes_both p q hs a b l m y e (inr g) =
    inr (g.0, record { found = (a, g.1.found); eaten = g.1.eaten; left = g.1.left; is = both_at p q l a g.1.found m g.1.left e g.1.is; after = g.1.after })

-- a second parser that always finds a value continues where the first stopped
both_ahead : {A B : Type 0} {E : Language B} {p : Parser A} {q : Parser B} → ((l : Lexemes) → (b : B) × (r : Lexemes) × (q l ≡ Some (b, r))) → ((l : Lexemes) (b : B) (r : Lexemes) → q l ≡ Some (b, r) → Spelled E l b r) → (l y : Lexemes) → Ahead p l y → Ahead (both p q) l y
both_ahead {p = p} {q = q} total sound l y a =
    let w = total a.left in
    let s = sound a.left w.0 w.1 w.2 in
    record { found = (a.found, w.0); eaten = a.eaten ++ s.text; left = w.1; is = both_at p q l a.found w.0 a.left w.1 a.is w.2; after = a.after ∙ ap (λ z. a.eaten ++ z) s.is ∙ sym (append_assoc a.eaten s.text w.1) }

pub then_reads : {A B : Type 0} {n m : ℕ} {D D' : Language A} {E E' : Language B} {p : Parser A} {q : Parser B} {fs cs gs hs : List Terminal} → Reads n D D' p fs cs → Reads m E E' q gs hs → n ≤ suc m → disjoint cs gs ≡ true → Reads n (◌then◌ D E) (◌then◌ D' E') (both p q) fs hs
then_reads {n = n} {m = m} {D' = D'} {E' = E'} {p = p} {q = q} {fs = fs} {cs = cs} {gs = gs} {hs = hs} f g nm apart' = record {
  sound = λ l c s h. let w = both_some p q l c s h in spelled_both D' E' l c w.0 s (f.sound l c.0 w.0 w.1) (g.sound w.0 c.1 s w.2);
  opens = λ l c s h. let w = both_some p q l c s h in f.opens l c.0 w.0 w.1;
  begins = λ c x d. subst (Starts fs) (sym d.2) (starts_on fs d.0 d.1 (f.begins c.0 d.0 d.3));
  whole = λ c x y d le.
      let e = cut x y d.0 d.1 d.2 in
      let short = shorter n m x y d.0 d.1 nm le d.2 (starts_some fs d.0 (f.begins c.0 d.0 d.3)) in
      ⊎_elim
      (λ exact. goes_both p q hs c.0 c.1 (x ++ y) (d.1 ++ y) y (ap p e ∙ exact) (g.whole c.1 d.1 y d.4 short))
      (λ on. absurd (clash cs gs apart' (d.1 ++ y) on.0 (starts_on gs d.1 y (g.begins c.1 d.1 d.4))))
      (f.whole c.0 d.0 (d.1 ++ y) d.3 (subst (λ z. length z ≤ n) e le));
}

-- the second part may be left out
pub tail_reads : {A B : Type 0} {n : ℕ} {D D' : Language A} {E E' : Language B} {p : Parser A} {q : Parser B} {fs cs gs hs : List Terminal} → Reads n D D' p fs cs → Takes n E E' q gs hs → disjoint cs gs ≡ true → Reads n (◌then◌ D E) (◌then◌ D' E') (both p q) fs (cs ++ hs)
tail_reads {n = n} {D' = D'} {E' = E'} {p = p} {q = q} {fs = fs} {cs = cs} {gs = gs} {hs = hs} f g apart' = record {
  sound = λ l c s h. let w = both_some p q l c s h in spelled_both D' E' l c w.0 s (f.sound l c.0 w.0 w.1) (g.sound w.0 c.1 s w.2);
  opens = λ l c s h. let w = both_some p q l c s h in f.opens l c.0 w.0 w.1;
  begins = λ c x d. subst (Starts fs) (sym d.2) (starts_on fs d.0 d.1 (f.begins c.0 d.0 d.3));
  whole = λ c x y d le.
      let e = cut x y d.0 d.1 d.2 in
      ⊎_elim
      (λ exact. goes_more (both p q) cs hs (goes_both p q hs c.0 c.1 (x ++ y) (d.1 ++ y) y (ap p e ∙ exact) (g.whole c.1 d.1 y d.4 (no_longer n x y d.0 d.1 le d.2))))
      (λ on.
      let ahead : Ahead p (x ++ y) (d.1 ++ y) = subst (λ z. Ahead p z (d.1 ++ y)) (sym e) on.1 in
      ⊎_elim
      (λ none. inr (subst (Starts (cs ++ hs)) (ap (λ z. z ++ y) none) (starts_left cs hs (d.1 ++ y) on.0), both_ahead g.total g.sound (x ++ y) y (subst (λ z. Ahead p (x ++ y) (z ++ y)) none ahead)))
      (λ some. absurd (clash cs gs apart' (d.1 ++ y) on.0 (starts_on gs d.1 y some)))
      (g.begins c.1 d.1 d.4))
      (f.whole c.0 d.0 (d.1 ++ y) d.3 (subst (λ z. length z ≤ n) e le));
}

-- the first part may be left out
pub lead_reads : {A B : Type 0} {n : ℕ} {D D' : Language A} {E E' : Language B} {p : Parser A} {q : Parser B} {fs cs gs hs : List Terminal} → Takes n D D' p fs cs → Reads n E E' q gs hs → disjoint cs gs ≡ true → Reads n (◌then◌ D E) (◌then◌ D' E') (both p q) (fs ++ gs) hs
lead_reads {n = n} {D' = D'} {E' = E'} {p = p} {q = q} {fs = fs} {cs = cs} {gs = gs} {hs = hs} f g apart' = record {
  sound = λ l c s h. let w = both_some p q l c s h in spelled_both D' E' l c w.0 s (f.sound l c.0 w.0 w.1) (g.sound w.0 c.1 s w.2);
  opens = λ l c s h. let w = both_some p q l c s h in ⊎_elim
      (λ same. starts_right fs gs l (subst (Starts gs) (sym same) (g.opens w.0 c.1 s w.2)))
      (λ some. starts_left fs gs l some)
      (f.opens l c.0 w.0 w.1);
  begins = λ c x d. ⊎_elim
      (λ none. let e : x ≡ d.1 = d.2 ∙ ap (λ z. z ++ d.1) none in starts_right fs gs x (subst (Starts gs) (sym e) (g.begins c.1 d.1 d.4)))
      (λ some. starts_left fs gs x (subst (Starts fs) (sym d.2) (starts_on fs d.0 d.1 some)))
      (f.begins c.0 d.0 d.3);
  whole = λ c x y d le.
      let e = cut x y d.0 d.1 d.2 in
      ⊎_elim
      (λ exact. goes_both p q hs c.0 c.1 (x ++ y) (d.1 ++ y) y (ap p e ∙ exact) (g.whole c.1 d.1 y d.4 (no_longer n x y d.0 d.1 le d.2)))
      (λ on. absurd (clash cs gs apart' (d.1 ++ y) on.0 (starts_on gs d.1 y (g.begins c.1 d.1 d.4))))
      (f.whole c.0 d.0 (d.1 ++ y) d.3 (subst (λ z. length z ≤ n) e le));
}
