-- ExactLemmas: two alternatives with a common beginning, if the first is known to find nothing at the start of the
-- second.
use Rattle.std.proofs.Common.{◌≡◌, ℕ, zero, suc, ◌+◌, ◌<◌, ◌≤◌, List, [], ◌∷◌, ◌++◌, length, Bool, true, false, Option, Some, None, ◌⊎◌, inl, inr, ⊎_elim, refl, sym, ap, ◌∙◌, subst, arith, append_assoc, append-nil, length-append}
use Rattle.gq_grammar.specs.Lexemes.{Lexeme, Lexemes, Terminal, is_of, nothing}
use Rattle.gq_grammar.specs.Languages.{Language, Token, ◌then◌, Many, Maybe, ◌∣◌, Made}
use Rattle.gq_grammar.specs.Signs.{second}
use Rattle.gq_grammar.specs.Parsers.{Parser, and_then, token_at, token, both, made, or_else, ◌or◌, maybe_at, maybe, many_after, many_from, many, one, after}
use Rattle.gq_grammar.proofs.Sets.{Starts, disjoint, clash, starts_left, starts_right, starts_on, starts_some}
use Rattle.gq_grammar.proofs.Claims.{Spelled, Ahead, Goes, Reads, Takes, or_cases, cut, shorter, no_longer}
use Rattle.gq_grammar.proofs.ThenLemmas.{both_some, spelled_both, goes_both}
use Rattle.gq_grammar.proofs.MadeLemmas.{or_some, either_first, either_second, maybe_takes}
use Rattle.gq_grammar.proofs.ManyLemmas.{many_from-zero, many_from-suc, many_is, many_begins, many_takes}

-- a parser finds nothing at a lexeme with which its language doesn't begin
pub opens_none : {A : Type 0} {n : ℕ} {D D' : Language A} {p : Parser A} {fs cs : List Terminal} (gs : List Terminal) → Reads n D D' p fs cs → disjoint fs gs ≡ true → (l : Lexemes) → Starts gs l → p l ≡ None
opens_none {p = p} {fs = fs} gs r apart' l s = ⊎_elim
    (λ none. none)
    (λ some. absurd (clash fs gs apart' l (r.opens l some.0.0 some.0.1 some.1) s))
    (or_cases (p l))

token_none : {A : Type 0} (tell : Lexeme → Unit {0}) (t : Lexeme) (l : Lexemes) (b : Bool) (q : Parser A) → q l ≡ None → and_then (and_then (token_at tell t l b) (λ a r. and_then (q r) (λ b s. Some ((a, b), s)))) (λ a r. Some (second a, r)) ≡ None
token_none tell t l true q h = ap (λ o. and_then (and_then o (λ b s. Some ((tell t, b), s))) (λ a r. Some (second a, r))) h
token_none tell t l false q h = refl

-- after its first lexeme, nothing is found
pub after_none : {A : Type 0} (k : Terminal) (q : Parser A) (t : Lexeme) (l : Lexemes) → q l ≡ None → after k q (t ∷ l) ≡ None
unfolding after one token
after_none k q t l h = token_none nothing t l (is_of k t) q h

-- ---- alternatives

pub apart_reads : {A : Type 0} {n : ℕ} {D D' E E' : Language A} {p q : Parser A} {fs cs gs hs : List Terminal} → Reads n D D' p fs cs → Reads n E E' q gs hs
    → ((a : A) (x y : Lexemes) → E a x → length (x ++ y) ≤ n → p (x ++ y) ≡ None) → Reads n (◌∣◌ D E) (◌∣◌ D' E') (◌or◌ p q) (fs ++ gs) (cs ++ hs)
apart_reads {n = n} {D = D} {D' = D'} {E = E} {E' = E'} {p = p} {q = q} {fs = fs} {cs = cs} {gs = gs} {hs = hs} f g free = record {
  sound = λ l a r h. ⊎_elim
      (λ e. let s = f.sound l a r e in record { text = s.text; is = s.is; derives = inl s.derives })
      (λ e. let s = g.sound l a r e.1 in record { text = s.text; is = s.is; derives = inr s.derives })
      (or_some (p l) (q l) (a, r) h);
  opens = λ l a r h. ⊎_elim (λ e. starts_left fs gs l (f.opens l a r e)) (λ e. starts_right fs gs l (g.opens l a r e.1)) (or_some (p l) (q l) (a, r) h);
  begins = λ a x d. ⊎_elim (λ d. starts_left fs gs x (f.begins a x d)) (λ d. starts_right fs gs x (g.begins a x d)) d;
  whole = λ a x y d le. ⊎_elim
      (λ d. either_first p q cs hs a (x ++ y) y (f.whole a x y d le))
      (λ d. either_second p q cs hs a (x ++ y) y (free a x y d le) (g.whole a x y d le))
      d;
}

-- ---- an optional part, and then another

-- the first part stops at the start of the second
pub lead_exact : {A B : Type 0} {n : ℕ} {D D' : Language A} {E E' : Language B} {p : Parser A} {q : Parser B} {fs cs gs hs : List Terminal} → Takes n D D' p fs cs → Reads n E E' q gs hs
    → ((a : A) (b : B) (u v y : Lexemes) → D a u → E b v → length (u ++ (v ++ y)) ≤ n → p (u ++ (v ++ y)) ≡ Some (a, v ++ y)) → Reads n (◌then◌ D E) (◌then◌ D' E') (both p q) (fs ++ gs) hs
lead_exact {n = n} {D' = D'} {E' = E'} {p = p} {q = q} {fs = fs} {gs = gs} {hs = hs} f g stops = record {
  sound = λ l c s h. let w = both_some p q l c s h in spelled_both D' E' l c w.0 s (f.sound l c.0 w.0 w.1) (g.sound w.0 c.1 s w.2);
  opens = λ l c s h. let w = both_some p q l c s h in ⊎_elim
      (λ same. starts_right fs gs l (subst (Starts gs) (sym same) (g.opens w.0 c.1 s w.2)))
      (λ some. starts_left fs gs l some)
      (f.opens l c.0 w.0 w.1);
  begins = λ c x d. ⊎_elim
      (λ none. let e : x ≡ d.1 = d.2 ∙ ap (λ z. z ++ d.1) none in starts_right fs gs x (subst (Starts gs) (sym e) (g.begins c.1 d.1 d.4)))
      (λ some. starts_left fs gs x (subst (Starts fs) (sym d.2) (starts_on fs d.0 d.1 some)))
      (f.begins c.0 d.0 d.3);
  whole = λ c x y d le.
      let e = cut x y d.0 d.1 d.2 in
      goes_both p q hs c.0 c.1 (x ++ y) (d.1 ++ y) y
      (ap p e ∙ stops c.0 c.1 d.0 d.1 y d.3 d.4 (subst (λ z. length z ≤ n) e le))
      (g.whole c.1 d.1 y d.4 (no_longer n x y d.0 d.1 le d.2));
}

-- a run of items stops at a lexeme that begins none
many_stops : {A : Type 0} {D D' : Language A} {n : ℕ} {p : Parser A} {fs cs : List Terminal} → Reads n D D' p fs cs → disjoint cs fs ≡ true → (items found : List A) (k : ℕ) (x y : Lexemes) → Many D items x → length (x ++ y) ≤ k → length (x ++ y) ≤ n → p y ≡ None → (Starts cs y → ⊥) → many_from p k found (x ++ y) ≡ Some (found ++ items, y)
many_stops {p = p} g apart' [] found zero x y d le len none on =
    ap (many_from p zero found) (ap (λ z. z ++ y) d) ∙ many_from-zero p found y ∙ ap (λ z. Some (z, y)) (sym (append-nil found))
many_stops {p = p} g apart' [] found (suc k) x y d le len none on =
    ap (many_from p (suc k) found) (ap (λ z. z ++ y) d) ∙ many_from-suc p k found y ∙ ap (λ o. many_after o found y (many_from p k)) none ∙ ap (λ z. Some (z, y)) (sym (append-nil found))
many_stops {fs = fs} g apart' (a ∷ items) found zero x y d le len none on =
    absurd (omega (arith, le, starts_some fs (x ++ y) (starts_on fs x y (subst (Starts fs) (sym d.2) (starts_on fs d.0 d.1 (g.begins a d.0 d.3))))))
many_stops {D = D} {n = n} {p = p} {fs = fs} {cs = cs} g apart' (a ∷ items) found (suc k) x y d le len none on =
    let e = cut x y d.0 d.1 d.2 in
    let some = starts_some fs d.0 (g.begins a d.0 d.3) in
    ⊎_elim
    (λ exact.
    many_from-suc p k found (x ++ y) ∙ ap (λ o. many_after o found (x ++ y) (many_from p k)) (ap p e ∙ exact)
    ∙ many_stops g apart' items (found ++ a ∷ []) k d.1 y d.4 (shorter (suc k) k x y d.0 d.1 (omega arith) le d.2 some) (no_longer n x y d.0 d.1 len d.2) none on
    ∙ ap (λ z. Some (z, y)) (append_assoc found (a ∷ []) items))
    (λ more. ⊎_elim
    (λ empty. absurd (on (subst (Starts cs) (ap (λ z. z ++ y) empty) more.0)))
    (λ begins. absurd (clash cs fs apart' (d.1 ++ y) more.0 (starts_on fs d.1 y begins)))
    (many_begins {D = D} fs g.begins items d.1 d.4))
    (g.whole a d.0 (d.1 ++ y) d.3 (subst (λ z. length z ≤ n) e len))

maybe_stops : {A : Type 0} {D D' : Language A} {n : ℕ} {p : Parser A} {fs cs : List Terminal} → Reads n D D' p fs cs → (c : Option A) (x y : Lexemes) → Maybe D c x → length (x ++ y) ≤ n → p y ≡ None → (Starts cs y → ⊥) → maybe p (x ++ y) ≡ Some (c, y)
maybe_stops {p = p} g None x y d len none on =
    let e : x ++ y ≡ y = ap (λ z. z ++ y) d in
    ap (λ z. maybe_at (p z) z) e ∙ ap (λ o. maybe_at o y) none
maybe_stops {p = p} g (Some a) x y d len none on = ⊎_elim
    (λ exact. ap (λ o. maybe_at o (x ++ y)) exact)
    (λ more. absurd (on more.0))
    (g.whole a x y d len)

-- any number of items, none of which begins like the second part
pub many_lead : {A B : Type 0} {n : ℕ} {D D' : Language A} {E E' : Language B} {p : Parser A} {q : Parser B} {fs cs gs hs : List Terminal} → Reads n D D' p fs cs → Reads n E E' q gs hs → disjoint cs fs ≡ true → disjoint cs gs ≡ true
    → ((b : B) (x y : Lexemes) → E b x → length (x ++ y) ≤ n → p (x ++ y) ≡ None) → Reads n (◌then◌ (Many D) E) (◌then◌ (Many D') E') (both (many p) q) (fs ++ gs) hs
many_lead {n = n} {D = D} {E = E} {p = p} {cs = cs} {gs = gs} f g apart' aside free = lead_exact (many_takes f apart') g
    (λ items b u v y d e le.
    many_is p (u ++ (v ++ y))
    ∙ many_stops f apart' items [] (length (u ++ (v ++ y))) u (v ++ y) d (omega arith) le (free b v y e (omega (arith, length-append u (v ++ y))))
    (λ s. clash cs gs aside (v ++ y) s (starts_on gs v y (g.begins b v e))))

-- an optional item that doesn't begin like the second part
pub maybe_lead : {A B : Type 0} {n : ℕ} {D D' : Language A} {E E' : Language B} {p : Parser A} {q : Parser B} {fs cs gs hs : List Terminal} → Reads n D D' p fs cs → Reads n E E' q gs hs → disjoint cs gs ≡ true
    → ((b : B) (x y : Lexemes) → E b x → length (x ++ y) ≤ n → p (x ++ y) ≡ None) → Reads n (◌then◌ (Maybe D) E) (◌then◌ (Maybe D') E') (both (maybe p) q) (fs ++ gs) hs
maybe_lead {n = n} {D = D} {E = E} {p = p} {cs = cs} {gs = gs} f g aside free = lead_exact (maybe_takes f) g
    (λ c b u v y d e le.
    maybe_stops f c u (v ++ y) d le (free b v y e (omega (arith, length-append u (v ++ y))))
    (λ s. clash cs gs aside (v ++ y) s (starts_on gs v y (g.begins b v e))))
