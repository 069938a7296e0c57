-- ManyLemmas: any number of items.
use Rattle.std.proofs.Common.{◌≡◌, ℕ, zero, suc, ◌≤◌, List, [], ◌∷◌, ◌++◌, length, true, Some, ◌⊎◌, inl, inr, ⊎_elim, refl, sym, ap, ◌∙◌, subst, arith, append_assoc, append-nil}
use Rattle.gq_grammar.specs.Lexemes.{Lexemes, Terminal}
use Rattle.gq_grammar.specs.Languages.{Language, Many}
use Rattle.gq_grammar.specs.Parsers.{Parser, many_after, many_from, many}
use Rattle.gq_grammar.proofs.Sets.{Starts, disjoint, clash, starts_left, starts_right, starts_on, starts_some}
use Rattle.gq_grammar.proofs.Claims.{Spelled, Ahead, Goes, Reads, Takes, some_inj, or_cases, cut, shorter, no_longer}

pub many_from-zero : {A : Type 0} (p : Parser A) (found : List A) (l : Lexemes) → many_from p zero found l ≡ Some (found, l)
unfolding many_from
many_from-zero p found l = refl

pub many_from-suc : {A : Type 0} (p : Parser A) (n : ℕ) (found : List A) (l : Lexemes) → many_from p (suc n) found l ≡ many_after (p l) found l (many_from p n)
unfolding many_from
many_from-suc p n found l = refl

-- where a run of iterations ends, and what it has read
record Run {A : Type 0} (D : Language A) (fs : List Terminal) (p : Parser A) (n : ℕ) (found : List A) (l : Lexemes) : Type 0 where
  more : List A
  text : Lexemes
  left : Lexemes
  is : many_from p n found l ≡ Some (found ++ more, left)
  cut : l ≡ text ++ left
  derives : Many D more text
  opens : ((more ≡ []) × (l ≡ left)) ⊎ Starts fs l

run_none : {A : Type 0} (D : Language A) (fs : List Terminal) (p : Parser A) (n : ℕ) (found : List A) (l : Lexemes) → many_from p n found l ≡ Some (found, l) → Run D fs p n found l
run_none D fs p n found l e = record {
  more = [];
  text = [];
  left = l;
  is = e ∙ ap (λ z. Some (z, l)) (sym (append-nil found));
  cut = refl;
  derives = refl;
  opens = inl (refl, refl);
}

run_some : {A : Type 0} (D : Language A) (fs : List Terminal) (p : Parser A) (n : ℕ) (found : List A) (l : Lexemes) (a : A) (r : Lexemes) → p l ≡ Some (a, r) → Spelled D l a r → Starts fs l → Run D fs p n (found ++ a ∷ []) r → Run D fs p (suc n) found l
run_some D fs p n found l a r e s o w = record {
  more = a ∷ w.more;
  text = s.text ++ w.text;
  left = w.left;
  is = many_from-suc p n found l ∙ ap (λ o. many_after o found l (many_from p n)) e ∙ w.is ∙ ap (λ z. Some (z, w.left)) (append_assoc found (a ∷ []) w.more);
  cut = s.is ∙ ap (λ z. s.text ++ z) w.cut ∙ sym (append_assoc s.text w.text w.left);
  derives = (s.text, w.text, refl, s.derives, w.derives);
  opens = inr o;
}

run : {A : Type 0} {D : Language A} (fs : List Terminal) (p : Parser A) → ((l : Lexemes) (a : A) (r : Lexemes) → p l ≡ Some (a, r) → Spelled D l a r × Starts fs l) → (n : ℕ) (found : List A) (l : Lexemes) → Run D fs p n found l
run {D = D} fs p f zero found l = run_none D fs p zero found l (many_from-zero p found l)
run {D = D} fs p f (suc n) found l = ⊎_elim
    (λ none. run_none D fs p (suc n) found l (many_from-suc p n found l ∙ ap (λ o. many_after o found l (many_from p n)) none))
    (λ some. let w = f l some.0.0 some.0.1 some.1 in run_some D fs p n found l some.0.0 some.0.1 some.1 w.0 w.1 (run {D = D} fs p f n (found ++ some.0.0 ∷ []) some.0.1))
    (or_cases (p l))

pub many_begins : {A : Type 0} {D : Language A} (fs : List Terminal) → ((a : A) (x : Lexemes) → D a x → Starts fs x) → (items : List A) (x : Lexemes) → Many D items x → (x ≡ []) ⊎ Starts fs x
many_begins fs f [] x d = inl d
many_begins fs f (a ∷ items) x d = inr (subst (Starts fs) (sym d.2) (starts_on fs d.0 d.1 (f a d.0 d.3)))

-- no more items follow
goes_end : {A : Type 0} {D : Language A} {p : Parser A} {k : ℕ} {found : List A} {y : Lexemes} (fs cs : List Terminal) → Run D fs p k found y → Goes (many_from p k found) (fs ++ cs) (found ++ []) y y
goes_end {p = p} {k = k} {found = found} {y = y} fs cs w = ⊎_elim
    (λ none. inl (w.is ∙ ap (λ z. Some (found ++ z, w.left)) none.0 ∙ ap (λ z. Some (found ++ [], z)) (sym none.1)))
    (λ some. inr (starts_left fs cs y some, record { found = found ++ w.more; eaten = w.text; left = w.left; is = w.is; after = w.cut }))
    w.opens

-- one more item, and the others after it
goes_step : {A : Type 0} (p : Parser A) (k : ℕ) (cs : List Terminal) (found items : List A) (a : A) (l m y : Lexemes) → p l ≡ Some (a, m) → Goes (many_from p k (found ++ a ∷ [])) cs ((found ++ a ∷ []) ++ items) m y → Goes (many_from p (suc k) found) cs (found ++ a ∷ items) l y
goes_step p k cs found items a l m y e g =
    let turn = many_from-suc p k found l ∙ ap (λ o. many_after o found l (many_from p k)) e in
    ⊎_elim
    (λ exact. inl (turn ∙ exact ∙ ap (λ z. Some (z, y)) (append_assoc found (a ∷ []) items)))
    (λ on. inr (on.0, record { found = on.1.found; eaten = on.1.eaten; left = on.1.left; is = turn ∙ on.1.is; after = on.1.after }))
    g

-- the last item reads on into y
run_ahead : {A : Type 0} {D : Language A} (fs : List Terminal) (p : Parser A) → ((l : Lexemes) (a : A) (r : Lexemes) → p l ≡ Some (a, r) → Spelled D l a r × Starts fs l) → (k : ℕ) (found : List A) (l y : Lexemes) → Ahead p l y → Ahead (many_from p (suc k) found) l y
run_ahead {D = D} fs p f k found l y a =
    let w = run {D = D} fs p f k (found ++ a.found ∷ []) a.left in
    record {
      found = (found ++ a.found ∷ []) ++ w.more;
      eaten = a.eaten ++ w.text;
      left = w.left;
      is = many_from-suc p k found l ∙ ap (λ o. many_after o found l (many_from p k)) a.is ∙ w.is;
      after = a.after ∙ ap (λ z. a.eaten ++ z) w.cut ∙ sym (append_assoc a.eaten w.text w.left);
    }

many_goes : {A : Type 0} {D D' : Language A} {n : ℕ} {p : Parser A} {fs cs : List Terminal} → Reads n D D' p fs cs → disjoint cs fs ≡ true → (items found : List A) (k : ℕ) (x y : Lexemes) → Many D items x → length (x ++ y) ≤ k → length (x ++ y) ≤ n → Goes (many_from p k found) (fs ++ cs) (found ++ items) (x ++ y) y
many_goes {D' = D'} {p = p} {fs = fs} {cs = cs} g apart' [] found k x y d le len =
    let e : y ≡ x ++ y = sym (ap (λ z. z ++ y) d) in
    subst (λ z. Goes (many_from p k found) (fs ++ cs) (found ++ []) z y) e (goes_end {D = D'} fs cs (run {D = D'} fs p (λ l a r h. (g.sound l a r h, g.opens l a r h)) k found y))
many_goes {D = D} {p = p} {fs = fs} {cs = cs} g apart' (a ∷ items) found zero x y d le len =
    absurd (omega (arith, le, starts_some fs (x ++ y) (starts_on fs x y (subst (Starts fs) (sym d.2) (starts_on fs d.0 d.1 (g.begins a d.0 d.3))))))
many_goes {D = D} {D' = D'} {n = n} {p = p} {fs = fs} {cs = cs} g apart' (a ∷ items) found (suc k) x y d le len =
    let e = cut x y d.0 d.1 d.2 in
    let some = starts_some fs d.0 (g.begins a d.0 d.3) in
    ⊎_elim
    (λ exact. goes_step p k (fs ++ cs) found items a (x ++ y) (d.1 ++ y) y (ap p e ∙ exact) (many_goes {D = D} {D' = D'} g apart' items (found ++ a ∷ []) k d.1 y d.4 (shorter (suc k) k x y d.0 d.1 (omega arith) le d.2 some) (no_longer n x y d.0 d.1 len d.2)))
    (λ on.
    let ahead : Ahead p (x ++ y) (d.1 ++ y) = subst (λ z. Ahead p z (d.1 ++ y)) (sym e) on.1 in
    ⊎_elim
    (λ none. inr (starts_right fs cs y (subst (Starts cs) (ap (λ z. z ++ y) none) on.0), run_ahead {D = D'} fs p (λ l a r h. (g.sound l a r h, g.opens l a r h)) k found (x ++ y) y (subst (λ z. Ahead p (x ++ y) (z ++ y)) none ahead)))
    (λ more. absurd (clash cs fs apart' (d.1 ++ y) on.0 (starts_on fs d.1 y more)))
    (many_begins {D = D} fs g.begins items d.1 d.4))
    (g.whole a d.0 (d.1 ++ y) d.3 (subst (λ z. length z ≤ n) e len))

pub many_is : {A : Type 0} (p : Parser A) (l : Lexemes) → many p l ≡ many_from p (length l) [] l
unfolding many
many_is p l = refl

many_some : {A : Type 0} {D : Language A} {fs : List Terminal} (p : Parser A) (l : Lexemes) (items : List A) (r : Lexemes) → Run D fs p (length l) [] l → many p l ≡ Some (items, r) → Spelled (Many D) l items r × ((l ≡ r) ⊎ Starts fs l)
many_some {A} {D = D} p l items r w h =
    let e : ◌≡◌ {A = List A × Lexemes} (w.more, w.left) (items, r) = some_inj (sym w.is ∙ sym (many_is p l) ∙ h) in
    let same = ap (λ z. z.0) e in
    let left = ap (λ z. z.1) e in (
      record { text = w.text; is = w.cut ∙ ap (λ z. w.text ++ z) left; derives = subst (λ z. Many D z w.text) same w.derives },
      ⊎_elim (λ none. inl (none.1 ∙ left)) (λ some. inr some) w.opens,
    )

goes_many : {A : Type 0} (p : Parser A) (cs : List Terminal) (items : List A) (l y : Lexemes) → Goes (many_from p (length l) []) cs items l y → Goes (many p) cs items l y
goes_many p cs items l y g = ⊎_elim
    (λ exact. inl (many_is p l ∙ exact))
    (λ on. inr (on.0, record { found = on.1.found; eaten = on.1.eaten; left = on.1.left; is = many_is p l ∙ on.1.is; after = on.1.after }))
    g

pub many_takes : {A : Type 0} {n : ℕ} {D D' : Language A} {p : Parser A} {fs cs : List Terminal} → Reads n D D' p fs cs → disjoint cs fs ≡ true → Takes n (Many D) (Many D') (many p) fs (fs ++ cs)
many_takes {n = n} {D = D} {D' = D'} {p = p} {fs = fs} {cs = cs} g apart' =
    let turns = λ (l : Lexemes). run {D = D'} fs p (λ l a r h. (g.sound l a r h, g.opens l a r h)) (length l) [] l in
    record {
      sound = λ l items r h. (many_some p l items r (turns l) h).0;
      opens = λ l items r h. (many_some p l items r (turns l) h).1;
      total = λ l. ((turns l).more, (turns l).left, many_is p l ∙ (turns l).is);
      begins = many_begins {D = D} fs g.begins;
      whole = λ items x y d le. goes_many p (fs ++ cs) items (x ++ y) y (many_goes {D = D} {D' = D'} g apart' items [] (length (x ++ y)) x y d (omega arith) le);
    }
