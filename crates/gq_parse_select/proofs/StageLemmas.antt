-- StageLemmas: what was read first, paired with what was read after it.
use Rattle.std.proofs.Common.{◌≡◌, ℕ, List, ◌∷◌, drop, Option, Some, None, Result, Ok, IfOk, refl, sym, ap, ◌∙◌, subst, arith}
use Rattle.gq_base.specs.declared.memory.OutOfMemory.{OutOfMemory}
use Rattle.gq_grammar.specs.Lexemes.{Lexemes}
use Rattle.gq_grammar.specs.Parsers.{Parser, Found, and_then, both, made}
use Rattle.gq_grammar.specs.Series.{one_and_all}
use Rattle.gq_parse_select.proofs.Missing.{none_second}

abbrev second_of : {A B : Type 0} → Parser B → Option (A × Lexemes) → Option ((A × B) × Lexemes)
second_of q o = and_then o (λ a r. and_then (q r) (λ b s. Some ((a, b), s)))

abbrev with_first : {A B : Type 0} → A → Option (B × Lexemes) → Option ((A × B) × Lexemes)
with_first a o = and_then o (λ b s. Some ((a, b), s))

pub no_pair : {A B : Type 0} (p : Parser A) (q : Parser B) (all : Lexemes) (at next : ℕ) (a : A) (r : Result (Option (B × ℕ)) OutOfMemory) (o : Option (B × ℕ)) → r ≡ Ok o → o ≡ None → Found p all at (Some (a, next)) → IfOk r (Found q all next) → Found (both p q) all at None
no_pair p q all at next a r o was is f s = none_second p q (drop at all) a (drop next all) f.0 (subst (Found q all next) is (subst (λ r. IfOk r (Found q all next)) was s))

found_pair : {A B : Type 0} (p : Parser A) (q : Parser B) (all : Lexemes) (at next end : ℕ) (a : A) (b : B) → Found p all at (Some (a, next)) → Found q all next (Some (b, end)) → Found (both p q) all at (Some ((a, b), end))
found_pair p q all at next end a b f g = (ap (second_of q) f.0 ∙ ap (with_first a) g.0, omega (arith, f.1, g.1), g.2)

pub some_pair : {A B : Type 0} (p : Parser A) (q : Parser B) (all : Lexemes) (at next : ℕ) (a : A) (r : Result (Option (B × ℕ)) OutOfMemory) (o : Option (B × ℕ)) (x : B × ℕ) → r ≡ Ok o → o ≡ Some x → Found p all at (Some (a, next)) → IfOk r (Found q all next) → Found (both p q) all at (Some ((a, x.0), x.1))
some_pair p q all at next a r o x was is f s = found_pair p q all at next x.1 a x.0 f (subst (Found q all next) is (subst (λ r. IfOk r (Found q all next)) was s))

pub pair_beside : {A B : Type 0} (p : Parser A) (q : Parser B) (all : Lexemes) (at next : ℕ) (a : A) (r : Result (B × ℕ) OutOfMemory) (x : B × ℕ) → r ≡ Ok x → Found p all at (Some (a, next)) → IfOk r (λ read. Found q all next (Some read)) → Found (both p q) all at (Some ((a, x.0), x.1))
pair_beside p q all at next a r x was f s = found_pair p q all at next x.1 a x.0 f (subst (λ r. IfOk r (λ read. Found q all next (Some read))) was s)

-- ---- a first item, and others

abbrev all_of : {A : Type 0} → Option ((A × List A) × Lexemes) → Option (List A × Lexemes)
all_of o = and_then o (λ a r. Some (one_and_all a, r))

pub chain_of : {A : Type 0} (p : Parser A) (q : Parser (List A)) (all : Lexemes) (at next end : ℕ) (a : A) (others list : List A) → list ≡ a ∷ others → Found p all at (Some (a, next)) → Found q all next (Some (others, end)) → Found (made one_and_all (both p q)) all at (Some (list, end))
chain_of p q all at next end a others list is f g =
    let w = found_pair p q all at next end a others f g in
    (ap all_of w.0 ∙ ap (λ z. Some (z, drop end all)) (sym is), w.1, w.2)

-- ---- (a first item and others) paired with what follows them, as the first paired with all that follows it

abbrev pub grouped_of : {A B C : Type 0} → (List A → B → C) → A × (List A × B) → C
grouped_of f x = f (x.0 ∷ x.1.0) x.1.1

abbrev grouped_told : {A B C : Type 0} → (List A → B → C) → Option ((A × (List A × B)) × Lexemes) → Option (C × Lexemes)
grouped_told f o = and_then o (λ x s. Some (grouped_of f x, s))

abbrev flat_told : {A B C : Type 0} → (List A → B → C) → Option ((List A × B) × Lexemes) → Option (C × Lexemes)
flat_told f o = and_then o (λ x s. Some (f x.0 x.1, s))

third : {A B C : Type 0} (f : List A → B → C) (a : A) (others : List A) (o : Option (B × Lexemes)) → grouped_told f (with_first a (with_first others o)) ≡ flat_told f (with_first (a ∷ others) o)
third f a others None = refl
third f a others (Some x) = refl

second : {A B C : Type 0} (f : List A → B → C) (r : Parser B) (a : A) (o : Option (List A × Lexemes)) → grouped_told f (with_first a (second_of r o)) ≡ flat_told f (second_of r (all_of (with_first a o)))
second f r a None = refl
second f r a (Some x) = third f a x.0 (r x.1)

grouped : {A B C : Type 0} (f : List A → B → C) (q : Parser (List A)) (r : Parser B) (o : Option (A × Lexemes)) → grouped_told f (second_of (both q r) o) ≡ flat_told f (second_of r (all_of (second_of q o)))
grouped f q r None = refl
grouped f q r (Some x) = second f r x.0 (q x.1)

pub grouped_none : {A B C : Type 0} (f : List A → B → C) (p : Parser A) (q : Parser (List A)) (r : Parser B) (all : Lexemes) (at : ℕ) → Found (both (made one_and_all (both p q)) r) all at None → Found (made (grouped_of f) (both p (both q r))) all at None
grouped_none f p q r all at h = grouped f q r (p (drop at all)) ∙ ap (flat_told f) h

pub grouped_some : {A B C : Type 0} (f : List A → B → C) (p : Parser A) (q : Parser (List A)) (r : Parser B) (all : Lexemes) (at : ℕ) (x : (List A × B) × ℕ) → Found (both (made one_and_all (both p q)) r) all at (Some x) → Found (made (grouped_of f) (both p (both q r))) all at (Some (f x.0.0 x.0.1, x.1))
grouped_some f p q r all at x h = (grouped f q r (p (drop at all)) ∙ ap (flat_told f) h.0, h.1, h.2)
