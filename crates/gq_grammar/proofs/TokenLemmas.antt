-- TokenLemmas: one lexeme.
use Rattle.std.proofs.Common.{◌≡◌, ℕ, [], ◌∷◌, ◌++◌, Bool, true, false, Some, inl, refl, sym, ap, ◌∙◌, subst}
use Rattle.gq_grammar.specs.Lexemes.{Lexeme, Lexemes, Terminal, is_of}
use Rattle.gq_grammar.specs.Languages.{Token}
use Rattle.gq_grammar.specs.Parsers.{token_at, token}
use Rattle.gq_grammar.proofs.Sets.{or_left, Starts}
use Rattle.gq_grammar.proofs.Claims.{Reads, some_inj}

token_some : {A : Type 0} (k : Terminal) (tell : Lexeme → A) (t : Lexeme) (m : Lexemes) (b : Bool) (a : A) (r : Lexemes) → is_of k t ≡ b → token_at tell t m b ≡ Some (a, r) → (is_of k t ≡ true) × (tell t ≡ a) × (m ≡ r)
token_some {A} k tell t m true a r e h =
    let i : ◌≡◌ {A = A × Lexemes} (tell t, m) (a, r) = some_inj h in (e, ap (λ z. z.0) i, ap (λ z. z.1) i)
token_some k tell t m false a r e h = cc

token_takes : {A : Type 0} (k : Terminal) (tell : Lexeme → A) (l : Lexemes) (a : A) (r : Lexemes) → token k tell l ≡ Some (a, r) → (t : Lexeme) × (l ≡ t ∷ r) × (is_of k t ≡ true) × (a ≡ tell t)
unfolding token
token_takes k tell [] a r h = cc
token_takes k tell (t ∷ m) a r h =
    let w = token_some k tell t m (is_of k t) a r refl h in
    (t, ap (λ z. t ∷ z) w.2, w.0, sym w.1)

token_starts : (l r : Lexemes) (t : Lexeme) (k : Terminal) → l ≡ t ∷ r → is_of k t ≡ true → Starts (k ∷ []) l
token_starts l r t k e h = subst (Starts (k ∷ [])) (sym e) (or_left (is_of k t) false h)

token_reads_at : {A : Type 0} (k : Terminal) (tell : Lexeme → A) (a : A) (x y : Lexemes) (t : Lexeme) → x ≡ t ∷ [] → is_of k t ≡ true → a ≡ tell t → token k tell (x ++ y) ≡ Some (a, y)
unfolding token
token_reads_at k tell a x y t e h v =
    ap (λ z. token k tell (z ++ y)) e ∙ ap (token_at tell t y) h ∙ ap (λ z. Some (z, y)) (sym v)

pub token_reads : {A : Type 0} (n : ℕ) (k : Terminal) (tell : Lexeme → A) → Reads n (Token k tell) (Token k tell) (token k tell) (k ∷ []) []
token_reads n k tell = record {
  sound = λ l a r h. let w = token_takes k tell l a r h in record { text = w.0 ∷ []; is = w.1; derives = (w.0, refl, w.2, w.3) };
  opens = λ l a r h. let w = token_takes k tell l a r h in token_starts l r w.0 k w.1 w.2;
  begins = λ a x d. token_starts x [] d.0 k d.1 d.2;
  whole = λ a x y d le. inl (token_reads_at k tell a x y d.0 d.1 d.2 d.3);
}
