-- PlaceLemmas: from the token at a place to the lexeme there.
use Rattle.std.proofs.Common.{◌≡◌, ℕ, suc, ◌+◌, ◌<◌, ◌≤◌, List, ◌∷◌, length, map, drop, Bool, true, false, not, ◌&&◌, Some, None, refl, sym, ap, ◌∙◌, arith, get_or, drop-cons, add-one}
use Rattle.std.proofs.lemmas.List.{drop-map, drop_all, length-map}
use Rattle.gq_token.specs.declared.token.Token.{Token}
use Rattle.gq_token.specs.declared.token.TokenKind.{TokenKind}
use Rattle.gq_token.specs.declared.token.TokenKind.TheVariants as shape
use Rattle.gq_token.specs.Cut.{text_of}
use Rattle.gq_token.specs.Kinds.{is_word_shape, is_mark, is_keyword}
use Rattle.gq_grammar.specs.Reserved.{is_reserved}
use Rattle.gq_grammar.specs.Lexemes.{Lexeme, Lexemes, Terminal, Sign, Keyword, Name, Number, Text, Global, Attached, lexeme_of, lexemes_of, is_of, is_global_shape, is_attached_shape, is_number_shape, is_text_shape, number_in, text_in, nothing, spelling, number, said}
use Rattle.gq_grammar.specs.Parsers.{token, token_at, one, Found}

-- ---- other shapes

no_word : (s : TokenKind) → (s ≡ shape.Word → ⊥) → is_word_shape s ≡ false
no_word shape.Word h = absurd (h refl)
no_word shape.Global h = refl
no_word shape.Attached h = refl
no_word (shape.Number n) h = refl
no_word (shape.Text said) h = refl
no_word shape.Symbol h = refl

no_global : (s : TokenKind) → (s ≡ shape.Global → ⊥) → is_global_shape s ≡ false
no_global shape.Word h = refl
no_global shape.Global h = absurd (h refl)
no_global shape.Attached h = refl
no_global (shape.Number n) h = refl
no_global (shape.Text said) h = refl
no_global shape.Symbol h = refl

no_attached : (s : TokenKind) → (s ≡ shape.Attached → ⊥) → is_attached_shape s ≡ false
no_attached shape.Word h = refl
no_attached shape.Global h = refl
no_attached shape.Attached h = absurd (h refl)
no_attached (shape.Number n) h = refl
no_attached (shape.Text said) h = refl
no_attached shape.Symbol h = refl

no_number : (s : TokenKind) → ((n : ℕ) → s ≡ shape.Number n → ⊥) → is_number_shape s ≡ false
no_number shape.Word h = refl
no_number shape.Global h = refl
no_number shape.Attached h = refl
no_number (shape.Number n) h = absurd (h n refl)
no_number (shape.Text said) h = refl
no_number shape.Symbol h = refl

no_text : (s : TokenKind) → ((said : List ℕ) → s ≡ shape.Text said → ⊥) → is_text_shape s ≡ false
no_text shape.Word h = refl
no_text shape.Global h = refl
no_text shape.Attached h = refl
no_text (shape.Number n) h = refl
no_text (shape.Text said) h = absurd (h said refl)
no_text shape.Symbol h = refl

name_is : (s : TokenKind) (text word : List ℕ) (r : Bool) → s ≡ shape.Word → word ≡ text → r ≡ is_reserved word → (is_word_shape s && not (is_reserved text)) ≡ not r
name_is s text word r e w h = ap (λ z. is_word_shape z && not (is_reserved text)) e ∙ ap not (ap is_reserved (sym w) ∙ sym h)

-- ---- the token at a place

module _ (bytes : List ℕ) (tokens : List Token) (all : Lexemes) (at : ℕ) (v : lexemes_of bytes tokens ≡ all) where
  -- no token remains
  pub none_left : {A : Type 0} (k : Terminal) (tell : Lexeme → A) → at ≡ length tokens → token k tell (drop at all) ≡ None
  unfolding token
  none_left k tell e =
      ap (λ z. token k tell (drop at z)) (sym v) ∙ ap (token k tell) (drop_all at (lexemes_of bytes tokens) (omega (arith, e, length-map tokens (lexeme_of bytes))))

  pub no_sign_left : (k : Terminal) → at ≡ length tokens → one k (drop at all) ≡ None
  unfolding one
  no_sign_left k e = none_left k nothing e

  module _ (d : Token) (le : at ≤ length all) (ne : at ≡ length tokens → ⊥) where
    within : at < length tokens
    within = omega (arith, ap length v, length-map tokens (lexeme_of bytes), ne)

    unfoldable here : Token
    here = get_or tokens at d

    left : drop at (lexemes_of bytes tokens) ≡ lexeme_of bytes here ∷ drop (at + 1) (lexemes_of bytes tokens)
    unfolding here
    left =
        drop-map (lexeme_of bytes) at tokens ∙ ap (map (lexeme_of bytes)) (drop-cons tokens at d within)
        ∙ ap (λ z. lexeme_of bytes (get_or tokens at d) ∷ z) (sym (drop-map (lexeme_of bytes) (suc at) tokens))
        ∙ ap (λ n. lexeme_of bytes (get_or tokens at d) ∷ drop n (lexemes_of bytes tokens)) (sym (add-one at))

    token_here : {A : Type 0} (k : Terminal) (tell : Lexeme → A) (b : Bool) → is_of k (lexeme_of bytes here) ≡ b → token k tell (drop at all) ≡ token_at tell (lexeme_of bytes here) (drop (at + 1) all) b
    unfolding token
    token_here k tell b i =
        ap (λ z. token k tell (drop at z)) (sym v) ∙ ap (token k tell) left ∙ ap (token_at tell (lexeme_of bytes here) (drop (at + 1) (lexemes_of bytes tokens))) i
        ∙ ap (λ z. token_at tell (lexeme_of bytes here) (drop (at + 1) z) b) v

    -- another token is here
    other_here : {A : Type 0} (k : Terminal) (tell : Lexeme → A) → is_of k (lexeme_of bytes here) ≡ false → token k tell (drop at all) ≡ None
    other_here k tell i = token_here k tell false i

    -- a lexeme of the terminal is here
    found_here : {A : Type 0} (k : Terminal) (tell : Lexeme → A) (a : A) → is_of k (lexeme_of bytes here) ≡ true → a ≡ tell (lexeme_of bytes here) → Found (token k tell) all at (Some (a, at + 1))
    found_here k tell a i w =
        (token_here k tell true i ∙ ap (λ z. Some (z, drop (at + 1) all)) (sym w), omega arith, omega (arith, ap length v, length-map tokens (lexeme_of bytes), within))

    -- ---- for each method

    pub number_here : (n : ℕ) → (get_or tokens at d).shape ≡ shape.Number n → Found (token Number number) all at (Some (n, at + 1))
    unfolding here is_of lexeme_of
    number_here n e = found_here Number number n (ap is_number_shape e) (sym (ap number_in e))

    pub number_other : ((n : ℕ) → (get_or tokens at d).shape ≡ shape.Number n → ⊥) → token Number number (drop at all) ≡ None
    unfolding here is_of lexeme_of
    number_other e = other_here Number number (no_number (get_or tokens at d).shape e)

    pub text_here : (t : List ℕ) → (get_or tokens at d).shape ≡ shape.Text t → Found (token Text said) all at (Some (t, at + 1))
    unfolding here is_of lexeme_of
    text_here t e = found_here Text said t (ap is_text_shape e) (sym (ap text_in e))

    pub text_other : ((t : List ℕ) → (get_or tokens at d).shape ≡ shape.Text t → ⊥) → token Text said (drop at all) ≡ None
    unfolding here is_of lexeme_of
    text_other e = other_here Text said (no_text (get_or tokens at d).shape e)

    pub global_here : (t : List ℕ) → (get_or tokens at d).shape ≡ shape.Global → t ≡ text_of bytes (get_or tokens at d) → Found (token Global spelling) all at (Some (t, at + 1))
    unfolding here is_of lexeme_of
    global_here t e w = found_here Global spelling t (ap is_global_shape e) w

    pub global_other : ((get_or tokens at d).shape ≡ shape.Global → ⊥) → token Global spelling (drop at all) ≡ None
    unfolding here is_of lexeme_of
    global_other e = other_here Global spelling (no_global (get_or tokens at d).shape e)

    pub attached_here : (t : List ℕ) → (get_or tokens at d).shape ≡ shape.Attached → t ≡ text_of bytes (get_or tokens at d) → Found (token Attached spelling) all at (Some (t, at + 1))
    unfolding here is_of lexeme_of
    attached_here t e w = found_here Attached spelling t (ap is_attached_shape e) w

    pub attached_other : ((get_or tokens at d).shape ≡ shape.Attached → ⊥) → token Attached spelling (drop at all) ≡ None
    unfolding here is_of lexeme_of
    attached_other e = other_here Attached spelling (no_attached (get_or tokens at d).shape e)

    pub name_other : ((get_or tokens at d).shape ≡ shape.Word → ⊥) → token Name spelling (drop at all) ≡ None
    unfolding here is_of lexeme_of
    name_other e =
        let text = text_of bytes (get_or tokens at d) in
        other_here Name spelling (ap (λ b. b && not (is_reserved text)) (no_word (get_or tokens at d).shape e))

    module _ (word : List ℕ) (e : (get_or tokens at d).shape ≡ shape.Word) (w : word ≡ text_of bytes (get_or tokens at d)) (r : Bool) (h : r ≡ is_reserved word) where
      pub name_here : r ≡ false → Found (token Name spelling) all at (Some (word, at + 1))
      unfolding here is_of lexeme_of
      name_here free = found_here Name spelling word (name_is (get_or tokens at d).shape (text_of bytes (get_or tokens at d)) word r e w h ∙ ap not free) w

      pub name_reserved : r ≡ true → token Name spelling (drop at all) ≡ None
      unfolding here is_of lexeme_of
      name_reserved same = other_here Name spelling (name_is (get_or tokens at d).shape (text_of bytes (get_or tokens at d)) word r e w h ∙ ap not same)

    module _ (text : List ℕ) (b : Bool) where
      pub sign_here : b ≡ is_mark bytes text (get_or tokens at d) → b ≡ true → Found (one (Sign text)) all at (Some (tt, at + 1))
      unfolding one here is_of lexeme_of
      sign_here h same = found_here (Sign text) nothing tt (sym h ∙ same) refl

      pub sign_other : b ≡ is_mark bytes text (get_or tokens at d) → b ≡ false → one (Sign text) (drop at all) ≡ None
      unfolding one here is_of lexeme_of
      sign_other h other = other_here (Sign text) nothing (sym h ∙ other)

      pub keyword_here : b ≡ is_keyword bytes text (get_or tokens at d) → b ≡ true → Found (one (Keyword text)) all at (Some (tt, at + 1))
      unfolding one here is_of lexeme_of
      keyword_here h same = found_here (Keyword text) nothing tt (sym h ∙ same) refl

      pub keyword_other : b ≡ is_keyword bytes text (get_or tokens at d) → b ≡ false → one (Keyword text) (drop at all) ≡ None
      unfolding one here is_of lexeme_of
      keyword_other h other = other_here (Keyword text) nothing (sym h ∙ other)
