-- PlaceLemmas: places of tokens and lexemes, and runs of `;`.
use Rattle.std.proofs.Common.{◌≡◌, ℕ, ◌+◌, ◌-◌, ◌<◌, ◌≤◌, List, [], ◌∷◌, ◌++◌, length, drop, get_or, true, false, Some, sym, ap, ◌∙◌, subst, arith, length-drop}
use Rattle.std.specs.Prelude.{slice_get}
use Rattle.std.specs.Option.{option_map}
use borrow.Author.Count.{below_more}
use Rattle.std.proofs.lemmas.List.{take-append-drop, drop-drop, length-map, length-take-le, get_or-take, get_or-drop}
use Rattle.std.proofs.lemmas.Option.{slice_get-map, get_or_from_slice_get}
use Rattle.gq_token.specs.declared.token.Token.{Token}
use Rattle.gq_grammar.specs.Lexemes.{Lexeme, Lexemes, Terminal, lexeme_of, lexemes_of, is_of}
use Rattle.gq_grammar.specs.Reading.{between}
use Rattle.gq_grammar.proofs.Sets.{Starts, or_left}
use Rattle.gq_grammar.specs.Cutting.{IsSemicolon, AreSemicolons}

-- ---- on lists

-- a prefix and the rest
pub parted : (all : Lexemes) (at to : ℕ) → at ≤ to → drop at all ≡ between all at to ++ drop to all
parted all at to le =
    let e : at + (to - at) ≡ to = omega arith in
    sym (take-append-drop (to - at) (drop at all)) ∙ ap (λ z. between all at to ++ z) (drop-drop (to - at) at all ∙ ap (λ n. drop n all) e)

pub length_between : (all : Lexemes) (from to : ℕ) → from ≤ to → to ≤ length all → length (between all from to) ≡ to - from
length_between all from to le len = length-take-le (to - from) (drop from all) (omega (arith, length-drop from all))

-- the lexeme at a place of a part
pub at_between : (all : Lexemes) (from to k : ℕ) (d : Lexeme) → k < to - from → get_or (between all from to) k d ≡ get_or all (from + k) d
at_between all from to k d lt = get_or-take (to - from) (drop from all) k d lt ∙ get_or-drop from all k d

-- the first lexeme of a list
pub head_starts : (k : Terminal) (l : Lexemes) (d : Lexeme) → 0 < length l → is_of k (get_or l 0 d) ≡ true → Starts (k ∷ []) l
head_starts k [] d some h = absurd (omega arith)
head_starts k (t ∷ l) d some h = or_left (is_of k t) false h

-- ---- on tokens

module _ (bytes : List ℕ) (tokens : List Token) where
  pub as_many : length (lexemes_of bytes tokens) ≡ length tokens
  as_many = length-map tokens (lexeme_of bytes)

  -- the token at a place is the lexeme there
  pub at_place : (i : ℕ) (t : Token) (d : Lexeme) → slice_get tokens i ≡ Some t → get_or (lexemes_of bytes tokens) i d ≡ lexeme_of bytes t
  at_place i t d h =
      get_or_from_slice_get (lexemes_of bytes tokens) i (lexeme_of bytes t) d (slice_get-map (lexeme_of bytes) tokens i ∙ ap (option_map (lexeme_of bytes)) h)

  -- ---- on runs of `;`

  pub semicolon_at : (from to k : ℕ) (d : Lexeme) → AreSemicolons bytes tokens from to → from ≤ k → k < to → IsSemicolon (get_or (lexemes_of bytes tokens) k d)
  semicolon_at from to k d s le lt =
      let all = lexemes_of bytes tokens in
      let e : from + (k - from) ≡ k = omega arith in
      let n : to - from ≡ length (between all from to) = sym (length_between all from to s.from_le (omega (arith, as_many, s.to_le))) in
      subst IsSemicolon (at_between all from to (k - from) d (omega arith) ∙ ap (λ i. get_or all i d) e) (s.all (k - from) d (omega (arith, n)))

  pub semicolons : (from to : ℕ) → from ≤ to → to ≤ length tokens → ((k : ℕ) (d : Lexeme) → from ≤ k → k < to → IsSemicolon (get_or (lexemes_of bytes tokens) k d)) → AreSemicolons bytes tokens from to
  semicolons from to le len f =
      let all = lexemes_of bytes tokens in
      record {
        from_le = le;
        to_le = len;
        all = λ k d lt.
            let n : length (between all from to) ≡ to - from = length_between all from to le (omega (arith, as_many, len)) in
            let lt' : k < to - from = omega (arith, n, lt) in
            subst IsSemicolon (sym (at_between all from to k d lt')) (f (from + k) d (omega arith) (omega arith));
      }

  pub no_semicolons : (at : ℕ) → at ≤ length tokens → AreSemicolons bytes tokens at at
  no_semicolons at le = semicolons at at (omega arith) le (λ k d le lt. absurd (omega arith))

  pub semicolon_more : (from at : ℕ) → AreSemicolons bytes tokens from at → at < length tokens → ((d : Lexeme) → IsSemicolon (get_or (lexemes_of bytes tokens) at d)) → AreSemicolons bytes tokens from (at + 1)
  semicolon_more from at s lt h =
      let P : ℕ → Type 0 = λ k. (d : Lexeme) → from ≤ k → IsSemicolon (get_or (lexemes_of bytes tokens) k d) in
      semicolons from (at + 1) (omega (arith, s.from_le)) (omega arith)
      (λ k d le lt'. below_more P at (λ k lt d le. semicolon_at from at k d s le lt) (λ d le. h d) k lt' d le)
