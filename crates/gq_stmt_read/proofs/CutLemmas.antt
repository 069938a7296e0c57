-- CutLemmas: a script is read up to a place: the start, one more `;`, one more statement, and the end.
use Rattle.std.proofs.Common.{◌≡◌, ℕ, zero, suc, ◌+◌, ◌<◌, ◌≤◌, List, [], ◌∷◌, ◌++◌, length, drop, get_or, Bool, true, false, Some, None, refl, sym, ap, ◌∙◌, subst, arith, length-drop}
use Rattle.std.specs.Prelude.{slice_get}
use Rattle.std.proofs.lemmas.List.{get_or-drop}
use Rattle.std.proofs.lemmas.Option.{slice_get_within}
use Rattle.gq_token.specs.declared.token.Token.{Token}
use Rattle.gq_grammar.specs.Lexemes.{Lexeme, Lexemes, Terminal, lexeme_of, lexemes_of, sign, is_of, nothing}
use Rattle.gq_grammar.specs.Signs.{One}
use Rattle.gq_grammar.specs.Parsers.{Found, one, token, token_at}
use Rattle.gq_grammar.specs.Reading.{IsLongest, HasNone}
use Rattle.gq_grammar.proofs.SignLemmas.{one_reads}
use Rattle.gq_tree.specs.declared.statement.Placed.{Placed}
use Rattle.gq_grammar.specs.Scripts.{StatementOf}
use Rattle.gq_grammar.specs.Cutting.{IsSemicolon, AreSemicolons, IsNext, Cuts, IsScript, FailsAt}
use Rattle.gq_stmt_read.proofs.PlaceLemmas.{as_many, at_place, no_semicolons, semicolon_more}

some_none : {X : Type 0} {x : X} → Some x ≡ None → ⊥
some_none h = cc

false_of : (b : Bool) → (b ≡ true → ⊥) → b ≡ false
false_of true h = absurd (h refl)
false_of false h = refl

-- ---- one sign

-- the sign is the first of the remaining lexemes, and one lexeme less remains after it
sign_head : (k : Terminal) (l r : Lexemes) → one k l ≡ Some (tt, r) → (t : Lexeme) × (l ≡ t ∷ r) × (is_of k t ≡ true)
unfolding One
sign_head k l r h =
    let s = (one_reads 0 k).sound l tt r h in
    (s.derives.0, s.is ∙ ap (λ z. z ++ r) s.derives.1, s.derives.2)

-- if the sign isn't found, it isn't the first lexeme
sign_other : (k : Terminal) (t : Lexeme) (l : Lexemes) → one k (t ∷ l) ≡ None → is_of k t ≡ false
unfolding one token
sign_other k t l h = false_of (is_of k t) (λ e. some_none (sym (ap (token_at nothing t l) e) ∙ h))

-- the list from a place on, by its first lexeme
head_at : (all : Lexemes) (at : ℕ) (d : Lexeme) → at < length all → (r : Lexemes) × (drop at all ≡ get_or all at d ∷ r)
head_at [] at d lt = absurd (omega arith)
head_at (t ∷ l) zero d lt = (l, refl)
head_at (t ∷ l) (suc at) d lt = head_at l at d (omega arith)

module _ (bytes : List ℕ) (tokens : List Token) where
  -- these statements are cut from the script up to this place, or up to lone `;` before it
  pub record CutBefore (found : List Placed) (at : ℕ) : Type 0 where
    pub end : ℕ
    pub cuts : Cuts bytes tokens 0 found end
    pub apart : AreSemicolons bytes tokens end at

  pub cut_begin : CutBefore [] 0
  cut_begin = record { end = 0; cuts = refl; apart = no_semicolons bytes tokens 0 (omega arith) }

  -- ---- one more `;`

  pub sign_next : (k : Terminal) (at next : ℕ) → Found (one k) (lexemes_of bytes tokens) at (Some (tt, next)) → next ≡ at + 1
  sign_next k at next f =
      let all = lexemes_of bytes tokens in
      let w = sign_head k (drop at all) (drop next all) f.0 in
      omega (arith, ap length w.1, length-drop at all, length-drop next all, f.1, f.2)

  pub cut_semicolon : (found : List Placed) (at next : ℕ) → CutBefore found at → at < length tokens → Found (one (sign ";")) (lexemes_of bytes tokens) at (Some (tt, next)) → CutBefore found next
  cut_semicolon found at next c lt f =
      let all = lexemes_of bytes tokens in
      let w = sign_head (sign ";") (drop at all) (drop next all) f.0 in
      let h : (d : Lexeme) → IsSemicolon (get_or all at d) = λ d. subst IsSemicolon (sym (here all at d w.0 (drop next all) w.1)) w.2 in
      subst (CutBefore found) (sym (sign_next (sign ";") at next f)) (record { end = c.end; cuts = c.cuts; apart = semicolon_more bytes tokens c.end at c.apart lt h })
    where
      here : (all : Lexemes) (at : ℕ) (d t : Lexeme) (r : Lexemes) → drop at all ≡ t ∷ r → get_or all at d ≡ t
      here all at d t r e =
          let z : at + 0 ≡ at = omega arith in
          sym (ap (λ i. get_or all i d) z) ∙ sym (get_or-drop at all 0 d) ∙ ap (λ l. get_or l 0 d) e

  -- ---- one more statement

  cuts_more : (found : List Placed) (from to : ℕ) (p : Placed) (next : ℕ) → Cuts bytes tokens from found to → IsNext bytes tokens to p next → Cuts bytes tokens from (found ++ p ∷ []) next
  cuts_more [] from to p next c n = (next, subst (λ i. IsNext bytes tokens i p next) (sym c) n, refl)
  cuts_more (q ∷ found) from to p next c n = (c.0, c.1, cuts_more found c.0 to p next c.2 n)

  pub cut_statement : (found : List Placed) (at next : ℕ) (p : Placed) (t : Token) → CutBefore found at → IsLongest StatementOf (lexemes_of bytes tokens) at p.statement next → slice_get tokens at ≡ Some t → p.from ≡ t.from → CutBefore (found ++ p ∷ []) next
  cut_statement found at next p t c l is from =
      record {
        end = next;
        cuts = cuts_more found 0 c.end p next c.cuts (record { start = at; apart = c.apart; longest = l; place = (t, is, from) });
        apart = no_semicolons bytes tokens next (omega (arith, l.to_le, as_many bytes tokens));
      }

  -- ---- the end

  pub cut_whole : (found : List Placed) (at : ℕ) → CutBefore found at → length tokens ≤ at → IsScript bytes tokens found
  cut_whole found at c le =
      let e : at ≡ length tokens = omega (arith, c.apart.to_le) in
      record { end = c.end; cuts = c.cuts; rest = subst (AreSemicolons bytes tokens c.end) e c.apart }

  pub cut_fault : (found : List Placed) (at number place : ℕ) (t : Token) → CutBefore found at → slice_get tokens at ≡ Some t → Found (one (sign ";")) (lexemes_of bytes tokens) at None → HasNone StatementOf (lexemes_of bytes tokens) at
      → number ≡ length found + 1 → place ≡ t.from → FailsAt bytes tokens number place
  cut_fault found at number place t c is f none counted from =
      let all = lexemes_of bytes tokens in
      let d = lexeme_of bytes t in
      let w = head_at all at d (omega (arith, slice_get_within tokens at t is, as_many bytes tokens)) in
      let e : get_or all at d ≡ d = at_place bytes tokens at t d is in
      let other : is_of (sign ";") (get_or all at d) ≡ false = sign_other (sign ";") (get_or all at d) w.0 (ap (one (sign ";")) (sym w.1) ∙ f) in
      record {
        statements = found;
        end = c.end;
        cuts = c.cuts;
        start = at;
        apart = c.apart;
        token = t;
        stands = is;
        other = sym (ap (is_of (sign ";")) e) ∙ other;
        none = none;
        counted = omega arith;
        place = from;
      }
