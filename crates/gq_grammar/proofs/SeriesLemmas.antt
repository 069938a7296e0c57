-- SeriesLemmas: lists and kept texts are read as the grammar says.
use Rattle.std.proofs.Common.{◌≡◌, ℕ, zero, suc, ◌+◌, ◌-◌, ◌<◌, ◌≤◌, List, [], ◌∷◌, ◌++◌, length, take, drop, map, get_or, Bool, true, false, Option, Some, None, ◌⊎◌, inl, inr, ⊎_elim, refl, sym, ap, ◌∙◌, subst, arith, append_assoc, append-nil, length-append, length-drop}
use Rattle.std.proofs.Math.Seq.{take-append_seam}
use Rattle.std.proofs.lemmas.List.{take_more, take_all, map-append, take-map, drop-map, length-take}
use Rattle.gq_token.specs.declared.token.Token.{Token}
use Rattle.gq_token.specs.Cut.{text_of}
use Rattle.gq_grammar.specs.Lexemes.{Lexemes, Terminal, lexeme_of, lexemes_of}
use Rattle.gq_grammar.specs.Languages.{Language}
use Rattle.gq_grammar.specs.Parsers.{Parser, Found}
use Rattle.gq_grammar.specs.Series.{first, one_and_all, joined, Chain, Ended, Kept, chain, ended, kept_at, kept}
use Rattle.gq_grammar.specs.Reading.{between}
use Rattle.gq_grammar.proofs.Sets.{disjoint}
use Rattle.gq_grammar.proofs.Claims.{Spelled, Goes, Reads, Takes, some_inj}
use Rattle.gq_grammar.proofs.ThenLemmas.{then_reads, tail_reads, lead_reads}
use Rattle.gq_grammar.proofs.MadeLemmas.{made_reads}
use Rattle.gq_grammar.proofs.ManyLemmas.{many_takes}
use Rattle.gq_grammar.proofs.SignLemmas.{one_reads, after_reads}

pub chain_reads : {A : Type 0} {n : ℕ} {D D' : Language A} {p : Parser A} {fs cs : List Terminal} (k : Terminal) → Reads n D D' p fs cs → disjoint cs (k ∷ []) ≡ true → Reads n (Chain k D) (Chain k D') (chain k p) fs (cs ++ ((k ∷ []) ++ cs))
unfolding Chain chain
chain_reads k r apart = made_reads one_and_all (tail_reads r (many_takes (after_reads k r) apart) apart)

pub ended_reads : {A : Type 0} {n : ℕ} {D D' : Language A} {p : Parser A} {fs cs : List Terminal} (k : Terminal) → Reads n D D' p fs cs → disjoint cs (k ∷ []) ≡ true → Reads n (Ended k D) (Ended k D') (ended k p) fs []
unfolding Ended ended
ended_reads {n = n} k r apart = made_reads first (then_reads r (one_reads n k) (omega arith) apart)

-- the same for what may be empty
pub ended_takes : {A : Type 0} {n : ℕ} {D D' : Language A} {p : Parser A} {fs cs : List Terminal} (k : Terminal) → Takes n D D' p fs cs → disjoint cs (k ∷ []) ≡ true → Reads n (Ended k D) (Ended k D') (ended k p) (fs ++ (k ∷ [])) []
unfolding Ended ended
ended_takes {n = n} k r apart = made_reads first (lead_reads r (one_reads n k) apart)

kept_some : {A : Type 0} (o : Option (A × Lexemes)) (l : Lexemes) (c : A × List ℕ) (r : Lexemes) → kept_at o l ≡ Some (c, r) → (o ≡ Some (c.0, r)) × (c.1 ≡ joined (take (length l - length r) l))
kept_some None l c r h = cc
kept_some {A} (Some p) l c r h =
    let i : ◌≡◌ {A = (A × List ℕ) × Lexemes} ((p.0, joined (take (length l - length p.1) l)), p.1) (c, r) = some_inj h in
    (ap (λ z. Some (z.0.0, z.1)) i, sym (ap (λ z. z.0.1) i) ∙ ap (λ z. joined (take (length l - length z) l)) (ap (λ z. z.1) i))

-- the text before the remaining lexemes
front : (text r : Lexemes) → take (length (text ++ r) - length r) (text ++ r) ≡ text
front text r =
    let n : length (text ++ r) - length r ≡ length text = omega (arith, length-append text r) in
    ap (λ m. take m (text ++ r)) n ∙ take-append_seam text r

kept_is : {A : Type 0} (o : Option (A × Lexemes)) (a : A) (text r : Lexemes) → o ≡ Some (a, r) → kept_at o (text ++ r) ≡ Some ((a, joined text), r)
kept_is o a text r e = ap (λ o. kept_at o (text ++ r)) e ∙ ap (λ z. Some ((a, joined z), r)) (front text r)

pub kept_reads : {A : Type 0} {n : ℕ} {D D' : Language A} {p : Parser A} {fs cs : List Terminal} → Reads n D D' p fs cs → Reads n (Kept D) (Kept D') (kept p) fs cs
unfolding Kept kept
kept_reads {D' = D'} {p = p} {cs = cs} g = record {
  sound = λ l c r h.
      let w = kept_some (p l) l c r h in
      let s = g.sound l c.0 r w.0 in
      record { text = s.text; is = s.is; derives = (s.derives, w.1 ∙ ap (λ z. joined (take (length z - length r) z)) s.is ∙ ap joined (front s.text r)) };
  opens = λ l c r h. g.opens l c.0 r (kept_some (p l) l c r h).0;
  begins = λ c x d. g.begins c.0 x d.0;
  whole = λ c x y d le. ⊎_elim
      (λ exact. inl (kept_is (p (x ++ y)) c.0 x y exact ∙ ap (λ z. Some ((c.0, z), y)) (sym d.1)))
      (λ on. inr (
        on.0,
        record {
          found = (on.1.found, joined (take (length (x ++ y) - length on.1.left) (x ++ y)));
          eaten = on.1.eaten;
          left = on.1.left;
          is = ap (λ o. kept_at o (x ++ y)) on.1.is;
          after = on.1.after;
        },
      ))
      (g.whole c.0 x y d.0 le);
}

-- what a function finds, with the text that was read
pub kept_found : {A : Type 0} (p : Parser A) (all : Lexemes) (at : ℕ) (a : A) (end : ℕ) (text : List ℕ) → Found p all at (Some (a, end)) → text ≡ joined (between all at end) → Found (kept p) all at (Some ((a, text), end))
unfolding kept
kept_found p all at a end text f e =
    let n : length (drop at all) - length (drop end all) ≡ end - at = omega (arith, length-drop at all, length-drop end all, f.1, f.2) in
    (ap (λ o. kept_at o (drop at all)) f.0 ∙ ap (λ m. Some ((a, joined (take m (drop at all))), drop end all)) n ∙ ap (λ z. Some ((a, z), drop end all)) (sym e), f.1, f.2)

pub kept_missing : {A : Type 0} (p : Parser A) (all : Lexemes) (at : ℕ) → Found p all at None → Found (kept p) all at None
unfolding kept
kept_missing p all at f = ap (λ o. kept_at o (drop at all)) f

-- ---- spellings of tokens, joined

joined-append : (x y : Lexemes) → joined (x ++ y) ≡ joined x ++ joined y
unfolding joined
joined-append [] y = refl
joined-append (t ∷ x) y = ap (λ z. t.text ++ z) (joined-append x y) ∙ sym (append_assoc t.text (joined x) (joined y))

joined-one : (bytes : List ℕ) (t : Token) → joined (lexeme_of bytes t ∷ []) ≡ text_of bytes t
unfolding joined lexeme_of
joined-one bytes t = append-nil (text_of bytes t)

pub joined_none : (text : List ℕ) → text ≡ [] → text ≡ joined []
unfolding joined
joined_none text e = e

pub joined_more : (bytes : List ℕ) (tokens : List Token) (i : ℕ) (d : Token) (text : List ℕ) → text ≡ joined (map (lexeme_of bytes) (take i tokens)) → i < length tokens
    → text ++ text_of bytes (get_or tokens i d) ≡ joined (map (lexeme_of bytes) (take (i + 1) tokens))
joined_more bytes tokens i d text e lt =
    sym (ap (λ z. joined (map (lexeme_of bytes) z)) (take_more tokens i d lt)
    ∙ ap joined (map-append (lexeme_of bytes) (take i tokens) (get_or tokens i d ∷ []))
    ∙ joined-append (map (lexeme_of bytes) (take i tokens)) (lexeme_of bytes (get_or tokens i d) ∷ [])
    ∙ ap (λ z. z ++ joined (lexeme_of bytes (get_or tokens i d) ∷ [])) (sym e)
    ∙ ap (λ z. text ++ z) (joined-one bytes (get_or tokens i d)))

pub joined_whole : (bytes : List ℕ) (tokens part : List Token) (all : Lexemes) (from to i : ℕ) (text : List ℕ) → lexemes_of bytes tokens ≡ all → part ≡ take (to - from) (drop from tokens)
    → length part ≤ i → text ≡ joined (map (lexeme_of bytes) (take i part)) → text ≡ joined (between all from to)
joined_whole bytes tokens part all from to i text v e le h =
    h ∙ ap (λ z. joined (map (lexeme_of bytes) z)) (take_all i part le ∙ e)
    ∙ ap joined (sym (take-map (lexeme_of bytes) (to - from) (drop from tokens)))
    ∙ ap (λ z. joined (take (to - from) z)) (sym (drop-map (lexeme_of bytes) from tokens))
    ∙ ap (λ z. joined (between z from to)) v

pub ruleset joins = (joined_none, joined_more, joined_whole)
