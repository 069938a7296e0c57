-- WholeLemmas: a parser of a language finds the longest prefix of the language, and a text has one value.
use Rattle.std.proofs.Common.{◌≡◌, ℕ, ◌+◌, ◌-◌, ◌≤◌, List, [], ◌++◌, length, take, drop, Some, None, ⊎_elim, sym, ap, ◌∙◌, subst, arith, length-append, length-drop}
use Rattle.std.proofs.Math.Seq.{take-append_seam}
use Rattle.std.proofs.lemmas.List.{take-append-drop, drop-drop}
use Rattle.gq_grammar.specs.Lexemes.{Lexemes, Terminal}
use Rattle.gq_grammar.specs.Languages.{Language}
use Rattle.gq_grammar.specs.Parsers.{Parser, Found}
use Rattle.gq_grammar.specs.Reading.{between, IsLongest, HasNone, HasOneTree}
use Rattle.gq_grammar.proofs.Claims.{Goes, Reads, some_inj}

some_none : {X : Type 0} {x : X} → Some x ≡ None → ⊥
some_none h = cc

-- a prefix and the rest
parted : (all : Lexemes) (at to : ℕ) → at ≤ to → drop at all ≡ between all at to ++ drop to all
parted all at to le =
    let e : at + (to - at) ≡ to = omega arith in
    sym (take-append-drop (to - at) (drop at all)) ∙ ap (λ z. between all at to ++ z) (drop-drop (to - at) at all ∙ ap (λ n. drop n all) e)

-- the lexemes before those that remain
front : (all : Lexemes) (at to : ℕ) (text : Lexemes) → at ≤ to → to ≤ length all → drop at all ≡ text ++ drop to all → between all at to ≡ text
front all at to text le len e =
    let n : to - at ≡ length text = omega (arith, ap length e, length-append text (drop to all), length-drop at all, length-drop to all) in
    ap (λ z. take (to - at) z) e ∙ ap (λ m. take m (text ++ drop to all)) n ∙ take-append_seam text (drop to all)

fits : (all : Lexemes) (at to n : ℕ) → at ≤ to → length all - at ≤ n → length (between all at to ++ drop to all) ≤ n
fits all at to n le h = omega (arith, ap length (parted all at to le), length-drop at all)

module _ {A : Type 0} {n : ℕ} {D : Language A} {p : Parser A} {fs cs : List Terminal} (r : Reads n D D p fs cs) where
  -- the parser reads at least as far as the value
  reaches : (a b : A) (l y rest : Lexemes) → Goes p cs b l y → p l ≡ Some (a, rest) → length rest ≤ length y
  reaches a b l y rest g e = ⊎_elim
      (λ exact. let i : ◌≡◌ {A = A × Lexemes} (b, y) (a, rest) = some_inj (sym exact ∙ e) in omega (arith, ap (λ z. length z.1) i))
      (λ on. let i : ◌≡◌ {A = A × Lexemes} (on.1.found, on.1.left) (a, rest) = some_inj (sym on.1.is ∙ e) in omega (arith, ap (λ z. length z.1) i, ap length on.1.after, length-append on.1.eaten on.1.left))
      g

  fails : (b : A) (l y : Lexemes) → Goes p cs b l y → p l ≡ None → ⊥
  fails b l y g e = ⊎_elim (λ exact. some_none (sym exact ∙ e)) (λ on. some_none (sym on.1.is ∙ e)) g

  -- if nothing follows, a text is read exactly
  pub exactly : (a : A) (x : Lexemes) → D a x → length (x ++ []) ≤ n → p (x ++ []) ≡ Some (a, [])
  exactly a x d le = ⊎_elim (λ exact. exact) (λ on. absurd on.0) (r.whole a x [] d le)

  goes_at : (all : Lexemes) (at to : ℕ) (b : A) → at ≤ to → length all - at ≤ n → D b (between all at to) → Goes p cs b (drop at all) (drop to all)
  goes_at all at to b le h d =
      subst (λ l. Goes p cs b l (drop to all)) (sym (parted all at to le)) (r.whole b (between all at to) (drop to all) d (fits all at to n le h))

  pub longest : (all : Lexemes) (at : ℕ) (a : A) (end : ℕ) → length all - at ≤ n → Found p all at (Some (a, end)) → IsLongest D all at a end
  longest all at a end h f =
      let s = r.sound (drop at all) a (drop end all) f.0 in
      record {
        from_le = f.1;
        to_le = f.2;
        derives = subst (λ x. D a x) (sym (front all at end s.text f.1 f.2 s.is)) s.derives;
        longest = λ b to le len d.
            omega (arith, reaches a b (drop at all) (drop to all) (drop end all) (goes_at all at to b le h d) f.0, length-drop to all, length-drop end all, f.2, len);
      }

  pub none : (all : Lexemes) (at : ℕ) → length all - at ≤ n → Found p all at None → HasNone D all at
  none all at h f = record { none = λ b to le len d. fails b (drop at all) (drop to all) (goes_at all at to b le h d) f }

pub one_value : {A : Type 0} {D : Language A} {p : ℕ → Parser A} {fs cs : List Terminal} → ((n : ℕ) → Reads n D D (p n) fs cs) → HasOneTree D
one_value {A} {p = p} r a b x d e =
    let n = length (x ++ []) in
    let i : ◌≡◌ {A = A × Lexemes} (a, []) (b, []) = some_inj (sym (exactly (r n) a x d (omega arith)) ∙ exactly (r n) b x e (omega arith)) in
    ap (λ z. z.0) i
