-- LoopLemmas: what functions of a reader find, given what the functions that they call find. A loop reads items until
-- it finds no more. Its invariant is one line, `Turns`, and its goals are in rulesets.
use Rattle.std.proofs.Common.{◌≡◌, ℕ, zero, suc, ◌+◌, ◌-◌, ◌<◌, ◌≤◌, List, [], ◌∷◌, ◌++◌, length, drop, Option, Some, None, sym, ap, ◌∙◌, subst, arith, length-drop, replicate}
use Rattle.std.specs.Option.{option_or}
use Rattle.std.proofs.lemmas.Grind.{replicate_next}
use Rattle.gq_grammar.specs.Lexemes.{Lexemes}
use Rattle.gq_grammar.specs.Parsers.{Parser, ◌or◌, or_else, many_after, many_from, many, Found}
use Rattle.gq_grammar.proofs.ManyLemmas.{many_from-zero, many_from-suc, many_is}

-- what was found, followed by what the rest gives, is what there is from the beginning on
pub record Turns {A : Type 0} (p : Parser A) (all : Lexemes) (from turns : ℕ) (found : List A) (at : ℕ) : Type 0 where
  pub same : many_from p turns found (drop at all) ≡ many p (drop from all)
  pub from_le : from ≤ at
  pub at_le : at ≤ length all

pub turns_begin : {A : Type 0} (p : Parser A) (all : Lexemes) (from turns : ℕ) → turns ≡ length all - from → from ≤ length all → Turns p all from turns [] from
turns_begin p all from turns e le = record {
  same = ap (λ n. many_from p n [] (drop from all)) (e ∙ sym (length-drop from all)) ∙ sym (many_is p (drop from all));
  from_le = omega arith;
  at_le = le;
}

pub turns_more : {A : Type 0} (p : Parser A) (all : Lexemes) (from turns turns' : ℕ) (found : List A) (at : ℕ) (item : A) (next : ℕ) → Turns p all from turns found at → turns ≡ suc turns' → Found p all at (Some (item, next)) → Turns p all from turns' (found ++ item ∷ []) next
turns_more p all from turns turns' found at item next w e f = record {
  same = sym (ap (λ n. many_from p n found (drop at all)) e ∙ many_from-suc p turns' found (drop at all) ∙ ap (λ o. many_after o found (drop at all) (many_from p turns')) f.0) ∙ w.same;
  from_le = omega (arith, w.from_le, f.1);
  at_le = f.2;
}

pub turns_stop : {A : Type 0} (p : Parser A) (all : Lexemes) (from turns turns' : ℕ) (found : List A) (at : ℕ) → Turns p all from turns found at → turns ≡ suc turns' → p (drop at all) ≡ None → Found (many p) all from (Some (found, at))
turns_stop p all from turns turns' found at w e f =
    (sym w.same ∙ ap (λ n. many_from p n found (drop at all)) e ∙ many_from-suc p turns' found (drop at all) ∙ ap (λ o. many_after o found (drop at all) (many_from p turns')) f, w.from_le, w.at_le)

pub turns_end : {A : Type 0} (p : Parser A) (all : Lexemes) (from turns : ℕ) (found : List A) (at : ℕ) → Turns p all from turns found at → turns ≡ zero → Found (many p) all from (Some (found, at))
turns_end p all from turns found at w e =
    (sym w.same ∙ ap (λ n. many_from p n found (drop at all)) e ∙ many_from-zero p found (drop at all), w.from_le, w.at_le)

-- the same with a counter that goes up to n
pub turns_found : {A : Type 0} (p : Parser A) (all : Lexemes) (from n i : ℕ) (found : List A) (at : ℕ) (item : A) (next : ℕ) → Turns p all from (n - i) found at → i < n → Found p all at (Some (item, next)) → Turns p all from (n - (i + 1)) (found ++ item ∷ []) next
turns_found p all from n i found at item next w h f = turns_more p all from (n - i) (n - (i + 1)) found at item next w (omega arith) f

pub turns_none : {A : Type 0} (p : Parser A) (all : Lexemes) (from n i : ℕ) (found : List A) (at : ℕ) → Turns p all from (n - i) found at → i < n → Found p all at None → Found (many p) all from (Some (found, at))
turns_none p all from n i found at w h f = turns_stop p all from (n - i) (n - (i + 1)) found at w (omega arith) f

pub turns_over : {A : Type 0} (p : Parser A) (all : Lexemes) (from n i : ℕ) (found : List A) (at : ℕ) → Turns p all from (n - i) found at → n ≤ i → Found (many p) all from (Some (found, at))
turns_over p all from n i found at w h = turns_end p all from (n - i) found at w (omega arith)

pub ruleset loops = (turns_begin, turns_found, turns_none, turns_over)

-- ---- consecutive signs of one kind, which are only counted

abbrev pub units : ℕ → List (Unit {0})
units n = replicate n tt

units_more : (n : ℕ) → units n ++ tt ∷ [] ≡ units (n + 1)
units_more n = sym (replicate_next n tt)

pub signs_found : (p : Parser (Unit {0})) (all : Lexemes) (from n i count : ℕ) (at next : ℕ) → Turns p all from (n - i) (units count) at → i < n → Found p all at (Some (tt, next)) → Turns p all from (n - (i + 1)) (units (count + 1)) next
signs_found p all from n i count at next w h f = subst (λ z. Turns p all from (n - (i + 1)) z next) (units_more count) (turns_found p all from n i (units count) at tt next w h f)

pub ruleset sign_loops = (turns_begin, signs_found, turns_none, turns_over)

-- ---- one of several alternatives

pub either_found : {A : Type 0} (p q : Parser A) (all : Lexemes) (at : ℕ) (r s o : Option (A × ℕ)) → o ≡ option_or r s → Found p all at r → Found q all at s → Found (p or q) all at o
either_found p q all at r s o e f g = subst (Found (p or q) all at) (sym e) (found r f)
  where
    found : (r : Option (_ × ℕ)) → Found p all at r → Found (p or q) all at (option_or r s)
    found None f = second s g
      where
        second : (s : Option (_ × ℕ)) → Found q all at s → Found (p or q) all at s
        second None g = ap (λ z. or_else z (q (drop at all))) f ∙ g
        second (Some x) g = (ap (λ z. or_else z (q (drop at all))) f ∙ g.0, g.1, g.2)
    found (Some x) f = (ap (λ z. or_else z (q (drop at all))) f.0, f.1, f.2)

pub ruleset choices = (either_found)
