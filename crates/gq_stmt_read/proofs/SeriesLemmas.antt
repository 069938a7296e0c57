-- SeriesLemmas: items separated by commas, or none.
use Rattle.std.proofs.Common.{◌≡◌, ℕ, ◌≤◌, List, [], length, drop, Option, Some, None, Result, Ok, IfOk, refl, subst, arith}
use Rattle.gq_base.specs.declared.memory.OutOfMemory.{OutOfMemory}
use Rattle.gq_grammar.specs.Lexemes.{Lexemes, sign}
use Rattle.gq_grammar.specs.Signs.{all_of}
use Rattle.gq_grammar.specs.Parsers.{Parser, and_then, maybe_at, both, many, after, separated, Found}
use Rattle.gq_grammar.specs.Series.{one_and_all, chain}

-- the items of a series, if there are any
abbrev whole : {A : Type 0} → Option ((A × List A) × Lexemes) → Option (List A × Lexemes)
whole o = and_then o (λ a r. Some (one_and_all a, r))

abbrev any : {A : Type 0} → Option ((A × List A) × Lexemes) → Lexemes → Option (List A × Lexemes)
any o l = and_then (maybe_at o l) (λ a r. Some (all_of a, r))

none_any : {A : Type 0} (o : Option ((A × List A) × Lexemes)) (l : Lexemes) → whole o ≡ None → any o l ≡ Some ([], l)
none_any None l h = refl
none_any (Some x) l h = cc

some_any : {A : Type 0} (o : Option ((A × List A) × Lexemes)) (l : Lexemes) (x : List A × Lexemes) → whole o ≡ Some x → any o l ≡ Some x
some_any None l x h = cc
some_any (Some y) l x h = h

pub separated_none : {A : Type 0} (p : Parser A) (all : Lexemes) (at : ℕ) → Found (chain (sign ",") p) all at None → at ≤ length all → Found (separated p) all at (Some ([], at))
unfolding chain separated
separated_none p all at f le = (none_any (both p (many (after (sign ",") p)) (drop at all)) (drop at all) f, refl_le at, le)
  where
    refl_le : (n : ℕ) → n ≤ n
    refl_le n = omega arith

pub separated_found : {A : Type 0} (p : Parser A) (all : Lexemes) (at : ℕ) (items : List A) (end : ℕ) → Found (chain (sign ",") p) all at (Some (items, end)) → Found (separated p) all at (Some (items, end))
unfolding chain separated
separated_found p all at items end f = (some_any (both p (many (after (sign ",") p)) (drop at all)) (drop at all) (items, drop end all) f.0, f.1, f.2)

-- what a call found
pub call_found : {A : Type 0} (p : Parser A) (all : Lexemes) (at : ℕ) (r : Result (Option (A × ℕ)) OutOfMemory) (o found : Option (A × ℕ)) → IfOk r (Found p all at) → r ≡ Ok o → o ≡ found → Found p all at found
call_found p all at r o found h was is = subst (Found p all at) is (subst (λ r. IfOk r (Found p all at)) was h)
