-- ListLemmas: a sign and what a function parameter finds after it, and a first item before others.
use Rattle.std.proofs.Common.{◌≡◌, ℕ, ◌≤◌, List, ◌∷◌, length, Option, Some, None, Result, Ok, Err, IfOk, ap, ◌∙◌, subst, arith}
use Rattle.std.specs.Borrow.{Bor}
use Rattle.std.specs.Option.{option_map}
use Rattle.std.specs.declared.alloc.Global.{Global}
use Rattle.gq_base.specs.declared.memory.OutOfMemory.{OutOfMemory}
use Rattle.gq_grammar.specs.Lexemes.{Lexemes, Terminal}
use Rattle.gq_grammar.specs.Parsers.{Parser, and_then, one, after, many, Found}
use Rattle.gq_grammar.specs.Series.{chain, one_and_all}
use Rattle.gq_grammar.specs.Signs.{second}
use Rattle.gq_parse_common.specs.Readers.{Finds}

-- what a call of the function parameter found
pub given : {A : Type 0} (p : Parser A) {post : Global → Bor Lexemes → ℕ → Result (Option (A × ℕ)) OutOfMemory → Type 0} → Finds p post → {alloc : Global} {source : Bor Lexemes} {at : ℕ} {r : Result (Option (A × ℕ)) OutOfMemory} → post alloc source at r → at ≤ length source.now → IfOk r (Found p source.now at)
given p f {alloc} {source} {at} {r} h le = f alloc source at r le h

pub found_some : {A : Type 0} (p : Parser A) (all : Lexemes) (at : ℕ) (r : Result (Option (A × ℕ)) OutOfMemory) (o : Option (A × ℕ)) (x : A × ℕ) → IfOk r (Found p all at) → r ≡ Ok o → o ≡ Some x → Found p all at (Some x)
found_some p all at r o x h was is = subst (Found p all at) is (subst (λ r. IfOk r (Found p all at)) was h)

pub found_none : {A : Type 0} (p : Parser A) (all : Lexemes) (at : ℕ) (r : Result (Option (A × ℕ)) OutOfMemory) (o : Option (A × ℕ)) → IfOk r (Found p all at) → r ≡ Ok o → o ≡ None → Found p all at None
found_none p all at r o h was is = subst (Found p all at) is (subst (λ r. IfOk r (Found p all at)) was h)

abbrev behind : {A : Type 0} → Parser A → Option (Unit {0} × Lexemes) → Option (A × Lexemes)
behind {A} p o = and_then {A = Unit {0} × A} (and_then o (λ a r. and_then (p r) (λ b s. Some ((a, b), s)))) (λ a r. Some (second a, r))

abbrev told : {A : Type 0} → Option (A × Lexemes) → Option (A × Lexemes)
told {A} o = and_then {A = Unit {0} × A} (and_then {A = A} {B = Unit {0} × A} o (λ b s. Some ((tt, b), s))) (λ a r. Some (second a, r))

pub after_none : {A : Type 0} (k : Terminal) (p : Parser A) (all : Lexemes) (at : ℕ) → Found (one k) all at None → Found (after k p) all at None
unfolding after
after_none k p all at f = ap (behind p) f

pub after_found : {A : Type 0} (k : Terminal) (p : Parser A) (all : Lexemes) (at next : ℕ) (o : Option (A × ℕ)) → Found (one k) all at (Some (tt, next)) → Found p all next o → Found (after k p) all at o
unfolding after
after_found k p all at next None f h = ap (behind p) f.0 ∙ ap told h
after_found k p all at next (Some x) f h = (ap (behind p) f.0 ∙ ap told h.0, omega (arith, f.1, h.1), h.2)

pub sign_missing : {A : Type 0} (k : Terminal) (p : Parser A) (all : Lexemes) (at : ℕ) (s : Option ℕ) → Found (one k) all at (option_map (λ next. (tt, next)) s) → s ≡ None → Found (after k p) all at None
sign_missing k p all at s f e = after_none k p all at (subst (λ s. Found (one k) all at (option_map (λ next. (tt, next)) s)) e f)

pub sign_found : {A : Type 0} (k : Terminal) (p : Parser A) (all : Lexemes) (at : ℕ) (s : Option ℕ) (next : ℕ) (r : Result (Option (A × ℕ)) OutOfMemory) → Found (one k) all at (option_map (λ next. (tt, next)) s) → s ≡ Some next → IfOk r (Found p all next) → IfOk r (Found (after k p) all at)
sign_found k p all at s next (Err e) f is h = h
sign_found k p all at s next (Ok o) f is h = after_found k p all at next o (subst (λ s. Found (one k) all at (option_map (λ next. (tt, next)) s)) is f) h

pub sign_within : (k : Terminal) (all : Lexemes) (at : ℕ) (s : Option ℕ) (next : ℕ) → Found (one k) all at (option_map (λ next. (tt, next)) s) → s ≡ Some next → next ≤ length all
sign_within k all at s next f is = (subst (λ s. Found (one k) all at (option_map (λ next. (tt, next)) s)) is f).2

abbrev whole : {A : Type 0} → Option ((A × List A) × Lexemes) → Option (List A × Lexemes)
whole o = and_then o (λ a r. Some (one_and_all a, r))

abbrev and_rest : {A : Type 0} → Parser (List A) → Option (A × Lexemes) → Option ((A × List A) × Lexemes)
and_rest q o = and_then o (λ a r. and_then (q r) (λ b s. Some ((a, b), s)))

abbrev with_rest : {A : Type 0} → A → Option (List A × Lexemes) → Option ((A × List A) × Lexemes)
with_rest a o = and_then o (λ b s. Some ((a, b), s))

pub chain_none : {A : Type 0} (k : Terminal) (p : Parser A) (all : Lexemes) (at : ℕ) → Found p all at None → Found (chain k p) all at None
unfolding chain
chain_none k p all at f = ap (λ z. whole (and_rest (many (after k p)) z)) f

pub chain_found : {A : Type 0} (k : Terminal) (p : Parser A) (all : Lexemes) (at next end : ℕ) (first : A) (rest : List A) → Found p all at (Some (first, next)) → Found (many (after k p)) all next (Some (rest, end)) → Found (chain k p) all at (Some (first ∷ rest, end))
unfolding chain
chain_found k p all at next end first rest f h = (ap (λ z. whole (and_rest (many (after k p)) z)) f.0 ∙ ap (λ z. whole (with_rest first z)) h.0, omega (arith, f.1, h.1), h.2)
