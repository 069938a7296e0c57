-- ItemLemmas: what was read, followed by a sign; and loops that append it to a list.
use Rattle.std.proofs.Common.{◌≡◌, ℕ, ◌+◌, ◌-◌, ◌<◌, List, [], ◌∷◌, ◌++◌, drop, Option, Some, None, Result, Ok, Err, IfOk, refl, sym, ap, ◌∙◌, subst, arith}
use Rattle.std.specs.Option.{option_map}
use Rattle.gq_base.specs.declared.memory.OutOfMemory.{OutOfMemory}
use Rattle.gq_grammar.specs.Lexemes.{Lexemes, Terminal}
use Rattle.gq_grammar.specs.Literals.{listed, series}
use Rattle.gq_grammar.specs.Series.{first, ended, one_and_all}
use Rattle.gq_grammar.specs.Parsers.{Parser, Found, and_then, both, made, maybe_at, maybe, one, many}
use Rattle.gq_grammar.proofs.LoopLemmas.{Turns, turns_found, turns_none}
use Rattle.gq_parse_query.specs.Items.{EndsWithin, Keeps}

-- ---- followed by a sign

pub ends_within : {A : Type 0} (p : Parser A) (all : Lexemes) (at : ℕ) (read : Result (Option (A × ℕ)) OutOfMemory) → IfOk read (Found p all at) → EndsWithin all read
ends_within p all at (Err e) f = tt
ends_within p all at (Ok None) f = tt
ends_within p all at (Ok (Some x)) f = f.2

abbrev closing : {A : Type 0} → Terminal → Option (A × Lexemes) → Option (A × Lexemes)
closing {A} k o = and_then {A = A × Unit {0}} (and_then o (λ a r. and_then (one k r) (λ b s. Some ((a, b), s)))) (λ a r. Some (first a, r))

abbrev closed_by : {A : Type 0} → A → Option (Unit {0} × Lexemes) → Option (A × Lexemes)
closed_by {A} a o = and_then {A = A × Unit {0}} (and_then {A = Unit {0}} {B = A × Unit {0}} o (λ b s. Some ((a, b), s))) (λ a r. Some (first a, r))

ended_none : {A : Type 0} (k : Terminal) (p : Parser A) (all : Lexemes) (at : ℕ) → Found p all at None → Found (ended k p) all at None
unfolding ended
ended_none k p all at f = ap (closing k) f

ended_open : {A : Type 0} (k : Terminal) (p : Parser A) (all : Lexemes) (at : ℕ) (x : A × ℕ) → Found p all at (Some x) → Found (one k) all x.1 None → Found (ended k p) all at None
unfolding ended
ended_open k p all at x f e = ap (closing k) f.0 ∙ ap (closed_by x.0) e

ended_some : {A : Type 0} (k : Terminal) (p : Parser A) (all : Lexemes) (at : ℕ) (x : A × ℕ) (next : ℕ) → Found p all at (Some x) → Found (one k) all x.1 (Some (tt, next)) → Found (ended k p) all at (Some (x.0, next))
unfolding ended
ended_some k p all at x next f e = (ap (closing k) f.0 ∙ ap (closed_by x.0) e.0, omega (arith, f.1, e.1), e.2)

-- what is known of a result, once it is read
outcome : {A : Type 0} (p : Parser A) (all : Lexemes) (at : ℕ) (read : Result (Option (A × ℕ)) OutOfMemory) (o o2 : Option (A × ℕ)) → read ≡ Ok o → o ≡ o2 → IfOk read (Found p all at) → Found p all at o2
outcome p all at read o o2 was is f = subst (Found p all at) is (subst (λ r. IfOk r (Found p all at)) was f)

pub nothing_to_close : {A : Type 0} (k : Terminal) (p : Parser A) (all : Lexemes) (at : ℕ) (read : Result (Option (A × ℕ)) OutOfMemory) (o : Option (A × ℕ)) → read ≡ Ok o → o ≡ None → IfOk read (Found p all at) → Found (ended k p) all at None
nothing_to_close k p all at read o was is f = ended_none k p all at (outcome p all at read o None was is f)

pub not_closed : {A : Type 0} (k : Terminal) (p : Parser A) (all : Lexemes) (at : ℕ) (read : Result (Option (A × ℕ)) OutOfMemory) (o : Option (A × ℕ)) (x : A × ℕ) (s : Option ℕ) → read ≡ Ok o → o ≡ Some x → Found (one k) all x.1 (option_map (λ next. (tt, next)) s) → s ≡ None → IfOk read (Found p all at) → Found (ended k p) all at None
not_closed k p all at read o x s was is e none f = ended_open k p all at x (outcome p all at read o (Some x) was is f) (subst (λ s. Found (one k) all x.1 (option_map (λ next. (tt, next)) s)) none e)

pub is_closed : {A : Type 0} (k : Terminal) (p : Parser A) (all : Lexemes) (at : ℕ) (read : Result (Option (A × ℕ)) OutOfMemory) (o : Option (A × ℕ)) (x : A × ℕ) (s : Option ℕ) (next : ℕ) → read ≡ Ok o → o ≡ Some x → Found (one k) all x.1 (option_map (λ next. (tt, next)) s) → s ≡ Some next → IfOk read (Found p all at)
    → Found (ended k p) all at (Some (x.0, next))
is_closed k p all at read o x s next was is e some f = ended_some k p all at x next (outcome p all at read o (Some x) was is f) (subst (λ s. Found (one k) all x.1 (option_map (λ next. (tt, next)) s)) some e)

-- ---- a mark, and a first item with others, or nothing

abbrev pub marked_of : {A : Type 0} → Unit {0} × Option (A × List A) → List A
marked_of x = series x.1

abbrev marked : {A : Type 0} → Parser A → Parser (List A) → Option (Unit {0} × Lexemes) → Option (List A × Lexemes)
marked {A} p q o = and_then {A = Unit {0} × Option (A × List A)} (and_then o (λ a r. and_then (maybe (both p q) r) (λ b s. Some ((a, b), s)))) (λ x r. Some (marked_of x, r))

abbrev marked_told : {A : Type 0} → Option (Option (A × List A) × Lexemes) → Option (List A × Lexemes)
marked_told {A} o = and_then {A = Unit {0} × Option (A × List A)} (and_then {A = Option (A × List A)} {B = Unit {0} × Option (A × List A)} o (λ b s. Some ((tt, b), s))) (λ x r. Some (marked_of x, r))

abbrev all_of : {A : Type 0} → Option ((A × List A) × Lexemes) → Option (List A × Lexemes)
all_of o = and_then o (λ a r. Some (one_and_all a, r))

abbrev listed_of : {A : Type 0} → Option (Option (List A) × Lexemes) → Option (List A × Lexemes)
listed_of o = and_then o (λ x r. Some (listed x, r))

series_or_not : {A : Type 0} (o : Option ((A × List A) × Lexemes)) (l : Lexemes) → marked_told (maybe_at o l) ≡ listed_of (maybe_at (all_of o) l)
series_or_not None l = refl
series_or_not (Some x) l = refl

pub marked_series : {A : Type 0} (k : Terminal) (p : Parser A) (q : Parser (List A)) (all : Lexemes) (at next end : ℕ) (o : Option (List A)) (list : List A) → list ≡ listed o → Found (one k) all at (Some (tt, next)) → Found (maybe (made one_and_all (both p q))) all next (Some (o, end))
    → Found (made marked_of (both (one k) (maybe (both p q)))) all at (Some (list, end))
marked_series k p q all at next end o list is f g =
    (ap (marked p q) f.0 ∙ series_or_not (both p q (drop next all)) (drop next all) ∙ ap listed_of g.0 ∙ ap (λ z. Some (z, drop end all)) (sym is), omega (arith, f.1, g.1), g.2)

-- ---- appended to a list

none_some : {X : Type 0} {x : X} → None ≡ Some x → ⊥
none_some h = cc

some_none : {X : Type 0} {x : X} → Some x ≡ None → ⊥
some_none h = cc

some_is : {a b : ℕ} → Some a ≡ Some b → b ≡ a
some_is h = cc

pub kept_none : {A : Type 0} (p : Parser A) (all : Lexemes) (from n i : ℕ) (found after : List A) (at : ℕ) (read : Result (Option (A × ℕ)) OutOfMemory) → Turns p all from (n - i) found at → i < n → IfOk read (Found p all at) → Keeps found after read None → Found (many p) all from (Some (after, at))
kept_none p all from n i found after at (Err e) w lt f k = absurd k
kept_none p all from n i found after at (Ok None) w lt f k = subst (λ z. Found (many p) all from (Some (z, at))) (sym k.0) (turns_none p all from n i found at w lt f)
kept_none p all from n i found after at (Ok (Some x)) w lt f k = absurd (none_some k.1)

pub kept_next : {A : Type 0} (p : Parser A) (all : Lexemes) (from n i : ℕ) (found after : List A) (at : ℕ) (read : Result (Option (A × ℕ)) OutOfMemory) (next : ℕ) → Turns p all from (n - i) found at → i < n → IfOk read (Found p all at) → Keeps found after read (Some next) → Turns p all from (n - (i + 1)) after next
kept_next p all from n i found after at (Err e) next w lt f k = absurd k
kept_next p all from n i found after at (Ok None) next w lt f k = absurd (some_none k.1)
kept_next p all from n i found after at (Ok (Some x)) next w lt f k =
    subst (λ z. Turns p all from (n - (i + 1)) z next) (sym k.0)
    (subst (λ z. Turns p all from (n - (i + 1)) (found ++ x.0 ∷ []) z) (some_is k.1) (turns_found p all from n i found at x.0 x.1 w lt f))

pub ruleset kept = (ends_within, kept_none, kept_next)
