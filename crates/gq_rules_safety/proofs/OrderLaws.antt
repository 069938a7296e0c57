-- OrderLaws: numbers in order, each once; vertices of types.
use Rattle.std.proofs.Common.{◌≡◌, ℕ, Bool, true, false, List, [], ◌∷◌, ◌++◌, arith, Option, Some, None, refl, ap, ◌∙◌, subst}
use Rattle.std.proofs.lemmas.Bool.Decides.{nat_tests}
use Rattle.std.specs.Prelude.{not, ◌||◌, ◌==◌, if◌then◌else◌, nat_lt, filter, slice_get}
use Rattle.std.specs.List.{list_all}
use Rattle.std.specs.declared.cmp.Ordering.{Ordering}
use Rattle.std.specs.declared.cmp.Ordering.TheVariants.{Less, Equal, Greater}
use Rattle.std.specs.Ordering.{nat_cmp}
use Rattle.gq_graph.specs.Candidates.{among, is_target}
use Rattle.gq_accum_laws.specs.Gather.{choose, twice, put, distinct}
use Rattle.gq_rules_typing.specs.Patterns.{by_number}
use Rattle.gq_rules_meaning.specs.Graphs.{Graph}
use Rattle.gq_rules_meaning.specs.Fitting.{is_vertex_of}
use Rattle.gq_rules_meaning.specs.StateFits.{no_repeats}
use Rattle.gq_rules_meaning.proofs.AnswerLaws.{and_ok, both_ok}
use Rattle.gq_rules_meaning.proofs.ValueLaws.{same_number}
use Rattle.gq_rules_meaning.proofs.FieldLaws.{target_kind}

-- ---- each once

below_then : (x y z : ℕ) → nat_lt x y ≡ true → nat_lt y z ≡ true → nat_lt x z ≡ true
below_then x y z h g = grind (arith, nat_tests)

above : (x y : ℕ) → nat_lt x y ≡ false → (x == y) ≡ false → nat_lt y x ≡ true
above x y h g = grind (arith, nat_tests)

apart : (x y : ℕ) → nat_lt x y ≡ true → (y == x) ≡ false
apart x y h = grind (arith, nat_tests)

pub same_itself : (x : ℕ) → (x == x) ≡ true
same_itself x = grind (arith, nat_tests)

-- ascending, each above the ones before
abbrev Ascends : List ℕ → Type 0
Ascends [] = Unit {0}
Ascends (x ∷ xs) = (list_all (nat_lt x) xs ≡ true) × Ascends xs

all_below : (x y : ℕ) (ys : List ℕ) → nat_lt x y ≡ true → list_all (nat_lt y) ys ≡ true → list_all (nat_lt x) ys ≡ true
all_below x y [] h g = refl
all_below x y (z ∷ ys) h g = let w = and_ok (nat_lt y z) _ g in both_ok (nat_lt x z) (list_all (nat_lt x) ys) (below_then x y z h w.0) (all_below x y ys h w.1)

put_all : (p : ℕ → Bool) (x : ℕ) (ys : List ℕ) → p x ≡ true → list_all p ys ≡ true → list_all p (put nat_cmp false x ys) ≡ true
put_all p x [] h g = both_ok (p x) true h refl
put_all p x (y ∷ ys) h g = let w = and_ok (p y) _ g in go (nat_cmp x y) w.0 (put_all p x ys h w.1)
  where
    go : (o : Ordering) → p y ≡ true → list_all p (put nat_cmp false x ys) ≡ true → list_all p (choose o (x ∷ y ∷ ys) (twice false x (y ∷ ys)) (y ∷ put nat_cmp false x ys)) ≡ true
    go Less a rest = both_ok (p x) (list_all p (y ∷ ys)) h g
    go Equal a rest = g
    go Greater a rest = both_ok (p y) (list_all p (put nat_cmp false x ys)) a rest

put_ascends : (x : ℕ) (ys : List ℕ) → Ascends ys → Ascends (put nat_cmp false x ys)
put_ascends x [] h = (refl, tt)
put_ascends x (y ∷ ys) h = go (nat_lt x y) refl (x == y) refl (put_ascends x ys h.1)
  where
    go : (p : Bool) → nat_lt x y ≡ p → (q : Bool) → (x == y) ≡ q → Ascends (put nat_cmp false x ys)
        → Ascends (choose (if p then Less else (if q then Equal else Greater)) (x ∷ y ∷ ys) (twice false x (y ∷ ys)) (y ∷ put nat_cmp false x ys))
    go true e q f rest = (both_ok (nat_lt x y) (list_all (nat_lt x) ys) e (all_below x y ys e h.0), h)
    go false e true f rest = h
    go false e false f rest = (put_all (nat_lt y) x ys (above x y e f) h.0, rest)

distinct_ascends : (xs : List ℕ) → Ascends (distinct nat_cmp xs)
distinct_ascends [] = tt
distinct_ascends (x ∷ xs) = put_ascends x (distinct nat_cmp xs) (distinct_ascends xs)

not_among : (x : ℕ) (ys : List ℕ) → list_all (nat_lt x) ys ≡ true → among ys x ≡ false
not_among x [] h = refl
not_among x (y ∷ ys) h = let w = and_ok (nat_lt x y) _ h in let a = apart x y w.0 in let b = not_among x ys w.1 in or_false (y == x) (among ys x) a b
  where
    or_false : (p q : Bool) → p ≡ false → q ≡ false → (p || q) ≡ false
    or_false p q h g = cc

ascends_once : (xs : List ℕ) → Ascends xs → no_repeats xs ≡ true
ascends_once [] h = refl
ascends_once (x ∷ xs) h = both_ok (not (among xs x)) (no_repeats xs) (ap not (not_among x xs h.0)) (ascends_once xs h.1)

pub distinct_once : (xs : List ℕ) → no_repeats (by_number xs) ≡ true
distinct_once xs = ascends_once (distinct nat_cmp xs) (distinct_ascends xs)

-- ---- listed elements

or_left : (p q : Bool) → p ≡ true → (p || q) ≡ true
or_left p q h = cc

or_right : (p q : Bool) → q ≡ true → (p || q) ≡ true
or_right true q h = refl
or_right false q h = h

put_itself : (x t : ℕ) (ys : List ℕ) → (x == t) ≡ true → among (put nat_cmp false x ys) t ≡ true
put_itself x t [] h = or_left (x == t) false h
put_itself x t (y ∷ ys) h = go (nat_lt x y) refl (x == y) refl (put_itself x t ys h)
  where
    go : (p : Bool) → nat_lt x y ≡ p → (q : Bool) → (x == y) ≡ q → among (put nat_cmp false x ys) t ≡ true
        → among (choose (if p then Less else (if q then Equal else Greater)) (x ∷ y ∷ ys) (twice false x (y ∷ ys)) (y ∷ put nat_cmp false x ys)) t ≡ true
    go true e q f rest = or_left (x == t) _ h
    go false e true f rest = or_left (y == t) _ (subst (λ z. (z == t) ≡ true) (same_number x y f) h)
    go false e false f rest = or_right (y == t) _ rest

put_others : (x t : ℕ) (ys : List ℕ) → among ys t ≡ true → among (put nat_cmp false x ys) t ≡ true
put_others x t [] h = cc
put_others x t (y ∷ ys) h = go (nat_lt x y) refl (x == y) refl (put_others x t ys)
  where
    behind : (q : Bool) → (y == t) ≡ q → (q || among ys t) ≡ true → (among ys t ≡ true → among (put nat_cmp false x ys) t ≡ true) → ((y == t) || among (put nat_cmp false x ys) t) ≡ true
    behind true e g rest = or_left (y == t) _ e
    behind false e g rest = or_right (y == t) _ (rest g)

    go : (p : Bool) → nat_lt x y ≡ p → (q : Bool) → (x == y) ≡ q → (among ys t ≡ true → among (put nat_cmp false x ys) t ≡ true)
        → among (choose (if p then Less else (if q then Equal else Greater)) (x ∷ y ∷ ys) (twice false x (y ∷ ys)) (y ∷ put nat_cmp false x ys)) t ≡ true
    go true e q f rest = or_right (x == t) _ h
    go false e true f rest = h
    go false e false f rest = behind (y == t) refl h rest

pub among_by_number : (xs : List ℕ) (t : ℕ) → among xs t ≡ true → among (by_number xs) t ≡ true
among_by_number [] t h = cc
among_by_number (x ∷ xs) t h = go (x == t) refl h (among_by_number xs t)
  where
    go : (q : Bool) → (x == t) ≡ q → (q || among xs t) ≡ true → (among xs t ≡ true → among (by_number xs) t ≡ true) → among (put nat_cmp false x (by_number xs)) t ≡ true
    go true e h rest = put_itself x t (by_number xs) e
    go false e h rest = put_others x t (by_number xs) (rest h)

pub among_left : (xs ys : List ℕ) (t : ℕ) → among xs t ≡ true → among (xs ++ ys) t ≡ true
among_left [] ys t h = cc
among_left (x ∷ xs) ys t h = go (x == t) refl h (among_left xs ys t)
  where
    go : (q : Bool) → (x == t) ≡ q → (q || among xs t) ≡ true → (among xs t ≡ true → among (xs ++ ys) t ≡ true) → ((x == t) || among (xs ++ ys) t) ≡ true
    go true e h rest = or_left (x == t) _ e
    go false e h rest = or_right (x == t) _ (rest h)

pub among_right : (xs ys : List ℕ) (t : ℕ) → among ys t ≡ true → among (xs ++ ys) t ≡ true
among_right [] ys t h = h
among_right (x ∷ xs) ys t h = or_right (x == t) _ (among_right xs ys t h)

-- all of these are among those
pub all_among : (xs ys : List ℕ) (t : ℕ) → list_all (among ys) xs ≡ true → among xs t ≡ true → among ys t ≡ true
all_among [] ys t h g = cc
all_among (x ∷ xs) ys t h g = let w = and_ok (among ys x) _ h in go (x == t) refl g (all_among xs ys t w.1) w.0
  where
    go : (q : Bool) → (x == t) ≡ q → (q || among xs t) ≡ true → (among xs t ≡ true → among ys t ≡ true) → among ys x ≡ true → among ys t ≡ true
    go true e g rest a = subst (λ z. among ys z ≡ true) (same_number x t e) a
    go false e g rest a = rest g

-- ---- vertices of types

pub target_of : (kinds types : List ℕ) (v t : ℕ) → slice_get kinds v ≡ Some t → among types t ≡ true → is_target kinds types v ≡ true
target_of kinds types v t e h = ap of_kind e ∙ h
  where
    of_kind : Option ℕ → Bool
    of_kind None = false
    of_kind (Some kind) = among types kind

pub target_wider : (kinds ts us : List ℕ) (v : ℕ) → ((t : ℕ) → among ts t ≡ true → among us t ≡ true) → is_target kinds ts v ≡ true → is_target kinds us v ≡ true
target_wider kinds ts us v f h = let k = target_kind kinds ts v h in target_of kinds us v k.0 k.1 (f k.0 k.2)

pub vertex_wider : (g : Graph) (ts us : List ℕ) (v : ℕ) → ((t : ℕ) → among ts t ≡ true → among us t ≡ true) → is_vertex_of g ts v ≡ true → is_vertex_of g us v ≡ true
vertex_wider g ts us v f h = let w = and_ok (is_target g.sight.kinds ts v) _ h in both_ok (is_target g.sight.kinds us v) _ (target_wider g.sight.kinds ts us v f w.0) w.1

pub all_pass : {A : Type 0} (p q : A → Bool) (xs : List A) → ((x : A) → p x ≡ true → q x ≡ true) → list_all p xs ≡ true → list_all q xs ≡ true
all_pass p q [] f h = refl
all_pass p q (x ∷ xs) f h = let w = and_ok (p x) _ h in both_ok (q x) (list_all q xs) (f x w.0) (all_pass p q xs f w.1)

pub filtered_all : {A : Type 0} (p q : A → Bool) (xs : List A) → ((x : A) → p x ≡ true → q x ≡ true) → list_all q (filter p xs) ≡ true
filtered_all p q [] f = refl
filtered_all p q (x ∷ xs) f = go (p x) refl (filtered_all p q xs f)
  where
    go : (b : Bool) → p x ≡ b → list_all q (filter p xs) ≡ true → list_all q (if b then x ∷ filter p xs else filter p xs) ≡ true
    go true e rest = both_ok (q x) (list_all q (filter p xs)) (f x e) rest
    go false e rest = rest

pub filtered_still : {A : Type 0} (p q : A → Bool) (xs : List A) → list_all q xs ≡ true → list_all q (filter p xs) ≡ true
filtered_still p q [] h = refl
filtered_still p q (x ∷ xs) h = let w = and_ok (q x) _ h in go (p x) w.0 (filtered_still p q xs w.1)
  where
    go : (b : Bool) → q x ≡ true → list_all q (filter p xs) ≡ true → list_all q (if b then x ∷ filter p xs else filter p xs) ≡ true
    go true e rest = both_ok (q x) (list_all q (filter p xs)) e rest
    go false e rest = rest

filtered_not : (p : ℕ → Bool) (x : ℕ) (xs : List ℕ) → among xs x ≡ false → among (filter p xs) x ≡ false
filtered_not p x [] h = refl
filtered_not p x (y ∷ ys) h = let a = left (y == x) (among ys x) h in let b = right (y == x) (among ys x) h in go (p y) a (filtered_not p x ys b)
  where
    left : (p q : Bool) → (p || q) ≡ false → p ≡ false
    left true q h = cc
    left false q h = refl

    right : (p q : Bool) → (p || q) ≡ false → q ≡ false
    right true q h = cc
    right false q h = h

    go : (b : Bool) → (y == x) ≡ false → among (filter p ys) x ≡ false → among (if b then y ∷ filter p ys else filter p ys) x ≡ false
    go true a rest = ap (λ q. q || among (filter p ys) x) a ∙ rest
    go false a rest = rest

pub filtered_once : (p : ℕ → Bool) (xs : List ℕ) → no_repeats xs ≡ true → no_repeats (filter p xs) ≡ true
filtered_once p [] h = refl
filtered_once p (x ∷ xs) h = let w = and_ok (not (among xs x)) (no_repeats xs) h in go (p x) (filtered_not p x xs (untrue (among xs x) w.0)) (filtered_once p xs w.1)
  where
    untrue : (b : Bool) → not b ≡ true → b ≡ false
    untrue true h = cc
    untrue false h = refl

    go : (b : Bool) → among (filter p xs) x ≡ false → no_repeats (filter p xs) ≡ true → no_repeats (if b then x ∷ filter p xs else filter p xs) ≡ true
    go true a rest = both_ok (not (among (filter p xs) x)) (no_repeats (filter p xs)) (ap not a) rest
    go false a rest = rest
