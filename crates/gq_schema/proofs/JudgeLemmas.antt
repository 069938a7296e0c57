-- A declaration is refused by the first rule that fails: rules are tested one after another.
use Rattle.std.proofs.Common.{ℕ, zero, suc, ◌+◌, ◌<◌, ◌≡◌, ◌≢◌, ◌||◌, Bool, true, false, not, cond, List, [], ◌∷◌, ◌++◌, length, get_or, Option, Some, None, Result, Ok, Err, refl, ap, sym, subst, ◌∙◌, arith, is_some, ◌≤◌, inl, inr, nat_lt}
use Rattle.std.proofs.lemmas.Bool.{cases_lt}
use Rattle.std.proofs.lemmas.Bool.Decides.{nat_tests}
use Rattle.std.specs.Str.{bytes_eq}
use Rattle.std.specs.List.{find, position, position_from}
use Rattle.std.specs.Option.{option_or, option_map, option_to_list}
use Rattle.std.proofs.lemmas.List.{map-append}
use Rattle.std.proofs.lemmas.List.Folds.{find-append}
use Rattle.std.proofs.lemmas.Iterator.Adapters.{position_from-zero}
use Rattle.gq_graph.specs.declared.types.Attribute.{Attribute}
use Rattle.gq_graph.specs.declared.types.IdShape.{IdShape}
use Rattle.gq_graph.specs.declared.types.EdgeType.{EdgeType}
use Rattle.gq_graph.specs.Defaults.{has_good_default}
use Rattle.gq_graph.specs.Catalog.{Schema, stands, type_count, name_place, edge_names, vertex_type_of, edge_type_of}
use Rattle.gq_schema.specs.declared.fault.SchemaFault.{SchemaFault}
use Rattle.gq_schema.specs.declared.fault.SchemaFault.TheVariants as fault
use Rattle.gq_schema.specs.Refusals.{Judges, is_type, taken, reverse_taken, no_end, twice_after, twice, attribute_names, shown_id, bad_default, too_many, attribute_refusal, vertex_refusal, edge_refusal}

-- the first rule fails: its fault is the result
pub judge_fault : (due rest : Option SchemaFault) (f : SchemaFault) → (f ≢ fault.OutOfMemory → due ≡ Some f) → f ≢ fault.OutOfMemory → option_or due rest ≡ Some f
judge_fault due rest f is other = ap (λ o. option_or o rest) (is other)

-- the first rule holds: the result is that of the remaining rules
pub judge_rest : (due rest answer : Option SchemaFault) → due ≡ None → rest ≡ answer → option_or due rest ≡ answer
judge_rest due rest answer none is = ap (λ o. option_or o rest) none ∙ is

pub ruleset judging = (judge_fault, judge_rest)

pub judge_first : {A : Type 0} (due rest : Option SchemaFault) (answer : Result A SchemaFault) → due ≡ None → Judges rest answer → Judges (option_or due rest) answer
judge_first due rest answer none judged = subst (λ o. Judges (option_or o rest) answer) (sym none) judged

both_none : {A : Type 0} (a b : Option A) → option_or a b ≡ None → (a ≡ None) × (b ≡ None)
both_none None b none = (refl, none)
both_none (Some x) b none = absurd (cc)

-- the first match in two lists of attributes, one after the other
map_or : {A B : Type 0} (f : A → B) (a b : Option A) → option_map f (option_or a b) ≡ option_or (option_map f a) (option_map f b)
map_or f None b = refl
map_or f (Some x) b = refl

pub bad_join : (xs ys : List Attribute) → bad_default (xs ++ ys) ≡ option_or (bad_default xs) (bad_default ys)
bad_join xs ys =
    ap (option_map (λ (a : Attribute). fault.BadDefault a.name)) (find-append (λ (a : Attribute). not (has_good_default a)) xs ys)
    ∙ map_or (λ (a : Attribute). fault.BadDefault a.name) (find (λ a. not (has_good_default a)) xs) (find (λ a. not (has_good_default a)) ys)

pub seam : {A : Type 0} (l : List A) (x : A) (xs : List A) → (l ++ x ∷ []) ++ xs ≡ l ++ x ∷ xs
seam [] x xs = refl
seam (y ∷ l) x xs = ap (λ r. y ∷ r) (seam l x xs)

twice_join_from : (before xs ys : List (List ℕ)) → twice_after before (xs ++ ys) ≡ option_or (twice_after before xs) (twice_after (before ++ xs) ys)
twice_join_from before [] ys = ap (λ b. twice_after b ys) (sym (append_nil before))
  where
    append_nil : (l : List (List ℕ)) → l ++ [] ≡ l
    append_nil [] = refl
    append_nil (x ∷ l) = ap (λ r. x ∷ r) (append_nil l)
twice_join_from before (x ∷ xs) ys =
    by (stands before x) (twice_join_from (before ++ x ∷ []) xs ys ∙ ap (λ b. option_or (twice_after (before ++ x ∷ []) xs) (twice_after b ys)) (seam before x xs))
  where
    by : (t : Bool) → twice_after (before ++ x ∷ []) (xs ++ ys) ≡ option_or (twice_after (before ++ x ∷ []) xs) (twice_after (before ++ x ∷ xs) ys)
        → cond t (Some x) (twice_after (before ++ x ∷ []) (xs ++ ys)) ≡ option_or (cond t (Some x) (twice_after (before ++ x ∷ []) xs)) (twice_after (before ++ x ∷ xs) ys)
    by true rest = refl
    by false rest = rest

pub twice_join : (xs ys : List Attribute) → twice (attribute_names (xs ++ ys))
    ≡ option_or (twice (attribute_names xs)) (option_map fault.AttributeTwice (twice_after (attribute_names xs) (attribute_names ys)))
twice_join xs ys =
    ap twice (map-append (λ (a : Attribute). a.name) xs ys)
    ∙ ap (option_map fault.AttributeTwice) (twice_join_from [] (attribute_names xs) (attribute_names ys))
    ∙ map_or fault.AttributeTwice (twice_after [] (attribute_names xs)) (twice_after (attribute_names xs) (attribute_names ys))

-- if no default is bad, all are good
good_head : (t : Bool) (a : Attribute) (r : Option Attribute) → option_map (λ (x : Attribute). fault.BadDefault x.name) (cond (not t) (Some a) r) ≡ None → (t ≡ true) × (option_map (λ (x : Attribute). fault.BadDefault x.name) r ≡ None)
good_head true a r none = (refl, none)
good_head false a r none = absurd (cc)

pub all_good : (xs : List Attribute) → bad_default xs ≡ None → (k : ℕ) (d : Attribute) → k < length xs → has_good_default (get_or xs k d) ≡ true
all_good [] none k d low = absurd (omega arith)
all_good (x ∷ xs) none zero d low = (good_head (has_good_default x) x (find (λ a. not (has_good_default a)) xs) none).0
all_good (x ∷ xs) none (suc k) d low = all_good xs (good_head (has_good_default x) x (find (λ a. not (has_good_default a)) xs) none).1 k d (omega arith)

pub vertex_good : (schema : Schema) (name : List ℕ) (id : IdShape) (attributes : List Attribute) → vertex_refusal schema name id attributes ≡ None → bad_default attributes ≡ None
vertex_good schema name id attributes none =
    (both_none (twice (shown_id id ++ attribute_names attributes)) (bad_default attributes)
    (both_none (attribute_refusal (shown_id id ++ attribute_names attributes) attributes) (too_many schema 1) (both_none (taken schema name) _ none).1).0).1

pub edge_parts : (schema : Schema) (name from to : List ℕ) (reverse : Option (List ℕ)) (attributes : List Attribute) → edge_refusal schema name from to reverse attributes ≡ None
    → (taken schema name ≡ None) × (reverse_taken schema name reverse ≡ None) × (bad_default attributes ≡ None)
edge_parts schema name from to reverse attributes none =
    let one = both_none (taken schema name) _ none in
    let two = both_none (reverse_taken schema name reverse) _ one.1 in
    let three = both_none (no_end schema from) _ two.1 in
    let four = both_none (no_end schema to) _ three.1 in
    let five = both_none (attribute_refusal (attribute_names attributes) attributes) _ four.1 in
    (one.0, two.0, (both_none (twice (attribute_names attributes)) (bad_default attributes) five.0).1)

pub edge_good : (key rest : List Attribute) → bad_default (key ++ rest) ≡ None → (bad_default key ≡ None) × (bad_default rest ≡ None)
edge_good key rest none = both_none (bad_default key) (bad_default rest) (sym (bad_join key rest) ∙ none)

-- a free name is in neither list of types
not_type : (a b : Bool) (f : SchemaFault) → cond (a || b) (Some f) None ≡ None → (a ≡ false) × (b ≡ false)
not_type true b f none = absurd (cc)
not_type false true f none = absurd (cc)
not_type false false f none = (refl, refl)

is_none : {A : Type 0} (o : Option A) → is_some o ≡ false → o ≡ None
is_none None is = refl
is_none (Some x) is = absurd (cc)

pub free_edge : (schema : Schema) (name : List ℕ) → taken schema name ≡ None → edge_type_of schema name ≡ None
free_edge schema name none =
    is_none (edge_type_of schema name) (not_type (is_some (vertex_type_of schema name)) (is_some (edge_type_of schema name)) (fault.NameTaken name) none).1

-- a reverse type's name is free, and not its forward type's
pub free_reverse : (schema : Schema) (name reverse : List ℕ) → taken schema name ≡ None → reverse_taken schema name (Some reverse) ≡ None
    → name_place (edge_names schema.edge_types ++ name ∷ []) reverse ≡ None
free_reverse schema name reverse first second =
    let own = not_type (bytes_eq reverse name) (is_type schema reverse) (fault.NameTaken reverse) second in
    let types = not_type (is_some (vertex_type_of schema reverse)) (is_some (edge_type_of schema reverse)) (fault.NameTaken reverse)
    (ap (λ b. cond b (Some (fault.NameTaken reverse)) None) own.1) in
    absent (edge_names schema.edge_types) reverse name (is_none (edge_type_of schema reverse) types.1) own.0
  where
    missing : (b : Bool) (n : ℕ) (r : Option ℕ) → cond b (Some n) r ≡ None → (b ≡ false) × (r ≡ None)
    missing true n r h = absurd (cc)
    missing false n r h = (refl, h)

    from : (names : List (List ℕ)) (x y : List ℕ) (n : ℕ) → position_from (bytes_eq x) n names ≡ None → bytes_eq x y ≡ false → position_from (bytes_eq x) n (names ++ y ∷ []) ≡ None
    from [] x y n none other = ap (λ b. cond b (Some n) None) other
    from (m ∷ names) x y n none other =
        let parts = missing (bytes_eq x m) n (position_from (bytes_eq x) (n + 1) names) none in
        ap (λ b. cond b (Some n) (position_from (bytes_eq x) (n + 1) (names ++ y ∷ []))) parts.0 ∙ from names x y (n + 1) parts.1 other

    absent : (names : List (List ℕ)) (x y : List ℕ) → name_place names x ≡ None → bytes_eq x y ≡ false → name_place (names ++ y ∷ []) x ≡ None
    absent names x y none other = position_from-zero (bytes_eq x) (names ++ y ∷ []) ∙ from names x y 0 (sym (position_from-zero (bytes_eq x) names) ∙ none) other

-- the reverse type's name differs from all names that are already used
pub apart_of : (schema : Schema) (name : List ℕ) (reverse : Option (List ℕ)) (make : List ℕ → EdgeType) → ((n : List ℕ) → (make n).name ≡ n)
    → taken schema name ≡ None → reverse_taken schema name reverse ≡ None → (entry : Option EdgeType) → entry ≡ option_map make reverse
    → (t : EdgeType) → entry ≡ Some t → name_place (edge_names schema.edge_types ++ name ∷ []) t.name ≡ None
apart_of schema name None make named first second entry is t at = absurd (clash (sym is ∙ at))
  where
    clash : {x : EdgeType} → None ≡ Some x → ⊥
    clash {x} h = cc
apart_of schema name (Some reverse) make named first second entry is t at =
    let same : make reverse ≡ t = inner (sym is ∙ at) in
    ap (name_place (edge_names schema.edge_types ++ name ∷ [])) (ap (λ (x : EdgeType). x.name) (sym same) ∙ named reverse) ∙ free_reverse schema name reverse first second
  where
    inner : {x y : EdgeType} → Some x ≡ Some y → x ≡ y
    inner {x} {y} h = cc

-- there is room for the types of a declaration
not_over : (m n : ℕ) (f : SchemaFault) → cond (nat_lt m n) (Some f) None ≡ None → n ≤ m
not_over m n f none = elim (cases_lt m n) [ inl over ↦ absurd (clash (nat_lt m n) (grind (arith, nat_tests)) none) | inr low ↦ low ]
  where
    clash : (b : Bool) → b ≡ true → cond b (Some f) None ≡ None → ⊥
    clash b is none = cc

pub edge_room : (schema : Schema) (name from to : List ℕ) (reverse : Option (List ℕ)) (attributes : List Attribute) (make : List ℕ → EdgeType) (entry : Option EdgeType)
    → edge_refusal schema name from to reverse attributes ≡ None → entry ≡ option_map make reverse → type_count schema + 1 + length (option_to_list entry) ≤ 256
edge_room schema name from to reverse attributes make entry none is =
    let one = both_none (taken schema name) _ none in
    let two = both_none (reverse_taken schema name reverse) _ one.1 in
    let three = both_none (no_end schema from) _ two.1 in
    let four = both_none (no_end schema to) _ three.1 in
    let five = both_none (attribute_refusal (attribute_names attributes) attributes) (too_many schema (cond (is_some reverse) 2 1)) four.1 in
    let room = not_over 256 (type_count schema + cond (is_some reverse) 2 1) fault.TooMany five.1 in
    let long = ap (λ (o : Option EdgeType). length (option_to_list o)) is ∙ counted reverse in
    by (is_some reverse) room long
  where
    counted : (o : Option (List ℕ)) → length (option_to_list (option_map make o)) ≡ cond (is_some o) 1 0
    counted None = refl
    counted (Some n) = refl

    by : (b : Bool) → type_count schema + cond b 2 1 ≤ 256 → length (option_to_list entry) ≡ cond b 1 0 → type_count schema + 1 + length (option_to_list entry) ≤ 256
    by true room long = omega arith
    by false room long = omega arith
