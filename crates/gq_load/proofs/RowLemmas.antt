-- Values, one by one.
use Rattle.std.proofs.Common.{◌≡◌, ℕ, ℤ, ◌+◌, ◌-◌, ◌≤◌, List, [], ◌∷◌, ◌++◌, length, drop, Option, Some, None, Bool, refl, sym, ap, ap₂, ◌∙◌, arith}
use Rattle.std.specs.Prelude.{slice_get, nat_lt, option_and_then}
use Rattle.std.specs.Option.{option_map}
use Rattle.std.proofs.lemmas.List.{append_assoc, append-nil}
use Rattle.std.proofs.lemmas.Bool.Decides.{nat_tests}
use Rattle.gq_graph.specs.declared.types.Attribute.{Attribute}
use Rattle.gq_value.specs.declared.value.Value.{Value}
use Rattle.gq_load.specs.Columns.{Fields}
use Rattle.gq_load.specs.Rows.{value_of, values_of, and_values}
use Rattle.gq_load.proofs.ListLemmas.{from_place, at_end}

abbrev pub Reading : Type 0
Reading = List ℕ → Option ℤ

-- values prepended to others
abbrev pub before : List Value → Option (List Value) → Option (List Value)
before values others = option_map (λ more. values ++ more) others

-- the values that remain to be read from a place on
abbrev pub rest_of : Reading → ℕ → List Attribute → List (Option ℕ) → Fields → ℕ → Option (List Value)
rest_of read keys attributes sources fields i = values_of read (keys - i) (drop i attributes) (drop i sources) fields

before_more : (values : List Value) (v : Value) (others : Option (List Value)) → before values (and_values v others) ≡ before (values ++ v ∷ []) others
before_more values v None = refl
before_more values v (Some more) = ap (λ (vs : List Value). Some vs) (sym (append_assoc values (v ∷ []) more))

first_key : (keys i : ℕ) → nat_lt 0 (keys - i) ≡ nat_lt i keys
first_key keys i = grind (arith, nat_tests)

one_less : (keys i : ℕ) → (keys - i) - 1 ≡ keys - (i + 1)
one_less keys i = omega arith

-- the values from a place on are the one at the place followed by the rest
here : (read : Reading) (keys i : ℕ) (attributes : List Attribute) (sources : List (Option ℕ)) (fields : Fields) (a : Attribute) (s : Option ℕ)
    → slice_get attributes i ≡ Some a → slice_get sources i ≡ Some s
    → rest_of read keys attributes sources fields i
    ≡ option_and_then (λ v. and_values v (rest_of read keys attributes sources fields (i + 1))) (value_of read (nat_lt i keys) a s fields)
here read keys i attributes sources fields a s at_a at_s =
    ap₂ (λ (as_ : List Attribute) (ss : List (Option ℕ)). values_of read (keys - i) as_ ss fields) (from_place attributes i a at_a) (from_place sources i s at_s)
    ∙ ap₂ (λ (k : Bool) (n : ℕ). option_and_then (λ v. and_values v (values_of read n (drop (i + 1) attributes) (drop (i + 1) sources) fields)) (value_of read k a s fields)) (first_key keys i) (one_less keys i)

pub value_more : (whole : Option (List Value)) (read : Reading) (keys i : ℕ) (attributes : List Attribute) (sources : List (Option ℕ)) (fields : Fields) (a : Attribute) (s : Option ℕ) (values : List Value) (v : Value)
    → slice_get attributes i ≡ Some a → slice_get sources i ≡ Some s → Some v ≡ value_of read (nat_lt i keys) a s fields
    → whole ≡ before values (rest_of read keys attributes sources fields i)
    → whole ≡ before (values ++ v ∷ []) (rest_of read keys attributes sources fields (i + 1))
value_more whole read keys i attributes sources fields a s values v at_a at_s is so_far =
    so_far ∙ ap (before values) (here read keys i attributes sources fields a s at_a at_s ∙ ap (λ (o : Option Value). option_and_then (λ v. and_values v (rest_of read keys attributes sources fields (i + 1))) o) (sym is))
    ∙ before_more values v (rest_of read keys attributes sources fields (i + 1))

pub value_none : (whole : Option (List Value)) (read : Reading) (keys i : ℕ) (attributes : List Attribute) (sources : List (Option ℕ)) (fields : Fields) (a : Attribute) (s : Option ℕ) (values : List Value)
    → slice_get attributes i ≡ Some a → slice_get sources i ≡ Some s → None ≡ value_of read (nat_lt i keys) a s fields
    → whole ≡ before values (rest_of read keys attributes sources fields i) → whole ≡ None
value_none whole read keys i attributes sources fields a s values at_a at_s is so_far =
    so_far ∙ ap (before values) (here read keys i attributes sources fields a s at_a at_s ∙ ap (λ (o : Option Value). option_and_then (λ v. and_values v (rest_of read keys attributes sources fields (i + 1))) o) (sym is))

pub source_none : (whole : Option (List Value)) (read : Reading) (keys i : ℕ) (attributes : List Attribute) (sources : List (Option ℕ)) (fields : Fields) (a : Attribute) (values : List Value)
    → slice_get attributes i ≡ Some a → length sources ≤ i
    → whole ≡ before values (rest_of read keys attributes sources fields i) → whole ≡ None
source_none whole read keys i attributes sources fields a values at_a none so_far =
    so_far ∙ ap (before values) (ap₂ (λ (as_ : List Attribute) (ss : List (Option ℕ)). values_of read (keys - i) as_ ss fields) (from_place attributes i a at_a) (at_end sources i none))

pub value_end : (whole : Option (List Value)) (read : Reading) (keys i : ℕ) (attributes : List Attribute) (sources : List (Option ℕ)) (fields : Fields) (values : List Value)
    → length attributes ≤ i → whole ≡ before values (rest_of read keys attributes sources fields i) → whole ≡ Some values
value_end whole read keys i attributes sources fields values high so_far =
    so_far ∙ ap (before values) (ap (λ (as_ : List Attribute). values_of read (keys - i) as_ (drop i sources) fields) (at_end attributes i high)) ∙ ap (λ (vs : List Value). Some vs) (append-nil values)

-- before the first value
pub value_start : (read : Reading) (keys : ℕ) (attributes : List Attribute) (sources : List (Option ℕ)) (fields : Fields)
    → values_of read keys attributes sources fields ≡ before [] (rest_of read keys attributes sources fields 0)
value_start read keys attributes sources fields = sym (same (values_of read keys attributes sources fields)) ∙ ap (λ (k : ℕ). before [] (values_of read k attributes sources fields)) (omega arith)
  where
    same : (o : Option (List Value)) → before [] o ≡ o
    same None = refl
    same (Some vs) = refl
