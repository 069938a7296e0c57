-- KindTypes: accumulators' kinds as written, with the rules on them. A bad kind names its accumulator.
use Rattle.std.specs.Prelude.{ℕ, suc, ◌-◌, Bool, true, false, not, ◌&&◌, if◌then◌else◌, nat_lt, nat_le, List, [], ◌∷◌, ◌++◌, length, Option, Some, None, Ok, Err, bytes_eq}
use Rattle.std.specs.List.{list_any}
use Rattle.gq_tree.specs.declared.kind.Plain.{Plain}
use Rattle.gq_tree.specs.declared.kind.Plain.TheVariants as plain
use Rattle.gq_tree.specs.declared.kind.Bits.{Bits}
use Rattle.gq_tree.specs.declared.kind.Bits.TheVariants as bits
use Rattle.gq_tree.specs.Number.{Number}
use Rattle.gq_tree.specs.Number.TheVariants as number
use Rattle.gq_tree.specs.Accums.{Base, INT, UINT, BOOL, TUPLE, Accum, SumAccum, MinAccum, MaxAccum, OrAccum, AndAccum, BitwiseOrAccum, BitwiseAndAccum, AvgAccum, SetAccum, BagAccum, ListAccum, MapAccum, GroupByAccum, HeapAccum, Parts, no_part, part_and}
use Rattle.gq_tree.specs.AccumViews.{bases}
use Rattle.gq_tree.specs.Typed.{has_no_list, have_no_list}
use Rattle.gq_rules_typing.specs.Statements.{Bytes, BaseTree, Elem, OfBase, OfTuple, KindTree, OverElem, OverBits, Averaged, MapTo, MapToElem, Grouped, Heap, PartTrees, no_part_tree, part_tree_and}
use Rattle.gq_rules_typing.specs.Sorts.{Fields, names_of, bases_of}
use Rattle.gq_rules_typing.specs.Words.{Setting, place_of}
use Rattle.gq_rules_typing.specs.Judging.{TooMany, BadKind, NameTwice, Judged, ◌>>=◌, ◌>>◌, unless, or_fault, each_judged}
use Rattle.gq_rules_typing.specs.FieldTypes.{tuple_fields}
use Rattle.gq_rules_typing.specs.Scopes.{Scope, unknown, base_written}

-- ---- names within a type

abbrev pub stands_in : List Bytes → Bytes → Bool
stands_in names n = list_any (bytes_eq n) names

-- adds a name that its type doesn't have yet, up to the limit
abbrev pub own_name : ℕ → List Bytes → Bytes → Judged (List Bytes)
own_name most names n = unless (NameTwice n) (not (stands_in names n)) >> unless TooMany (nat_lt (length names) most) >> Ok (names ++ n ∷ [])

-- names with base types, up to the limit
abbrev pub fields_written : {N : Type 0} → Scope N → ℕ → List Bytes → List (BaseTree N × Bytes) → Judged Fields
fields_written s most names [] = Ok []
fields_written s most names (f ∷ fs) = base_written s f.0 >>= λ b. own_name most names f.1 >>= λ more. fields_written s most more fs >>= λ rest. Ok ((f.1, b) ∷ rest)

-- ---- elements

-- the number of the first of these tuple types with this name, if they are numbered from n on
abbrev pub tuple_from : {N : Type 0} → (N → N → Bool) → N → ℕ → List (N × Fields) → Option ℕ
tuple_from same x n [] = None
tuple_from same x n (t ∷ ts) = if same t.0 x then Some n else tuple_from same x (suc n) ts

-- the number of a tuple type
abbrev pub tuple_named : {N : Type 0} → Setting N → N → Option ℕ
tuple_named setting x = tuple_from setting.words.same x 0 setting.tuples

abbrev pub tuple_base : {N : Type 0} → Setting N → ℕ → Base
tuple_base setting n = TUPLE n (bases (bases_of (tuple_fields setting n)))

abbrev pub elem_written : {N : Type 0} → Scope N → Elem N → Judged Base
elem_written s (OfBase b) = base_written s b
elem_written s (OfTuple x) = or_fault (unknown s x) (tuple_named s.setting x) >>= λ n. Ok (tuple_base s.setting n)

abbrev pub optional_elem : {N : Type 0} → Scope N → Option (Elem N) → Judged (Option Base)
optional_elem s None = Ok None
optional_elem s (Some e) = elem_written s e >>= λ b. Ok (Some b)

-- ---- kinds

abbrev pub over_number : (Number → Accum) → Bytes → Base → Judged Accum
over_number k a INT = Ok (k number.Int)
over_number k a UINT = Ok (k number.UInt)
over_number k a b = Err (BadKind a)

abbrev pub over_elem : Plain → Bytes → Base → Judged Accum
over_elem plain.Sum a b = over_number SumAccum a b
over_elem plain.Min a b = over_number MinAccum a b
over_elem plain.Max a b = over_number MaxAccum a b
over_elem plain.Set a b = Ok (SetAccum b)
over_elem plain.Bag a b = Ok (BagAccum b)
over_elem plain.List a b = Ok (ListAccum b)

-- truths are BOOL and bits are INT, if a type is written at all
abbrev pub over_bits : Bits → Bytes → Option Base → Judged Accum
over_bits bits.Or a None = Ok OrAccum
over_bits bits.And a None = Ok AndAccum
over_bits bits.BitwiseOr a None = Ok BitwiseOrAccum
over_bits bits.BitwiseAnd a None = Ok BitwiseAndAccum
over_bits bits.Or a (Some BOOL) = Ok OrAccum
over_bits bits.And a (Some BOOL) = Ok AndAccum
over_bits bits.BitwiseOr a (Some INT) = Ok BitwiseOrAccum
over_bits bits.BitwiseAnd a (Some INT) = Ok BitwiseAndAccum
over_bits k a b = Err (BadKind a)

-- a tuple can't be a key
abbrev pub is_key : Base → Bool
is_key (TUPLE n bs) = false
is_key b = true

-- the places of a heap's sort fields
abbrev pub sort_fields : Bytes → List Bytes → List (Bytes × Bool) → Judged (List (ℕ × Bool))
sort_fields a names fs = each_judged (λ f. or_fault (BadKind a) (place_of names f.0) >>= λ i. Ok (i, f.1)) fs

-- a name that isn't among the keys
abbrev pub part_name : List Bytes → List Bytes → Bytes → Judged (List Bytes)
part_name keys names n = unless (NameTwice n) (not (stands_in keys n)) >> own_name 8 names n

-- one more level, of at most 8
abbrev pub level_left : ℕ → Judged Bool
level_left n = unless TooMany (nat_lt 0 n)

abbrev mutual
  -- the kind of the accumulator a, with n levels left; maps and groups hold no ListAccum
  pub kind_within : {N : Type 0} → ℕ → Scope N → Bytes → KindTree N → Judged Accum
  kind_within n s a (OverElem k e) = level_left n >> elem_written s e >>= over_elem k a
  kind_within n s a (OverBits k e) = level_left n >> optional_elem s e >>= over_bits k a
  kind_within n s a Averaged = level_left n >> Ok AvgAccum
  kind_within n s a (MapTo e k) = level_left n >> elem_written s e >>= λ b. kind_within (n - 1) s a k >>= λ v. unless (BadKind a) (is_key b && has_no_list v) >> Ok (MapAccum b v)
  kind_within n s a (MapToElem e f) = level_left n >> elem_written s e >>= λ b. elem_written s f >>= λ c. unless (BadKind a) (is_key b) >> over_number SumAccum a c >>= λ v. Ok (MapAccum b v)
  kind_within n s a (Grouped keys ps) = level_left n >> fields_written s 8 [] keys >>= λ ks. parts_within (n - 1) s a (names_of ks) [] ps >>= λ qs. unless (BadKind a) (have_no_list qs) >> Ok (GroupByAccum ks qs)
  kind_within n s a (Heap t capacity order) = level_left n >> or_fault (unknown s t) (tuple_named s.setting t) >>= λ m. unless (BadKind a) (nat_lt 0 capacity && nat_le capacity 1000000) >> sort_fields a (names_of (tuple_fields s.setting m)) order >>= λ by. Ok (HeapAccum (tuple_base s.setting m) capacity by)

  pub parts_within : {N : Type 0} → ℕ → Scope N → Bytes → List Bytes → List Bytes → PartTrees N → Judged Parts
  parts_within n s a keys names no_part_tree = Ok no_part
  parts_within n s a keys names (part_tree_and k name ps) = kind_within n s a k >>= λ kind. part_name keys names name >>= λ more. parts_within n s a keys more ps >>= λ rest. Ok (part_and name kind rest)

abbrev pub kind_written : {N : Type 0} → Scope N → Bytes → KindTree N → Judged Accum
kind_written s a k = kind_within 8 s a k
