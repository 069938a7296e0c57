-- Written: the rules of gq_rules_typing on written types and kinds, split into the code's functions.
use Rattle.std.specs.Prelude.{ℕ, Bool, true, false, ◌&&◌, List, [], Option, Some, None, Ok, Err, nat_lt, nat_le}
use Rattle.gq_value.specs.Accums.{Base, INT, UINT, BOOL, Accum, SumAccum, MapAccum, GroupByAccum, HeapAccum, Parts}
use Rattle.gq_value.specs.Typed.{has_no_list, have_no_list}
use Rattle.gq_value.specs.declared.kind.Number.{Number}
use Rattle.gq_value.specs.declared.kind.Number.TheVariants as number
use Rattle.gq_rules_typing.specs.Statements.{Bytes, BaseTree, Elem, PartTrees}
use Rattle.gq_rules_typing.specs.StatementViews.{HeldView, AnElem, AKind}
use Rattle.gq_rules_typing.specs.Sorts.{Fields, names_of}
use Rattle.gq_rules_typing.specs.Words.{Setting}
use Rattle.gq_rules_typing.specs.Judging.{Judged, UnknownName, BadKind, ◌>>=◌, ◌>>◌, or_fault, unless}
use Rattle.gq_rules_typing.specs.FieldTypes.{tuple_fields}
use Rattle.gq_rules_typing.specs.Scopes.{Scope}
use Rattle.gq_rules_typing.specs.KindTypes.{tuple_named, tuple_base, elem_written, fields_written, over_number, is_key, sort_fields, kind_within, parts_within}

-- the number of a tuple type
abbrev pub tuple_number : Setting Bytes → Bytes → Judged ℕ
tuple_number setting x = or_fault (UnknownName x) (tuple_named setting x)

-- a tuple type by its name
abbrev pub tuple_written : Setting Bytes → Bytes → Judged Base
tuple_written setting x = tuple_number setting x >>= λ n. Ok (tuple_base setting n)

-- INT and UINT; for any other type the kind of the accumulator a is bad
abbrev pub as_number : Bytes → Base → Judged Number
as_number a INT = Ok number.Int
as_number a UINT = Ok number.UInt
as_number a b = Err (BadKind a)

-- if a test fails, the kind of the accumulator a is bad
abbrev pub good : Bytes → Bool → Judged Bool
good a test = unless (BadKind a) test

-- the element of a truth kind is BOOL, if a type is written at all
abbrev pub may_be_truth : Option Base → Bool
may_be_truth None = true
may_be_truth (Some BOOL) = true
may_be_truth (Some b) = false

-- the element of a bit kind is INT, if a type is written at all
abbrev pub may_be_bits : Option Base → Bool
may_be_bits None = true
may_be_bits (Some INT) = true
may_be_bits (Some b) = false

-- a heap keeps from 1 to 1,000,000 tuples
abbrev pub is_capacity : ℕ → Bool
is_capacity n = nat_lt 0 n && nat_le n 1000000

abbrev pub capacity : Bytes → ℕ → Judged ℕ
capacity a n = good a (is_capacity n) >> Ok n

-- a place, or a bad kind if there is none
abbrev pub known_place : Bytes → Option ℕ → Judged ℕ
known_place a o = or_fault (BadKind a) o

-- a heap, after its level is counted
abbrev pub heap : Setting Bytes → Bytes → Bytes → ℕ → List (Bytes × Bool) → Judged Accum
heap setting a t n order = tuple_number setting t >>= λ m. good a (is_capacity n) >> sort_fields a (names_of (tuple_fields setting m)) order >>= λ by. Ok (HeapAccum (tuple_base setting m) n by)

-- ---- maps and groups, after their level is counted

-- a map to a type, which means the sum over it
abbrev pub sum_map : Scope Bytes → Bytes → Elem Bytes → Elem Bytes → Judged Accum
sum_map s a e f = elem_written s e >>= λ b. elem_written s f >>= λ c. good a (is_key b) >> over_number SumAccum a c >>= λ v. Ok (MapAccum b v)

-- a map with n levels left for what it holds
abbrev pub map_below : ℕ → Scope Bytes → Bytes → Elem Bytes → HeldView → Judged Accum
map_below n s a e (AnElem f) = sum_map s a e f
map_below n s a e (AKind k) = elem_written s e >>= λ b. kind_within n s a k >>= λ v. good a (is_key b && has_no_list v) >> Ok (MapAccum b v)

-- a group of these keys and parts
abbrev pub group : Bytes → Fields → Parts → Judged Accum
group a ks qs = good a (have_no_list qs) >> Ok (GroupByAccum ks qs)

abbrev pub group_below : ℕ → Scope Bytes → Bytes → List (BaseTree Bytes × Bytes) → PartTrees Bytes → Judged Accum
group_below n s a keys ps = fields_written s 8 [] keys >>= λ ks. parts_within n s a (names_of ks) [] ps >>= λ qs. group a ks qs
