-- KindLemmas: kinds by their productions, in the order of the code.
use Rattle.std.proofs.Common.{ℕ, ◌-◌, ◌≡◌, Bool, true, ◌&&◌, nat_lt, nat_le, List, [], ◌∷◌, ◌++◌, map, Option, Some, None, Ok, Err, refl, ap, sym, ◌∙◌}
use Rattle.gq_value.specs.Accums.{Base, INT, UINT, BOOL, Accum, SumAccum, OrAccum, AndAccum, BitwiseOrAccum, BitwiseAndAccum, AvgAccum, MapAccum, GroupByAccum, HeapAccum, Parts, no_part, part_and}
use Rattle.std.proofs.lemmas.List.{map_push}
use Rattle.gq_value.specs.AccumViews.{parts_of, accum_of}
use Rattle.gq_value.specs.declared.kind.Kind.{Kind}
use Rattle.gq_value.specs.Typed.{has_no_list, have_no_list}
use Rattle.gq_value.specs.declared.kind.Number.{Number}
use Rattle.gq_tree.specs.declared.kind.Elem as tree
use Rattle.gq_tree.specs.declared.kind.Bits.TheVariants as bits
use Rattle.gq_rules_typing.specs.Statements.{Bytes, BaseTree, KindTree, OverElem, OverBits, Averaged, MapTo, MapToElem, Grouped, Heap, PartTrees, part_tree_and}
use Rattle.gq_rules_typing.specs.StatementViews.{HeldView, AnElem, AKind, view_elem, map_to}
use Rattle.gq_rules_typing.specs.Sorts.{Fields, names_of}
use Rattle.gq_rules_typing.specs.Judging.{TypingFault, BadKind, Judged, ◌>>=◌, ◌>>◌, unless, or_fault}
use Rattle.gq_rules_typing.specs.FieldTypes.{tuple_fields}
use Rattle.gq_rules_typing.specs.Scopes.{Scope, unknown}
use Rattle.gq_rules_typing.specs.KindTypes.{elem_written, optional_elem, over_elem, over_number, over_bits, is_key, sort_fields, fields_written, tuple_named, tuple_base, part_name, level_left, kind_within, parts_within}
use Rattle.gq_scope.specs.Held.{Held, setting_in, scope_in}
use Rattle.gq_check_decls.specs.Written.{as_number, good, may_be_truth, may_be_bits, is_capacity, tuple_number, map_below, group, group_below, heap}

-- ---- elements

pub over_number_is : (k : Number → Accum) (a : Bytes) (b : Base) → over_number k a b ≡ (as_number a b >>= λ n. Ok (k n))
over_number_is k a INT = refl
over_number_is k a UINT = refl
over_number_is k a _ = refl

pub ruleset number_laws = (over_number_is)

pub or_is : (a : Bytes) (o : Option Base) → over_bits bits.Or a o ≡ (good a (may_be_truth o) >> Ok OrAccum)
or_is a None = refl
or_is a (Some BOOL) = refl
or_is a (Some _) = refl

pub and_is : (a : Bytes) (o : Option Base) → over_bits bits.And a o ≡ (good a (may_be_truth o) >> Ok AndAccum)
and_is a None = refl
and_is a (Some BOOL) = refl
and_is a (Some _) = refl

pub bit_or_is : (a : Bytes) (o : Option Base) → over_bits bits.BitwiseOr a o ≡ (good a (may_be_bits o) >> Ok BitwiseOrAccum)
bit_or_is a None = refl
bit_or_is a (Some INT) = refl
bit_or_is a (Some _) = refl

pub bit_and_is : (a : Bytes) (o : Option Base) → over_bits bits.BitwiseAnd a o ≡ (good a (may_be_bits o) >> Ok BitwiseAndAccum)
bit_and_is a None = refl
bit_and_is a (Some INT) = refl
bit_and_is a (Some _) = refl

pub ruleset bits_laws = (or_is, and_is, bit_or_is, bit_and_is)

-- ---- levels

then : {A B C : Type 0} (j : Judged A) (i : Judged B) (f : B → Judged C) → ((j >> i) >>= f) ≡ (j >> (i >>= f))
then (Ok a) i f = refl
then (Err e) i f = refl

pub map_is : (n : ℕ) (s : Scope Bytes) (a : Bytes) (key : tree.Elem) (h : HeldView) → kind_within n s a (map_to key h) ≡ (level_left n >> map_below (n - 1) s a (view_elem key) h)
map_is n s a key (AnElem f) = then (level_left n) (elem_written s (view_elem key))
    (λ b. elem_written s f >>= λ c. unless (BadKind a) (is_key b) >> over_number SumAccum a c >>= λ v. Ok (MapAccum b v))
map_is n s a key (AKind k) = then (level_left n) (elem_written s (view_elem key))
    (λ b. kind_within (n - 1) s a k >>= λ v. unless (BadKind a) (is_key b && has_no_list v) >> Ok (MapAccum b v))

pub group_is : (n : ℕ) (s : Scope Bytes) (a : Bytes) (keys : List (BaseTree Bytes × Bytes)) (ps : PartTrees Bytes)
    → kind_within n s a (Grouped keys ps) ≡ (level_left n >> group_below (n - 1) s a keys ps)
group_is n s a keys ps = then (level_left n) (fields_written s 8 [] keys)
    (λ ks. parts_within (n - 1) s a (names_of ks) [] ps >>= λ qs. unless (BadKind a) (have_no_list qs) >> Ok (GroupByAccum ks qs))

pub heap_is : (n : ℕ) (h : Held) (a t : Bytes) (capacity : ℕ) (order : List (Bytes × Bool))
    → kind_within n (scope_in h) a (Heap t capacity order) ≡ (level_left n >> heap (setting_in h) a t capacity order)
unfolding scope_in setting_in
heap_is n h a t capacity order = then (level_left n) (tuple_number (setting_in h) t)
    (λ m. good a (is_capacity capacity) >> sort_fields a (names_of (tuple_fields (setting_in h) m)) order >>= λ by. Ok (HeapAccum (tuple_base (setting_in h) m) capacity by))

-- if no level is left
pub no_level : (n : ℕ) (s : Scope Bytes) (a : Bytes) (t : KindTree Bytes) (e : TypingFault) → level_left n ≡ Err e → kind_within n s a t ≡ Err e
no_level n s a (OverElem k f) e is = ap (λ j. j >> elem_written s f >>= over_elem k a) is
no_level n s a (OverBits k f) e is = ap (λ j. j >> optional_elem s f >>= over_bits k a) is
no_level n s a Averaged e is = ap (λ j. j >> Ok AvgAccum) is
no_level n s a (MapTo f k) e is =
    ap (λ j. j >> elem_written s f >>= λ b. kind_within (n - 1) s a k >>= λ v. unless (BadKind a) (is_key b && has_no_list v) >> Ok (MapAccum b v)) is
no_level n s a (MapToElem f g) e is =
    ap (λ j. j >> elem_written s f >>= λ b. elem_written s g >>= λ c. unless (BadKind a) (is_key b) >> over_number SumAccum a c >>= λ v. Ok (MapAccum b v)) is
no_level n s a (Grouped keys ps) e is =
    ap (λ j. j >> fields_written s 8 [] keys >>= λ ks. parts_within (n - 1) s a (names_of ks) [] ps >>= λ qs. unless (BadKind a) (have_no_list qs) >> Ok (GroupByAccum ks qs)) is
no_level n s a (Heap t capacity order) e is =
    ap (λ j. j >> or_fault (unknown s t) (tuple_named s.setting t) >>= λ m. unless (BadKind a) (nat_lt 0 capacity && nat_le capacity 1000000)
    >> sort_fields a (names_of (tuple_fields s.setting m)) order >>= λ by. Ok (HeapAccum (tuple_base s.setting m) capacity by)) is

pub ruleset level_laws = (map_is, group_is, heap_is, no_level)

-- ---- parts of a group

abbrev pub joined : List (Bytes × Accum) → Parts → Parts
joined [] rest = rest
joined (p ∷ ps) rest = part_and p.0 p.1 (joined ps rest)

-- the earlier results, with those of the rest
abbrev pub parts_after : List (Bytes × Accum) → Judged Parts → Judged Parts
parts_after done j = j >>= λ rest. Ok (joined done rest)

pub parts_none : (j : Judged Parts) → j ≡ parts_after [] j
parts_none (Ok rest) = refl
parts_none (Err e) = refl

joined_one : (done : List (Bytes × Accum)) (name : Bytes) (k : Accum) (rest : Parts) → joined done (part_and name k rest) ≡ joined (done ++ (name, k) ∷ []) rest
joined_one [] name k rest = refl
joined_one (p ∷ ps) name k rest = ap (part_and p.0 p.1) (joined_one ps name k rest)

pub parts_one : (done : List (Bytes × Accum)) (name : Bytes) (k : Accum) (j : Judged Parts) → parts_after done (j >>= λ rest. Ok (part_and name k rest)) ≡ parts_after (done ++ (name, k) ∷ []) j
parts_one done name k (Ok rest) = ap Ok (joined_one done name k rest)
parts_one done name k (Err e) = refl

joined_all : (done : List (Bytes × Accum)) → joined done no_part ≡ parts_of done
joined_all [] = refl
joined_all (p ∷ ps) = ap (part_and p.0 p.1) (joined_all ps)

pub parts_all : (done : List (Bytes × Accum)) → parts_after done (Ok no_part) ≡ Ok (parts_of done)
parts_all done = ap Ok (joined_all done)

pub ruleset part_laws = (parts_none, parts_one, parts_all)

-- a group, given its keys
pub group_rule : (n m : ℕ) (s : Scope Bytes) (a : Bytes) (keys : List (BaseTree Bytes × Bytes)) (ps : PartTrees Bytes) (ks : Fields)
    → level_left n ≡ Ok true → m ≡ n - 1 → fields_written s 8 [] keys ≡ Ok ks
    → kind_within n s a (Grouped keys ps) ≡ (parts_within m s a (names_of ks) [] ps >>= λ qs. group a ks qs)
group_rule n m s a keys ps ks left below are =
    group_is n s a keys ps ∙ ap (λ j. j >> group_below (n - 1) s a keys ps) left
    ∙ ap (λ j. j >>= λ fs. parts_within (n - 1) s a (names_of fs) [] ps >>= λ qs. group a fs qs) are
    ∙ ap (λ l. parts_within l s a (names_of ks) [] ps >>= λ qs. group a ks qs) (sym below)

-- one more part
pub parts_goes : (n : ℕ) (s : Scope Bytes) (a : Bytes) (keys : List Bytes) (parts : List (Bytes × Kind)) (kind : Kind) (t : KindTree Bytes) (name : Bytes) (rest : PartTrees Bytes) (all : Judged Parts)
    → kind_within n s a t ≡ Ok (accum_of kind) → part_name keys (map (λ (p : Bytes × Kind). p.0) parts) name ≡ Ok (map (λ (p : Bytes × Kind). p.0) parts ++ name ∷ [])
    → all ≡ parts_after (map (λ (p : Bytes × Kind). (p.0, accum_of p.1)) parts) (parts_within n s a keys (map (λ (p : Bytes × Kind). p.0) parts) (part_tree_and t name rest))
    → all ≡ parts_after (map (λ (p : Bytes × Kind). (p.0, accum_of p.1)) (parts ++ (name, kind) ∷ []))
    (parts_within n s a keys (map (λ (p : Bytes × Kind). p.0) (parts ++ (name, kind) ∷ [])) rest)
parts_goes n s a keys parts kind t name rest all is named before =
    let done = map {A = Bytes × Kind} {B = Bytes × Accum} (λ p. (p.0, accum_of p.1)) parts in
    let names = map (λ (p : Bytes × Kind). p.0) parts in
    before
    ∙ ap (λ j. parts_after done (j >>= λ k. part_name keys names name >>= λ more. parts_within n s a keys more rest >>= λ qs. Ok (part_and name k qs))) is
    ∙ ap (λ j. parts_after done (j >>= λ more. parts_within n s a keys more rest >>= λ qs. Ok (part_and name (accum_of kind) qs))) named
    ∙ parts_one done name (accum_of kind) (parts_within n s a keys (names ++ name ∷ []) rest)
    ∙ ap (λ ds. parts_after ds (parts_within n s a keys (names ++ name ∷ []) rest)) (sym (map_push {X = Bytes × Kind} {Y = Bytes × Accum} (λ p. (p.0, accum_of p.1)) parts (name, kind)))
    ∙ ap (λ ns. parts_after (map {A = Bytes × Kind} {B = Bytes × Accum} (λ p. (p.0, accum_of p.1)) (parts ++ (name, kind) ∷ [])) (parts_within n s a keys ns rest)) (sym (map_push (λ (p : Bytes × Kind). p.0) parts (name, kind)))
