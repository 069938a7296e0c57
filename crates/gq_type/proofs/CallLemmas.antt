-- CallLemmas: functions and methods by the number of their arguments.
use Rattle.std.proofs.Common.{ℕ, zero, suc, ◌+◌, ◌<◌, ◌≤◌, ◌≡◌, ◌==◌, Bool, true, false, ◌&&◌, cond, List, [], ◌∷◌, length, get_or, map, Option, Some, None, Ok, Err, refl, ap, sym, ◌∙◌, subst, arith}
use Rattle.gq_value.specs.Accums.{Base, INT, UINT, BOOL, STRING, DATETIME, VERTEX, VERTEX_OF, TUPLE}
use Rattle.gq_tree.specs.Tree.{Tree, Trees, Text, no_tree, tree}
use Rattle.gq_tree.specs.View.{view, views}
use Rattle.gq_tree.specs.declared.expr.Node.{Node}
use Rattle.std.specs.Str.{bytes_eq}
use Rattle.std.specs.Option.{option_map}
use Rattle.std.specs.List.{slice_get, position}
use Rattle.std.proofs.lemmas.Option.{slice_get-get_or}
use Rattle.std.proofs.lemmas.List.Quantifiers.{position-Some}
use Rattle.gq_base.proofs.Seeks.{nowhere}
use Rattle.gq_value.specs.declared.kind.BaseType.{BaseType}
use Rattle.gq_value.specs.AccumViews.{base_of}
use Rattle.gq_rules_typing.specs.Statements.{Bytes}
use Rattle.gq_rules_typing.specs.Sorts.{Sorts, Fields, bases_of}
use Rattle.gq_scope.specs.Held.{Held, setting_in, fields_of}
use Rattle.gq_rules_typing.specs.Words.{under, functions, function_from, function_named, Function, Makes, Abs, ToString, ToDatetime, EpochToDatetime, DatetimeToEpoch, DatetimeDiff, DatetimeAdd, PartOf, PartOfTime}
use Rattle.gq_rules_typing.specs.Judging.{Typed, Mismatch, ◌>>=◌, ◌>>◌, unless}
use Rattle.gq_rules_typing.specs.CallTypes.{function_type, unit_known, outdegree_type}
use Rattle.gq_rules_typing.specs.Types.{is_number}
use Rattle.gq_scope.specs.Parts.{text_in}
use Rattle.gq_type.specs.Calls.{only, absolute, said, time_of_text, time_of_number, number_of_time, pair, triple, difference, later, third_text, unit_of, degree_of_all, degree_of}

-- ---- one argument

pub abs_is : {N : Type 0} (ts : Trees N) (bs : List Base) → function_type Abs ts bs ≡ absolute bs
abs_is ts [] = refl
abs_is ts (b ∷ []) = refl
abs_is ts (b ∷ c ∷ rest) = refl

pub said_is : {N : Type 0} (ts : Trees N) (bs : List Base) → function_type ToString ts bs ≡ said bs
said_is ts [] = refl
said_is ts (b ∷ []) = refl
said_is ts (b ∷ c ∷ rest) = refl

pub epoch_is : {N : Type 0} (ts : Trees N) (bs : List Base) → function_type EpochToDatetime ts bs ≡ time_of_number bs
epoch_is ts [] = refl
epoch_is ts (b ∷ []) = refl
epoch_is ts (b ∷ c ∷ rest) = refl

text_alone : {N : Type 0} (ts : Trees N) (b : Base) → function_type ToDatetime ts (b ∷ []) ≡ time_of_text (b ∷ [])
text_alone ts STRING = refl
text_alone ts _ = refl

text_more : {N : Type 0} (ts : Trees N) (b c : Base) (rest : List Base) → function_type ToDatetime ts (b ∷ c ∷ rest) ≡ Err Mismatch
text_more ts STRING c rest = refl
text_more ts _ c rest = refl

pub text_is : {N : Type 0} (ts : Trees N) (bs : List Base) → function_type ToDatetime ts bs ≡ time_of_text bs
text_is ts [] = refl
text_is ts (b ∷ []) = text_alone ts b
text_is ts (b ∷ c ∷ rest) = text_more ts b c rest

time_alone : {N : Type 0} (ts : Trees N) (b : Base) → function_type DatetimeToEpoch ts (b ∷ []) ≡ number_of_time (b ∷ [])
time_alone ts DATETIME = refl
time_alone ts _ = refl

time_more : {N : Type 0} (ts : Trees N) (b c : Base) (rest : List Base) → function_type DatetimeToEpoch ts (b ∷ c ∷ rest) ≡ Err Mismatch
time_more ts DATETIME c rest = refl
time_more ts _ c rest = refl

pub time_is : {N : Type 0} (ts : Trees N) (bs : List Base) → function_type DatetimeToEpoch ts bs ≡ number_of_time bs
time_is ts [] = refl
time_is ts (b ∷ []) = time_alone ts b
time_is ts (b ∷ c ∷ rest) = time_more ts b c rest

part_alone : {N : Type 0} (p : PartOfTime) (ts : Trees N) (b : Base) → function_type (PartOf p) ts (b ∷ []) ≡ number_of_time (b ∷ [])
part_alone p ts DATETIME = refl
part_alone p ts _ = refl

part_more : {N : Type 0} (p : PartOfTime) (ts : Trees N) (b c : Base) (rest : List Base) → function_type (PartOf p) ts (b ∷ c ∷ rest) ≡ Err Mismatch
part_more p ts DATETIME c rest = refl
part_more p ts _ c rest = refl

pub part_is : {N : Type 0} (p : PartOfTime) (ts : Trees N) (bs : List Base) → function_type (PartOf p) ts bs ≡ number_of_time bs
part_is p ts [] = refl
part_is p ts (b ∷ []) = part_alone p ts b
part_is p ts (b ∷ c ∷ rest) = part_more p ts b c rest

-- ---- two and three arguments

diff_short : {N : Type 0} (ts : Trees N) (b : Base) → function_type DatetimeDiff ts (b ∷ []) ≡ Err Mismatch
diff_short ts DATETIME = refl
diff_short ts _ = refl

diff_both : {N : Type 0} (ts : Trees N) (b c : Base) → function_type DatetimeDiff ts (b ∷ c ∷ []) ≡ difference (b ∷ c ∷ [])
diff_both ts DATETIME DATETIME = refl
diff_both ts DATETIME _ = refl
diff_both ts _ c = refl

diff_more : {N : Type 0} (ts : Trees N) (b c d : Base) (rest : List Base) → function_type DatetimeDiff ts (b ∷ c ∷ d ∷ rest) ≡ Err Mismatch
diff_more ts DATETIME DATETIME d rest = refl
diff_more ts DATETIME _ d rest = refl
diff_more ts _ c d rest = refl

pub diff_is : {N : Type 0} (ts : Trees N) (bs : List Base) → function_type DatetimeDiff ts bs ≡ difference bs
diff_is ts [] = refl
diff_is ts (b ∷ []) = diff_short ts b
diff_is ts (b ∷ c ∷ []) = diff_both ts b c
diff_is ts (b ∷ c ∷ d ∷ rest) = diff_more ts b c d rest

-- the unit is a text literal that names one
unit_text : {N : Type 0} (x n t : Tree N) → unit_known (tree x (tree n (tree t no_tree))) ≡ unit_of (text_in t)
unit_text x n (Text u) = refl
unit_text x n _ = refl

unit_more : {N : Type 0} (x n t u : Tree N) (ts : Trees N) → unit_known (tree x (tree n (tree t (tree u ts)))) ≡ Err Mismatch
unit_more x n (Text v) u ts = refl
unit_more x n _ u ts = refl

unit_is : {N : Type 0} (ts : Trees N) → unit_known ts ≡ unit_of (third_text ts)
unit_is no_tree = refl
unit_is (tree x no_tree) = refl
unit_is (tree x (tree n no_tree)) = refl
unit_is (tree x (tree n (tree t no_tree))) = unit_text x n t
unit_is (tree x (tree n (tree t (tree u ts)))) = unit_more x n t u ts

add_two : {N : Type 0} (ts : Trees N) (b c : Base) → function_type DatetimeAdd ts (b ∷ c ∷ []) ≡ Err Mismatch
add_two ts DATETIME c = refl
add_two ts _ c = refl

add_one : {N : Type 0} (ts : Trees N) (b : Base) → function_type DatetimeAdd ts (b ∷ []) ≡ Err Mismatch
add_one ts DATETIME = refl
add_one ts _ = refl

add_all : {N : Type 0} (ts : Trees N) (b c d : Base) → function_type DatetimeAdd ts (b ∷ c ∷ d ∷ []) ≡ later ts (b ∷ c ∷ d ∷ [])
add_all ts DATETIME c STRING = ap (λ j. unless Mismatch (is_number c) >> j) (unit_is ts)
add_all ts DATETIME c _ = refl
add_all ts _ c d = refl

add_more : {N : Type 0} (ts : Trees N) (b c d e : Base) (rest : List Base) → function_type DatetimeAdd ts (b ∷ c ∷ d ∷ e ∷ rest) ≡ Err Mismatch
add_more ts DATETIME c STRING e rest = refl
add_more ts DATETIME c _ e rest = refl
add_more ts _ c d e rest = refl

pub add_is : {N : Type 0} (ts : Trees N) (bs : List Base) → function_type DatetimeAdd ts bs ≡ later ts bs
add_is ts [] = refl
add_is ts (b ∷ []) = add_one ts b
add_is ts (b ∷ c ∷ []) = add_two ts b c
add_is ts (b ∷ c ∷ d ∷ []) = add_all ts b c d
add_is ts (b ∷ c ∷ d ∷ e ∷ rest) = add_more ts b c d e rest

pub ruleset function_laws = (abs_is, said_is, epoch_is, text_is, time_is, part_is, diff_is, add_is)

-- ---- the number of arguments

pub only_some : {A B : Type 0} (f : A → B) (ts : List A) (d : A) → length ts ≡ 1 → Some (f (get_or ts 0 d)) ≡ only (map f ts)
only_some f [] d is = absurd (omega arith)
only_some f (t ∷ []) d is = refl
only_some f (t ∷ u ∷ ts) d is = absurd (omega arith)

pub only_none : {A B : Type 0} (f : A → B) (ts : List A) → (length ts ≡ 1 → ⊥) → None ≡ only (map f ts)
only_none f [] not = refl
only_none f (t ∷ []) not = absurd (not refl)
only_none f (t ∷ u ∷ ts) not = refl

pub pair_some : {A B : Type 0} (f : A → B) (ts : List A) (d e : A) → length ts ≡ 2 → Some (f (get_or ts 0 d), f (get_or ts 1 e)) ≡ pair (map f ts)
pair_some f [] d e is = absurd (omega arith)
pair_some f (t ∷ []) d e is = absurd (omega arith)
pair_some f (t ∷ u ∷ []) d e is = refl
pair_some f (t ∷ u ∷ v ∷ ts) d e is = absurd (omega arith)

pub pair_none : {A B : Type 0} (f : A → B) (ts : List A) → (length ts ≡ 2 → ⊥) → None ≡ pair (map f ts)
pair_none f [] not = refl
pair_none f (t ∷ []) not = refl
pair_none f (t ∷ u ∷ []) not = absurd (not refl)
pair_none f (t ∷ u ∷ v ∷ ts) not = refl

pub triple_some : {A B : Type 0} (f : A → B) (ts : List A) (d e g : A) → length ts ≡ 3 → Some (f (get_or ts 0 d), f (get_or ts 1 e), f (get_or ts 2 g)) ≡ triple (map f ts)
triple_some f [] d e g is = absurd (omega arith)
triple_some f (t ∷ []) d e g is = absurd (omega arith)
triple_some f (t ∷ u ∷ []) d e g is = absurd (omega arith)
triple_some f (t ∷ u ∷ v ∷ []) d e g is = refl
triple_some f (t ∷ u ∷ v ∷ w ∷ ts) d e g is = absurd (omega arith)

pub triple_none : {A B : Type 0} (f : A → B) (ts : List A) → (length ts ≡ 3 → ⊥) → None ≡ triple (map f ts)
triple_none f [] not = refl
triple_none f (t ∷ []) not = refl
triple_none f (t ∷ u ∷ []) not = refl
triple_none f (t ∷ u ∷ v ∷ []) not = absurd (not refl)
triple_none f (t ∷ u ∷ v ∷ w ∷ ts) not = refl

pub third_some : (ts : List Node) (d : Node) → length ts ≡ 3 → text_in (view (get_or ts 2 d)) ≡ third_text (views ts)
third_some [] d is = absurd (omega arith)
third_some (t ∷ []) d is = absurd (omega arith)
third_some (t ∷ u ∷ []) d is = absurd (omega arith)
third_some (t ∷ u ∷ v ∷ []) d is = refl
third_some (t ∷ u ∷ v ∷ w ∷ ts) d is = absurd (omega arith)

pub third_none : (ts : List Node) → (length ts ≡ 3 → ⊥) → None ≡ third_text (views ts)
third_none [] not = refl
third_none (t ∷ []) not = refl
third_none (t ∷ u ∷ []) not = refl
third_none (t ∷ u ∷ v ∷ []) not = absurd (not refl)
third_none (t ∷ u ∷ v ∷ w ∷ ts) not = refl

-- ---- degrees

degree_more : {N : Type 0} (sorts : Sorts) (x : Typed) (t u : Tree N) (ts : Trees N) → outdegree_type sorts x (tree t (tree u ts)) ≡ Err Mismatch
degree_more sorts x (Text e) u ts = refl
degree_more sorts x _ u ts = refl

pub degree_many : (sorts : Sorts) (x : Typed) (ts : List Node) → 1 < length ts → Err Mismatch ≡ outdegree_type sorts x (views ts)
degree_many sorts x [] low = absurd (omega arith)
degree_many sorts x (t ∷ []) low = absurd (omega arith)
degree_many sorts x (t ∷ u ∷ ts) low = sym (degree_more sorts x (view t) (view u) (views ts))

-- ---- functions by name

from_place : (h : Held) (f : Bytes) (n : ℕ) (ts : List (Bytes × Fields)) (i : ℕ) (d : Bytes × Fields) → i < length ts → bytes_eq (get_or ts i d).0 f ≡ true
    → ((k : ℕ) → k < i → bytes_eq (get_or ts k d).0 f ≡ false) → function_from (setting_in h).words f n ts ≡ Some (Makes (n + i) (bases_of (get_or ts i d).1))
unfolding setting_in
from_place h f n [] i d low is before = absurd (omega arith)
from_place h f n (t ∷ ts) zero d low is before =
    ap (λ b. cond b (Some (Makes n (bases_of t.1))) (function_from (setting_in h).words f (suc n) ts)) is
    ∙ ap (λ m. Some (Makes m (bases_of t.1))) (let e : n ≡ n + 0 = omega arith in e)
from_place h f n (t ∷ ts) (suc i) d low is before =
    ap (λ b. cond b (Some (Makes n (bases_of t.1))) (function_from (setting_in h).words f (suc n) ts)) (before 0 (omega arith))
    ∙ from_place h f (suc n) ts i d (omega arith) is (λ k under_i. before (suc k) (omega arith))
    ∙ ap (λ m. Some (Makes m (bases_of (get_or ts i d).1))) (let e : suc n + i ≡ n + suc i = omega arith in e)

from_none : (h : Held) (f : Bytes) (n : ℕ) (ts : List (Bytes × Fields)) (d : Bytes × Fields) → ((k : ℕ) → k < length ts → bytes_eq (get_or ts k d).0 f ≡ false)
    → function_from (setting_in h).words f n ts ≡ under bytes_eq f functions
unfolding setting_in
from_none h f n [] d miss = refl
from_none h f n (t ∷ ts) d miss =
    ap (λ b. cond b (Some (Makes n (bases_of t.1))) (function_from (setting_in h).words f (suc n) ts)) (miss 0 (omega arith))
    ∙ from_none h f (suc n) ts d (λ k low. miss (suc k) (omega arith))

missed : (b : Bool) → (b ≡ true → ⊥) → b ≡ false
missed true not = absurd (not refl)
missed false not = refl

pub own_function_is : (h : Held) (f : Bytes) (o : Option ℕ) → o ≡ None → o ≡ position (λ t. bytes_eq t.0 f) (setting_in h).tuples
    → under bytes_eq f functions ≡ function_named (setting_in h) f
own_function_is h f o is at =
    sym (from_none h f 0 (setting_in h).tuples ([], []) (λ k low. missed (bytes_eq (get_or (setting_in h).tuples k ([], [])).0 f)
    (λ is_it. nowhere (λ t. bytes_eq t.0 f) ([], []) (setting_in h).tuples k (sym at ∙ is) low is_it)))

same_fields : (fields : Fields) (t : Bytes × Fields) (o : Option (Bytes × Fields)) → o ≡ Some t → Some fields ≡ option_map (λ (s : Bytes × Fields). s.1) o → fields ≡ t.1
same_fields fields t None e is = absurd (cc)
same_fields fields t (Some s) e is = let a : fields ≡ s.1 = cc in a ∙ ap (λ (r : Bytes × Fields). r.1) (let b : s ≡ t = cc in b)

kept_bases : (fields : List (Bytes × BaseType)) → map (λ f. base_of f.1) fields ≡ bases_of (fields_of fields)
kept_bases [] = refl
kept_bases (f ∷ fields) = ap (λ bs. base_of f.1 ∷ bs) (kept_bases fields)

pub tuple_function_is : (h : Held) (f : Bytes) (o : Option ℕ) (i : ℕ) (fields : List (Bytes × BaseType)) → o ≡ Some i → o ≡ position (λ t. bytes_eq t.0 f) (setting_in h).tuples
    → Some (fields_of fields) ≡ option_map (λ (t : Bytes × Fields). t.1) (slice_get (setting_in h).tuples i)
    → Some (Makes i (map (λ f. base_of f.1) fields)) ≡ function_named (setting_in h) f
tuple_function_is h f o i fields is at there =
    let ts = (setting_in h).tuples in
    let found = position-Some (λ t. bytes_eq t.0 f) ts i ([], []) (sym at ∙ is) in
    let same : fields_of fields ≡ (get_or ts i ([], [])).1 = same_fields (fields_of fields) (get_or ts i ([], [])) (slice_get ts i) (slice_get-get_or ts i ([], []) found.0) there in
    ap (λ bs. Some (Makes i bs)) (kept_bases fields ∙ ap bases_of same)
    ∙ ap (λ m. Some (Makes m (bases_of (get_or ts i ([], [])).1))) (let e : i ≡ 0 + i = omega arith in e)
    ∙ sym (from_place h f 0 ts i ([], []) found.0 found.1 found.2)

pub tuple_there : (h : Held) (f : Bytes) (o : Option ℕ) (i : ℕ) → o ≡ Some i → o ≡ position (λ t. bytes_eq t.0 f) (setting_in h).tuples
    → None ≡ option_map (λ (t : Bytes × Fields). t.1) (slice_get (setting_in h).tuples i) → ⊥
tuple_there h f o i is at there =
    let ts = (setting_in h).tuples in
    let found = position-Some (λ t. bytes_eq t.0 f) ts i ([], []) (sym at ∙ is) in
    let e : None ≡ Some (get_or ts i ([], [])).1 = there ∙ ap (option_map (λ (t : Bytes × Fields). t.1)) (slice_get-get_or ts i ([], []) found.0) in cc
