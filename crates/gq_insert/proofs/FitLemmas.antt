-- Values, ids and rows of their types.
use Rattle.std.proofs.Common.{ℕ, zero, suc, ℤ, pos, negsuc, ◌+◌, ◌<◌, ◌≡◌, ◌≢◌, ◌&&◌, ◌||◌, Bool, true, false, cond, List, [], ◌∷◌, ◌++◌, length, get_or, take, All, Option, Some, None, refl, ap, sym, ◌∙◌, arith}
use Rattle.std.proofs.lemmas.Bool.{lt-ltb}
use Rattle.std.proofs.lemmas.Int.{ints}
use Rattle.std.proofs.lemmas.List.{take_more, get_or-take, length-take}
use Rattle.std.specs.List.{list_any}
use Rattle.std.specs.Option.{unwrap_or, option_map_or}
use Rattle.std.specs.Fmt.{decimal, signed_decimal}
use Rattle.gq_tree.specs.declared.schema.Literal.{Literal}
use Rattle.gq_tree.specs.declared.schema.Literal.TheVariants as literal
use Rattle.gq_graph.specs.declared.types.Attribute.{Attribute}
use Rattle.gq_graph.specs.declared.types.IdKind.{IdKind}
use Rattle.gq_graph.specs.declared.types.IdKind.TheVariants as id
use Rattle.gq_value.specs.declared.kind.Number.TheVariants as number
use Rattle.gq_time.specs.Moments.{IsDatetime}
use Rattle.gq_value.specs.declared.value.Value.{Value}
use Rattle.gq_value.specs.declared.value.Value.TheVariants as value
use Rattle.gq_value.specs.Arithmetic.{is_within}
use Rattle.gq_graph.specs.Catalog.{Schema}
use Rattle.gq_graph.specs.Defaults.{Sort, INT, UINT, BOOL, STRING, DATETIME, OTHER, sort_of, is_time}
use Rattle.gq_value.specs.Views.{val}
use Rattle.gq_value.specs.ViewLaws.{val-Int, val-UInt, val-Bool, val-Text}
use Rattle.gq_load_csv.specs.Fields.{zero_of, default_of}
use Rattle.gq_load_check.specs.declared.job.Target.{Target}
use Rattle.gq_load_check.specs.declared.insert.InsertFault.TheVariants as fault
use Rattle.gq_load_check.specs.Targets.{id_count}
use Rattle.gq_index.specs.Rows.{IsId}
use Rattle.gq_insert.specs.Fits.{is_value, row_fits, AttributeFits}
use Rattle.gq_tree.specs.Signed.{signed}
use Rattle.gq_insert.specs.Inserts.{if_fits, number_id, text_id, given_id, is_no_id, default_row, not_allowed}

-- ---- defaults

zero_fits : (s : Sort) → s ≢ OTHER → is_value s (val (zero_of s)) ≡ true
zero_fits INT plain = ap (is_value INT) (val-Int (pos 0))
zero_fits UINT plain = ap (is_value UINT) (val-UInt 0)
zero_fits BOOL plain = ap (is_value BOOL) (val-Bool false)
zero_fits STRING plain = ap (is_value STRING) (val-Text [])
zero_fits DATETIME plain = ap (is_value DATETIME) (val-Int (pos 0))
zero_fits OTHER plain = absurd (plain refl)

pub default_fits : (a : Attribute) → AttributeFits a → is_value (sort_of a.kind) (val (default_of a)) ≡ true
default_fits a fits = by a.default fits.1
  where
    by : (o : Option Value) → option_map_or (λ v. is_value (sort_of a.kind) (val v)) o true ≡ true
        → is_value (sort_of a.kind) (val (unwrap_or o (zero_of (sort_of a.kind)))) ≡ true
    by None own = zero_fits (sort_of a.kind) fits.0
    by (Some v) own = own

both_true : (a b : Bool) → a ≡ true → b ≡ true → (a && b) ≡ true
both_true a b first second = ap (λ x. x && b) first ∙ second

pub default_row_fits : (attributes : List Attribute) → All AttributeFits attributes → row_fits attributes (default_row attributes) ≡ true
default_row_fits [] fits = refl
default_row_fits (a ∷ attributes) fits =
    both_true (is_value (sort_of a.kind) (val (default_of a))) (row_fits attributes (default_row attributes))
    (default_fits a (fits 0 a (omega arith)))
    (default_row_fits attributes (λ k d low. fits (suc k) d (omega arith)))

-- ---- times

time_is : (x : ℤ) → IsDatetime x → is_time x ≡ true
time_is (pos n) h = lt-ltb n 253402300800 (omega (arith, ints, h.1))
time_is (negsuc n) h = lt-ltb n 62167219200 (omega (arith, ints, h.0))

pub time_fits : (x : ℤ) → IsDatetime x → is_value DATETIME (val (value.Int x)) ≡ true
time_fits x h = ap (is_value DATETIME) (val-Int x) ∙ time_is x h

-- ---- rows

one_more : (attributes : List Attribute) (row : List Value) (a : Attribute) (v : Value) → row_fits attributes row ≡ true → is_value (sort_of a.kind) (val v) ≡ true
    → row_fits (attributes ++ a ∷ []) (row ++ v ∷ []) ≡ true
one_more [] [] a v before fits = both_true (is_value (sort_of a.kind) (val v)) true fits refl
one_more [] (x ∷ row) a v before fits = absurd (cc)
one_more (b ∷ attributes) [] a v before fits = absurd (cc)
one_more (b ∷ attributes) (x ∷ row) a v before fits =
    let parts = both_of (is_value (sort_of b.kind) (val x)) (row_fits attributes row) before in
    both_true (is_value (sort_of b.kind) (val x)) (row_fits (attributes ++ a ∷ []) (row ++ v ∷ [])) parts.0 (one_more attributes row a v parts.1 fits)
  where
    both_of : (p q : Bool) → (p && q) ≡ true → (p ≡ true) × (q ≡ true)
    both_of true q h = (refl, h)
    both_of false q h = absurd (cc)

pub row_more : (attributes : List Attribute) (row : List Value) (i : ℕ) (a : Attribute) (v : Value) → i < length attributes → a ≡ get_or attributes i a
    → row_fits (take i attributes) row ≡ true → is_value (sort_of a.kind) (val v) ≡ true → row_fits (take (i + 1) attributes) (row ++ v ∷ []) ≡ true
row_more attributes row i a v low read before fits =
    ap (λ l. row_fits l (row ++ v ∷ [])) (take_more attributes i a low ∙ ap (λ x. take i attributes ++ x ∷ []) (sym read))
    ∙ one_more (take i attributes) row a v before fits

-- ---- ids

fit_parts : {A : Type 0} (b : Bool) (x y : A) → if_fits b x ≡ Some y → (b ≡ true) × (x ≡ y)
fit_parts true x y is = (refl, cc)
fit_parts false x y is = absurd (cc)

uint_within : (minus : Bool) (n : ℕ) → is_within number.UInt (signed minus n) ≡ true → is_within number.UInt (pos n) ≡ true
uint_within false n is = is
uint_within true zero is = is
uint_within true (suc n) is = absurd (cc)

number_fits : (kind : IdKind) (minus : Bool) (n : ℕ) (text : List ℕ) → number_id kind minus n ≡ Some text → IsId kind text
number_fits id.Text minus n text is = absurd (cc)
number_fits id.Int minus n text is =
    let parts = fit_parts (is_within number.Int (signed minus n)) (signed_decimal (signed minus n)) text is in
    (signed minus n, parts.0, sym parts.1)
number_fits id.UInt minus n text is =
    let parts = fit_parts (is_within number.UInt (signed minus n)) (decimal n) text is in
    (n, uint_within minus n parts.0, sym parts.1)

text_fits : (kind : IdKind) (said text : List ℕ) → text_id kind said ≡ Some text → is_no_id (Some (literal.Text said)) ≡ false → IsId kind text
text_fits id.Int said text is some = absurd (cc)
text_fits id.UInt said text is some = absurd (cc)
text_fits id.Text [] text is some = absurd (cc)
text_fits id.Text (c ∷ said) text is some = cons_fits c said text (inner is)
  where
    inner : {x y : List ℕ} → Some x ≡ Some y → x ≡ y
    inner {x} {y} h = cc

    cons_fits : (c : ℕ) (said text : List ℕ) → c ∷ said ≡ text → text ≢ []
    cons_fits c said text same none = cc

pub given_fits : (kind : IdKind) (value : Option Literal) (text : List ℕ) → given_id kind value ≡ Some text → is_no_id value ≡ false → IsId kind text
given_fits kind None text is some = absurd (cc)
given_fits kind (Some (literal.Number minus n)) text is some = number_fits kind minus n text is
given_fits kind (Some (literal.Text said)) text is some = text_fits kind said text is some
given_fits kind (Some (literal.Truth b)) text is some = absurd (cc)

-- ---- what isn't refused

both_false : (a b : Bool) → (a || b) ≡ false → (a ≡ false) × (b ≡ false)
both_false false b h = (refl, h)
both_false true b h = absurd (cc)

none_any : {A : Type 0} (p : A → Bool) (xs : List A) → list_any p xs ≡ false → (k : ℕ) (d : A) → k < length xs → p (get_or xs k d) ≡ false
none_any p [] none k d low = absurd (omega arith)
none_any p (x ∷ xs) none zero d low = (both_false (p x) (list_any p xs) none).0
none_any p (x ∷ xs) none (suc k) d low = none_any p xs (both_false (p x) (list_any p xs) none).1 k d (omega arith)

-- an id is given for each place of one
pub id_given : (schema : Schema) (t : Target) (values : List (Option Literal)) → not_allowed schema t values ≡ None
    → (k : ℕ) (x : Option Literal) → k < id_count t → k < length values → x ≡ get_or values k x → is_no_id x ≡ false
id_given schema t values none k x low here read =
    ap is_no_id (read ∙ sym (get_or-take (id_count t) values k x low))
    ∙ none_any is_no_id (take (id_count t) values) (first (list_any is_no_id (take (id_count t) values)) _ none) k x
    (omega (arith, length-take (id_count t) values))
  where
    first : (a b : Bool) → cond (a || b) (Some fault.NotAllowed) None ≡ None → a ≡ false
    first true b h = absurd (cc)
    first false b h = refl
