-- GroupLemmas: the keys of groups, which are rows of values, as ordered maps say it.
use Rattle.std.proofs.Common.{◌≡◌, List, [], ◌∷◌, map, Some, None, Ordering, refl, sym, ap, ◌∙◌, subst}
use Rattle.std.specs.Ordering.{is_eq, on, ordering_then}
use Rattle.std.specs.Cmp.Lexicographic.{slice_cmp}
use Rattle.std.specs.BTreeMap.{insert_entry}
use Rattle.std.specs.Map.{lookup, set_value, keys_of}
use Rattle.std.specs.Global.{Vec}
use Rattle.std.specs.List.Sorted.{IsStrictlySortedBy}
use Rattle.gq_value.specs.declared.value.Value.{Value}
use Rattle.gq_value.specs.Views.{val}
use Rattle.gq_value.specs.Order.{place}
use Rattle.gq_accum_laws.specs.Gather.{distinct}
use Rattle.gq_accum_laws.specs.Holds.{row_cmp}
use Rattle.gq_accum_laws.proofs.RowLaws.{row_linear}
use Rattle.gq_nest.specs.Entries.{group_row, is_row, rows, under, Puts, Changes}
use Rattle.gq_nest.proofs.EntryLemmas.{puts_new, changes_there, changes_new}
use Rattle.gq_nest.proofs.CopySteps.{Rising, rising}
use Rattle.gq_nest.proofs.SortSteps.{ascending_stays}

-- the order of rows of the code's values
pub rows_compare : (xs ys : List Value) → slice_cmp (on val place) xs ys ≡ row_cmp (map val xs) (map val ys)
rows_compare [] [] = refl
rows_compare [] (y ∷ ys) = refl
rows_compare (x ∷ xs) [] = refl
rows_compare (x ∷ xs) (y ∷ ys) = ap (ordering_then (place (val x) (val y))) (rows_compare xs ys)

-- the order of the keys of an ordered map
abbrev pub key_cmp : Vec Value → Vec Value → Ordering
key_cmp a b = slice_cmp (on val place) a.items b.items

pub group_order : key_cmp ≡ on group_row row_cmp
group_order = λ i a b. rows_compare a.items b.items i

pub group_test : (row : List Value) → (λ (k : Vec Value). is_eq (slice_cmp (on val place) row k.items)) ≡ is_row group_row (map val row)
group_test row = λ i k. is_eq (rows_compare row k.items i)

module _ {X : Type 0} (begins : X → Type 0) (step : X → X → Type 0) (es es' : List (Vec Value × X)) where
  pub group_there : (row : List Value) (p w : X) → Some p ≡ lookup (λ (k : Vec Value). is_eq (slice_cmp (on val place) row k.items)) es
      → es' ≡ set_value (λ (k : Vec Value). is_eq (slice_cmp (on val place) row k.items)) es w → step p w → Changes group_row begins step es (map val row) es'
  group_there row p w found is s = changes_there group_row begins step es es' (map val row) p w (found ∙ ap (λ t. lookup t es) (group_test row)) (is ∙ ap (λ t. set_value t es w) (group_test row)) s

  pub group_new : (row : List Value) (key : Vec Value) (p w : X) → key.items ≡ row → None ≡ lookup (λ (k : Vec Value). is_eq (slice_cmp (on val place) row k.items)) es
      → begins p → step p w → es' ≡ insert_entry key_cmp es key w → Changes group_row begins step es (map val row) es'
  group_new row key p w same none b s is = subst (λ u. Changes group_row begins step es u es') (ap (map val) same)
      (changes_new group_row begins step es es' key p w
      (none ∙ ap (λ t. lookup t es) (group_test row) ∙ ap (λ u. under group_row u es) (sym (ap (map val) same)))
      (is ∙ ap (λ c. insert_entry c es key w) group_order) b s)

pub group_puts : {X : Type 0} (es es' : List (Vec Value × X)) (row : List Value) (key : Vec Value) (w : X) → key.items ≡ row → es' ≡ insert_entry key_cmp es key w → Puts group_row es (map val row) w es'
group_puts es es' row key w same is = subst (λ u. Puts group_row es u w es') (ap (map val) same) (puts_new group_row es es' key w (is ∙ ap (λ c. insert_entry c es key w) group_order))

pub group_rising : {X : Type 0} (es : List (Vec Value × X)) → IsStrictlySortedBy key_cmp (keys_of es) → Rising group_row es
group_rising es h = rising group_row es (subst (λ c. IsStrictlySortedBy c (keys_of es)) group_order h)

keys_are_rows : {X : Type 0} (es : List (Vec Value × X)) → map group_row (keys_of es) ≡ rows group_row es
keys_are_rows [] = refl
keys_are_rows (e ∷ es) = ap (λ l. group_row e.0 ∷ l) (keys_are_rows es)

-- the keys of an ordered map are its key rows, each once
pub groups_stay : {X : Type 0} (es : List (Vec Value × X)) → IsStrictlySortedBy key_cmp (keys_of es) → distinct row_cmp (rows group_row es) ≡ rows group_row es
groups_stay es up = ap (distinct row_cmp) (sym (keys_are_rows es)) ∙ ascending_stays row_cmp row_linear group_row (keys_of es) (subst (λ c. IsStrictlySortedBy c (keys_of es)) group_order up) ∙ keys_are_rows es
