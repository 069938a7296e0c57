-- TupleLemmas: tuple types by name, and their fields by number.
use Rattle.std.proofs.Common.{ℕ, suc, ◌+◌, ◌≡◌, ◌∙◌, cond, List, [], ◌∷◌, map, Option, Some, None, refl, ap, sym, arith}
use Rattle.std.specs.Str.{bytes_eq}
use Rattle.std.specs.Option.{option_map, unwrap_or}
use Rattle.std.specs.List.{slice_get, position, position_from}
use Rattle.std.proofs.lemmas.Iterator.Adapters.{position_from-zero}
use Rattle.gq_value.specs.declared.kind.BaseType.{BaseType}
use Rattle.gq_value.specs.AccumViews.{base_of}
use Rattle.gq_rules_typing.specs.Statements.{Bytes, OfTuple}
use Rattle.gq_rules_typing.specs.Sorts.{Fields, names_of, bases_of}
use Rattle.gq_rules_typing.specs.Words.{Setting}
use Rattle.gq_rules_typing.specs.FieldTypes.{tuple_fields}
use Rattle.gq_rules_typing.specs.KindTypes.{tuple_from, tuple_named, elem_written}
use Rattle.gq_scope.specs.Held.{Held, fields_of, setting_in, scope_in}
use Rattle.gq_check_decls.specs.Written.{tuple_written}

-- ---- by name

from_is : (x : Bytes) (n : ℕ) (ts : List (Bytes × Fields)) → tuple_from bytes_eq x n ts ≡ position_from (λ (t : Bytes × Fields). bytes_eq t.0 x) n ts
from_is x n [] = refl
from_is x n (t ∷ ts) =
    ap (cond (bytes_eq t.0 x) (Some n))
    (from_is x (suc n) ts ∙ ap (λ m. position_from (λ (u : Bytes × Fields). bytes_eq u.0 x) m ts) (let e : suc n ≡ n + 1 = omega arith in e))

-- the scope finds the place of the first one
pub tuple_named_is : (h : Held) (x : Bytes) → tuple_named (setting_in h) x ≡ position (λ (t : Bytes × Fields). bytes_eq t.0 x) (setting_in h).tuples
unfolding setting_in
tuple_named_is h x = from_is x 0 (setting_in h).tuples ∙ sym (position_from-zero (λ (t : Bytes × Fields). bytes_eq t.0 x) (setting_in h).tuples)

pub elem_tuple : (h : Held) (x : Bytes) → elem_written (scope_in h) (OfTuple x) ≡ tuple_written (setting_in h) x
unfolding scope_in setting_in
elem_tuple h x = refl

pub ruleset tuple_laws = (tuple_named_is, elem_tuple)

-- ---- fields by number

fields_at : (setting : Setting Bytes) (n : ℕ) (o : Option (Bytes × Fields)) → slice_get setting.tuples n ≡ o → tuple_fields setting n ≡ unwrap_or (option_map (λ (t : Bytes × Fields). t.1) o) []
fields_at setting n None e = rw e refl
fields_at setting n (Some t) e = rw e refl

pub fields_are : (setting : Setting Bytes) (n : ℕ) (m : Option Fields) → m ≡ option_map (λ (t : Bytes × Fields). t.1) (slice_get setting.tuples n) → tuple_fields setting n ≡ unwrap_or m []
fields_are setting n m e = fields_at setting n (slice_get setting.tuples n) refl ∙ ap (λ p. unwrap_or p []) (sym e)

-- ---- names and types of fields

pub names_are : (fs : List (Bytes × BaseType)) → names_of (fields_of fs) ≡ map (λ (f : Bytes × BaseType). f.0) fs
names_are [] = refl
names_are (f ∷ fs) = ap (λ ns. f.0 ∷ ns) (names_are fs)

pub bases_are : (fs : List (Bytes × BaseType)) → bases_of (fields_of fs) ≡ map (λ (f : Bytes × BaseType). base_of f.1) fs
bases_are [] = refl
bases_are (f ∷ fs) = ap (λ bs. base_of f.1 ∷ bs) (bases_are fs)

pub ruleset field_laws = (names_are, bases_are)
