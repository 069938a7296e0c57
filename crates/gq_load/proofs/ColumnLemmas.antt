-- Names that the header lacks, by column and by destination.
use Rattle.std.proofs.Common.{◌≡◌, ℕ, ◌+◌, List, [], ◌∷◌, ◌++◌, take, drop, Option, Some, None, map, refl, sym, ap, ◌∙◌}
use Rattle.std.specs.Prelude.{slice_get, find, Err}
use Rattle.std.specs.Option.{option_map, option_or}
use Rattle.std.proofs.lemmas.List.{map-append}
use Rattle.std.proofs.lemmas.List.Folds.{find-append}
use Rattle.gq_tree.specs.declared.job.Column.{Column}
use Rattle.gq_load_check.specs.declared.job.LoadInto.{LoadInto}
use Rattle.gq_load.specs.declared.fault.LoadFault.{LoadFault}
use Rattle.gq_load.specs.declared.fault.LoadFault.TheVariants as fault
use Rattle.gq_load.specs.Columns.{Fields, is_missing, missing_name, name_in, columns_of, Names}
use Rattle.gq_load.proofs.ListLemmas.{from_place, to_place}

-- the names of one destination come before those of the others
names_of : (header : Option Fields) (own others : List Column) → missing_name header (own ++ others) ≡ option_or (missing_name header own) (missing_name header others)
names_of header own others = ap (option_map name_in) (find-append (is_missing header) own others) ∙ over (find (is_missing header) own) (find (is_missing header) others)
  where
    over : (a b : Option Column) → option_map name_in (option_or a b) ≡ option_or (option_map name_in a) (option_map name_in b)
    over None b = refl
    over (Some x) b = refl

-- what an answer says of one destination's columns, given those before it
pub names_here : (A B : Type 0) (header : Option Fields) (destinations : List LoadInto) (i : ℕ) (into : LoadInto) (f : LoadFault) → slice_get destinations i ≡ Some into
    → missing_name header (columns_of destinations) ≡ missing_name header (columns_of (drop i destinations))
    → Names {A = A} (missing_name header into.columns) (Err f) → Names {A = B} (missing_name header (columns_of destinations)) (Err f)
names_here A B header destinations i into (fault.NoColumn name) at so_far is =
    so_far ∙ ap (λ ds. missing_name header (columns_of ds)) (from_place destinations i into at) ∙ names_of header into.columns (columns_of (drop (i + 1) destinations))
    ∙ ap (λ (o : Option (List ℕ)). option_or o (missing_name header (columns_of (drop (i + 1) destinations)))) is
names_here A B header destinations i into fault.Full at so_far is = is
names_here A B header destinations i into fault.OutOfMemory at so_far is = is

pub names_more : (header : Option Fields) (destinations : List LoadInto) (i : ℕ) (into : LoadInto) → slice_get destinations i ≡ Some into
    → missing_name header (columns_of destinations) ≡ missing_name header (columns_of (drop i destinations))
    → missing_name header into.columns ≡ None
    → missing_name header (columns_of destinations) ≡ missing_name header (columns_of (drop (i + 1) destinations))
names_more header destinations i into at so_far none =
    so_far ∙ ap (λ ds. missing_name header (columns_of ds)) (from_place destinations i into at) ∙ names_of header into.columns (columns_of (drop (i + 1) destinations))
    ∙ ap (λ (o : Option (List ℕ)). option_or o (missing_name header (columns_of (drop (i + 1) destinations)))) none

pub mapped_more : {A B : Type 0} (f : A → B) (xs : List A) (ys : List B) (i : ℕ) (x : A) → slice_get xs i ≡ Some x → ys ≡ map f (take i xs) → ys ++ f x ∷ [] ≡ map f (take (i + 1) xs)
mapped_more {A} {B} f xs ys i x at is = ap (λ zs. zs ++ f x ∷ []) is ∙ sym (map-append f (take i xs) (x ∷ [])) ∙ ap (map f) (sym (to_place xs i x at))
