-- NamedLemmas: fields with their values, one after the other.
use Rattle.std.proofs.Common.{◌≡◌, ℕ, zero, suc, ◌+◌, ◌<◌, ◌≤◌, List, [], ◌∷◌, ◌++◌, drop, map, length, get_or, Some, None, refl, sym, ap, ap₂, ◌∙◌, arith}
use Rattle.std.specs.List.{slice_get, zip}
use Rattle.std.proofs.lemmas.List.{append_assoc, append-nil, length-map, drop_all}
use Rattle.std.proofs.lemmas.Option.{slice_get-map}
use Rattle.std.specs.Option.{option_map}
use Rattle.gq_value.specs.Val.{Val}
use Rattle.gq_value.specs.Views.{val}
use Rattle.gq_value.specs.Accums.{Base}
use Rattle.gq_value.specs.AccumViews.{base_of}
use Rattle.gq_value.specs.declared.kind.BaseType.{BaseType}
use Rattle.gq_value.specs.declared.value.Value.{Value}
use Rattle.gq_json.specs.declared.out.Out.{Out}
use Rattle.gq_rules_typing.specs.Statements.{Bytes}
use Rattle.gq_rules_typing.specs.Sorts.{Fields}
use Rattle.gq_rules_meaning.specs.Expressions.{World}
use Rattle.gq_plan_ir.specs.Reference.{Reference}
use Rattle.gq_eval_attributes.specs.declared.tuple_type.TupleType.{TupleType}
use Rattle.gq_eval_attributes.specs.Tuples.{fields_in}
use Rattle.gq_output.specs.Printed.{key_fields, value_shown, named_shown}

-- ---- items at places

drop_suc : {A : Type 0} (xs : List A) (i : ℕ) (x : A) → slice_get xs i ≡ Some x → drop i xs ≡ x ∷ drop (suc i) xs
drop_suc [] i x e = absurd (cc e)
drop_suc (y ∷ xs) zero x e = ap (λ z. z ∷ xs) (cc e)
drop_suc (y ∷ xs) (suc i) x e = drop_suc xs i x e

pub drop_at : {A : Type 0} (xs : List A) (i : ℕ) (x : A) → slice_get xs i ≡ Some x → drop i xs ≡ x ∷ drop (i + 1) xs
drop_at xs i x e = drop_suc xs i x e ∙ ap (λ n. x ∷ drop n xs) (let z : suc i ≡ i + 1 = omega arith in z)

pub at_get : {A : Type 0} (xs : List A) (i : ℕ) (x : A) → i < length xs → x ≡ get_or xs i x → slice_get xs i ≡ Some x
at_get [] i x l e = absurd (omega (arith, l))
at_get (y ∷ xs) zero x l e = ap Some (sym e)
at_get (y ∷ xs) (suc i) x l e = at_get xs i x (omega (arith, l)) e

pub mapped_at : {A B : Type 0} (f : A → B) (xs : List A) (i : ℕ) (x : A) → slice_get xs i ≡ Some x → slice_get (map f xs) i ≡ Some (f x)
mapped_at f xs i x e = slice_get-map f xs i ∙ ap (option_map f) e

zip_at : {A B : Type 0} (xs : List A) (ys : List B) (i : ℕ) (x : A) (y : B) → slice_get xs i ≡ Some x → slice_get ys i ≡ Some y → slice_get (zip xs ys) i ≡ Some (x, y)
zip_at [] ys i x y e f = absurd (cc e)
zip_at (x' ∷ xs) [] i x y e f = absurd (cc f)
zip_at (x' ∷ xs) (y' ∷ ys) zero x y e f = ap₂ (λ a b. Some (a, b)) (cc e) (cc f)
zip_at (x' ∷ xs) (y' ∷ ys) (suc i) x y e f = zip_at xs ys i x y e f

-- a place with no item is past the end
pub past_end : {A : Type 0} (xs : List A) (i : ℕ) → slice_get xs i ≡ None → length xs ≤ i
past_end [] i e = omega arith
past_end (x ∷ xs) zero e = absurd (cc e)
past_end (x ∷ xs) (suc i) e = let n = past_end xs i e in omega (arith, n)

zip_no_left : {A B : Type 0} (xs : List A) (ys : List B) (i : ℕ) → slice_get xs i ≡ None → slice_get (zip xs ys) i ≡ None
zip_no_left [] ys i e = refl
zip_no_left (x ∷ xs) [] i e = refl
zip_no_left (x ∷ xs) (y ∷ ys) zero e = absurd (cc e)
zip_no_left (x ∷ xs) (y ∷ ys) (suc i) e = zip_no_left xs ys i e

zip_no_right : {A B : Type 0} (xs : List A) (ys : List B) (i : ℕ) → slice_get ys i ≡ None → slice_get (zip xs ys) i ≡ None
zip_no_right [] ys i e = refl
zip_no_right (x ∷ xs) [] i e = refl
zip_no_right (x ∷ xs) (y ∷ ys) zero e = absurd (cc e)
zip_no_right (x ∷ xs) (y ∷ ys) (suc i) e = zip_no_right xs ys i e

nothing_mapped : {A B : Type 0} (f : A → B) (xs : List A) (i : ℕ) → slice_get xs i ≡ None → slice_get (map f xs) i ≡ None
nothing_mapped f xs i e = slice_get-map f xs i ∙ ap (option_map f) e

pub field_at : (t : TupleType) (i : ℕ) (name : Bytes) (b : BaseType) → slice_get t.names i ≡ Some name → slice_get t.types i ≡ Some b → slice_get (fields_in t) i ≡ Some (name, base_of b)
field_at t i name b e f = mapped_at (λ g. (g.0, base_of g.1)) (zip t.names t.types) i (name, b) (zip_at t.names t.types i name b e f)

pub no_field_name : (t : TupleType) (i : ℕ) → slice_get t.names i ≡ None → slice_get (fields_in t) i ≡ None
no_field_name t i e = nothing_mapped (λ g. (g.0, base_of g.1)) (zip t.names t.types) i (zip_no_left t.names t.types i e)

pub no_field_type : (t : TupleType) (i : ℕ) → slice_get t.types i ≡ None → slice_get (fields_in t) i ≡ None
no_field_type t i e = nothing_mapped (λ g. (g.0, base_of g.1)) (zip t.names t.types) i (zip_no_right t.names t.types i e)

pub ruleset place_laws = (field_at, no_field_name, no_field_type)

-- ---- fields with their values

module _ (world : World Reference) where
  no_field : (vs : List Val) → named_shown world [] vs ≡ []
  no_field vs = refl

  no_value : (fs : Fields) → named_shown world fs [] ≡ []
  no_value [] = refl
  no_value (f ∷ fs) = refl

  -- the members so far, followed by the fields from a place on
  abbrev pub NamedFrom : Fields → List Val → List (Bytes × Out) → List (Bytes × Out) → ℕ → Type 0
  NamedFrom fs vs whole done i = done ++ named_shown world (drop i fs) (drop i vs) ≡ whole

  pub named_first : (fs : Fields) (vs : List Val) (old : List (Bytes × Out)) → NamedFrom fs vs (old ++ named_shown world fs vs) old 0
  named_first fs vs old = refl

  pub named_next : (fs : Fields) (vs : List Val) (whole done new : List (Bytes × Out)) (i : ℕ) (name : Bytes) (b : Base) (v : Val) → NamedFrom fs vs whole done i
      → slice_get fs i ≡ Some (name, b) → slice_get vs i ≡ Some v → new ≡ done ++ (name, value_shown world b v) ∷ [] → NamedFrom fs vs whole new (i + 1)
  named_next fs vs whole done new i name b v inv e f is =
      ap (λ ms. ms ++ rest) is
      ∙ append_assoc done ((name, value_shown world b v) ∷ []) rest
      ∙ ap (λ ms. done ++ ms) (sym (ap₂ (named_shown world) (drop_at fs i (name, b) e) (drop_at vs i v f)))
      ∙ inv
    where
      rest : List (Bytes × Out)
      rest = named_shown world (drop (i + 1) fs) (drop (i + 1) vs)

  pub named_values : (fs : Fields) (vs : List Val) (whole done : List (Bytes × Out)) (i : ℕ) → NamedFrom fs vs whole done i → length vs ≤ i → done ≡ whole
  named_values fs vs whole done i inv l = sym (append-nil done) ∙ ap (λ ms. done ++ ms) (sym (ap (named_shown world (drop i fs)) (drop_all i vs l) ∙ no_value (drop i fs))) ∙ inv

  pub named_fields : (fs : Fields) (vs : List Val) (whole done : List (Bytes × Out)) (i : ℕ) → NamedFrom fs vs whole done i → length fs ≤ i → done ≡ whole
  named_fields fs vs whole done i inv l = sym (append-nil done) ∙ ap (λ ms. done ++ ms) (sym (ap (λ gs. named_shown world gs (drop i vs)) (drop_all i fs l))) ∙ inv

  pub named_past : (fs : Fields) (vs : List Val) (whole done : List (Bytes × Out)) (i : ℕ) → NamedFrom fs vs whole done i → slice_get fs i ≡ None → done ≡ whole
  named_past fs vs whole done i inv e = named_fields fs vs whole done i inv (past_end fs i e)

  -- the same for values of the code
  pub row_field : (fs : Fields) (row : List Value) (whole done new : List (Bytes × Out)) (i : ℕ) (name : Bytes) (b : Base) (v : Value) → NamedFrom fs (map val row) whole done i
      → slice_get fs i ≡ Some (name, b) → slice_get row i ≡ Some v → new ≡ done ++ (name, value_shown world b (val v)) ∷ [] → NamedFrom fs (map val row) whole new (i + 1)
  row_field fs row whole done new i name b v inv e f is = named_next fs (map val row) whole done new i name b (val v) inv e (mapped_at val row i v f) is

  pub tuple_next : (fs : Fields) (row : List Value) (whole done new : List (Bytes × Out)) (i : ℕ) (name : Bytes) (b : Base) (v : Value) → NamedFrom fs (map val row) whole done i
      → slice_get fs i ≡ Some (name, b) → i < length row → v ≡ get_or row i v → new ≡ done ++ (name, value_shown world b (val v)) ∷ [] → NamedFrom fs (map val row) whole new (i + 1)
  tuple_next fs row whole done new i name b v inv e l f is = row_field fs row whole done new i name b v inv e (at_get row i v l f) is

  pub key_next : (keys : List (Bytes × BaseType)) (row : List Value) (whole done new : List (Bytes × Out)) (i : ℕ) (key : Bytes × BaseType) (v : Value) → NamedFrom (key_fields keys) (map val row) whole done i → i < length keys → key ≡ get_or keys i key
      → i < length row → v ≡ get_or row i v → new ≡ done ++ (key.0, value_shown world (base_of key.1) (val v)) ∷ [] → NamedFrom (key_fields keys) (map val row) whole new (i + 1)
  key_next keys row whole done new i key v inv l e m f is =
      row_field (key_fields keys) row whole done new i key.0 (base_of key.1) v inv (mapped_at (λ (k : Bytes × BaseType). (k.0, base_of k.1)) keys i key (at_get keys i key l e)) (at_get row i v m f) is

  pub keys_through : (keys : List (Bytes × BaseType)) (row : List Value) (whole done : List (Bytes × Out)) (i : ℕ) → NamedFrom (key_fields keys) (map val row) whole done i → length keys ≤ i → done ≡ whole
  keys_through keys row whole done i inv l = named_fields (key_fields keys) (map val row) whole done i inv (let m = length-map {B = Bytes × Base} keys (λ (k : Bytes × BaseType). (k.0, base_of k.1)) in omega (arith, m, l))

  pub row_fields : (fs : Fields) (row : List Value) (whole done : List (Bytes × Out)) (i : ℕ) → NamedFrom fs (map val row) whole done i → length row ≤ i → done ≡ whole
  row_fields fs row whole done i inv l = named_values fs (map val row) whole done i inv (let m = length-map row val in omega (arith, m, l))

-- ---- values in order

module _ {A B : Type 0} (f : A → B) where
  pub row_next : (xs : List A) (done new : List B) (i : ℕ) (x : A) → done ++ map f (drop i xs) ≡ map f xs → i < length xs → x ≡ get_or xs i x → new ≡ done ++ f x ∷ [] → new ++ map f (drop (i + 1) xs) ≡ map f xs
  row_next xs done new i x inv l e is =
      ap (λ ys. ys ++ map f (drop (i + 1) xs)) is
      ∙ append_assoc done (f x ∷ []) (map f (drop (i + 1) xs))
      ∙ ap (λ ys. done ++ map f ys) (sym (drop_at xs i x (at_get xs i x l e)))
      ∙ inv

  pub row_all : (xs : List A) (done : List B) (i : ℕ) → done ++ map f (drop i xs) ≡ map f xs → length xs ≤ i → done ≡ map f xs
  row_all xs done i inv l = sym (append-nil done) ∙ ap (λ ys. done ++ map f ys) (sym (drop_all i xs l)) ∙ inv

-- values of an ordered set, given the rest of it
pub kept_more : {A B : Type 0} (f : A → B) (done new whole : List B) (left rest : List A) (x : A) → left ≡ x ∷ rest → done ++ map f left ≡ whole → new ≡ done ++ f x ∷ [] → new ++ map f rest ≡ whole
kept_more f done new whole left rest x e inv is = ap (λ ys. ys ++ map f rest) is ∙ append_assoc done (f x ∷ []) (map f rest) ∙ ap (λ ys. done ++ map f ys) (sym e) ∙ inv

pub kept_all : {A B : Type 0} (f : A → B) (done whole : List B) (left : List A) → left ≡ [] → done ++ map f left ≡ whole → done ≡ whole
kept_all f done whole left e inv = sym (append-nil done) ∙ ap (λ ys. done ++ map f ys) (sym e) ∙ inv

pub ruleset row_laws = (row_next, row_all)

pub ruleset field_laws = (tuple_next, row_fields)

pub ruleset key_laws = (key_next, keys_through)
