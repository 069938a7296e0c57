-- RecordFits: the rows that the records of a LOAD and an INSERT put are of their types.
use Rattle.std.proofs.Common.{◌≡◌, ℕ, suc, ◌-◌, ◌<◌, ℤ, Bool, true, false, cond, List, [], ◌∷◌, ◌++◌, length, map, All, Option, Some, None, refl, sym, ap, ◌∙◌, subst, arith}
use Rattle.std.proofs.lemmas.List.{length-map}
use Rattle.std.proofs.lemmas.List.Quantifiers.{position-Some}
use Rattle.std.specs.Prelude.{◌&&◌, ◌==◌, nat_lt, is_some, bytes_eq, option_and_then}
use Rattle.std.specs.Str.{is_utf8}
use Rattle.std.specs.Option.{option_map, option_or}
use Rattle.csv.specs.Records.{field_at}
use Rattle.gq_time.specs.Reading.{trimmed}
use Rattle.gq_time.proofs.ReadingLemmas.{tells_in_range}
use Rattle.gq_value.specs.Arithmetic.{is_within}
use Rattle.gq_value.specs.declared.kind.Number.TheVariants as number
use Rattle.gq_value.specs.declared.value.Value.{Value}
use Rattle.gq_value.specs.declared.value.Value.TheVariants as value
use Rattle.gq_value.specs.Views.{val}
use Rattle.gq_value.specs.ViewLaws.{val-Int, val-UInt, val-Bool, val-Text}
use Rattle.gq_graph.specs.Catalog.{Schema, vertex_names, edge_names, vertex_type_of, edge_type_of}
use Rattle.gq_graph.specs.Defaults.{Sort, INT, UINT, BOOL, STRING, DATETIME, OTHER, sort_of}
use Rattle.gq_graph.specs.declared.types.Attribute.{Attribute}
use Rattle.gq_graph.specs.declared.types.VertexType.{VertexType}
use Rattle.gq_graph.specs.declared.types.EdgeType.{EdgeType}
use Rattle.gq_tree.specs.Signed.{signed}
use Rattle.gq_tree.specs.declared.schema.InsertTree.{InsertTree}
use Rattle.gq_tree.specs.declared.schema.Literal.{Literal}
use Rattle.gq_tree.specs.declared.schema.Literal.TheVariants as literal
use Rattle.gq_load_csv.specs.Fields.{TellsTimes, default_of, may_be_blank, is_blank, value_in, field_value, key_value}
use Rattle.gq_load_csv.specs.Texts.{int_in, uint_in, truth_in}
use Rattle.gq_load_check.specs.declared.job.LoadInto.{LoadInto}
use Rattle.gq_load_check.specs.declared.job.Target.{Target}
use Rattle.gq_load_check.specs.declared.job.Target.TheVariants as target
use Rattle.gq_load_check.specs.declared.insert.Endpoint.{Endpoint}
use Rattle.gq_load_check.specs.declared.insert.Insert.{Insert}
use Rattle.gq_load_check.specs.declared.insert.Insert.TheVariants as insert
use Rattle.gq_load_check.specs.Fits.{IntoFits}
use Rattle.gq_load_check.specs.Targets.{no_vertex_type, no_edge_type, vertex_type_at, edge_type_at, HasTarget}
use Rattle.gq_index.specs.declared.store.Store.{Store}
use Rattle.gq_index.specs.Steps.{Step, after, after_all, is_refused, AllTaken, Done}
use Rattle.gq_load.specs.Columns.{Fields}
use Rattle.gq_load.specs.Inserts.{steps_of_insert}
use Rattle.gq_load.specs.declared.route.Route.{Route}
use Rattle.gq_load.specs.Routes.{defaults_of, from_defaults, to_defaults, route_of}
use Rattle.gq_load.specs.Rows.{is_short, value_of, and_values, values_of, id_of, vertex_steps, joined_steps, steps_by, steps_along, and_steps, steps_of}
use Rattle.gq_load.specs.Records.{Short, judged_as, judged, steps_from}
use Rattle.gq_load.specs.Loads.{all_steps}
use Rattle.gq_load.specs.Puts.{put_all}
use Rattle.gq_load.specs.PutLaws.{done_begun}
use Rattle.gq_insert.specs.Fits.{is_value, row_fits, AttributeFits, IsSound}
use Rattle.gq_insert.specs.Inserts.{if_fits, number_value, truth_value, text_value, literal_value, attribute_value, value_and, row_of, given_id, end_with, end_of, vertex_with, both, edge_with, insert_of, vertex_target, edge_target, target_named, insert_named}
use Rattle.gq_insert.proofs.FitLemmas.{default_fits, default_row_fits, time_fits}
use Rattle.gq_rules_store.specs.Stores.{VertexRowFits}
use Rattle.gq_rules_store.specs.Upserts.{StepsFit}
use Rattle.gq_rules_store.proofs.UpsertFits.{upsert_law}
use Rattle.gq_rules_store.specs.Records.{RecordLaw, InsertLaw, PutLaw}

-- ---- what there is

some_same : {A : Type 0} (x y : A) → Some x ≡ Some y → x ≡ y
some_same x y e = cc

-- an image is that of something
image : {A B : Type 0} (f : A → B) (o : Option A) (b : B) → option_map f o ≡ Some b → (a : A) × (o ≡ Some a) × (f a ≡ b)
image f None b e = absurd (cc e)
image f (Some a) b e = (a, refl, some_same (f a) b e)

let_through : {A : Type 0} (t : Bool) (o : Option A) (a : A) → cond t o None ≡ Some a → o ≡ Some a
let_through true o a e = e
let_through false o a e = absurd (cc e)

fitted : {A : Type 0} (t : Bool) (x y : A) → if_fits t x ≡ Some y → x ≡ y
fitted true x y e = some_same x y e
fitted false x y e = absurd (cc e)

both_true : (a b : Bool) → a ≡ true → b ≡ true → (a && b) ≡ true
both_true a b first second = ap (λ x. x && b) first ∙ second

-- ---- values

int_fits : (o : Option ℤ) (v : Value) → option_map value.Int o ≡ Some v → is_value INT (val v) ≡ true
int_fits o v e = let i = image value.Int o v e in ap (λ x. is_value INT (val x)) (sym i.2) ∙ ap (is_value INT) (val-Int i.0)

uint_fits : (o : Option ℕ) (v : Value) → option_map value.UInt o ≡ Some v → is_value UINT (val v) ≡ true
uint_fits o v e = let i = image value.UInt o v e in ap (λ x. is_value UINT (val x)) (sym i.2) ∙ ap (is_value UINT) (val-UInt i.0)

truth_fits : (o : Option Bool) (v : Value) → option_map value.Bool o ≡ Some v → is_value BOOL (val v) ≡ true
truth_fits o v e = let i = image value.Bool o v e in ap (λ x. is_value BOOL (val x)) (sym i.2) ∙ ap (is_value BOOL) (val-Bool i.0)

text_fits : (text : List ℕ) (v : Value) → Some (value.Text text) ≡ Some v → is_value STRING (val v) ≡ true
text_fits text v e = ap (λ x. is_value STRING (val x)) (sym (some_same (value.Text text) v e)) ∙ ap (is_value STRING) (val-Text text)

-- an attribute's default
own_fits : (a : Attribute) → AttributeFits a → (v : Value) → Some (default_of a) ≡ Some v → is_value (sort_of a.kind) (val v) ≡ true
own_fits a fits v e = ap (λ x. is_value (sort_of a.kind) (val x)) (sym (some_same (default_of a) v e)) ∙ default_fits a fits

module _ (read : List ℕ → Option ℤ) (tells : TellsTimes read) where
  times_fit : (text : List ℕ) (v : Value) → option_map value.Int (read text) ≡ Some v → is_value DATETIME (val v) ≡ true
  times_fit text v e =
      let i = image value.Int (read text) v e in
      ap (λ x. is_value DATETIME (val x)) (sym i.2) ∙ time_fits i.0 (tells_in_range (trimmed text) i.0 ((tells text i.0).0 i.1))

  -- ---- fields

  in_fits : (s : Sort) (field : List ℕ) (v : Value) → value_in read s field ≡ Some v → is_value s (val v) ≡ true
  in_fits INT field v e = int_fits (int_in (trimmed field)) v e
  in_fits UINT field v e = uint_fits (uint_in (trimmed field)) v e
  in_fits BOOL field v e = truth_fits (truth_in (trimmed field)) v e
  in_fits STRING field v e = text_fits field v (let_through (is_utf8 field) (Some (value.Text field)) v e)
  in_fits DATETIME field v e = times_fit field v (let_through (is_utf8 field) (option_map value.Int (read field)) v e)
  in_fits OTHER field v e = absurd (cc e)

  field_fits : (a : Attribute) → AttributeFits a → (field : List ℕ) (v : Value) → field_value read a field ≡ Some v → is_value (sort_of a.kind) (val v) ≡ true
  field_fits a fits field v e = by (may_be_blank (sort_of a.kind) && is_blank field) e
    where
      by : (t : Bool) → cond t (Some (default_of a)) (value_in read (sort_of a.kind) field) ≡ Some v → is_value (sort_of a.kind) (val v) ≡ true
      by true own = own_fits a fits v own
      by false other = in_fits (sort_of a.kind) field v other

  key_fits : (a : Attribute) (field : List ℕ) (v : Value) → key_value read a field ≡ Some v → is_value (sort_of a.kind) (val v) ≡ true
  key_fits a field v e = by (length field == 0) e
    where
      by : (t : Bool) → cond t None (value_in read (sort_of a.kind) field) ≡ Some v → is_value (sort_of a.kind) (val v) ≡ true
      by true none = absurd (cc none)
      by false other = in_fits (sort_of a.kind) field v other

  one_fits : (key : Bool) (a : Attribute) → AttributeFits a → (field : List ℕ) (v : Value) → cond key (key_value read a field) (field_value read a field) ≡ Some v
      → is_value (sort_of a.kind) (val v) ≡ true
  one_fits true a fits field v e = key_fits a field v e
  one_fits false a fits field v e = field_fits a fits field v e

  source_fits : (key : Bool) (a : Attribute) → AttributeFits a → (source : Option ℕ) (fields : Fields) (v : Value) → value_of read key a source fields ≡ Some v
      → is_value (sort_of a.kind) (val v) ≡ true
  source_fits key a fits None fields v e = own_fits a fits v e
  source_fits key a fits (Some n) fields v e = by (field_at fields n) e
    where
      by : (o : Option (List ℕ)) → option_and_then (λ field. cond key (key_value read a field) (field_value read a field)) o ≡ Some v → is_value (sort_of a.kind) (val v) ≡ true
      by None none = absurd (cc none)
      by (Some field) some = one_fits key a fits field v some

  -- a value for each attribute
  values_fit : (keys : ℕ) (attributes : List Attribute) → All AttributeFits attributes → (sources : List (Option ℕ)) (fields : Fields) (row : List Value)
      → values_of read keys attributes sources fields ≡ Some row → row_fits attributes row ≡ true
  values_fit keys [] fits sources fields row e = subst (λ r. row_fits [] r ≡ true) (some_same [] row e) refl
  values_fit keys (a ∷ attributes) fits [] fields row e = absurd (cc e)
  values_fit keys (a ∷ attributes) fits (source ∷ sources) fields row e =
      by (value_of read (nat_lt 0 keys) a source fields) refl e (values_fit (keys - 1) attributes (λ k d low. fits (suc k) d (omega arith)) sources fields)
    where
      by : (o : Option Value) → value_of read (nat_lt 0 keys) a source fields ≡ o
          → option_and_then (λ v. and_values v (values_of read (keys - 1) attributes sources fields)) o ≡ Some row
          → ((r : List Value) → values_of read (keys - 1) attributes sources fields ≡ Some r → row_fits attributes r ≡ true) → row_fits (a ∷ attributes) row ≡ true
      by None is none rest = absurd (cc none)
      by (Some v) is some rest =
          let i = image (λ vs. v ∷ vs) (values_of read (keys - 1) attributes sources fields) row some in
          subst (λ r. row_fits (a ∷ attributes) r ≡ true) i.2
          (both_true (is_value (sort_of a.kind) (val v)) (row_fits attributes i.0) (source_fits (nat_lt 0 keys) a (fits 0 a (omega arith)) source fields v is) (rest i.0 i.1))

  -- ---- literals

  number_fits : (s : Sort) (minus : Bool) (n : ℕ) (v : Value) → number_value s minus n ≡ Some v → is_value s (val v) ≡ true
  number_fits INT minus n v e =
      ap (λ x. is_value INT (val x)) (sym (fitted (is_within number.Int (signed minus n)) (value.Int (signed minus n)) v e)) ∙ ap (is_value INT) (val-Int (signed minus n))
  number_fits UINT minus n v e =
      ap (λ x. is_value UINT (val x)) (sym (fitted (is_within number.UInt (signed minus n)) (value.UInt n) v e)) ∙ ap (is_value UINT) (val-UInt n)
  number_fits BOOL minus n v e = absurd (cc e)
  number_fits STRING minus n v e = absurd (cc e)
  number_fits DATETIME minus n v e = absurd (cc e)
  number_fits OTHER minus n v e = absurd (cc e)

  said_fits : (s : Sort) (b : Bool) (v : Value) → truth_value s b ≡ Some v → is_value s (val v) ≡ true
  said_fits BOOL b v e = truth_fits (Some b) v e
  said_fits INT b v e = absurd (cc e)
  said_fits UINT b v e = absurd (cc e)
  said_fits STRING b v e = absurd (cc e)
  said_fits DATETIME b v e = absurd (cc e)
  said_fits OTHER b v e = absurd (cc e)

  written_fits : (s : Sort) (text : List ℕ) (v : Value) → text_value read s text ≡ Some v → is_value s (val v) ≡ true
  written_fits STRING text v e = text_fits text v e
  written_fits DATETIME text v e = times_fit text v e
  written_fits INT text v e = absurd (cc e)
  written_fits UINT text v e = absurd (cc e)
  written_fits BOOL text v e = absurd (cc e)
  written_fits OTHER text v e = absurd (cc e)

  literal_fits : (s : Sort) (l : Literal) (v : Value) → literal_value read s l ≡ Some v → is_value s (val v) ≡ true
  literal_fits s (literal.Number minus n) v e = number_fits s minus n v e
  literal_fits s (literal.Text text) v e = written_fits s text v e
  literal_fits s (literal.Truth b) v e = said_fits s b v e

  given_fits : (a : Attribute) → AttributeFits a → (l : Option Literal) (v : Value) → attribute_value read a l ≡ Some v → is_value (sort_of a.kind) (val v) ≡ true
  given_fits a fits None v e = own_fits a fits v e
  given_fits a fits (Some l) v e = literal_fits (sort_of a.kind) l v e

  row_given : (attributes : List Attribute) → All AttributeFits attributes → (values : List (Option Literal)) (row : List Value) → row_of read attributes values ≡ Some row
      → row_fits attributes row ≡ true
  row_given [] fits [] row e = subst (λ r. row_fits [] r ≡ true) (some_same [] row e) refl
  row_given [] fits (l ∷ values) row e = absurd (cc e)
  row_given (a ∷ attributes) fits [] row e = absurd (cc e)
  row_given (a ∷ attributes) fits (l ∷ values) row e =
      by (attribute_value read a l) refl (row_of read attributes values) e (row_given attributes (λ k d low. fits (suc k) d (omega arith)) values)
    where
      by : (o : Option Value) → attribute_value read a l ≡ o → (p : Option (List Value)) → value_and o p ≡ Some row
          → ((r : List Value) → p ≡ Some r → row_fits attributes r ≡ true) → row_fits (a ∷ attributes) row ≡ true
      by None is p none rest = absurd (cc none)
      by (Some v) is None none rest = absurd (cc none)
      by (Some v) is (Some r) some rest =
          subst (λ r. row_fits (a ∷ attributes) r ≡ true) (some_same (v ∷ r) row some)
          (both_true (is_value (sort_of a.kind) (val v)) (row_fits attributes r) (given_fits a (fits 0 a (omega arith)) l v is) (rest r refl))

  -- ---- upserts

  module _ (schema : Schema) (sound : IsSound schema) where
    vertex_attributes : (n : ℕ) → n < length schema.vertex_types → All AttributeFits (vertex_type_at schema n).attributes
    vertex_attributes n low = sound.vertex_types n no_vertex_type low

    edge_attributes : (n : ℕ) → n < length schema.edge_types → All AttributeFits (edge_type_at schema n).attributes
    edge_attributes n low = (sound.edge_types n no_edge_type low).attributes

    -- the row of an end that doesn't exist yet
    end_fits : (n : ℕ) (id : List ℕ) → n < length schema.vertex_types → VertexRowFits schema (record { kind = n; id = id; attributes = defaults_of schema n })
    end_fits n id low = record { there = low; values = default_row_fits (vertex_type_at schema n).attributes (vertex_attributes n low) }

    end_is : (n : ℕ) (id : List ℕ) (missing : List Value) → n < length schema.vertex_types → missing ≡ defaults_of schema n
        → VertexRowFits schema (record { kind = n; id = id; attributes = missing })
    end_is n id missing low is = subst (λ (vs : List Value). VertexRowFits schema (record { kind = n; id = id; attributes = vs })) (sym is) (end_fits n id low)

    -- ---- records

    vertex_along : (n : ℕ) → n < length schema.vertex_types → (i : Option (List ℕ)) (o : Option (List Value))
        → ((row : List Value) → o ≡ Some row → row_fits (vertex_type_at schema n).attributes row ≡ true) → (steps : List Step) → vertex_steps n i o ≡ Some steps → StepsFit schema steps
    vertex_along n low None o fit steps e = absurd (cc e)
    vertex_along n low (Some id) None fit steps e = absurd (cc e)
    vertex_along n low (Some id) (Some row) fit steps e = subst (StepsFit schema) (some_same _ steps e) (record { there = low; values = fit row refl }, tt)

    edge_along : (n : ℕ) → n < length schema.edge_types → (route : Route) → route.from ≡ defaults_of schema (edge_type_at schema n).from → route.to ≡ defaults_of schema (edge_type_at schema n).to
        → (i j : Option (List ℕ)) (o : Option (List Value)) → ((row : List Value) → o ≡ Some row → row_fits (edge_type_at schema n).attributes row ≡ true)
        → (steps : List Step) → joined_steps schema n route i j o ≡ Some steps → StepsFit schema steps
    edge_along n low route from to None j o fit steps e = absurd (cc e)
    edge_along n low route from to (Some a) None o fit steps e = absurd (cc e)
    edge_along n low route from to (Some a) (Some b) None fit steps e = absurd (cc e)
    edge_along n low route from to (Some a) (Some b) (Some row) fit steps e =
        let t = sound.edge_types n no_edge_type low in
        subst (StepsFit schema) (some_same _ steps e)
        (end_is (edge_type_at schema n).from a route.from t.from from, (end_is (edge_type_at schema n).to b route.to t.to to, ((low, fit row refl), tt)))

    along : (route : Route) (t : Target) → route.from ≡ from_defaults schema t → route.to ≡ to_defaults schema t → HasTarget schema t
        → (sources : List (Option ℕ)) (fields : Fields) (steps : List Step) → steps_by read schema route t sources fields ≡ Some steps → StepsFit schema steps
    along route (target.Vertex n) from to there [] fields steps e = absurd (cc e)
    along route (target.Vertex n) from to there (id ∷ sources) fields steps e =
        vertex_along n there (id_of (vertex_type_at schema n).id.kind id fields) (values_of read 0 (vertex_type_at schema n).attributes sources fields)
        (values_fit 0 (vertex_type_at schema n).attributes (vertex_attributes n there) sources fields) steps e
    along route (target.Edge n) from to there [] fields steps e = absurd (cc e)
    along route (target.Edge n) from to there (a ∷ []) fields steps e = absurd (cc e)
    along route (target.Edge n) from to there (a ∷ b ∷ sources) fields steps e =
        let t = edge_type_at schema n in
        edge_along n there.0 route from to (id_of (vertex_type_at schema t.from).id.kind a fields) (id_of (vertex_type_at schema t.to).id.kind b fields)
        (values_of read t.discriminators t.attributes sources fields) (values_fit t.discriminators t.attributes (edge_attributes n there.0) sources fields) steps e

    steps_join : (xs ys : List Step) → StepsFit schema xs → StepsFit schema ys → StepsFit schema (xs ++ ys)
    steps_join [] ys first others = others
    steps_join (x ∷ xs) ys first others = (first.0, steps_join xs ys first.1 others)

    -- a record along all routes
    all_along : (header : Option Fields) (intos : List LoadInto) → All (IntoFits schema) intos → (fields : Fields) (steps : List Step)
        → steps_of read schema (map (route_of schema header) intos) fields ≡ Some steps → StepsFit schema steps
    all_along header [] fits fields steps e = subst (StepsFit schema) (some_same [] steps e) tt
    all_along header (into ∷ intos) fits fields steps e =
        by (steps_along read schema (route_of schema header into) fields) refl e (all_along header intos (λ k d low. fits (suc k) d (omega arith)) fields)
      where
        others : Option (List Step)
        others = steps_of read schema (map (route_of schema header) intos) fields

        by : (o : Option (List Step)) → steps_along read schema (route_of schema header into) fields ≡ o → option_and_then (λ steps. and_steps steps others) o ≡ Some steps
            → ((more : List Step) → others ≡ Some more → StepsFit schema more) → StepsFit schema steps
        by None is none rest = absurd (cc none)
        by (Some first) is some rest =
            let i = image (λ more. first ++ more) others steps some in
            subst (StepsFit schema) i.2
            (steps_join first i.0 (along (route_of schema header into) into.target refl refl (fits 0 into (omega arith)).there (route_of schema header into).fields fields first is) (rest i.0 i.1))

    record_fits : (header : Option Fields) (intos : List LoadInto) → All (IntoFits schema) intos → (fields : Fields)
        → StepsFit schema (steps_from (judged read schema (map (route_of schema header) intos) fields))
    record_fits header intos fits fields = by (is_short (map (route_of schema header) intos) fields)
      where
        read_as : (o : Option (List Step)) → steps_of read schema (map (route_of schema header) intos) fields ≡ o → StepsFit schema (steps_from (judged_as o))
        read_as None is = tt
        read_as (Some steps) is = all_along header intos fits fields steps is

        by : (t : Bool) → StepsFit schema (steps_from (cond t Short (judged_as (steps_of read schema (map (route_of schema header) intos) fields))))
        by true = tt
        by false = read_as (steps_of read schema (map (route_of schema header) intos) fields) refl

    records_fit : (header : Option Fields) (intos : List LoadInto) → All (IntoFits schema) intos → (records : List Fields)
        → StepsFit schema (all_steps read schema (map (route_of schema header) intos) records)
    records_fit header intos fits [] = tt
    records_fit header intos fits (fields ∷ records) =
        steps_join (steps_from (judged read schema (map (route_of schema header) intos) fields)) (all_steps read schema (map (route_of schema header) intos) records)
        (record_fits header intos fits fields) (records_fit header intos fits records)

    -- ---- inserts

    vertex_given : (n : ℕ) → n < length schema.vertex_types → (i : Option (List ℕ)) (o : Option (List Value))
        → ((row : List Value) → o ≡ Some row → row_fits (vertex_type_at schema n).attributes row ≡ true) → (row : Insert) → vertex_with n i o ≡ Some row → StepsFit schema (steps_of_insert row)
    vertex_given n low None o fit row e = absurd (cc e)
    vertex_given n low (Some id) None fit row e = absurd (cc e)
    vertex_given n low (Some id) (Some values) fit row e =
        subst (λ r. StepsFit schema (steps_of_insert r)) (some_same (insert.Vertex n id values) row e) (record { there = low; values = fit values refl }, tt)

    -- an end of this type, or none
    abbrev IsEnd : ℕ → Option Endpoint → Type 0
    IsEnd n o = (end : Endpoint) → o ≡ Some end → VertexRowFits schema (record { kind = end.kind; id = end.id; attributes = end.missing })

    end_given : (n : ℕ) → n < length schema.vertex_types → (i : Option (List ℕ)) → IsEnd n (end_with schema n i)
    end_given n low None end e = absurd (cc e)
    end_given n low (Some id) end e =
        subst (λ (x : Endpoint). VertexRowFits schema (record { kind = x.kind; id = x.id; attributes = x.missing })) (some_same _ end e) (end_fits n id low)

    edge_given : (n : ℕ) → n < length schema.edge_types → (a b : Option Endpoint) → IsEnd (edge_type_at schema n).from a → IsEnd (edge_type_at schema n).to b
        → (o : Option (List Value)) → ((row : List Value) → o ≡ Some row → row_fits (edge_type_at schema n).attributes row ≡ true)
        → (row : Insert) → edge_with schema n (both a b) o ≡ Some row → StepsFit schema (steps_of_insert row)
    edge_given n low None b first second o fit row e = absurd (cc e)
    edge_given n low (Some a) None first second o fit row e = absurd (cc e)
    edge_given n low (Some a) (Some b) first second None fit row e = absurd (cc e)
    edge_given n low (Some a) (Some b) first second (Some values) fit row e =
        subst (λ r. StepsFit schema (steps_of_insert r)) (some_same (insert.Edge n (edge_type_at schema n).directed (edge_type_at schema n).discriminators a b values) row e)
        (first a refl, (second b refl, ((low, fit values refl), tt)))

    -- the type of a target exists
    abbrev IsThere : Target → Type 0
    IsThere (target.Vertex n) = n < length schema.vertex_types
    IsThere (target.Edge n) = n < length schema.edge_types

    row_there : (t : Target) → IsThere t → (values : List (Option Literal)) (row : Insert) → insert_of read schema t values ≡ Some row → StepsFit schema (steps_of_insert row)
    row_there (target.Vertex n) low [] row e = absurd (cc e)
    row_there (target.Vertex n) low (a ∷ values) row e =
        vertex_given n low (given_id (vertex_type_at schema n).id.kind a) (row_of read (vertex_type_at schema n).attributes values)
        (row_given (vertex_type_at schema n).attributes (vertex_attributes n low) values) row e
    row_there (target.Edge n) low [] row e = absurd (cc e)
    row_there (target.Edge n) low (a ∷ []) row e = absurd (cc e)
    row_there (target.Edge n) low (a ∷ b ∷ values) row e =
        let t = edge_type_at schema n in
        let s = sound.edge_types n no_edge_type low in
        edge_given n low (end_of schema t.from a) (end_of schema t.to b)
        (end_given t.from s.from (given_id (vertex_type_at schema t.from).id.kind a)) (end_given t.to s.to (given_id (vertex_type_at schema t.to).id.kind b))
        (row_of read t.attributes values) (row_given t.attributes (edge_attributes n low) values) row e

    vertex_low : (name : List ℕ) (n : ℕ) → vertex_type_of schema name ≡ Some n → n < length schema.vertex_types
    vertex_low name n found =
        subst (λ k. n < k) (length-map schema.vertex_types (λ (t : VertexType). t.name)) (position-Some (bytes_eq name) (vertex_names schema.vertex_types) n [] found).0

    edge_low : (name : List ℕ) (n : ℕ) → edge_type_of schema name ≡ Some n → n < length schema.edge_types
    edge_low name n found =
        subst (λ k. n < k) (length-map schema.edge_types (λ (t : EdgeType). t.name)) (position-Some (bytes_eq name) (edge_names schema.edge_types) n [] found).0

    edge_there : (name : List ℕ) (o : Option ℕ) → edge_type_of schema name ≡ o → (t : Target) → edge_target schema o ≡ Some t → IsThere t
    edge_there name None is t e = absurd (cc e)
    edge_there name (Some n) is t e = by (is_some (edge_type_at schema n).forward) e
      where
        by : (b : Bool) → cond b None (Some (target.Edge n)) ≡ Some t → IsThere t
        by true none = absurd (cc none)
        by false some = subst IsThere (some_same (target.Edge n) t some) (edge_low name n is)

    target_there : (name : List ℕ) (t : Target) → target_named schema name ≡ Some t → IsThere t
    target_there name t e = by (vertex_type_of schema name) refl e
      where
        by : (o : Option ℕ) → vertex_type_of schema name ≡ o → option_or (vertex_target o) (edge_target schema (edge_type_of schema name)) ≡ Some t → IsThere t
        by (Some n) is some = subst IsThere (some_same (target.Vertex n) t some) (vertex_low name n is)
        by None is other = edge_there name (edge_type_of schema name) refl t other

    row_named : (tree : InsertTree) (row : Insert) → insert_named read schema tree ≡ Some row → StepsFit schema (steps_of_insert row)
    row_named tree row e = by (target_named schema tree.name) refl e
      where
        by : (o : Option Target) → target_named schema tree.name ≡ o → option_and_then (λ t. insert_of read schema t tree.values) o ≡ Some row → StepsFit schema (steps_of_insert row)
        by None is none = absurd (cc none)
        by (Some t) is some = row_there t (target_there tree.name t is) tree.values row some

pub record_law : RecordLaw
record_law read tells schema sound line fits header records = records_fit read tells schema sound header line.destinations fits.destinations records

pub insert_law : InsertLaw
insert_law read tells schema sound tree row is = row_named read tells schema sound tree row is

-- ---- what was put

-- if there is a store after upserts, none was refused
all_put : (before later : Store) (steps : List Step) → put_all before steps ≡ Some later → AllTaken before steps × (later ≡ after_all before steps)
all_put before later [] e = (tt, sym (some_same before later e))
all_put before later (step ∷ steps) e = by (is_refused before step) refl e (all_put (after before step) later steps)
  where
    by : (b : Bool) → is_refused before step ≡ b → cond b None (put_all (after before step) steps) ≡ Some later
        → (put_all (after before step) steps ≡ Some later → AllTaken (after before step) steps × (later ≡ after_all (after before step) steps))
        → AllTaken before (step ∷ steps) × (later ≡ after_all before (step ∷ steps))
    by true is none rest = absurd (cc none)
    by false is some rest = let more = rest some in ((is, more.0), more.1)

pub put_law : PutLaw
put_law schema before later steps fit is fits =
    let put = all_put before later steps is in
    let done : Done before steps later = record { taken = put.0; leads = put.1 } in
    upsert_law schema before later steps fit (done_begun before later steps done) fits
