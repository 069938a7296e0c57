-- Rows read straight from a line: a record that has all of its values isn't short, and values that are overwritten.
use Rattle.std.proofs.Common.{◌≡◌, ℕ, ℤ, zero, suc, ◌+◌, ◌-◌, ◌<◌, ◌≤◌, List, [], ◌∷◌, ◌++◌, length, take, Option, Some, None, Bool, true, false, refl, sym, ap, ◌∙◌, arith, map}
use Rattle.std.specs.Prelude.{nat_le, nat_lt, ◌||◌, option_and_then, All, IfSome, if◌then◌else◌}
use Rattle.std.proofs.lemmas.Bool.Decides.{nat_tests}
use Rattle.std.proofs.lemmas.List.{length-map, length-append}
use Rattle.gq_load.proofs.ListLemmas.{take_all}
use Rattle.csv.specs.Records.{field_at}
use Rattle.gq_graph.specs.Catalog.{Schema}
use Rattle.gq_graph.specs.declared.types.Attribute.{Attribute}
use Rattle.gq_graph.specs.declared.types.IdKind.{IdKind}
use Rattle.gq_value.specs.declared.value.Value.{Value}
use Rattle.gq_value.specs.declared.value.Value.TheVariants as value
use Rattle.gq_index.specs.Steps.{Step}
use Rattle.gq_load_check.specs.declared.job.Target.{Target}
use Rattle.gq_load_check.specs.declared.job.Target.TheVariants as target
use Rattle.gq_load_check.specs.declared.job.LoadInto.{LoadInto}
use Rattle.gq_load_check.specs.Targets.{value_count, vertex_type_at, edge_type_at}
use Rattle.gq_load_check.specs.Fits.{IntoFits}
use Rattle.gq_load_csv.specs.Fields.{field_value, key_value, id_in}
use Rattle.gq_load.specs.declared.route.Route.{Route}
use Rattle.gq_load.specs.Columns.{Fields, field_of}
use Rattle.gq_load.specs.Routes.{route_of}
use Rattle.gq_load.specs.Rows.{lacks, lacks_any, is_short, value_of, values_of, and_values, id_of, vertex_steps, joined_steps, steps_by, steps_along, and_steps, steps_of}
use Rattle.gq_load.specs.Straight.{IsComplete}
use Rattle.gq_load.proofs.RowLemmas.{Reading}

-- ---- records that aren't short

field_within : (fields : Fields) (n : ℕ) (f : List ℕ) → field_at fields n ≡ Some f → n < length fields
unfolding field_at
field_within [] n f is = absurd (cc)
field_within (x ∷ xs) zero f is = omega arith
field_within (x ∷ xs) (suc n) f is = omega (arith, field_within xs n f is)

field_long : (fields : Fields) (n : ℕ) (f : List ℕ) → field_at fields n ≡ Some f → nat_le (length fields) n ≡ false
field_long fields n f is = let low = field_within fields n f is in grind (arith, nat_tests)

value_long : (read : Reading) (key : Bool) (attribute : Attribute) (source : Option ℕ) (fields : Fields) (v : Value)
    → value_of read key attribute source fields ≡ Some v → lacks (length fields) source ≡ false
value_long read key attribute None fields v is = refl
value_long read key attribute (Some n) fields v is = by (field_at fields n) (λ f e. field_long fields n f e) is
  where
    by : (o : Option (List ℕ)) → ((f : List ℕ) → o ≡ Some f → nat_le (length fields) n ≡ false)
        → option_and_then (λ field. if key then key_value read attribute field else field_value read attribute field) o ≡ Some v → nat_le (length fields) n ≡ false
    by None long h = absurd (cc)
    by (Some f) long h = long f refl

id_long : (kind : IdKind) (source : Option ℕ) (fields : Fields) (id : List ℕ) → id_of kind source fields ≡ Some id → lacks (length fields) source ≡ false
id_long kind None fields id is = absurd (cc)
id_long kind (Some n) fields id is = by (field_at fields n) (λ f e. field_long fields n f e) is
  where
    by : (o : Option (List ℕ)) → ((f : List ℕ) → o ≡ Some f → nat_le (length fields) n ≡ false) → option_and_then (id_in kind) o ≡ Some id → nat_le (length fields) n ≡ false
    by None long h = absurd (cc)
    by (Some f) long h = long f refl

no_or : (a b : Bool) → a ≡ false → b ≡ false → (a || b) ≡ false
no_or a b x y = rw (x, y) refl

values_long : (read : Reading) (keys : ℕ) (attributes : List Attribute) (sources : List (Option ℕ)) (fields : Fields) (vs : List Value)
    → length sources ≡ length attributes → values_of read keys attributes sources fields ≡ Some vs → lacks_any (length fields) sources ≡ false
values_long read keys [] [] fields vs same is = refl
values_long read keys [] (s ∷ ss) fields vs same is = absurd (omega (arith, same))
values_long read keys (a ∷ as_) [] fields vs same is = absurd (omega (arith, same))
values_long read keys (a ∷ as_) (s ∷ ss) fields vs same is =
    by (value_of read (nat_lt 0 keys) a s fields) (λ v e. value_long read (nat_lt 0 keys) a s fields v e)
    (values_of read (keys - 1) as_ ss fields) (λ ws e. values_long read (keys - 1) as_ ss fields ws (omega (arith, same)) e) is
  where
    by : (o : Option Value) → ((v : Value) → o ≡ Some v → lacks (length fields) s ≡ false)
        → (p : Option (List Value)) → ((ws : List Value) → p ≡ Some ws → lacks_any (length fields) ss ≡ false)
        → option_and_then (λ v. and_values v p) o ≡ Some vs → (lacks (length fields) s || lacks_any (length fields) ss) ≡ false
    by None one p more h = absurd (cc)
    by (Some v) one None more h = absurd (cc)
    by (Some v) one (Some ws) more h = no_or _ _ (one v refl) (more ws refl)

vertex_long : (read : Reading) (schema : Schema) (n : ℕ) (id : Option ℕ) (sources : List (Option ℕ)) (fields : Fields) (steps : List Step)
    → length sources ≡ length (vertex_type_at schema n).attributes
    → (a : Option (List ℕ)) → id_of (vertex_type_at schema n).id.kind id fields ≡ a
    → (b : Option (List Value)) → values_of read 0 (vertex_type_at schema n).attributes sources fields ≡ b
    → vertex_steps n a b ≡ Some steps → lacks_any (length fields) (id ∷ sources) ≡ false
vertex_long read schema n id sources fields steps same None ea b eb is = absurd (cc)
vertex_long read schema n id sources fields steps same (Some i) ea None eb is = absurd (cc)
vertex_long read schema n id sources fields steps same (Some i) ea (Some vs) eb is =
    no_or _ _ (id_long (vertex_type_at schema n).id.kind id fields i ea) (values_long read 0 (vertex_type_at schema n).attributes sources fields vs same eb)

edge_long : (read : Reading) (schema : Schema) (route : Route) (n : ℕ) (from to : Option ℕ) (sources : List (Option ℕ)) (fields : Fields) (steps : List Step)
    → length sources ≡ length (edge_type_at schema n).attributes
    → (a : Option (List ℕ)) → id_of (vertex_type_at schema (edge_type_at schema n).from).id.kind from fields ≡ a
    → (b : Option (List ℕ)) → id_of (vertex_type_at schema (edge_type_at schema n).to).id.kind to fields ≡ b
    → (c : Option (List Value)) → values_of read (edge_type_at schema n).discriminators (edge_type_at schema n).attributes sources fields ≡ c
    → joined_steps schema n route a b c ≡ Some steps → lacks_any (length fields) (from ∷ to ∷ sources) ≡ false
edge_long read schema route n from to sources fields steps same None ea b eb c ec is = absurd (cc)
edge_long read schema route n from to sources fields steps same (Some i) ea None eb c ec is = absurd (cc)
edge_long read schema route n from to sources fields steps same (Some i) ea (Some j) eb None ec is = absurd (cc)
edge_long read schema route n from to sources fields steps same (Some i) ea (Some j) eb (Some vs) ec is =
    no_or _ _ (id_long (vertex_type_at schema (edge_type_at schema n).from).id.kind from fields i ea)
    (no_or _ _ (id_long (vertex_type_at schema (edge_type_at schema n).to).id.kind to fields j eb)
    (values_long read (edge_type_at schema n).discriminators (edge_type_at schema n).attributes sources fields vs same ec))

steps_long : (read : Reading) (schema : Schema) (route : Route) (into : Target) (sources : List (Option ℕ)) (fields : Fields) (steps : List Step)
    → length sources ≡ value_count schema into → steps_by read schema route into sources fields ≡ Some steps → lacks_any (length fields) sources ≡ false
steps_long read schema route (target.Vertex n) [] fields steps same is = absurd (omega (arith, same))
steps_long read schema route (target.Vertex n) (id ∷ sources) fields steps same is = vertex_long read schema n id sources fields steps (omega (arith, same)) _ refl _ refl is
steps_long read schema route (target.Edge n) [] fields steps same is = absurd (omega (arith, same))
steps_long read schema route (target.Edge n) (from ∷ []) fields steps same is = absurd (omega (arith, same))
steps_long read schema route (target.Edge n) (from ∷ to ∷ sources) fields steps same is = edge_long read schema route n from to sources fields steps (omega (arith, same)) _ refl _ refl _ refl is

-- a record whose rows can be read isn't short
pub not_short : (read : Reading) (schema : Schema) (routes : List Route) (fields : Fields) (steps : List Step) → All (IsComplete schema) routes
    → steps_of read schema routes fields ≡ Some steps → is_short routes fields ≡ false
not_short read schema [] fields steps complete is = refl
not_short read schema (route ∷ routes) fields steps complete is =
    by (steps_along read schema route fields) (λ s e. steps_long read schema route route.target route.fields fields s (complete 0 route (omega arith)) e)
    (steps_of read schema routes fields) (λ s e. not_short read schema routes fields s (λ k d low. complete (suc k) d (omega (arith, low))) e) is
  where
    by : (o : Option (List Step)) → ((s : List Step) → o ≡ Some s → lacks_any (length fields) route.fields ≡ false)
        → (p : Option (List Step)) → ((s : List Step) → p ≡ Some s → is_short routes fields ≡ false)
        → option_and_then (λ s. and_steps s p) o ≡ Some steps → (lacks_any (length fields) route.fields || is_short routes fields) ≡ false
    by None one p more h = absurd (cc)
    by (Some s) one None more h = absurd (cc)
    by (Some s) one (Some t) more h = no_or _ _ (one s refl) (more t refl)

-- each route of a line that fits has a column for each value
pub all_complete : (schema : Schema) (header : Option Fields) (destinations : List LoadInto) → All (IntoFits schema) destinations
    → All (IsComplete schema) (map (route_of schema header) destinations)
all_complete schema header [] fits k r low = absurd (omega (arith, low))
all_complete schema header (d ∷ ds) fits zero r low = length-map d.columns (field_of header) ∙ (fits 0 d (omega arith)).count
all_complete schema header (d ∷ ds) fits (suc k) r low = all_complete schema header ds (λ j e below. fits (suc j) e (omega (arith, below))) k r (omega (arith, low))

-- ---- values written over others

pub written_last : (xs : List Value) (i : ℕ) (v : Value) → i ≤ length xs → length xs ≤ i → take (i + 1) (xs ++ v ∷ []) ≡ take i xs ++ v ∷ []
written_last xs i v low high =
    take_all (i + 1) (xs ++ v ∷ []) (omega (arith, length-append xs (v ∷ []), high)) ∙ ap (λ ys. ys ++ v ∷ []) (sym (take_all i xs high))

-- ---- an INT

pub int_value : (attribute : Attribute) (source : Option ℕ) (fields : Fields) (number : ℕ) (o : Option ℤ) → source ≡ Some number
    → IfSome o (λ n. (read : Reading) → option_and_then (field_value read attribute) (field_at fields number) ≡ Some (value.Int n))
    → IfSome o (λ n. (read : Reading) → option_and_then (key_value read attribute) (field_at fields number) ≡ Some (value.Int n))
    → IfSome o (λ n. (read : Reading) (key : Bool) → value_of read key attribute source fields ≡ Some (value.Int n))
int_value attribute source fields number None is plain keyed = tt
int_value attribute source fields number (Some n) is plain keyed = λ read key. ap (λ (s : Option ℕ). value_of read key attribute s fields) is ∙ by read key
  where
    by : (read : Reading) (key : Bool) → value_of read key attribute (Some number) fields ≡ Some (value.Int n)
    by read true = keyed read
    by read false = plain read
