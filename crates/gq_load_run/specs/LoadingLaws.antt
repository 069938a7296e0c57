-- LoadingLaws: the answer of a load by the function of loads, and what it leaves; the store keeps to its catalog.
use Rattle.std.proofs.Common.{◌≡◌, ℕ, zero, suc, ◌<◌, ℤ, pos, List, [], ◌∷◌, ◌++◌, length, map, All, Option, Some, None, Bool, true, false, cond, Result, Ok, Err, refl, sym, ap, subst, ◌∙◌, arith}
use Rattle.std.specs.Prelude.{◌≢◌, ◌-◌, ◌^◌, ◌&&◌, nat_lt, option_and_then}
use Rattle.std.specs.Fmt.{decimal, signed_decimal}
use Rattle.std.specs.Option.{option_map}
use Rattle.std.specs.Str.{is_utf8}
use Rattle.std.specs.Str.Parse.{digits_value, without_leading_plus, without_leading_sign, signed_digits_value}
use Rattle.std.proofs.lemmas.Bool.{and_parts}
use Rattle.std.proofs.lemmas.Bool.Decides.{nat_tests}
use Rattle.std.proofs.lemmas.List.{length-map}
use Rattle.gq_graph.specs.Catalog.{Schema}
use Rattle.gq_graph.specs.declared.types.Attribute.{Attribute}
use Rattle.gq_graph.specs.declared.types.IdKind.{IdKind}
use Rattle.gq_graph.specs.declared.types.IdKind.TheVariants as id_kind
use Rattle.gq_graph.specs.declared.rows.StoreFault.{StoreFault}
use Rattle.gq_graph.specs.declared.rows.StoreFault.TheVariants as store_fault
use Rattle.gq_value.specs.declared.kind.Number.TheVariants as number
use Rattle.gq_value.specs.declared.value.Value.{Value}
use Rattle.gq_value.specs.Arithmetic.{is_within}
use Rattle.gq_diagnostics.specs.declared.refusal.Refusal.TheVariants as refusal
use Rattle.gq_index.specs.declared.store.Store.{Store}
use Rattle.gq_load_check.specs.declared.job.Target.{Target}
use Rattle.gq_load_check.specs.declared.job.Target.TheVariants as target
use Rattle.gq_load_check.specs.declared.job.LoadInto.{LoadInto}
use Rattle.gq_load_check.specs.declared.job.LoadLine.{LoadLine}
use Rattle.gq_load_check.specs.Targets.{HasTarget, edge_type_at, vertex_type_at}
use Rattle.gq_load_check.specs.Fits.{LineFits, IntoFits}
use Rattle.gq_index.specs.Namings.{naming_in}
use Rattle.gq_index.specs.Kept.{StoreGrown}
use Rattle.gq_index.specs.Rows.{IsId}
use Rattle.gq_index.specs.Steps.{Step, Begun}
use Rattle.gq_index.proofs.KeptLemmas.{puts_grow}
use Rattle.gq_index.proofs.StepLemmas.{none_begun}
use Rattle.gq_load.specs.declared.fault.LoadFault.{LoadFault}
use Rattle.gq_load.specs.declared.fault.LoadFault.TheVariants as fault
use Rattle.gq_load.specs.declared.route.Route.{Route}
use Rattle.gq_load.specs.Columns.{Fields}
use Rattle.gq_load.specs.Routes.{route_of, defaults_of, from_defaults, to_defaults}
use Rattle.gq_load.specs.Rows.{vertex_row, vertex_steps, joined_steps, steps_by, steps_along, steps_of, and_steps, is_short, id_of, value_of, and_values, values_of}
use Rattle.gq_load.specs.Records.{Short, judged, judged_as, steps_from, HasEnds, AllHaveEnds}
use Rattle.gq_load.specs.declared.report.Report.{Report}
use Rattle.gq_load.specs.Loads as load
use Rattle.gq_load_run.specs.Loads.{Loads, Fails}
use Rattle.gq_load_csv.specs.Fields.{default_of, id_in}
use Rattle.gq_load_csv.specs.Readings.{reading}
use Rattle.gq_load_csv.specs.Texts.{is_numeral, int_in, uint_in}
use Rattle.gq_load.specs.PutLaws.{put_done, put_refused, done_begun, refused_begun}
use Rattle.gq_load.specs.Keeping.{StoreFits, UpsertsFit}
use Rattle.gq_load.specs.KeepingLaws.{begun_fits, none_fit, one_fits, edge_fits, fit_join}
use Rattle.gq_load_run.specs.Loadings.{line_steps, line_report, stored_or, unless_missing, line_loaded, RefusedLeaves}

-- ---- answers

module _ (schema : Schema) (line : LoadLine) (records : List Fields) (before later : Store) where
  abbrev Says : Result Report LoadFault → Type 0
  Says result = load.Loads reading schema line records before later result

  pub says_loaded : (report : Report) → Says (Ok report) → line_loaded schema line records before ≡ Loads later report
  says_loaded report says =
      ap (unless_missing schema line records before) says.found
      ∙ ap (stored_or (line_report schema line records)) (put_done before later (line_steps schema line records) says.loaded.done)
      ∙ ap (Loads later) (sym says.loaded.counted)

  pub says_missing : (name : List ℕ) → Says (Err (fault.NoColumn name)) → line_loaded schema line records before ≡ Fails (refusal.NoColumn name)
  says_missing name says = ap (unless_missing schema line records before) says.missing

  pub says_full : Says (Err fault.Full) → line_loaded schema line records before ≡ Fails refusal.StoreFull
  says_full says =
      ap (unless_missing schema line records before) says.found
      ∙ ap (stored_or (line_report schema line records)) (put_refused before later (line_steps schema line records) says.refused)

  abbrev MissingLeaves : Option (List ℕ) → Type 0
  MissingLeaves missing = RefusedLeaves missing (line_steps schema line records) before later

  -- if a column is missing, nothing was loaded
  pub missing_leaves : (name : List ℕ) → Says (Err (fault.NoColumn name)) → MissingLeaves (load.missing_of line (load.header_of line records))
  missing_leaves name says = subst MissingLeaves (sym says.missing) says.same

  -- in a full store the upserts before the refused one stay
  pub full_leaves : Says (Err fault.Full) → MissingLeaves (load.missing_of line (load.header_of line records))
  full_leaves says = subst MissingLeaves (sym says.found) says.refused

  -- whatever the answer, a prefix of the upserts was put
  pub says_begun : (result : Result Report LoadFault) → Says result → Begun before (line_steps schema line records) later
  says_begun (Ok report) says = done_begun before later (line_steps schema line records) says.loaded.done
  says_begun (Err (fault.NoColumn name)) says = none_begun before later (line_steps schema line records) says.same
  says_begun (Err fault.Full) says = refused_begun before later (line_steps schema line records) says.refused
  says_begun (Err fault.OutOfMemory) says = says

-- ---- types

same_some : {A : Type 0} (x y : A) → Some x ≡ Some y → x ≡ y
same_some {A} x y e = cc

-- a destination's route: its type exists, and its defaults for the ends of an edge are those of their types
pub record IsRoute (schema : Schema) (route : Route) : Type 0 where
  pub there : HasTarget schema route.target
  pub from : route.from ≡ from_defaults schema route.target
  pub to : route.to ≡ to_defaults schema route.target

-- there is a value for each attribute
values_long : (read : List ℕ → Option ℤ) (keys : ℕ) (attributes : List Attribute) (sources : List (Option ℕ)) (fields : Fields) (values : List Value)
    → values_of read keys attributes sources fields ≡ Some values → length values ≡ length attributes
values_long read keys [] sources fields values is = ap length (sym (same_some [] values is))
values_long read keys (a ∷ others) [] fields values is = absurd (cc)
values_long read keys (a ∷ others) (source ∷ sources) fields values is =
    by (value_of read (nat_lt 0 keys) a source fields) (values_of read (keys - 1) others sources fields) (λ vs e. values_long read (keys - 1) others sources fields vs e) is
  where
    by : (o : Option Value) (p : Option (List Value)) → ((vs : List Value) → p ≡ Some vs → length vs ≡ length others)
        → option_and_then (λ v. and_values v p) o ≡ Some values → length values ≡ length (a ∷ others)
    by None p each e = absurd (cc)
    by (Some v) None each e = absurd (cc)
    by (Some v) (Some vs) each e = ap length (sym (same_some (v ∷ vs) values e)) ∙ ap suc (each vs refl)

-- what is read from a field as an id is in stored form
read_if : {A : Type 0} (b : Bool) (x y : A) → cond b (Some x) None ≡ Some y → (b ≡ true) × (x ≡ y)
read_if true x y is = (refl, same_some x y is)
read_if false x y is = absurd (cc)

int_within : (text : List ℕ) (z : ℤ) → int_in text ≡ Some z → is_within number.Int z ≡ true
unfolding int_in
int_within text z is =
    let read = read_if (is_numeral (without_leading_sign text) && is_within number.Int (signed_digits_value 10 text)) (signed_digits_value 10 text) z is in
    ap (is_within number.Int) (sym read.1) ∙ (and_parts (is_numeral (without_leading_sign text)) (is_within number.Int (signed_digits_value 10 text)) read.0).1

uint_low : (text : List ℕ) (n : ℕ) → uint_in text ≡ Some n → nat_lt n (2 ^ 64) ≡ true
unfolding uint_in
uint_low text n is =
    let value : ℕ = digits_value 10 (without_leading_plus text) in
    let read = read_if (is_numeral (without_leading_plus text) && nat_lt value (2 ^ 64)) value n is in
    ap (λ m. nat_lt m (2 ^ 64)) (sym read.1) ∙ (and_parts (is_numeral (without_leading_plus text)) (nat_lt value (2 ^ 64)) read.0).1

uint_within : (n : ℕ) → nat_lt n (2 ^ 64) ≡ true → is_within number.UInt (pos n) ≡ true
uint_within n low = grind (arith, nat_tests)

int_form : (o : Option ℤ) (text : List ℕ) → ((z : ℤ) → o ≡ Some z → is_within number.Int z ≡ true) → option_map signed_decimal o ≡ Some text → IsId id_kind.Int text
int_form None text within is = absurd (cc)
int_form (Some z) text within is = (z, within z refl, sym (same_some (signed_decimal z) text is))

uint_form : (o : Option ℕ) (text : List ℕ) → ((n : ℕ) → o ≡ Some n → nat_lt n (2 ^ 64) ≡ true) → option_map decimal o ≡ Some text → IsId id_kind.UInt text
uint_form None text low is = absurd (cc)
uint_form (Some n) text low is = (n, uint_within n (low n refl), sym (same_some (decimal n) text is))

some_text : (text : List ℕ) → nat_lt 0 (length text) ≡ true → text ≢ []
some_text [] long none = absurd (cc)
some_text (c ∷ cs) long none = cc

in_form : (kind : IdKind) (field text : List ℕ) → id_in kind field ≡ Some text → IsId kind text
in_form id_kind.Text field text is =
    let read = read_if (nat_lt 0 (length field) && is_utf8 field) field text is in
    some_text text (ap (λ t. nat_lt 0 (length t)) (sym read.1) ∙ (and_parts (nat_lt 0 (length field)) (is_utf8 field) read.0).0)
in_form id_kind.Int field text is = int_form _ text (λ z e. int_within _ z e) is
in_form id_kind.UInt field text is = uint_form _ text (λ n e. uint_low _ n e) is

field_form : (kind : IdKind) (o : Option (List ℕ)) (text : List ℕ) → option_and_then (id_in kind) o ≡ Some text → IsId kind text
field_form kind None text is = absurd (cc)
field_form kind (Some field) text is = in_form kind field text is

id_fits : (kind : IdKind) (source : Option ℕ) (fields : Fields) (text : List ℕ) → id_of kind source fields ≡ Some text → IsId kind text
id_fits kind None fields text is = absurd (cc)
id_fits kind (Some n) fields text is = field_form kind _ text is

defaults_long : (schema : Schema) (n : ℕ) → length (defaults_of schema n) ≡ length (vertex_type_at schema n).attributes
defaults_long schema n = length-map (vertex_type_at schema n).attributes default_of

module _ (read : List ℕ → Option ℤ) (schema : Schema) (fields : Fields) where
  abbrev Fit : List Step → Type 0
  Fit = UpsertsFit schema

  -- an id, if there is one, is in the stored form of a vertex type
  abbrev Ids : ℕ → Option (List ℕ) → Type 0
  Ids n id = (text : List ℕ) → id ≡ Some text → IsId (vertex_type_at schema n).id.kind text

  vertex_fit : (n : ℕ) (id : Option (List ℕ)) (values : Option (List Value)) (steps : List Step) → n < length schema.vertex_types → Ids n id
      → ((vs : List Value) → values ≡ Some vs → length vs ≡ length (vertex_type_at schema n).attributes) → vertex_steps n id values ≡ Some steps → Fit steps
  vertex_fit n (Some id) (Some values) steps low own long is =
      subst Fit (same_some _ steps is) (one_fits schema (vertex_row n id values) (record { there = low; id = own id refl; values = long values refl }))
  vertex_fit n (Some id) None steps low own long is = absurd (cc)
  vertex_fit n None values steps low own long is = absurd (cc)

  edge_fit : (n : ℕ) (route : Route) (from to : Option (List ℕ)) (values : Option (List Value)) (steps : List Step) → n < length schema.edge_types → HasEnds schema n
      → Ids (edge_type_at schema n).from from → Ids (edge_type_at schema n).to to
      → route.from ≡ defaults_of schema (edge_type_at schema n).from → route.to ≡ defaults_of schema (edge_type_at schema n).to
      → joined_steps schema n route from to values ≡ Some steps → Fit steps
  edge_fit n route (Some from) (Some to) (Some values) steps low ends one other first second is =
      subst Fit (same_some _ steps is)
      (edge_fits schema (naming_in (edge_type_at schema) n) (vertex_row (edge_type_at schema n).from from route.from) (vertex_row (edge_type_at schema n).to to route.to) values low refl
      (record { there = ends.from; id = one from refl; values = ap length first ∙ defaults_long schema (edge_type_at schema n).from })
      (record { there = ends.to; id = other to refl; values = ap length second ∙ defaults_long schema (edge_type_at schema n).to }))
  edge_fit n route (Some from) (Some to) None steps low ends one other first second is = absurd (cc)
  edge_fit n route (Some from) None values steps low ends one other first second is = absurd (cc)
  edge_fit n route None to values steps low ends one other first second is = absurd (cc)

  route_fit : AllHaveEnds schema → (route : Route) (t : Target) (sources : List (Option ℕ)) (steps : List Step) → HasTarget schema t
      → route.from ≡ from_defaults schema t → route.to ≡ to_defaults schema t → steps_by read schema route t sources fields ≡ Some steps → Fit steps
  route_fit ends route (target.Vertex n) [] steps there from to is = absurd (cc)
  route_fit ends route (target.Vertex n) (id ∷ sources) steps there from to is =
      vertex_fit n (id_of (vertex_type_at schema n).id.kind id fields) (values_of read 0 (vertex_type_at schema n).attributes sources fields) steps there
      (λ text e. id_fits (vertex_type_at schema n).id.kind id fields text e)
      (λ vs e. values_long read 0 (vertex_type_at schema n).attributes sources fields vs e) is
  route_fit ends route (target.Edge n) [] steps there first second is = absurd (cc)
  route_fit ends route (target.Edge n) (from ∷ []) steps there first second is = absurd (cc)
  route_fit ends route (target.Edge n) (from ∷ to ∷ sources) steps there first second is =
      edge_fit n route
      (id_of (vertex_type_at schema (edge_type_at schema n).from).id.kind from fields)
      (id_of (vertex_type_at schema (edge_type_at schema n).to).id.kind to fields)
      (values_of read (edge_type_at schema n).discriminators (edge_type_at schema n).attributes sources fields) steps there.0 (ends n there.0)
      (λ text e. id_fits (vertex_type_at schema (edge_type_at schema n).from).id.kind from fields text e)
      (λ text e. id_fits (vertex_type_at schema (edge_type_at schema n).to).id.kind to fields text e) first second is

  routes_fit : AllHaveEnds schema → (routes : List Route) (steps : List Step) → All (IsRoute schema) routes → steps_of read schema routes fields ≡ Some steps → Fit steps
  routes_fit ends [] steps are is = subst Fit (same_some _ steps is) (none_fit schema)
  routes_fit ends (route ∷ routes) steps are is =
      let one = are 0 route (omega arith) in
      by (steps_along read schema route fields) (steps_of read schema routes fields)
      (λ first e. route_fit ends route route.target route.fields first one.there one.from one.to e)
      (λ more e. routes_fit ends routes more (λ k d low. are (suc k) d (omega arith)) e)
      is
    where
      by : (a b : Option (List Step)) → ((first : List Step) → a ≡ Some first → Fit first) → ((more : List Step) → b ≡ Some more → Fit more)
          → option_and_then (λ first. and_steps first b) a ≡ Some steps → Fit steps
      by None b first more e = absurd (cc)
      by (Some x) None first more e = absurd (cc)
      by (Some x) (Some y) first more e = subst Fit (same_some (x ++ y) steps e) (fit_join schema x y (first x refl) (more y refl))

  record_fits : AllHaveEnds schema → (routes : List Route) → All (IsRoute schema) routes → Fit (steps_from (judged read schema routes fields))
  record_fits ends routes are = by (is_short routes fields) (steps_of read schema routes fields) (λ steps e. routes_fit ends routes steps are e)
    where
      by : (b : Bool) (o : Option (List Step)) → ((steps : List Step) → o ≡ Some steps → Fit steps) → Fit (steps_from (cond b Short (judged_as o)))
      by true o each = none_fit schema
      by false None each = none_fit schema
      by false (Some steps) each = each steps refl

all_fit : (read : List ℕ → Option ℤ) (schema : Schema) (routes : List Route) (records : List Fields) → AllHaveEnds schema → All (IsRoute schema) routes
    → UpsertsFit schema (load.all_steps read schema routes records)
all_fit read schema routes [] ends are = none_fit schema
all_fit read schema routes (fields ∷ records) ends are =
    fit_join schema (steps_from (judged read schema routes fields)) (load.all_steps read schema routes records)
    (record_fits read schema fields ends routes are) (all_fit read schema routes records ends are)

are_routes : (schema : Schema) (header : Option Fields) (intos : List LoadInto) → All (IntoFits schema) intos → All (IsRoute schema) (map (route_of schema header) intos)
are_routes schema header [] fit k d low = absurd (omega arith)
are_routes schema header (into ∷ intos) fit zero d low = record { there = (fit 0 into (omega arith)).there; from = refl; to = refl }
are_routes schema header (into ∷ intos) fit (suc k) d low = are_routes schema header intos (λ j e less. fit (suc j) e (omega arith)) k d (omega arith)

-- the upserts of a LOAD have types of the catalog, and put each edge after its ends
pub line_fits : (schema : Schema) (line : LoadLine) (records : List Fields) → AllHaveEnds schema → LineFits schema line → UpsertsFit schema (line_steps schema line records)
line_fits schema line records ends fits =
    all_fit reading schema (load.routes_of schema line (load.header_of line records)) (load.loaded_of line records) ends
    (are_routes schema (load.header_of line records) line.destinations fits.destinations)

-- whatever the answer, the store keeps to the catalog
pub says_fits : (schema : Schema) (line : LoadLine) (records : List Fields) (before later : Store) (result : Result Report LoadFault) → AllHaveEnds schema → LineFits schema line
    → load.Loads reading schema line records before later result → StoreFits schema before → StoreFits schema later
says_fits schema line records before later result ends fits says kept =
    begun_fits schema before later (line_steps schema line records) (line_fits schema line records ends fits) (says_begun schema line records before later result says) kept

-- and only grows
pub says_grown : (schema : Schema) (line : LoadLine) (records : List Fields) (before later : Store) (result : Result Report LoadFault)
    → load.Loads reading schema line records before later result → StoreGrown before later
says_grown schema line records before later result says =
    let out : Result Report StoreFault = Err store_fault.OutOfMemory in
    puts_grow before later (line_steps schema line records) out (says_begun schema line records before later result says)
