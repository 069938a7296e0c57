-- SoundLaws: declarations keep a catalog's types sound.
use Rattle.std.proofs.Common.{ℕ, zero, suc, pos, ◌<◌, ◌≤◌, ◌≡◌, ◌≢◌, Bool, true, false, not, cond, List, [], ◌∷◌, ◌++◌, length, map, All, Option, Some, None, refl, ap, sym, subst, ◌∙◌, arith, is_some, length-append}
use Rattle.std.proofs.lemmas.List.{length-map}
use Rattle.std.proofs.lemmas.List.Quantifiers.{position-Some}
use Rattle.std.specs.Str.{bytes_eq}
use Rattle.std.specs.List.{find}
use Rattle.std.specs.Option.{option_or, option_map, option_map_or, unwrap_or}
use Rattle.gq_graph.specs.declared.types.Attribute.{Attribute}
use Rattle.gq_graph.specs.declared.types.GraphType.{GraphType}
use Rattle.gq_graph.specs.declared.types.IdShape.{IdShape}
use Rattle.gq_graph.specs.declared.types.VertexType.{VertexType}
use Rattle.gq_value.specs.declared.value.Value.{Value}
use Rattle.gq_graph.specs.Catalog.{Schema, vertex_names, vertex_type_of, end_of, edge_types_of, with_vertex_type, with_edge_types, with_graph}
use Rattle.gq_graph.specs.Defaults.{Sort, INT, UINT, BOOL, STRING, DATETIME, OTHER, sort_of, is_plain_sort, is_plain, suits, magnitude, converted, converted_from, has_good_default, settled}
use Rattle.gq_value.specs.Val.{Val, Int, UInt, Truth, Text}
use Rattle.gq_value.specs.Views.{val}
use Rattle.gq_value.specs.ViewLaws.{val-Int, val-UInt}
use Rattle.gq_schema.specs.declared.fault.SchemaFault.TheVariants as fault
use Rattle.gq_schema.specs.Refusals.{taken, reverse_taken, no_end, twice, shown_id, attribute_names, attribute_refusal, bad_default, too_many, vertex_refusal, edge_refusal}
use Rattle.gq_insert.specs.Fits.{is_value, AttributeFits, VertexTypeFits, EdgeTypeFits, IsSound}

-- ---- attributes

plain_sort : (s : Sort) → is_plain_sort s ≡ true → s ≢ OTHER
plain_sort s plain other = clash (sym (ap is_plain_sort other) ∙ plain)
  where
    clash : false ≡ true → ⊥
    clash h = cc

converted_fits : (x : Val) (s : Sort) (v : Value) → val v ≡ x → suits x s ≡ true → is_value s (val (converted_from x s v)) ≡ true
converted_fits (Int z) INT v e good = ap (is_value INT) e
converted_fits (Int z) UINT v e good = ap (is_value UINT) (val-UInt (magnitude z))
converted_fits (Int z) DATETIME v e good = ap (is_value DATETIME) e ∙ good
converted_fits (UInt n) INT v e good = ap (is_value INT) (val-Int (pos n))
converted_fits (UInt n) UINT v e good = ap (is_value UINT) e
converted_fits (Truth b) BOOL v e good = ap (is_value BOOL) e
converted_fits (Text s) STRING v e good = ap (is_value STRING) e
converted_fits x s v e good = absurd (cc)

settled_fits : (a : Attribute) → is_plain a ≡ true → has_good_default a ≡ true → AttributeFits (settled a)
settled_fits a plain good = (plain_sort (sort_of a.kind) plain, by a.default good)
  where
    by : (o : Option Value) → option_map_or (λ v. suits (val v) (sort_of a.kind)) o true ≡ true
        → option_map_or (λ v. is_value (sort_of a.kind) (val v)) (option_map (converted (sort_of a.kind)) o) true ≡ true
    by None good = refl
    by (Some v) good = converted_fits (val v) (sort_of a.kind) v refl good

good_head : (t : Bool) (a : Attribute) (r : Option Attribute) → option_map (λ (x : Attribute). fault.BadDefault x.name) (cond (not t) (Some a) r) ≡ None
    → (t ≡ true) × (option_map (λ (x : Attribute). fault.BadDefault x.name) r ≡ None)
good_head true a r none = (refl, none)
good_head false a r none = absurd (cc)

settled_all : (attributes : List Attribute) → All (λ a. is_plain a ≡ true) attributes → bad_default attributes ≡ None → All AttributeFits (map settled attributes)
settled_all [] plain none k d low = absurd (omega arith)
settled_all (a ∷ attributes) plain none zero d low =
    settled_fits a (plain 0 a (omega arith)) (good_head (has_good_default a) a (find (λ x. not (has_good_default x)) attributes) none).0
settled_all (a ∷ attributes) plain none (suc k) d low =
    settled_all attributes (λ j e less. plain (suc j) e (omega arith))
    (good_head (has_good_default a) a (find (λ x. not (has_good_default x)) attributes) none).1 k d (omega arith)

-- ---- types

all_and : {A : Type 0} (P : A → Type 0) (xs : List A) (x : A) → All P xs → P x → All P (xs ++ x ∷ [])
all_and P [] x all last zero d low = last
all_and P [] x all last (suc k) d low = absurd (omega arith)
all_and P (y ∷ xs) x all last zero d low = all 0 y (omega arith)
all_and P (y ∷ xs) x all last (suc k) d low = all_and P xs x (λ j e less. all (suc j) e (omega arith)) last k d (omega arith)

both_none : {A : Type 0} (a b : Option A) → option_or a b ≡ None → (a ≡ None) × (b ≡ None)
both_none None b none = (refl, none)
both_none (Some x) b none = absurd (cc)

-- a catalog without types
pub empty_is_sound : IsSound (record { vertex_types = []; edge_types = []; graphs = [] })
empty_is_sound = record { vertex_types = λ k d low. absurd (omega arith); edge_types = λ k d low. absurd (omega arith) }

pub sound_with_graph : (schema : Schema) (graph : GraphType) → IsSound schema → IsSound (with_graph schema graph)
sound_with_graph schema graph sound = record {
  vertex_types = sound.vertex_types;
  edge_types = λ k d low.
      let t = sound.edge_types k d low in
      record { from = t.from; to = t.to; key = t.key; attributes = t.attributes };
}

pub sound_with_vertex_type : (schema : Schema) (name : List ℕ) (id : IdShape) (attributes : List Attribute) → All (λ a. is_plain a ≡ true) attributes
    → vertex_refusal schema name id attributes ≡ None → IsSound schema → IsSound (with_vertex_type schema name id attributes)
sound_with_vertex_type schema name id attributes plain none sound =
    let entry : VertexType = record { name = name; id = id; attributes = map settled attributes } in
    let one = both_none (taken schema name) _ none in
    let two = both_none (attribute_refusal (shown_id id ++ attribute_names attributes) attributes) (too_many schema 1) one.1 in
    let good = (both_none (twice (shown_id id ++ attribute_names attributes)) (bad_default attributes) two.0).1 in
    let longer = length-append schema.vertex_types (entry ∷ []) in
    record {
      vertex_types = all_and VertexTypeFits schema.vertex_types entry sound.vertex_types (settled_all attributes plain good);
      edge_types = λ k d low.
          let t = sound.edge_types k d low in
          record { from = omega (arith, t.from, longer); to = omega (arith, t.to, longer); key = t.key; attributes = t.attributes };
    }

all_join : {A : Type 0} (P : A → Type 0) (xs ys : List A) → All P xs → All P ys → All P (xs ++ ys)
all_join P [] ys first second k d low = second k d low
all_join P (x ∷ xs) ys first second zero d low = first 0 d (omega arith)
all_join P (x ∷ xs) ys first second (suc k) d low = all_join P xs ys (λ j e less. first (suc j) e (omega arith)) second k d (omega arith)

all_one : {A : Type 0} (P : A → Type 0) (x : A) → P x → All P (x ∷ [])
all_one P x holds zero d low = holds
all_one P x holds (suc k) d low = absurd (omega arith)

all_two : {A : Type 0} (P : A → Type 0) (x y : A) → P x → P y → All P (x ∷ y ∷ [])
all_two P x y first second zero d low = first
all_two P x y first second (suc zero) d low = second
all_two P x y first second (suc (suc k)) d low = absurd (omega arith)

-- the end of a name is a vertex type, if it isn't refused
end_low : (schema : Schema) (name : List ℕ) → no_end schema name ≡ None → end_of schema name < length schema.vertex_types
end_low schema name none = by (vertex_type_of schema name) refl none
  where
    by : (o : Option ℕ) → vertex_type_of schema name ≡ o → cond (is_some o) None (Some (fault.NoSuchType name)) ≡ None → unwrap_or o 0 < length schema.vertex_types
    by None found none = absurd (cc)
    by (Some n) found none =
        subst (λ k. n < k) (length-map schema.vertex_types (λ (t : VertexType). t.name)) (position-Some (bytes_eq name) (vertex_names schema.vertex_types) n [] found).0

types_fit : (schema : Schema) (number : ℕ) (name : List ℕ) (directed : Bool) (from to : ℕ) (reverse : Option (List ℕ)) (key : ℕ) (attributes : List Attribute)
    → from < length schema.vertex_types → to < length schema.vertex_types → key ≤ length (map settled attributes) → All AttributeFits (map settled attributes)
    → All (EdgeTypeFits schema) (edge_types_of number name directed from to reverse key attributes)
types_fit schema number name directed from to None key attributes low high few fits =
    all_one (EdgeTypeFits schema) _ (record { from = low; to = high; key = few; attributes = fits })
types_fit schema number name directed from to (Some reverse) key attributes low high few fits =
    all_two (EdgeTypeFits schema) _ _ (record { from = low; to = high; key = few; attributes = fits })
    (record { from = high; to = low; key = few; attributes = fits })

pub sound_with_edge_type : (schema : Schema) (number : ℕ) (name : List ℕ) (directed : Bool) (from to : List ℕ) (reverse : Option (List ℕ)) (key rest : List Attribute)
    → All (λ a. is_plain a ≡ true) key → All (λ a. is_plain a ≡ true) rest → edge_refusal schema name from to reverse (key ++ rest) ≡ None → IsSound schema
    → IsSound (with_edge_types schema (edge_types_of number name directed (end_of schema from) (end_of schema to) reverse (length key) (key ++ rest)))
sound_with_edge_type schema number name directed from to reverse key rest first second none sound =
    let one = both_none (taken schema name) _ none in
    let two = both_none (reverse_taken schema name reverse) _ one.1 in
    let three = both_none (no_end schema from) _ two.1 in
    let four = both_none (no_end schema to) _ three.1 in
    let five = both_none (attribute_refusal (attribute_names (key ++ rest)) (key ++ rest)) _ four.1 in
    let good = (both_none (twice (attribute_names (key ++ rest))) (bad_default (key ++ rest)) five.0).1 in
    let plain = all_join (λ a. is_plain a ≡ true) key rest first second in
    let long = length-map (key ++ rest) settled in
    let more = length-append key rest in
    record {
      vertex_types = sound.vertex_types;
      edge_types = λ k d low.
          let t = all_join (EdgeTypeFits schema) schema.edge_types _ sound.edge_types
          (types_fit schema number name directed (end_of schema from) (end_of schema to) reverse (length key) (key ++ rest)
          (end_low schema from three.0) (end_low schema to four.0) (omega (arith, long, more)) (settled_all (key ++ rest) plain good)) k d low in
          record { from = t.from; to = t.to; key = t.key; attributes = t.attributes };
    }

pub ruleset soundness = (empty_is_sound, sound_with_graph, sound_with_vertex_type, sound_with_edge_type)
