-- Declarations that aren't refused extend a catalog, and keep its types sound.
use Rattle.std.proofs.Common.{◌≡◌, ◌≢◌, ℕ, Bool, true, false, cond, List, ◌++◌, length, get_or, map, All, Option, Some, None, Result, Ok, refl, subst, ap, [], ◌∷◌, ◌<◌, arith}
use Rattle.std.specs.Prelude.{is_some, ◌||◌, bytes_eq, nat_lt, ◌+◌, find, not}
use Rattle.std.specs.Option.{option_or, option_map}
use Rattle.std.proofs.lemmas.List.{length_push}
use Rattle.std.proofs.lemmas.List.Elements.{All-map}
use Rattle.gq_graph.specs.declared.types.Attribute.{Attribute}
use Rattle.gq_graph.specs.declared.types.IdShape.{IdShape}
use Rattle.gq_graph.specs.Catalog.{Schema, with_vertex_type, with_edge_types, edge_types_of, end_of, with_graph, graph_of, vertex_type_of, type_count, most_types}
use Rattle.gq_graph.specs.Defaults.{is_plain, is_plain_sort, sort_of, has_good_default}
use Rattle.gq_graph.specs.SortLaws.{sort-Int, sort-UInt, sort-Bool, sort-Text, sort-Time}
use Rattle.gq_schema.specs.declared.fault.SchemaFault.{SchemaFault}
use Rattle.gq_schema.specs.declared.fault.SchemaFault.TheVariants as fault
use Rattle.gq_schema.specs.Members.{graph_with, misfit}
use Rattle.gq_schema.specs.Refusals.{is_type, taken, reverse_taken, no_end, twice, twice_after, bad_default, too_many, attribute_names, shown_id, attribute_refusal, vertex_refusal, edge_refusal, graph_taken, member_refusal, graph_refusal}
use Rattle.gq_diagnostics.specs.declared.refusal.Refusal.{Refusal}
use Rattle.gq_tree.specs.declared.schema.AttributeKind.{AttributeKind}
use Rattle.gq_tree.specs.declared.schema.AttributeKind.TheVariants as kind
use Rattle.gq_tree.specs.declared.schema.AttributeTree.{AttributeTree}
use Rattle.gq_tree.specs.declared.schema.VertexTree.{VertexTree}
use Rattle.gq_tree.specs.declared.schema.EndsTree.{EndsTree}
use Rattle.gq_tree.specs.declared.schema.EdgeTree.{EdgeTree}
use Rattle.gq_tree.specs.declared.schema.EdgeTree.TheVariants as edge
use Rattle.gq_tree.specs.declared.schema.GraphTree.{GraphTree}
use Rattle.gq_ddl.specs.Attributes.{kind_of, attribute_of, discriminator_of, id_of}
use Rattle.gq_ddl.specs.Declarations.{unless_refused, vertex_created, ends_created, edge_created, graph_created, members_of}
use Rattle.gq_load_check.specs.Fits.{HasGrown}
use Rattle.gq_load_check.specs.GrowthLaws.{grows_not, grows_by_vertex_type, grows_by_edge_types, grows_by_graph}
use Rattle.gq_insert.specs.Fits.{IsSound}
use Rattle.gq_rules_store.specs.Stores.{IsWhole}
use Rattle.gq_rules_store.proofs.CatalogFits.{vertex_type_law, edge_type_law, graph_type_law}
use Rattle.gq_insert.specs.SoundLaws.{sound_with_graph, sound_with_vertex_type, sound_with_edge_type}

-- one catalog extends another, sound types stay sound, and a whole catalog stays whole
pub record Grown (before after : Schema) : Type 0 where
  pub grown : HasGrown before after
  pub whole : IsSound before → IsSound after
  pub fits : IsSound before → IsWhole before → IsWhole after

pub not_grown : (schema : Schema) → Grown schema schema
not_grown schema = record { grown = grows_not schema; whole = λ sound. sound; fits = λ sound whole. whole }

-- ---- no rule's fault is OutOfMemory

abbrev Tells : Option SchemaFault → Type 0
Tells o = o ≢ Some fault.OutOfMemory

or_tells : (a b : Option SchemaFault) → Tells a → Tells b → Tells (option_or a b)
or_tells None b first second = second
or_tells (Some f) b first second = first

cond_tells : (b : Bool) (f : SchemaFault) → f ≢ fault.OutOfMemory → Tells (cond b (Some f) None)
cond_tells true f other e = other (cc)
cond_tells false f other e = cc

unless_tells : (b : Bool) (f : SchemaFault) → f ≢ fault.OutOfMemory → Tells (cond b None (Some f))
unless_tells true f other e = cc
unless_tells false f other e = other (cc)

map_tells : {A : Type 0} (g : A → SchemaFault) (o : Option A) → ((a : A) → g a ≢ fault.OutOfMemory) → Tells (option_map g o)
map_tells g None other e = cc
map_tells g (Some a) other e = other a (cc)

taken_tells : (schema : Schema) (name : List ℕ) → Tells (taken schema name)
taken_tells schema name = cond_tells (is_type schema name) (fault.NameTaken name) (λ e. cc)

twice_tells : (names : List (List ℕ)) → Tells (twice names)
twice_tells names = map_tells fault.AttributeTwice (twice_after [] names) (λ n e. cc)

default_tells : (attributes : List Attribute) → Tells (bad_default attributes)
default_tells attributes = map_tells (λ (a : Attribute). fault.BadDefault a.name) (find (λ a. not (has_good_default a)) attributes) (λ a e. cc)

attributes_tell : (names : List (List ℕ)) (attributes : List Attribute) → Tells (attribute_refusal names attributes)
attributes_tell names attributes = or_tells (twice names) (bad_default attributes) (twice_tells names) (default_tells attributes)

many_tells : (schema : Schema) (more : ℕ) → Tells (too_many schema more)
many_tells schema more = cond_tells (nat_lt most_types (type_count schema + more)) fault.TooMany (λ e. cc)

vertex_tells : (schema : Schema) (name : List ℕ) (id : IdShape) (attributes : List Attribute) → Tells (vertex_refusal schema name id attributes)
vertex_tells schema name id attributes =
    or_tells (taken schema name) _ (taken_tells schema name)
    (or_tells (attribute_refusal (shown_id id ++ attribute_names attributes) attributes) (too_many schema 1)
    (attributes_tell (shown_id id ++ attribute_names attributes) attributes) (many_tells schema 1))

reverse_tells : (schema : Schema) (name : List ℕ) (reverse : Option (List ℕ)) → Tells (reverse_taken schema name reverse)
reverse_tells schema name None = λ e. cc
reverse_tells schema name (Some reverse) = cond_tells (bytes_eq reverse name || is_type schema reverse) (fault.NameTaken reverse) (λ e. cc)

end_tells : (schema : Schema) (name : List ℕ) → Tells (no_end schema name)
end_tells schema name = unless_tells (is_some (vertex_type_of schema name)) (fault.NoSuchType name) (λ e. cc)

edge_tells : (schema : Schema) (name from to : List ℕ) (reverse : Option (List ℕ)) (attributes : List Attribute) → Tells (edge_refusal schema name from to reverse attributes)
edge_tells schema name from to reverse attributes =
    or_tells (taken schema name) _ (taken_tells schema name)
    (or_tells (reverse_taken schema name reverse) _ (reverse_tells schema name reverse)
    (or_tells (no_end schema from) _ (end_tells schema from)
    (or_tells (no_end schema to) _ (end_tells schema to)
    (or_tells (attribute_refusal (attribute_names attributes) attributes) _ (attributes_tell (attribute_names attributes) attributes)
    (many_tells schema (cond (is_some reverse) 2 1))))))

graph_tells : (schema : Schema) (name : List ℕ) (members : Option (List (List ℕ))) → Tells (graph_refusal schema name members)
graph_tells schema name members =
    or_tells (graph_taken schema name) (member_refusal schema members) (cond_tells (is_some (graph_of schema name)) (fault.GraphExists name) (λ e. cc)) (by members)
  where
    by : (o : Option (List (List ℕ))) → Tells (member_refusal schema o)
    by None = λ e. cc
    by (Some names) = map_tells fault.NoSuchType (misfit schema names) (λ n e. cc)

-- ---- declarations that aren't refused

ok_same : (s t : Schema) → (let r : Result Schema Refusal = Ok s in r) ≡ Ok t → s ≡ t
ok_same s t e = cc

-- no rule failed
unless_ok : (due : Option SchemaFault) (made new : Schema) → Tells due → unless_refused due made ≡ Ok new → (due ≡ None) × (made ≡ new)
unless_ok None made new tells is = (refl, ok_same made new is)
unless_ok (Some (fault.NameTaken x)) made new tells is = absurd (cc)
unless_ok (Some (fault.NoSuchType x)) made new tells is = absurd (cc)
unless_ok (Some (fault.AttributeTwice x)) made new tells is = absurd (cc)
unless_ok (Some (fault.GraphExists x)) made new tells is = absurd (cc)
unless_ok (Some fault.TooMany) made new tells is = absurd (cc)
unless_ok (Some fault.OutOfMemory) made new tells is = absurd (tells refl)
unless_ok (Some (fault.BadDefault x)) made new tells is = absurd (cc)

plain_kind : (k : AttributeKind) → is_plain_sort (sort_of (kind_of k)) ≡ true
plain_kind kind.Int = rw sort-Int refl
plain_kind kind.UInt = rw sort-UInt refl
plain_kind kind.Bool = rw sort-Bool refl
plain_kind kind.Text = rw sort-Text refl
plain_kind kind.Time = rw sort-Time refl

plain_attributes : (trees : List AttributeTree) → All (λ a. is_plain a ≡ true) (map attribute_of trees)
plain_attributes trees = All-map (λ a. is_plain a ≡ true) attribute_of trees (λ k d low. plain_kind (get_or trees k d).kind)

plain_discriminators : (trees : List (List ℕ × AttributeKind)) → All (λ a. is_plain a ≡ true) (map discriminator_of trees)
plain_discriminators trees = All-map (λ a. is_plain a ≡ true) discriminator_of trees (λ k d low. plain_kind (get_or trees k d).1)

pub vertex_grown : (schema new : Schema) (tree : VertexTree) → vertex_created schema tree ≡ Ok new → Grown schema new
vertex_grown schema new tree is =
    let all : List Attribute = map attribute_of tree.attributes in
    let ok = unless_ok (vertex_refusal schema tree.name (id_of tree) all) (with_vertex_type schema tree.name (id_of tree) all) new (vertex_tells schema tree.name (id_of tree) all) is in
    subst (Grown schema) ok.1 (record {
      grown = grows_by_vertex_type schema tree.name (id_of tree) all;
      whole = sound_with_vertex_type schema tree.name (id_of tree) all (plain_attributes tree.attributes) ok.0;
      fits = λ sound whole. vertex_type_law schema tree.name (id_of tree) all ok.0 whole;
    })

ends_grown : (schema new : Schema) (directed : Bool) (ends : EndsTree) (reverse : Option (List ℕ)) → ends_created schema directed ends reverse ≡ Ok new → Grown schema new
ends_grown schema new directed ends reverse is =
    let key : List Attribute = map discriminator_of ends.discriminators in
    let rest : List Attribute = map attribute_of ends.attributes in
    let types = edge_types_of (length schema.edge_types) ends.name directed (end_of schema ends.from) (end_of schema ends.to) reverse (length key) (key ++ rest) in
    let ok = unless_ok (edge_refusal schema ends.name ends.from ends.to reverse (key ++ rest)) (with_edge_types schema types) new (edge_tells schema ends.name ends.from ends.to reverse (key ++ rest)) is in
    subst (Grown schema) ok.1 (record {
      grown = grows_by_edge_types schema types;
      whole = sound_with_edge_type schema (length schema.edge_types) ends.name directed ends.from ends.to reverse key rest
          (plain_discriminators ends.discriminators) (plain_attributes ends.attributes) ok.0;
      fits = λ sound whole. edge_type_law schema ends.name directed ends.from ends.to reverse key rest ok.0 whole;
    })

pub edge_grown : (schema new : Schema) (tree : EdgeTree) → edge_created schema tree ≡ Ok new → Grown schema new
edge_grown schema new (edge.Directed ends reverse) is = ends_grown schema new true ends reverse is
edge_grown schema new (edge.Undirected ends) is = ends_grown schema new false ends None is

pub graph_grown : (schema new : Schema) (tree : GraphTree) → graph_created schema tree ≡ Ok new → Grown schema new
graph_grown schema new tree is =
    let ok = unless_ok (graph_refusal schema tree.name (members_of tree.members)) (with_graph schema (graph_with schema tree.name (members_of tree.members))) new (graph_tells schema tree.name (members_of tree.members)) is in
    subst (Grown schema) ok.1 (record {
      grown = grows_by_graph schema (graph_with schema tree.name (members_of tree.members));
      whole = sound_with_graph schema (graph_with schema tree.name (members_of tree.members));
      fits = λ sound whole. graph_type_law schema tree.name (members_of tree.members) ok.0 sound whole;
    })

-- and the new graph is appended to the others
pub graph_there : (schema new : Schema) (tree : GraphTree) (graph : ℕ) → graph_created schema tree ≡ Ok new → graph ≡ length schema.graphs → graph < length new.graphs
graph_there schema new tree graph is last =
    let one = graph_with schema tree.name (members_of tree.members) in
    let ok = unless_ok (graph_refusal schema tree.name (members_of tree.members)) (with_graph schema one) new (graph_tells schema tree.name (members_of tree.members)) is in
    let long = length_push schema.graphs one in
    let more : length (schema.graphs ++ one ∷ []) ≡ length new.graphs = ap (λ (s : Schema). length s.graphs) ok.1 in
    omega arith
