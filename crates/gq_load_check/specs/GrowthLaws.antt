-- GrowthLaws: what stays valid when a catalog is extended.
use Rattle.std.proofs.Common.{ℕ, ◌+◌, ◌<◌, ◌≤◌, ◌≡◌, false, List, [], ◌∷◌, ◌++◌, length, get_or, take, drop, min, All, refl, ap, sym, subst, ◌∙◌, arith}
use Rattle.std.proofs.lemmas.List.{get_or-take, length-take, take-append-drop, take-append-le}
use Rattle.std.proofs.Math.Seq.{take-append_seam, take-length}
use Rattle.gq_graph.specs.declared.types.Attribute.{Attribute}
use Rattle.gq_graph.specs.declared.types.IdShape.{IdShape}
use Rattle.gq_graph.specs.declared.types.EdgeType.{EdgeType}
use Rattle.gq_graph.specs.declared.types.GraphType.{GraphType}
use Rattle.gq_graph.specs.Catalog.{Schema, with_vertex_type, with_edge_types, with_graph}
use Rattle.gq_load_check.specs.declared.job.Target.{Target}
use Rattle.gq_load_check.specs.declared.job.Target.TheVariants as targets
use Rattle.gq_load_check.specs.declared.job.LoadInto.{LoadInto}
use Rattle.gq_load_check.specs.declared.job.LoadLine.{LoadLine}
use Rattle.gq_load_check.specs.Targets.{no_vertex_type, no_edge_type, vertex_type_at, edge_type_at, attributes_of, value_count, name_count, HasTarget}
use Rattle.gq_load_check.specs.Fits.{is_default, IntoFits, LineFits, HasGrown}

-- ---- prefixes of lists

low_min : (m n : ℕ) → min m n ≡ m → m ≤ n
low_min m n is = omega (arith, is)

long : {A : Type 0} (xs ys : List A) → take (length xs) ys ≡ xs → length xs ≤ length ys
long xs ys begins = low_min (length xs) (length ys) (sym (length-take (length xs) ys) ∙ ap length begins)

same_at : {A : Type 0} (xs ys : List A) (n : ℕ) (d : A) → take (length xs) ys ≡ xs → n < length xs → get_or ys n d ≡ get_or xs n d
same_at xs ys n d begins low = sym (get_or-take (length xs) ys n d low) ∙ ap (λ l. get_or l n d) begins

below : (n a b : ℕ) → n < a → a ≤ b → n < b
below n a b low more = omega arith

-- ---- types

pub vertex_type_stays : (before after : Schema) (n : ℕ) → HasGrown before after → n < length before.vertex_types
    → vertex_type_at after n ≡ vertex_type_at before n
vertex_type_stays before after n grown low = same_at before.vertex_types after.vertex_types n no_vertex_type grown.vertex_types low

pub edge_type_stays : (before after : Schema) (n : ℕ) → HasGrown before after → n < length before.edge_types
    → edge_type_at after n ≡ edge_type_at before n
edge_type_stays before after n grown low = same_at before.edge_types after.edge_types n no_edge_type grown.edge_types low

pub target_stays : (before after : Schema) (t : Target) → HasGrown before after → HasTarget before t → HasTarget after t
target_stays before after (targets.Vertex n) grown there =
    below n (length before.vertex_types) (length after.vertex_types) there (long before.vertex_types after.vertex_types grown.vertex_types)
target_stays before after (targets.Edge n) grown there = (
  below n (length before.edge_types) (length after.edge_types) there.0 (long before.edge_types after.edge_types grown.edge_types),
  ap (λ (t : EdgeType). t.forward) (edge_type_stays before after n grown there.0) ∙ there.1,
)

pub attributes_stay : (before after : Schema) (t : Target) → HasGrown before after → HasTarget before t → attributes_of after t ≡ attributes_of before t
attributes_stay before after (targets.Vertex n) grown there = ap (λ t. t.attributes) (vertex_type_stays before after n grown there)
attributes_stay before after (targets.Edge n) grown there = ap (λ (t : EdgeType). t.attributes) (edge_type_stays before after n grown there.0)

pub name_count_stays : (before after : Schema) (t : Target) → HasGrown before after → HasTarget before t → name_count after t ≡ name_count before t
name_count_stays before after (targets.Vertex n) grown there = refl
name_count_stays before after (targets.Edge n) grown there = ap (λ (t : EdgeType). 2 + t.discriminators) (edge_type_stays before after n grown there.0)

pub value_count_stays : (before after : Schema) (t : Target) → HasGrown before after → HasTarget before t → value_count after t ≡ value_count before t
value_count_stays before after (targets.Vertex n) grown there = ap (λ (l : List Attribute). 1 + length l) (attributes_stay before after (targets.Vertex n) grown there)
value_count_stays before after (targets.Edge n) grown there = ap (λ (l : List Attribute). 2 + length l) (attributes_stay before after (targets.Edge n) grown there)

-- ---- lines

pub into_stays : (before after : Schema) (into : LoadInto) → HasGrown before after → IntoFits before into → IntoFits after into
into_stays before after into grown fits = record {
  there = target_stays before after into.target grown fits.there;
  count = fits.count ∙ sym (value_count_stays before after into.target grown fits.there);
  named =
      let P : ℕ → Type 0 = λ n. All (λ c. is_default c ≡ false) (take n into.columns) in
      subst P (sym (name_count_stays before after into.target grown fits.there)) fits.named;
}

pub line_stays : (before after : Schema) (line : LoadLine) → HasGrown before after → LineFits before line → LineFits after line
line_stays before after line grown fits = record {
  quoted = fits.quoted;
  separated = fits.separated;
  destinations = λ k d low. into_stays before after (get_or line.destinations k d) grown (fits.destinations k d low);
}

-- ---- catalogs

pub grows_not : (schema : Schema) → HasGrown schema schema
grows_not schema = record {
  vertex_types = take-length schema.vertex_types;
  edge_types = take-length schema.edge_types;
  graphs = take-length schema.graphs;
}

pub grows_by_vertex_type : (schema : Schema) (name : List ℕ) (id : IdShape) (attributes : List Attribute)
    → HasGrown schema (with_vertex_type schema name id attributes)
grows_by_vertex_type schema name id attributes = record {
  vertex_types = take-append_seam schema.vertex_types _;
  edge_types = take-length schema.edge_types;
  graphs = take-length schema.graphs;
}

pub grows_by_edge_types : (schema : Schema) (types : List EdgeType) → HasGrown schema (with_edge_types schema types)
grows_by_edge_types schema types = record {
  vertex_types = take-length schema.vertex_types;
  edge_types = take-append_seam schema.edge_types types;
  graphs = take-length schema.graphs;
}

pub grows_by_graph : (schema : Schema) (graph : GraphType) → HasGrown schema (with_graph schema graph)
grows_by_graph schema graph = record {
  vertex_types = take-length schema.vertex_types;
  edge_types = take-length schema.edge_types;
  graphs = take-append_seam schema.graphs (graph ∷ []);
}

begins_through : {A : Type 0} (xs ys zs : List A) → take (length xs) ys ≡ xs → take (length ys) zs ≡ ys → take (length xs) zs ≡ xs
begins_through xs ys zs first second =
    ap (take (length xs)) (sym (take-append-drop (length ys) zs) ∙ ap (λ l. l ++ drop (length ys) zs) second)
    ∙ take-append-le (length xs) ys (drop (length ys) zs) (long xs ys first) ∙ first

pub grows_on : (a b c : Schema) → HasGrown a b → HasGrown b c → HasGrown a c
grows_on a b c first second = record {
  vertex_types = begins_through a.vertex_types b.vertex_types c.vertex_types first.vertex_types second.vertex_types;
  edge_types = begins_through a.edge_types b.edge_types c.edge_types first.edge_types second.edge_types;
  graphs = begins_through a.graphs b.graphs c.graphs first.graphs second.graphs;
}
