-- StoreFits: the data that a query reads from a store whose rows are of their types.
use Rattle.std.proofs.Common.{◌≡◌, ℕ, ◌<◌, Bool, true, false, List, [], ◌∷◌, length, ℤ, pos, negsuc, All, Option, Some, None, refl, ap, ap₂, sym, ◌∙◌, subst, arith}
use Rattle.std.proofs.lemmas.Bool.{eqb-true}
use Rattle.std.proofs.lemmas.Bool.Decides.{nat_tests}
use Rattle.std.proofs.lemmas.List.{length-map}
use Rattle.std.proofs.lemmas.Option.{slice_get-map, slice_get-get_or, slice_get_within, get_or_from_slice_get}
use Rattle.std.specs.Prelude.{◌&&◌, not, ◌==◌, if◌then◌else◌, map, slice_get, nat_lt, bytes_eq}
use Rattle.std.specs.List.{list_all}
use Rattle.std.specs.Option.{option_map, unwrap_or, ForSome}
use Rattle.gq_value.specs.Accums as bases
use Rattle.gq_value.specs.Val.{Val, Int, UInt, Truth, Text}
use Rattle.gq_value.specs.Views.{val}
use Rattle.gq_value.specs.Typed.{in_calendar}
use Rattle.gq_value.specs.AccumViews.{base_of}
use Rattle.gq_graph.specs.Candidates.{among}
use Rattle.gq_graph.specs.Catalog.{Schema}
use Rattle.gq_graph.specs.Defaults.{Sort, INT, UINT, BOOL, STRING, DATETIME, sort_of, is_time}
use Rattle.gq_graph.specs.declared.types.Attribute.{Attribute}
use Rattle.gq_graph.specs.declared.types.IdKind.{IdKind}
use Rattle.gq_graph.specs.declared.types.IdKind.TheVariants as id
use Rattle.gq_graph.specs.declared.types.IdShape.{IdShape}
use Rattle.gq_graph.specs.declared.types.EdgeType.{EdgeType}
use Rattle.gq_graph.specs.declared.types.GraphType.{GraphType}
use Rattle.gq_graph.specs.declared.rows.VertexRow.{VertexRow}
use Rattle.gq_graph.specs.declared.rows.EdgeRow.{EdgeRow}
use Rattle.gq_value.specs.declared.value.Value.{Value}
use Rattle.gq_load_check.specs.Targets.{no_vertex_type, no_edge_type, vertex_type_at, edge_type_at}
use Rattle.gq_insert.specs.Fits.{row_fits}
use Rattle.gq_insert.specs.Fits as inserted
use Rattle.gq_rules_typing.specs.Statements.{Bytes}
use Rattle.gq_rules_typing.specs.Sorts.{Fields, EdgeSort, Sorts, bases_of, attribute_fields, id_base, with_id, vertex_sort, edge_sort, sorts_of}
use Rattle.gq_rules_typing.specs.Words.{Function, Makes, under, functions}
use Rattle.gq_rules_meaning.specs.Calendars.{Calendar, StaysInRange}
use Rattle.gq_rules_meaning.specs.Expressions.{World}
use Rattle.gq_rules_meaning.specs.Graphs.{Graph, id_value, with_shown, values_in, graph_of}
use Rattle.gq_rules_meaning.specs.Queries.{with_tuples, world_of}
use Rattle.gq_rules_meaning.specs.Fitting.{is_value, row_is, is_row_of, ends_of_type, ends_of_sort, VertexFits, EdgeFits, GraphFits, WorldFits}
use Rattle.gq_rules_store.specs.Stores.{OwnFits, PairsFit, VertexRowFits, EdgeRowFits, RowsFit, StoreLaw}
use Rattle.gq_rules_store.proofs.KindFits.{Has, sort_base}

-- ---- values

pub time_in : (z : ℤ) → is_time z ≡ true → in_calendar z ≡ true
time_in (pos n) e = grind (arith, nat_tests, e)
time_in (negsuc n) e = grind (arith, nat_tests, e)

both : (p q : Bool) → (p && q) ≡ true → (p ≡ true) × (q ≡ true)
both true q e = (refl, e)
both false q e = absurd (cc e)

abbrev id_and : IdShape → Fields → Bool → Fields
id_and shape fields true = (shape.name, id_base shape.kind) ∷ fields
id_and shape fields false = fields

module _ {N : Type 0} (world : World N) where
  value_fits : (s : Sort) (b : bases.Base) (v : Val) → Has s b → inserted.is_value s v ≡ true → is_value world b v ≡ true
  value_fits INT b (Int z) h e = subst (λ b. is_value world b (Int z) ≡ true) (sym h) refl
  value_fits UINT b (UInt n) h e = subst (λ b. is_value world b (UInt n) ≡ true) (sym h) refl
  value_fits BOOL b (Truth q) h e = subst (λ b. is_value world b (Truth q) ≡ true) (sym h) refl
  value_fits STRING b (Text s) h e = subst (λ b. is_value world b (Text s) ≡ true) (sym h) refl
  value_fits DATETIME b (Int z) h e = subst (λ b. is_value world b (Int z) ≡ true) (sym h) (time_in z e)
  value_fits s b v h e = absurd (cc e)

  row_fits_all : (attributes : List Attribute) (row : List Value) → row_fits attributes row ≡ true → row_is world (bases_of (attribute_fields attributes)) (map val row) ≡ true
  row_fits_all [] [] e = refl
  row_fits_all [] (v ∷ row) e = absurd (cc e)
  row_fits_all (a ∷ attributes) [] e = absurd (cc e)
  row_fits_all (a ∷ attributes) (v ∷ row) e =
      let u = both (inserted.is_value (sort_of a.kind) (val v)) (row_fits attributes row) e in
      ap₂ (λ p q. p && q) (value_fits (sort_of a.kind) (base_of a.kind) (val v) (sort_base a.kind) u.0) (row_fits_all attributes row u.1)

  id_fits : (k : IdKind) (text : Bytes) → is_value world (id_base k) (id_value k text) ≡ true
  id_fits id.Text text = refl
  id_fits id.Int text = refl
  id_fits id.UInt text = refl

  shown_fits : (shape : IdShape) (text : Bytes) (fields : Fields) (vs : List Val) → row_is world (bases_of fields) vs ≡ true
      → row_is world (bases_of (with_id shape fields)) (if shape.shown then id_value shape.kind text ∷ vs else vs) ≡ true
  shown_fits shape text fields vs e = go shape.shown
    where
      go : (q : Bool) → row_is world (bases_of (id_and shape fields q)) (if q then id_value shape.kind text ∷ vs else vs) ≡ true
      go true = ap₂ (λ p q. p && q) (id_fits shape.kind text) e
      go false = e

-- ---- lists

all_at : {A : Type 0} (P : A → Type 0) (xs : List A) (n : ℕ) (x : A) → All P xs → slice_get xs n ≡ Some x → P x
all_at P xs n x all e = subst P (get_or_from_slice_get xs n x x e) (all n x (slice_get_within xs n x e))

some_same : {A : Type 0} (x y : A) → Some x ≡ Some y → x ≡ y
some_same x y e = cc

-- an item of a list of images
mapped : {A B : Type 0} (f : A → B) (xs : List A) (n : ℕ) (y : B) → slice_get (map f xs) n ≡ Some y → (x : A) × (slice_get xs n ≡ Some x) × (f x ≡ y)
mapped f xs n y e = go (slice_get xs n) refl
  where
    go : (o : Option _) → slice_get xs n ≡ o → (x : _) × (slice_get xs n ≡ Some x) × (f x ≡ y)
    go None d = let u = sym (slice_get-map f xs n ∙ ap (option_map f) d) ∙ e in absurd (cc u)
    go (Some x) d = (x, d, some_same (f x) y (sym (slice_get-map f xs n ∙ ap (option_map f) d) ∙ e))

ends_same : (types : List EdgeType) → map ends_of_type types ≡ map ends_of_sort (map edge_sort types)
ends_same [] = refl
ends_same (t ∷ types) = ap (λ rest. ends_of_type t ∷ rest) (ends_same types)

-- ---- functions by name make no tuples

abbrev makes : Function → Bool
makes (Makes n fields) = true
makes f = false

none_makes : (pairs : List (Bytes × Function)) (f : Bytes) (g : Function) → list_all (λ (p : Bytes × Function). not (makes p.1)) pairs ≡ true → under bytes_eq f pairs ≡ Some g → makes g ≡ false
none_makes [] f g h e = absurd (cc e)
none_makes (p ∷ pairs) f g h e = let u = both (not (makes p.1)) _ h in go (bytes_eq p.0 f) e (none_makes pairs f g u.1) u.0
  where
    is_not : (q : Bool) → not q ≡ true → q ≡ false
    is_not true h = absurd (cc h)
    is_not false h = refl

    go : (q : Bool) → (if q then Some p.1 else under bytes_eq f pairs) ≡ Some g → (under bytes_eq f pairs ≡ Some g → makes g ≡ false) → not (makes p.1) ≡ true → makes g ≡ false
    go true e rest h = ap makes (sym (some_same p.1 g e)) ∙ is_not (makes p.1) h
    go false e rest h = rest e

no_tuple : (f : Bytes) (n : ℕ) (fields : List bases.Base) → under bytes_eq f functions ≡ Some (Makes n fields) → ⊥
no_tuple f n fields e = let u = none_makes functions f (Makes n fields) refl e in cc u

-- ---- a graph of a catalog and a store

module _ (schema : Schema) (own : Option GraphType) (vertices : List VertexRow) (edges : List EdgeRow) (clock : Calendar)
    (pairs : PairsFit schema) (graph_fits : ForSome own (OwnFits schema)) (rows : RowsFit schema vertices edges) where
  abbrev graph : Graph
  graph = graph_of schema own vertices edges

  abbrev sorts : Sorts
  sorts = sorts_of schema own

  own_vertices_low : (o : Option GraphType) → ForSome o (OwnFits schema) → list_all (λ t. nat_lt t (length schema.vertex_types)) (sorts_of schema o).own_vertices ≡ true
  own_vertices_low None f = refl
  own_vertices_low (Some g) f = (f g refl).vertices

  own_edges_low : (o : Option GraphType) → ForSome o (OwnFits schema) → list_all (λ t. nat_lt t (length schema.edge_types)) (sorts_of schema o).own_edges ≡ true
  own_edges_low None f = refl
  own_edges_low (Some g) f = (f g refl).edges

  own_ends : (o : Option GraphType) → ForSome o (OwnFits schema) → (t : ℕ) → among (sorts_of schema o).own_edges t ≡ true → t < length schema.edge_types
      → (among (sorts_of schema o).own_vertices (edge_type_at schema t).from && among (sorts_of schema o).own_vertices (edge_type_at schema t).to) ≡ true
  own_ends None f t e low = absurd (cc e)
  own_ends (Some g) f t e low = (f g refl).ends t e low

  graph_is : GraphFits graph
  graph_is = record {
    types = ends_same schema.edge_types;
    ids = length-map vertices _ ∙ sym (length-map vertices _);
    values = length-map vertices _ ∙ sym (length-map vertices _);
    vertices = subst (λ n. list_all (λ t. nat_lt t n) sorts.own_vertices ≡ true) (sym (length-map schema.vertex_types vertex_sort)) (own_vertices_low own graph_fits);
    edges = subst (λ n. list_all (λ t. nat_lt t n) sorts.own_edges ≡ true) (sym (length-map schema.edge_types edge_sort)) (own_edges_low own graph_fits);
    ends = λ t sort o e. ends_are t sort o e;
  }
    where
      ends_are : (t : ℕ) (sort : EdgeSort) → among sorts.own_edges t ≡ true → slice_get (map edge_sort schema.edge_types) t ≡ Some sort → (among sorts.own_vertices sort.from && among sorts.own_vertices sort.to) ≡ true
      ends_are t sort o e =
          let m = mapped edge_sort schema.edge_types t sort e in
          let at : edge_type_at schema t ≡ m.0 = get_or_from_slice_get schema.edge_types t m.0 no_edge_type m.1 in
          subst (λ (s : EdgeSort). (among sorts.own_vertices s.from && among sorts.own_vertices s.to) ≡ true) m.2
          (subst (λ (t : EdgeType). (among sorts.own_vertices t.from && among sorts.own_vertices t.to) ≡ true) at (own_ends own graph_fits t o (slice_get_within schema.edge_types t m.0 m.1)))

  module _ (tuples : List (Bytes × Fields)) where
    abbrev world : World Bytes
    world = with_tuples tuples (world_of graph clock)

    vertex_is : (v t : ℕ) → slice_get graph.sight.kinds v ≡ Some t → VertexFits world v t
    vertex_is v t e =
        let m = mapped (λ (r : VertexRow). r.kind) vertices v t e in
        let fit : VertexRowFits schema m.0 = all_at (VertexRowFits schema) vertices v m.0 rows.vertices m.1 in
        let type = vertex_type_at schema m.0.kind in
        let there : slice_get schema.vertex_types m.0.kind ≡ Some type = slice_get-get_or schema.vertex_types m.0.kind no_vertex_type fit.there in
        record {
          sort = vertex_sort type;
          values = values_in schema m.0;
          is_sort = slice_get-map vertex_sort schema.vertex_types t ∙ ap (option_map vertex_sort) (ap (slice_get schema.vertex_types) (sym m.2) ∙ there);
          are_values = slice_get-map (values_in schema) vertices v ∙ ap (option_map (values_in schema)) m.1;
          fit = ap (λ o. row_is world (bases_of (with_id type.id (attribute_fields type.attributes))) (with_shown m.0 o (map val m.0.attributes))) there
              ∙ shown_fits world type.id m.0.id (attribute_fields type.attributes) (map val m.0.attributes) (row_fits_all world type.attributes m.0.attributes fit.values);
        }

    abbrev row_of : ℕ → Option EdgeRow → Option EdgeSort → Bool
    row_of t (Some row) (Some sort) = row.kind == unwrap_or sort.forward t
    row_of t o p = false

    edge_row : (r t : ℕ) (row : EdgeRow) (type : EdgeType) → slice_get edges r ≡ Some row → slice_get schema.edge_types t ≡ Some type → (row.kind == unwrap_or type.forward t) ≡ true → EdgeFits world r t
    edge_row r t row type d e k =
        let fit : EdgeRowFits schema row = all_at (EdgeRowFits schema) edges r row rows.edges d in
        record {
          sort = edge_sort type;
          values = map val row.attributes;
          is_sort = slice_get-map edge_sort schema.edge_types t ∙ ap (option_map edge_sort) e;
          are_values = slice_get-map (λ (r : EdgeRow). map val r.attributes) edges r ∙ ap (option_map (λ (r : EdgeRow). map val r.attributes)) d;
          fit = row_fits_all world type.attributes row.attributes (subst (λ attributes. row_fits attributes row.attributes ≡ true) (its type.forward refl (eqb-true row.kind (unwrap_or type.forward t) k)) fit.values);
        }
      where
        at : edge_type_at schema t ≡ type
        at = get_or_from_slice_get schema.edge_types t type no_edge_type e

        its : (o : Option ℕ) → type.forward ≡ o → row.kind ≡ unwrap_or type.forward t → (edge_type_at schema row.kind).attributes ≡ type.attributes
        its None f same = ap (λ n. (edge_type_at schema n).attributes) (same ∙ ap (λ o. unwrap_or o t) f) ∙ ap (λ (t : EdgeType). t.attributes) at
        its (Some n) f same =
            ap (λ n. (edge_type_at schema n).attributes) (same ∙ ap (λ o. unwrap_or o t) f)
            ∙ (pairs.forward t n (slice_get_within schema.edge_types t type e) (ap (λ (t : EdgeType). t.forward) at ∙ f)).attributes ∙ ap (λ (t : EdgeType). t.attributes) at

    edge_is : (r t : ℕ) (types : List ℕ) → is_row_of graph types r t ≡ true → EdgeFits world r t
    edge_is r t types e = go (slice_get edges r) refl (slice_get (map edge_sort schema.edge_types) t) refl (both (among types t) _ e).1
      where
        go : (o : Option EdgeRow) → slice_get edges r ≡ o → (p : Option EdgeSort) → slice_get (map edge_sort schema.edge_types) t ≡ p → row_of t o p ≡ true → EdgeFits world r t
        go None d p f k = absurd (cc k)
        go (Some row) d None f k = absurd (cc k)
        go (Some row) d (Some sort) f k =
            let m = mapped edge_sort schema.edge_types t sort f in
            edge_row r t row m.0 d m.1 (ap (λ (s : EdgeSort). row.kind == unwrap_or s.forward t) m.2 ∙ k)

    world_fits : StaysInRange clock → WorldFits world
    world_fits times = record { graph = graph_is; vertices = vertex_is; edges = edge_is; times = times; functions = no_tuple }

pub store_law : StoreLaw
store_law schema own vertices edges clock pairs graph_fits rows times tuples = world_fits schema own vertices edges clock pairs graph_fits rows tuples times
