-- Held: what a scope holds, and the scope and place of gq_rules_typing that it represents.
use Rattle.std.specs.Prelude.{ℕ, Bool, List, map, reverse, slice_get, Option, Some, None}
use Rattle.gq_graph.specs.Catalog.{Schema}
use Rattle.gq_graph.specs.declared.types.GraphType.{GraphType}
use Rattle.gq_value.specs.declared.kind.BaseType.{BaseType}
use Rattle.gq_value.specs.AccumViews.{base_of, accum_of}
use Rattle.gq_rules_typing.specs.Statements.{Bytes}
use Rattle.gq_rules_typing.specs.Sorts.{Fields, Sorts, sorts_of}
use Rattle.gq_rules_typing.specs.Words.{Setting, by_name}
use Rattle.gq_rules_typing.specs.ExpressionTypes.{Names}
use Rattle.gq_rules_typing.specs.Scopes as typing
use Rattle.gq_scope.specs.declared.entry.Entry.{Entry}
use Rattle.gq_scope.specs.declared.entry.Entry.TheVariants as entry
use Rattle.gq_scope.specs.declared.entry.Place.{Place}
use Rattle.gq_scope.specs.declared.entry.Place.TheVariants as place
use Rattle.gq_scope.specs.Kept.{tuple_types}

-- the catalog, the number of the query's graph, the names in the order in which they were added, the place
pub record Held : Type 0 where
  pub schema : Schema
  pub graph : Option ℕ
  pub names : List (Bytes × Entry)
  pub place : typing.Place Bytes
  pub with_paths : Bool

-- ---- the meaning of the code's entries and places

-- the fields of a tuple type are in the setting instead
abbrev pub entry_of : Entry → typing.Entry
entry_of (entry.Variable b) = typing.Variable (base_of b)
entry_of (entry.SetVariable types) = typing.SetVariable types
entry_of (entry.Alias types) = typing.Alias types
entry_of (entry.EdgeAlias types) = typing.EdgeAlias types
entry_of (entry.Accumulator k attached) = typing.Accumulator (accum_of k) attached
entry_of (entry.TupleType fields) = typing.TupleName

abbrev pub fields_of : List (Bytes × BaseType) → Fields
fields_of fields = map (λ f. (f.0, base_of f.1)) fields

abbrev pub place_of : Place → typing.Place Bytes
place_of place.Statement = typing.InStatement
place_of place.Block = typing.InBlock
place_of place.Post = typing.InPost
place_of place.Limit = typing.InLimit
place_of place.Opening = typing.InOpening
place_of (place.Selection set) = typing.InSelection set.now
place_of (place.Tail selected) = typing.InTail selected.now

-- ---- the meaning of the scope

-- the graph, by its number
abbrev pub graph_in : Schema → Option ℕ → Option GraphType
graph_in schema None = None
graph_in schema (Some g) = slice_get schema.graphs g

-- the types that the query sees
unfoldable pub sorts_in : Held → Sorts
sorts_in h = sorts_of h.schema (graph_in h.schema h.graph)

-- words, types, and the tuple types by their numbers
unfoldable pub setting_in : Held → Setting Bytes
setting_in h = record {
  words = by_name (sorts_in h);
  sorts = sorts_in h;
  tuples = map (λ t. (t.0, fields_of t.1)) (tuple_types h.names);
}

-- the names, the last one first
unfoldable pub scope_in : Held → typing.Scope Bytes
scope_in h = record {
  setting = setting_in h;
  names = map (λ e. (e.0, entry_of e.1)) (reverse h.names);
  with_paths = h.with_paths;
}

-- what an expression may name at the scope's place
unfoldable pub names_in : Held → Names Bytes
names_in h = typing.names_at (scope_in h) h.place
