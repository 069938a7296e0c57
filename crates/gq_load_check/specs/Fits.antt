-- Fits: when a checked line fits a catalog, and when one catalog extends another.
use Rattle.std.specs.Prelude.{ℕ, ◌≡◌, ◌&&◌, ◌||◌, ◌==◌, nat_lt, not, Bool, true, false, length, take, Option, Some, None, All}
use Rattle.gq_tree.specs.declared.job.Column.{Column}
use Rattle.gq_tree.specs.declared.job.Column.TheVariants as column
use Rattle.gq_graph.specs.Catalog.{Schema}
use Rattle.gq_load_check.specs.declared.job.LoadInto.{LoadInto}
use Rattle.gq_load_check.specs.declared.job.LoadLine.{LoadLine}
use Rattle.gq_load_check.specs.Targets.{HasTarget, value_count, name_count}

-- whether a column is `_`
abbrev pub is_default : Column → Bool
is_default column.Default = true
is_default (column.Number n) = false
is_default (column.Named name) = false

-- whether it is the byte of a quote, or there is none
abbrev pub is_quote : Option ℕ → Bool
is_quote None = true
is_quote (Some b) = b == 34 || b == 39

abbrev pub is_byte : Option ℕ → ℕ → Bool
is_byte None b = false
is_byte (Some quote) b = quote == b

-- whether a byte can be the separator: it is ASCII, isn't LF or CR, and isn't the quote
abbrev pub can_separate : Option ℕ → ℕ → Bool
can_separate quote b = nat_lt b 128 && not (b == 10) && not (b == 13) && not (is_byte quote b)

-- the destination's type exists, each value of its rows has a column, and no id or discriminator is `_`
pub record IntoFits (schema : Schema) (into : LoadInto) : Type 0 where
  pub there : HasTarget schema into.target
  pub count : length into.columns ≡ value_count schema into.target
  pub named : All (λ c. is_default c ≡ false) (take (name_count schema into.target) into.columns)

-- a line fits the catalog: all its destinations do, and its quote and separator can split records
pub record LineFits (schema : Schema) (line : LoadLine) : Type 0 where
  pub quoted : is_quote line.quote ≡ true
  pub separated : can_separate line.quote line.separator ≡ true
  pub destinations : All (IntoFits schema) line.destinations

-- the later catalog extends the earlier one: each list of the earlier one is a prefix of the later one's
pub record HasGrown (before after : Schema) : Type 0 where
  pub vertex_types : take (length before.vertex_types) after.vertex_types ≡ before.vertex_types
  pub edge_types : take (length before.edge_types) after.edge_types ≡ before.edge_types
  pub graphs : take (length before.graphs) after.graphs ≡ before.graphs
