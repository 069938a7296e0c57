-- Lines: the checked job of a tree, for a catalog and a graph: numbers replace names, values replace option texts.
use Rattle.std.specs.Prelude.{ℕ, ◌==◌, ◌&&◌, not, Bool, false, if◌then◌else◌, List, [], ◌∷◌, ◌++◌, map, Option, Some, None, is_some, bytes_eq}
use Rattle.std.specs.List.{list_any}
use Rattle.std.specs.Option.{unwrap_or}
use Rattle.gq_tree.specs.declared.job.FileTree.{FileTree}
use Rattle.gq_tree.specs.declared.job.FileTree.TheVariants as trees
use Rattle.gq_tree.specs.declared.job.Table.{Table}
use Rattle.gq_tree.specs.declared.job.Table.TheVariants as tables
use Rattle.gq_tree.specs.declared.job.Destination.{Destination}
use Rattle.gq_tree.specs.declared.job.LoadTree.{LoadTree}
use Rattle.gq_tree.specs.declared.job.JobLine.{JobLine}
use Rattle.gq_tree.specs.declared.job.JobLine.TheVariants.{Define, Load}
use Rattle.gq_tree.specs.declared.job.JobTree.{JobTree}
use Rattle.gq_graph.specs.declared.types.GraphType.{GraphType}
use Rattle.gq_graph.specs.Catalog.{Schema, vertex_type_of, edge_type_of}
use Rattle.gq_load_check.specs.declared.job.FileName.{FileName}
use Rattle.gq_load_check.specs.declared.job.FileName.TheVariants as names
use Rattle.gq_load_check.specs.declared.job.Target.{Target}
use Rattle.gq_load_check.specs.declared.job.Target.TheVariants as targets
use Rattle.gq_load_check.specs.declared.job.LoadInto.{LoadInto}
use Rattle.gq_load_check.specs.declared.job.LoadLine.{LoadLine}
use Rattle.gq_load_check.specs.declared.job.Job.{Job}
use Rattle.gq_load_check.specs.Targets.{edge_type_at, graph_at}
use Rattle.gq_load_check.specs.Options.{separator_of, header_of, quote_of}

-- ---- files

-- whether a line defines the name
abbrev pub is_define : List ℕ → JobLine → Bool
is_define name (Define defined path) = bytes_eq defined name
is_define name (Load load) = false

unfoldable pub defines : List JobLine → List ℕ → Bool
defines lines name = list_any (is_define name) lines

-- a file and its path
abbrev pub File : Type 0
File = List ℕ × Option (List ℕ)

-- adds the file that a line defines to those of the lines after it; a later DEFINE of the same name replaces it
abbrev pub files_with : JobLine → List JobLine → List File → List File
files_with (Load load) later files = files
files_with (Define name path) later files = if defines later name then files else files ++ (name, path) ∷ []

-- each defined name once, with the path of its last DEFINE, the last DEFINE first
abbrev pub files_of : List JobLine → List File
files_of [] = []
files_of (line ∷ lines) = files_with line lines (files_of lines)

-- ---- destinations

-- whether a number occurs in a list
abbrev pub has : List ℕ → ℕ → Bool
has numbers n = list_any (λ k. k == n) numbers

-- the target of a vertex type, if it belongs to the graph
abbrev pub vertex_target : GraphType → Option ℕ → Option Target
vertex_target graph None = None
vertex_target graph (Some n) = if has graph.vertices n then Some (targets.Vertex n) else None

-- the target of an edge type, if it belongs to the graph and isn't a reverse type
abbrev pub edge_target : Schema → GraphType → Option ℕ → Option Target
edge_target schema graph None = None
edge_target schema graph (Some n) =
    if has graph.edges n && not (is_some (edge_type_at schema n).forward) then Some (targets.Edge n) else None

-- the type that a destination names
abbrev pub target_of : Schema → GraphType → Table → List ℕ → Option Target
target_of schema graph tables.Vertex name = vertex_target graph (vertex_type_of schema name)
target_of schema graph tables.Edge name = edge_target schema graph (edge_type_of schema name)

abbrev pub into_of : Schema → GraphType → Destination → LoadInto
into_of schema graph d = record {
  target = unwrap_or (target_of schema graph d.table d.name) (targets.Vertex 0);
  columns = d.columns;
}

-- ---- lines

abbrev pub file_of : FileTree → FileName
file_of (trees.Defined name) = names.Defined name
file_of (trees.Path path) = names.Path path

abbrev pub line_of : Schema → GraphType → LoadTree → LoadLine
line_of schema graph load = record {
  file = file_of load.file;
  separator = separator_of load.options;
  header = header_of load.options;
  quote = quote_of load.options;
  destinations = map (into_of schema graph) load.destinations;
}

-- the LOADs of a job, in source order
abbrev pub lines_of : Schema → GraphType → List JobLine → List LoadLine
lines_of schema graph [] = []
lines_of schema graph (Load load ∷ lines) = line_of schema graph load ∷ lines_of schema graph lines
lines_of schema graph (Define name path ∷ lines) = lines_of schema graph lines

abbrev pub job_of : Schema → ℕ → JobTree → Job
job_of schema graph job = record {
  files = files_of job.lines;
  lines = lines_of schema (graph_at schema graph) job.lines;
}
