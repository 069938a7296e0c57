-- Starts: the start of a block: the vertices that its source denotes, and which candidates are meant.
use Rattle.std.specs.Prelude.{◌≡◌, ℕ, ◌<◌, true, false, if◌then◌else◌, List, [], ◌∷◌, filter, length, Option, Some, None}
use Rattle.std.specs.List.{All, range_with_len}
use Rattle.gq_graph.specs.declared.rows.Candidate.{Candidate}
use Rattle.gq_graph.specs.declared.rows.VertexRow.{VertexRow}
use Rattle.gq_graph.specs.Candidates.{among, is_target}
use Rattle.gq_index.specs.Sights.{vertex_kinds}
use Rattle.gq_rules_meaning.specs.Calendars.{Calendar}
use Rattle.gq_rules_meaning.specs.States.{Thing, SetOf, State}
use Rattle.gq_rules_meaning.specs.Sources.{from, candidates_of, within_bound}
use Rattle.gq_plan_ir.specs.declared.block.Block.{Block}
use Rattle.gq_plan_ir.specs.declared.block.Types.{Types}
use Rattle.gq_plan_ir.specs.declared.block.Types.TheVariants as types
use Rattle.gq_plan_ir.specs.BlockView.{view_block, view_walk}
use Rattle.gq_plan_ir.specs.Reference.{Reference}
use Rattle.gq_frame.specs.Shows.{Shows}
use Rattle.gq_eval_context.specs.Viewed.{Over}
use Rattle.gq_eval_context.specs.Looks.{world_over}

-- the vertices of a set, if it is one
abbrev pub listed_at : Option Thing → List ℕ
listed_at (Some (SetOf ts vs)) = vs
listed_at _ = []

-- all vertices of a type, by number
abbrev pub all_under : List VertexRow → ℕ → List ℕ
all_under vertices t = filter (is_target (vertex_kinds vertices) (t ∷ [])) (range_with_len 0 (length (vertex_kinds vertices)))

-- of a type of the graph
abbrev pub vertices_under : List VertexRow → List ℕ → ℕ → List ℕ
vertices_under vertices own t = if among own t then all_under vertices t else []

-- the named edge types, if they are of the graph; or all of these
abbrev pub types_in : List ℕ → Types → List ℕ
types_in own types.Every = own
types_in own (types.These ts) = filter (among own) ts

-- both ends of a candidate are existing vertices
abbrev pub IsBelow : ℕ → Option ℕ → Type 0
IsBelow n None = Unit {0}
IsBelow n (Some v) = v < n

pub record IsWithin (n : ℕ) (c : Candidate) : Type 0 where
  pub source : c.source < n
  pub target : IsBelow n c.target

-- the candidates from a set, in every state that the frame shows; along a path at most as many as allowed
pub record AreFrom (o : Over) (block : Block) (set : List ℕ) (cs : List Candidate) : Type 0 where
  pub each : (clock : Calendar) (s : State Reference) → Shows o.frame s → cs ≡ candidates_of (world_over clock o) set (view_walk block.walk)
  pub within : All (IsWithin (length o.vertices)) cs
  pub bounded : within_bound (view_walk block.walk) cs ≡ true

-- from a set there are more bindings than a path may have
pub record FromTooMany (o : Over) (block : Block) (set : List ℕ) : Type 0 where
  pub each : (clock : Calendar) (s : State Reference) → Shows o.frame s → within_bound (view_walk block.walk) (candidates_of (world_over clock o) set (view_walk block.walk)) ≡ false

-- the candidates of a block; along a path at most as many as allowed
pub record AreCandidates (o : Over) (block : Block) (cs : List Candidate) : Type 0 where
  pub each : (clock : Calendar) (s : State Reference) → Shows o.frame s
      → cs ≡ candidates_of (world_over clock o) (from (world_over clock o) s.names (view_block block)).start (view_block block).walk
  pub within : All (IsWithin (length o.vertices)) cs
  pub bounded : within_bound (view_block block).walk cs ≡ true

-- a block has more bindings than a path may have
pub record AreTooMany (o : Over) (block : Block) : Type 0 where
  pub each : (clock : Calendar) (s : State Reference) → Shows o.frame s
      → within_bound (view_block block).walk (candidates_of (world_over clock o) (from (world_over clock o) s.names (view_block block)).start (view_block block).walk) ≡ false
