-- Blocks: what two threads need that work on one block through a book and words, and what each of them leaves; and the
-- rows of the graph that they read.
use Rattle.std.specs.Prelude.{◌≡◌, ◌≢◌, ℕ, ◌<◌, List, [], ◌∷◌, Option, true, replicate}
use Rattle.gq_value.specs.declared.kind.Kind.TheVariants.{Sum}
use Rattle.gq_value.specs.declared.kind.Number.TheVariants.{Int}
use Rattle.gq_frame.specs.declared.slots.Slots.{Slots}
use Rattle.gq_graph.specs.declared.rows.Candidate.{Candidate}
use Rattle.gq_graph.specs.declared.rows.EdgeRow.{EdgeRow}
use Rattle.gq_graph.specs.declared.rows.VertexRow.{VertexRow}
use Rattle.gq_graph.specs.declared.types.IdKind.TheVariants.{Text}
use Rattle.gq_graph.specs.declared.types.VertexType.{VertexType}
use Rattle.gq_io.specs.declared.shape.Shape.{Shape}
use Rattle.gq_plan_ir.specs.declared.block.Block.{Block}
use Rattle.gq_rules_calendar.specs.Gregorian.{gregorian}
use Rattle.gq_eval_context.specs.Viewed.{Over}
use Rattle.gq_exec_source.specs.declared.ends.Ends.{Ends}
use Rattle.gq_exec_source.specs.Ends.{HasEnds}
use Rattle.gq_exec_source.specs.Starts.{AreCandidates}
use Rattle.gq_stripe.specs.declared.book.Book.{Book}
use Rattle.gq_stripe.specs.declared.seat.Seat.{Seat}
use Rattle.gq_stripe.specs.declared.view.Plan.{Plan}
use Rattle.gq_stripe.specs.Seats as stripes
use Rattle.gq_words.specs.declared.words.Words.{Words}
use Rattle.gq_words.specs.declared.seat.WordSeat.{WordSeat}
use Rattle.gq_words.specs.Seats as marked
use Rattle.gq_workers.specs.Working.{AreTables, IsEdgePlace, Job, Works, job_of}

-- ---- the graph

-- a vertex type without attributes, whose ids are texts
pub record IsBare (t : VertexType) : Type 0 where
  pub id : t.id.kind ≡ Text
  pub attributes : t.attributes ≡ []

-- a vertex with an id
abbrev pub IsPerson : VertexRow → Type 0
IsPerson row = row.id ≢ []

-- both ends of an edge are below a number
pub record IsAmong (count : ℕ) (edge : EdgeRow) : Type 0 where
  pub from : edge.from < count
  pub to : edge.to < count

-- ---- the block

-- the block as a job for workers, with the alias of its edge at a place
abbrev pub job_at : Over → Block → Ends → List Candidate → Shape → Option ℕ → Job
job_at o block ends cs shape edge = job_of gregorian o block ends edge cs shape

-- ends and candidates are the block's, and so are the tables
pub record CanWork (o : Over) (block : Block) (ends : Ends) (cs : List Candidate) (shape : Shape) (book : Book) (words : Words) : Type 0 where
  pub ends_are : HasEnds o.schema o.plan o.frame.things block ends
  pub candidates : AreCandidates o block cs
  pub some : 0 < shape.stripes
  pub place : Option ℕ
  pub is_place : IsEdgePlace block place
  pub tables : (edge : Option ℕ) → IsEdgePlace block edge → AreTables (job_at o block ends cs shape edge) (stripes.plan_of book) (marked.openings_of words)

-- a thread did the block's work through its seats, until no chunk was left
abbrev pub IsPart : Over → Block → Ends → List Candidate → Shape → Book → Words → Seat → WordSeat → Seat → WordSeat → Type 0
IsPart o block ends cs shape book words seat word_seat after word_after = stripes.IsFree book after × marked.IsSeatOf words word_after
    × ((edge : Option ℕ) → IsEdgePlace block edge
    → Works (job_at o block ends cs shape edge) (stripes.view_of seat) (stripes.view_of after) (marked.view_of word_seat) (marked.view_of word_after))

-- a sum of INTs for each of three vertices, and no other accumulator
abbrev pub AreSums : Slots → Type 0
AreSums slots = slots ≡ record { declared = (record { kind = Sum Int; attached = true }) ∷ []; vertices = 3 }

abbrev pub HasSums : Plan → Type 0
HasSums plan = plan.layout ≡ replicate 3 (Sum Int)
