-- Seats: what contracts see of a book and of its seats.
-- Here a put is a record in its seat's view, and a content is the one after the whole list of inputs. The code counts,
-- and feeds each input while its stripe is at home.
use Rattle.std.specs.Prelude.{◌≡◌, ℕ, ◌+◌, ◌*◌, ◌%◌, ◌/◌, ◌^◌, ◌<◌, ◌≤◌, Bool, true, false, List, [], ◌∷◌, ◌++◌, length, sum_by, slice_get, unwrap_or, Option, Some, None, All}
use Rattle.gq_value.specs.declared.kind.Kind.{Kind}
use Rattle.gq_value.specs.AccumViews.{accum_of}
use Rattle.gq_nest.specs.declared.content.Content.{Content}
use Rattle.gq_nest.specs.Shows.{Shows}
use Rattle.gq_core.specs.declared.worker.Phase.{Phase}
use Rattle.gq_core.specs.declared.worker.Phase.TheVariants.{Idle, Ended, Holds}
use Rattle.gq_core.specs.Accounts.{put_of}
use Rattle.gq_stripe.specs.declared.view.Plan.{Plan}
use Rattle.gq_stripe.specs.declared.view.Put.{Put}
use Rattle.gq_stripe.specs.declared.view.View.{View}
use Rattle.gq_stripe.specs.declared.seat.Seat.{Seat}
use Rattle.gq_stripe.specs.declared.book.Book.{Book}
use Rattle.gq_stripe.specs.declared.partials.Partials.{Partials}
use Rattle.gq_stripe.specs.declared.fault.CloseFault.{CloseFault}
use Rattle.gq_stripe.specs.declared.fault.CloseFault.TheVariants.{Unfinished, OutOfMemory}
use Rattle.gq_stripe.specs.Contents.{Batch, FitsInput, content_after, inputs_of, any_spoiled}
use Rattle.gq_stripe.specs.Rule.{worker}

-- the plan that a book was opened with
abbrev pub plan_of : Book → Plan
plan_of book = book.table.shared.key

-- the view of a seat
abbrev pub view_of : Seat → View
view_of seat = seat.place.me.0

-- the seat is one of this book
pub record IsSeatOf (book : Book) (seat : Seat) : Type 0 where
  pub table : seat.place.table_id ≡ book.table.shared.table_id
  pub plan : (view_of seat).of ≡ plan_of book

-- the same seat, at the same book
abbrev pub IsSameSeat : Seat → Seat → Type 0
IsSameSeat old new = (new.place.table_id ≡ old.place.table_id) × (new.place.id ≡ old.place.id)

-- the chunk that a seat holds between two calls, and whether it has ended
abbrev pub chunk_held : Phase → Option ℕ
chunk_held (Holds chunk stripe) = Some chunk
chunk_held _ = None

abbrev pub has_ended : Phase → Bool
has_ended Ended = true
has_ended _ = false

-- a seat of this book that may draw
abbrev pub IsIdle : Book → Seat → Type 0
IsIdle book seat = IsSeatOf book seat × (chunk_held (view_of seat).phase ≡ None) × (has_ended (view_of seat).phase ≡ false)

-- a seat of this book that holds no chunk
abbrev pub IsFree : Book → Seat → Type 0
IsFree book seat = IsSeatOf book seat × (chunk_held (view_of seat).phase ≡ None)

-- the number of contributions
abbrev pub contributions : List Batch → ℕ
contributions batches = sum_by (λ batch. length batch) batches

-- batches that were made for this number of stripes, for targets of the layout whose kinds contain no ListAccum and
-- take them
pub record FitBatches (plan : Plan) (batches : List Batch) : Type 0 where
  pub stripes : length batches ≡ plan.stripes
  pub few : contributions batches ≤ 2 ^ 35
  pub each : (j : ℕ) (batch : Batch) → slice_get batches j ≡ Some batch → All (FitsInput plan.layout plan.stripes j) batch

-- one put of the chunk for each batch, at the stripes from j on
abbrev pub ArePuts : ℕ → ℕ → List Put → List Batch → Type 0
ArePuts chunk j [] [] = Unit {0}
ArePuts chunk j (p ∷ ps) (batch ∷ batches) = (p.chunk ≡ chunk) × (p.stripe ≡ j) × (p.batch ≡ batch) × ArePuts chunk (j + 1) ps batches
ArePuts chunk j _ _ = ⊥

-- a view with more puts, which holds no chunk
abbrev pub with_puts : View → List Put → View
with_puts v puts = record v { phase = Idle; puts = v.puts ++ puts }

-- the chunk was put once at each stripe, with its batch there; `spoiled` says whether one of the stripes was spoiled
-- then
abbrev pub HasPut : ℕ → List Batch → Bool → View → View → Type 0
HasPut chunk batches spoiled old new = (puts : List Put) × ArePuts chunk 0 puts batches × (any_spoiled puts ≡ spoiled) × (new ≡ with_puts old puts)

-- the number of puts in all: each chunk at each stripe
abbrev pub puts_wanted : Plan → ℕ
puts_wanted plan = plan.chunks * plan.stripes

-- each chunk was put once at each stripe
abbrev pub IsWhole : Plan → View → Type 0
IsWhole plan v = (length v.puts ≡ puts_wanted plan) × ((chunk stripe : ℕ) → chunk < plan.chunks → stripe < plan.stripes → put_of chunk stripe (worker v).puts ≡ 1)

-- the content of a target
abbrev pub content_at : Partials → ℕ → Option Content
content_at partials target = slice_get (unwrap_or (slice_get partials.stripes.items (target % length partials.stripes.items)) []) (target / length partials.stripes.items)

-- each target has its content after its own inputs in these puts
pub record HasContents (plan : Plan) (puts : List Put) (partials : Partials) : Type 0 where
  pub each : (target : ℕ) (kind : Kind) → slice_get plan.layout target ≡ Some kind
      → (content : Content) × (content_at partials target ≡ Some content) × Shows (accum_of kind) content (content_after kind target (inputs_of puts))

-- why the book can't be closed: fewer puts were made than needed, or memory ran out
abbrev pub IsFault : Book → Seat → CloseFault → Type 0
IsFault book seat (Unfinished put of) = (put ≡ length (view_of seat).puts) × (of ≡ puts_wanted (plan_of book)) × (put < of)
IsFault book seat OutOfMemory = puts_wanted (plan_of book) ≤ length (view_of seat).puts

-- a plan of this layout and these numbers
abbrev pub IsOpenedWith : List Kind → ℕ → ℕ → ℕ → Plan → Type 0
IsOpenedWith layout chunks stripes seats plan = (plan.layout ≡ layout) × (plan.chunks ≡ chunks) × (plan.stripes ≡ stripes) × (plan.seats ≡ seats)
