-- Seats: what contracts see of words and of their seats.
-- Here the end is any state that the rule allows and that has the seat's view. The code reads the words once, when they
-- are no longer shared between threads.
use Rattle.std.specs.Prelude.{◌≡◌, ℕ, ◌+◌, ◌<◌, ◌≤◌, List, length, map, slice_get, Some, ⊤}
use Rattle.atomic_table.specs.Table.{State, Seen}
use Rattle.gq_words.specs.declared.fold.Op.{Op}
use Rattle.gq_words.specs.declared.view.View.{View}
use Rattle.gq_words.specs.declared.seat.WordSeat.{WordSeat}
use Rattle.gq_words.specs.declared.words.Words.{Words}
use Rattle.gq_words.specs.declared.fault.WordFault.{WordFault}
use Rattle.gq_words.specs.declared.fault.WordFault.TheVariants.{Apart, OutOfMemory}
use Rattle.gq_words.specs.Fold.{Feed, folded}
use Rattle.gq_words.specs.Rule.{IsKept, openings, all_feeds, made}

-- each word's operation and initial value
abbrev pub openings_of : Words → List (Op × ℕ)
openings_of words = openings words.table.shared.key

-- the maximum number of seats
abbrev pub seats_of : Words → ℕ
seats_of words = words.table.shared.key.seats

-- the view of the seat
abbrev pub view_of : WordSeat → View
view_of seat = seat.seat.me.0

-- the seat is one of these words
abbrev pub IsSeatOf : Words → WordSeat → Type 0
IsSeatOf words seat = seat.seat.table_id ≡ words.table.shared.table_id

-- the same seat, at the same words
abbrev pub IsSameSeat : WordSeat → WordSeat → Type 0
IsSameSeat old new = (new.seat.table_id ≡ old.seat.table_id) × (new.seat.id ≡ old.seat.id)

-- the word at this place takes inputs by this operation
abbrev pub HasOp : Words → ℕ → Op → Type 0
HasOp words i op = slice_get (map (λ o. o.0) (openings_of words)) i ≡ Some op

-- there are as many words as initial values, and each is the fold of its initial value and everything that was fed to
-- it
pub record AreFolds (ops : List (Op × ℕ)) (feeds : List Feed) (words : List ℕ) : Type 0 where
  pub size : length words ≡ length ops
  pub each : (i : ℕ) (op : Op) (w : ℕ) → slice_get ops i ≡ Some (op, w) → slice_get words i ≡ Some (folded op w i feeds)

-- the words may end in this state: it keeps their rule, and in it the seat has its view
abbrev pub EndsIn : Words → WordSeat → State (Unit {0}) View → Type 0
EndsIn words seat last = Seen (IsKept words.table.shared.key) seat.seat.id (view_of seat) last

-- no seat is missing: as many were made as this one represents, it has all spare ones too, and everything was fed
-- through these
pub record IsWhole (words : Words) (seat : WordSeat) : Type 0 where
  pub last : State (Unit {0}) View
  pub ends : EndsIn words seat last
  pub seats : made last.views ≡ (view_of seat).stands
  pub feeds : all_feeds last.views ≡ (view_of seat).feeds
  pub all : (view_of seat).stands + (view_of seat).spare ≡ seats_of words

-- n seats were made, and this one represents fewer. With those that it may still make, they are at most as many as
-- there may be
pub record IsApart (words : Words) (seat : WordSeat) (stands n : ℕ) : Type 0 where
  pub last : State (Unit {0}) View
  pub ends : EndsIn words seat last
  pub seats : made last.views ≡ n
  pub stands_is : stands ≡ (view_of seat).stands
  pub missing : stands < n
  pub within : n + (view_of seat).spare ≤ seats_of words

-- why the words can't be closed: a seat is missing, or memory ran out
abbrev pub IsFault : Words → WordSeat → WordFault → Type 0
IsFault words seat (Apart stands n) = IsApart words seat stands n
IsFault words seat OutOfMemory = ⊤
