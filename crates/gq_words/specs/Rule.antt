-- Rule: the invariant of words between any two steps, and the effect of a step.
-- Each seat has a view, which is ghost state that only its own steps change; here all views are one list. The code has
-- no list: a step is one atomic change of one word, and an additional word counts the seats.
use Rattle.std.specs.Prelude.{◌≡◌, ℕ, ◌+◌, ◌-◌, ◌≤◌, List, [], ◌∷◌, ◌++◌, length, flat_map, sum_by, slice_get, slice_index, Some}
use mathlib.Core.Option.{some}
use lib.ListN.{get_elem?}
use Rattle.atomic_table.specs.Table.{State, Me, Step}
use Rattle.gq_words.specs.declared.fold.Op.{Op}
use Rattle.gq_words.specs.declared.view.View.{View}
use Rattle.gq_words.specs.declared.view.Opening.{Opening}
use Rattle.gq_words.specs.Fold.{Feed, folded}

-- a view of these seats and feeds
abbrev pub view : ℕ → ℕ → List Feed → View
view stands spare feeds = record { stands = stands; spare = spare; feeds = feeds }

-- each word's operation and initial value
abbrev pub openings : Opening → List (Op × ℕ)
openings key = key.words.items

-- all that was fed, through all seats
abbrev pub all_feeds : List View → List Feed
all_feeds views = flat_map (λ v. v.feeds) views

-- the seats that were made
abbrev pub made : List View → ℕ
made views = sum_by (λ v. v.stands) views

-- the seats that may still be made
abbrev pub unmade : List View → ℕ
unmade views = sum_by (λ v. v.spare) views

-- the view of a seat that was joined into another one
abbrev pub spent : View
spent = view 0 0 []

-- each word is the fold of its initial value and everything that was fed to it. After them, one word counts the seats
-- made
pub record IsKept (key : Opening) (s : State (Unit {0}) View) : Type 0 where
  pub size : length s.words ≡ length (openings key) + 1
  pub folds : (i : ℕ) (op : Op) (w : ℕ) → slice_get (openings key) i ≡ Some (op, w) → slice_index s.words i ≡ folded op w i (all_feeds s.views)
  pub counts : slice_index s.words (length (openings key)) ≡ made s.views
  pub shared : made s.views + unmade s.views ≡ key.seats
  pub few : key.seats ≤ 1024
  -- a view that represents no seat is spent
  pub live : (k : ℕ) (v : View) → get_elem? s.views k ≡ some v → v.stands ≡ 0 → v ≡ spent

-- the first seat's view
abbrev pub first : Opening → View
first key = view 1 (key.seats - 1) []

-- the view with one more feed
abbrev pub with_feed : View → ℕ → ℕ → View
with_feed v i x = view v.stands v.spare (v.feeds ++ (i, x) ∷ [])

-- what a step sees of its seat: its view, and the slots that it holds, of which there are none
abbrev pub Known : Type 0
Known = Me (Unit {0}) View

-- a feed: the seat's view gains the input
abbrev pub Feeds : Step (Unit {0}) → Known → ℕ → Known → Type 0
Feeds step before found after = (after.1 ≡ before.1) × (after.0 ≡ with_feed before.0 step.word step.first)

-- one more seat is counted; this one represents it until it is handed over
abbrev pub Counts : Step (Unit {0}) → Known → ℕ → Known → Type 0
Counts step before found after = (after.1 ≡ before.1) × (after.0 ≡ view (before.0.stands + 1) (before.0.spare - 1) before.0.feeds)

-- a look: nothing changes, and the view represents at most as many seats as there may be
abbrev pub Looks : Step (Unit {0}) → Known → ℕ → Known → Type 0
Looks step before found after = (after ≡ before) × (before.0.stands + before.0.spare ≤ 1024)

-- the view after one of its seats was handed over
abbrev pub handed : View → View
handed v = view (v.stands - 1) v.spare v.feeds

-- the view of the seat that was handed over
abbrev pub fresh : View → View
fresh v = view 1 0 []

-- the view after another one was joined into it
abbrev pub joined : View → View → View
joined v w = view (v.stands + w.stands) (v.spare + w.spare) (v.feeds ++ w.feeds)
