-- Columns: what the accumulators of a slot are, side by side, by number of vertex.
use Rattle.std.specs.Prelude.{◌≡◌, ◌⊎◌, ℕ, ℤ, Bool, List, Some, slice_get}
use Rattle.gq_nest.specs.declared.content.Content.{Content}
use Rattle.gq_graph.specs.declared.rows.Candidate.{Candidate}
use Rattle.gq_frame.specs.declared.accums.Accums.{Accums}
use Rattle.gq_exec_contribute.specs.declared.columns.Column.{Column}
use Rattle.gq_exec_contribute.specs.declared.filters.EndCell.{EndCell}
use Rattle.gq_exec_contribute.specs.Filters.{end_vertex}
use Rattle.gq_exec_contribute.specs.Prepared.{HoldsInt, HoldsTruth, StandsAt}

-- the accumulator of a slot at a vertex has a content that reads as this INT, or as this truth
pub record StandsInt (a : Accums) (n v : ℕ) (x : ℤ) : Type 0 where
  pub content : Content
  pub stands : StandsAt a n v content
  pub holds : HoldsInt content x

pub record StandsTruth (a : Accums) (n v : ℕ) (b : Bool) : Type 0 where
  pub content : Content
  pub stands : StandsAt a n v content
  pub holds : HoldsTruth content b

-- these are the INTs of a slot's accumulators at the first vertices, or their truths
abbrev pub AreInts : Accums → ℕ → List ℤ → Type 0
AreInts a n xs = (v : ℕ) (x : ℤ) → slice_get xs v ≡ Some x → StandsInt a n v x

abbrev pub AreTruths : Accums → ℕ → List Bool → Type 0
AreTruths a n bs = (v : ℕ) (b : Bool) → slice_get bs v ≡ Some b → StandsTruth a n v b

-- a column lists what these accumulators are
pub record IsColumn (a : Accums) (m : Column) : Type 0 where
  pub ints : AreInts a m.slot m.ints
  pub shorts : AreInts a m.slot m.shorts
  pub truths : AreTruths a m.slot m.truths

-- it has this INT for a vertex
abbrev pub HasInt : Column → ℕ → ℤ → Type 0
HasInt m v x = (slice_get m.shorts v ≡ Some x) ⊎ (slice_get m.ints v ≡ Some x)

-- it has this INT, or this truth, for the accumulator of an end
pub record ListsInt (m : Column) (e : EndCell) (c : Candidate) (x : ℤ) : Type 0 where
  pub vertex : ℕ
  pub at : end_vertex e.is_target c ≡ Some vertex
  pub slot : m.slot ≡ e.slot
  pub there : HasInt m vertex x

pub record ListsTruth (m : Column) (e : EndCell) (c : Candidate) (b : Bool) : Type 0 where
  pub vertex : ℕ
  pub at : end_vertex e.is_target c ≡ Some vertex
  pub slot : m.slot ≡ e.slot
  pub there : slice_get m.truths vertex ≡ Some b
