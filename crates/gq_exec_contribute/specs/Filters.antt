-- Filters: conditions of a block whose accumulators are resolved: which end has them, and the cells of their slots.
use Rattle.std.specs.Prelude.{◌≡◌, ℕ, Bool, true, false, Option, Some, slice_get}
use Rattle.gq_nest.specs.declared.content.Content.{Content}
use Rattle.gq_graph.specs.declared.rows.Candidate.{Candidate}
use Rattle.gq_frame.specs.declared.accums.Accums.{Accums}
use Rattle.gq_tree.specs.Tree.{Tree, Post, Name, Cmp, Not, Attached, part, no_part}
use Rattle.gq_plan_ir.specs.Reference.{Reference, Place, Slot}
use Rattle.gq_plan_ir.specs.declared.expr.Behind as code
use Rattle.gq_plan_ir.specs.declared.expr.Behind.TheVariants as behind
use Rattle.gq_exec_contribute.specs.declared.filters.EndCell.{EndCell}
use Rattle.gq_exec_contribute.specs.declared.filters.Filter.{Filter}
use Rattle.gq_exec_contribute.specs.declared.filters.Filter.TheVariants as filter
use Rattle.gq_exec_contribute.specs.declared.leaves.Leaves.{Leaves}
use Rattle.gq_exec_contribute.specs.Prepared.{IsVertex, StandsAt}

-- the vertex at an end of a candidate
abbrev pub end_vertex : Bool → Candidate → Option ℕ
end_vertex true c = c.target
end_vertex false c = Some c.source

-- an end is the one that a name is the alias of
pub record IsEnd (l : Leaves) (p : ℕ) (target : Bool) : Type 0 where
  pub each : (c : Candidate) (v : ℕ) → end_vertex target c ≡ Some v → IsVertex l c p v

-- an accumulator of an end, with the cells of its slot
pub record IsEndCell (l : Leaves) (e : EndCell) : Type 0 where
  pub end : IsEnd l e.place e.is_target
  pub there : slice_get l.cells e.slot ≡ Some e.cells

-- a part attaches it to the name at a place
pub record IsPartOf (l : Leaves) (p : ℕ) (b : code.Behind) (e : EndCell) : Type 0 where
  pub cell : IsEndCell l e
  pub place : p ≡ e.place
  pub attached : b ≡ behind.Attached e.slot

-- the content of such an accumulator for a candidate
pub record StandsAtEnd (a : Accums) (e : EndCell) (c : Candidate) (content : Content) : Type 0 where
  pub vertex : ℕ
  pub at : end_vertex e.is_target c ≡ Some vertex
  pub stands : StandsAt a e.slot vertex content

-- the expression that reads it
abbrev pub end_tree : EndCell → Tree Reference
end_tree e = Post (Name (Place e.place)) (part (Attached (Slot e.slot)) no_part)

pub record IsEndOf (l : Leaves) (t : Tree Reference) (e : EndCell) : Type 0 where
  pub cell : IsEndCell l e
  pub tree : t ≡ end_tree e

-- the condition that is resolved
abbrev pub filter_tree : Filter → Tree Reference
filter_tree (filter.Compared a s b) = Cmp (end_tree a) s (end_tree b)
filter_tree (filter.Held a) = end_tree a
filter_tree (filter.NotHeld n a) = Not n (end_tree a)

abbrev pub AreResolved : Leaves → Filter → Type 0
AreResolved l (filter.Compared a s b) = IsEndCell l a × IsEndCell l b
AreResolved l (filter.Held a) = IsEndCell l a
AreResolved l (filter.NotHeld n a) = IsEndCell l a

-- a condition is resolved as this one
pub record IsFilter (l : Leaves) (t : Option (Tree Reference)) (f : Filter) : Type 0 where
  pub ends : AreResolved l f
  pub stands : t ≡ Some (filter_tree f)
