-- FilterLemmas: a condition is resolved, and read with its accumulators resolved.
use Rattle.std.proofs.Common.{◌≡◌, ℕ, ◌<◌, ◌≤◌, Bool, true, false, List, [], ◌∷◌, length, get_or, Option, Some, None, refl, sym, ap, ap₂, subst, ◌∙◌}
use Rattle.std.specs.Prelude.{ℤ, IfSome, slice_get}
use Rattle.gq_tree.specs.Tree as tree
use Rattle.gq_tree.specs.Tree.{Tree}
use Rattle.gq_tree.specs.declared.expr.CmpSign.{CmpSign}
use Rattle.gq_nest.specs.declared.content.Content.{Content}
use Rattle.gq_graph.specs.declared.rows.Candidate.{Candidate}
use Rattle.gq_rules_meaning.specs.Answers.{Gives, ◌>>=◌}
use Rattle.gq_rules_meaning.specs.Blocks.{passes}
use Rattle.gq_rules_meaning.specs.Calendars.{Calendar}
use Rattle.gq_rules_meaning.specs.Expressions.{Look, value_of}
use Rattle.gq_rules_meaning.specs.Meanings.{value_of_meant, as_truth}
use Rattle.gq_plan_ir.specs.declared.expr.Behind as code
use Rattle.gq_plan_ir.specs.declared.expr.Behind.TheVariants as behind
use Rattle.gq_plan_ir.specs.declared.expr.Expr.{Expr}
use Rattle.gq_plan_ir.specs.declared.expr.Expr.TheVariants as expr
use Rattle.gq_plan_ir.specs.ExprView.{view, view_behind, view_parts}
use Rattle.gq_plan_ir.specs.Reference.{Reference, Place, Slot}
use Rattle.gq_plan_ir.proofs.ViewLaws.{view-Name, view_behind-Attached}
use Rattle.gq_eval_builtins.proofs.ListSteps.{one_list}
use Rattle.gq_eval_context.specs.Viewed.{Over}
use Rattle.gq_frame.specs.declared.accums.Accums.{Accums}
use Rattle.gq_exec_contribute.specs.declared.cells.Cells.{Cells}
use Rattle.gq_exec_contribute.specs.declared.filters.EndCell.{EndCell}
use Rattle.gq_exec_contribute.specs.declared.filters.Filter.{Filter}
use Rattle.gq_exec_contribute.specs.declared.filters.Filter.TheVariants as filter
use Rattle.gq_exec_contribute.specs.declared.leaves.Leaves.{Leaves}
use Rattle.gq_exec_contribute.specs.Filters.{IsEnd, IsEndCell, IsEndOf, IsFilter, IsPartOf, StandsAtEnd, end_tree, end_vertex, filter_tree}
use Rattle.gq_exec_contribute.specs.Prepared.{AreIn, HoldsInt, HoldsTruth, IsInt, IsTarget, IsTruth, IsVertex, is_at, sees_in}
use Rattle.gq_exec_contribute.proofs.CellLemmas.{content_there, int_read, truth_read}
use Rattle.gq_exec_contribute.proofs.NameLemmas.{source_is, target_is}
use Rattle.gq_exec_contribute.proofs.ReadLemmas.{attached_is, behind_name}

-- ---- an accumulator of an end

pub target_end : (l : Leaves) (p : ℕ) → is_at l.ends.now.target.alias p ≡ true → IsEnd l p true
target_end l p h = record { each = λ c v e. target_is l c p (Some v) h e }

pub source_end : (l : Leaves) (p : ℕ) → is_at l.ends.now.target.alias p ≡ false → is_at l.edge p ≡ false → is_at l.ends.now.source.alias p ≡ true → IsEnd l p false
source_end l p n m h = record { each = λ c v e. let same : c.source ≡ v = cc e in subst (IsVertex l c p) same (source_is l c p n m h) }

pub ruleset end_laws = (target_end, source_end)

pub part_made : (l : Leaves) (p n : ℕ) (target : Bool) (cells : Cells) (b : code.Behind) → b ≡ behind.Attached n → IsEnd l p target → slice_get l.cells n ≡ Some cells
    → IsPartOf l p b (record { place = p; slot = n; is_target = target; cells = cells })
part_made l p n target cells b e end there = record { cell = record { end = end; there = there }; place = refl; attached = e }

one_part : (e : EndCell) (p : ℕ) (b : code.Behind) → p ≡ e.place → b ≡ behind.Attached e.slot → tree.Post (tree.Name (Place p)) (view_parts (b ∷ [])) ≡ end_tree e
one_part e p b place attached =
    ap (λ (q : ℕ). tree.Post (tree.Name (Place q)) (view_parts (b ∷ []))) place
    ∙ ap (λ x. tree.Post (tree.Name (Place e.place)) (tree.part x tree.no_part)) (ap view_behind attached ∙ view_behind-Attached e.slot)

pub end_made : (l : Leaves) (first : Expr) (parts : List code.Behind) (p : ℕ) (b : code.Behind) (r : Option EndCell) → first ≡ expr.Name p → 1 ≤ length parts → length parts < 2 → b ≡ get_or parts 0 b
    → IfSome r (IsPartOf l p b) → IfSome r (IsEndOf l (tree.Post (view first) (view_parts parts)))
end_made l first parts p b None is m n at h = tt
end_made l first parts p b (Some e) is m n at h = record {
  cell = h.cell;
  tree =
      ap (λ f. tree.Post (view f) (view_parts parts)) is
      ∙ ap (λ ps. tree.Post (view (expr.Name p)) (view_parts ps)) (one_list parts b m n at)
      ∙ ap (λ t. tree.Post t (view_parts (b ∷ []))) (view-Name p)
      ∙ one_part e p b h.place h.attached;
}

-- ---- a condition

pub held_made : (l : Leaves) (t u : Tree Reference) (e : EndCell) → t ≡ u → IsEndOf l u e → IsFilter l (Some t) (filter.Held e)
held_made l t u e same h = record { ends = h.cell; stands = ap Some (same ∙ h.tree) }

pub not_made : (l : Leaves) (n : ℕ) (t u : Tree Reference) (e : EndCell) → t ≡ tree.Not n u → IsEndOf l u e → IsFilter l (Some t) (filter.NotHeld n e)
not_made l n t u e same h = record { ends = h.cell; stands = ap Some (same ∙ ap (tree.Not n) h.tree) }

pub compared_made : (l : Leaves) (s : CmpSign) (t u : Tree Reference) (a b : EndCell) → IsEndOf l t a → IsEndOf l u b → IsFilter l (Some (tree.Cmp t s u)) (filter.Compared a s b)
compared_made l s t u a b h k = record { ends = (h.cell, k.cell); stands = ap Some (ap₂ (λ x y. tree.Cmp x s y) h.tree k.tree) }

pub filter_moved : (l : Leaves) (t u : Tree Reference) (r : Option Filter) → t ≡ u → IfSome r (IsFilter l (Some u)) → IfSome r (IsFilter l (Some t))
filter_moved l t u r e h = subst (λ t. IfSome r (IsFilter l (Some t))) (sym e) h

pub filter_there : (l : Leaves) (t : Option (Tree Reference)) (r : Option Filter) (f : Filter) → r ≡ Some f → IfSome r (IsFilter l t) → IsFilter l t f
filter_there l t r f e h = subst (λ (r : Option Filter). IfSome r (IsFilter l t)) e h

-- ---- what it reads as

module _ (clock : Calendar) (o : Over) (l : Leaves) (accums : Accums) (c : Candidate) (e : EndCell) (content : Content) (cell : IsEndCell l e) (at : StandsAtEnd accums e c content) where
  abbrev look : Look Reference
  look = sees_in clock o l accums c

  value_read : value_of look (end_tree e) ≡ (look.attached (Slot e.slot) at.vertex >>= value_of_meant)
  value_read =
      ap (λ x. value_of look (tree.Post (tree.Name (Place e.place)) (tree.part x tree.no_part))) (sym (view_behind-Attached e.slot))
      ∙ behind_name look e.place (behind.Attached e.slot)
      ∙ attached_is clock o l accums c e.place e.slot at.vertex (behind.Attached e.slot) refl (cell.end.each c at.vertex at.at)

  pub end_int : (r : Option ℤ) → IfSome r (HoldsInt content) → IfSome r (IsInt look (end_tree e))
  end_int None h = tt
  end_int (Some x) h = value_read ∙ ap (λ m. m >>= value_of_meant) (int_read clock o accums e.slot at.vertex content (Some x) at.stands h)

  pub end_truth : (r : Option Bool) → IfSome r (HoldsTruth content) → IfSome r (IsTruth look (end_tree e))
  end_truth None h = tt
  end_truth (Some b) h = ap (λ m. m >>= as_truth) (value_read ∙ ap (λ m. m >>= value_of_meant) (truth_read clock o accums e.slot at.vertex content (Some b) at.stands h))

pub stands_made : (a : Accums) (l : Leaves) (e : EndCell) (c : Candidate) (v t : ℕ) (content : Content) → AreIn a l → IsEndCell l e → end_vertex e.is_target c ≡ Some v → IsTarget e.cells v t → slice_get a.contents t ≡ Some content → StandsAtEnd a e c content
stands_made a l e c v t content found cell at target there = record { vertex = v; at = at; stands = content_there a l.cells e.slot v t e.cells content found.sound found.cells cell.there target there }

-- ---- whether a candidate passes

pub stands_for : (look : Look Reference) (f : Filter) (t : Tree Reference) (r : Option Bool) → filter_tree f ≡ t → IfSome r (IsTruth look t) → IfSome r (IsTruth look (filter_tree f))
stands_for look f t r e h = subst (λ t. IfSome r (IsTruth look t)) (sym e) h

pub passed : (look : Look Reference) (l : Leaves) (t : Option (Tree Reference)) (f : Filter) (b : Bool) → IsFilter l t f → IsTruth look (filter_tree f) b → passes look t ≡ Gives b
passed look l t f b is h = subst (λ t. passes look t ≡ Gives b) (sym is.stands) h
