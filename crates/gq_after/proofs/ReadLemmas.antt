-- ReadLemmas: expressions that are read at a vertex of a tail.
use Rattle.std.proofs.Common.{◌≡◌, ℕ, ℤ, Bool, false, List, ◌∷◌, Option, Some, None, refl, sym, ap, ◌∙◌}
use Rattle.std.specs.Prelude.{IfSome}
use Rattle.std.specs.Option.{option_map, option_to_list}
use Rattle.gq_tree.specs.Tree.{Tree}
use Rattle.gq_rules_typing.specs.Patterns.{edge_alias}
use Rattle.gq_rules_meaning.specs.Answers.{◌>>=◌}
use Rattle.gq_rules_meaning.specs.Calendars.{Calendar}
use Rattle.gq_rules_meaning.specs.Expressions.{meaning}
use Rattle.gq_rules_meaning.specs.Meanings.{Outcome, value_of_meant, as_truth}
use Rattle.gq_rules_meaning.specs.States.{read_slot}
use Rattle.gq_plan_ir.specs.declared.block.Walk.TheVariants as walk
use Rattle.gq_plan_ir.specs.BlockView.{view_walk}
use Rattle.gq_plan_ir.specs.Reference.{Reference, Place}
use Rattle.gq_frame.specs.declared.accums.Accums.{Accums}
use Rattle.gq_frame.specs.Names.{Placed}
use Rattle.gq_frame.specs.Slots.{AreSound, slots_are}
use Rattle.gq_eval_context.specs.Looks.{look_of, world_over}
use Rattle.gq_eval_context.specs.Viewed.{Over, viewed}
use Rattle.gq_exec_source.specs.declared.ends.End.{End}
use Rattle.gq_exec_source.specs.declared.ends.Ends.{Ends}
use Rattle.gq_exec_source.specs.Ends.{as_source, end_things}
use Rattle.gq_exec_contribute.specs.declared.leaves.Leaves.{Leaves}
use Rattle.gq_exec_contribute.specs.Aliases.{bound_to}
use Rattle.gq_exec_contribute.specs.Prepared.{AreAllCells, AreIn, IsInt, IsTruth, only_source, sees_at}
use Rattle.gq_after.specs.Before.{before_in}
use Rattle.gq_after.specs.Sights.{ReadsEnd, one_alias, vertex_look}
use Rattle.gq_after.proofs.BeforeLemmas.{same_meaning}

-- ---- the leaves of a tail

pub are_in : (l : Leaves) (end : End) (accums : Accums) → AreSound accums → ReadsEnd l end accums → AreIn accums l
are_in l end accums sound reads = record { cells = reads.cells; sound = sound }

none_placed : (edge : Option ℕ) → option_map Place edge ≡ None → edge ≡ None
none_placed None e = refl
none_placed (Some p) e = absurd (cc e)

pub found_end : (l : Leaves) (ends : Ends) (end : End) (accums : Accums) → ends ≡ as_source end → l.ends.now ≡ ends → option_map Place l.edge ≡ edge_alias (view_walk walk.Nowhere) → AreAllCells accums.slots l.cells → ReadsEnd l end accums
found_end l ends end accums s e edge cells = record { source = ap (λ (e : Ends). e.source) (e ∙ s); edge = none_placed l.edge edge; cells = cells }

-- the only alias of a vertex of an end
alone_bound : (ends : Ends) (v : ℕ) → one_alias (end_things ends.source v) ≡ bound_to ends None (only_source v)
alone_bound ends v = go (end_things ends.source v)
  where
    go : (o : Option (ℕ × Placed)) → one_alias o ≡ option_to_list o
    go None = refl
    go (Some a) = refl

bound_alone : (l : Leaves) (end : End) (v : ℕ) (accums : Accums) → ReadsEnd l end accums → one_alias (end_things end v) ≡ bound_to l.ends.now l.edge (only_source v)
bound_alone l end v accums r =
    ap (λ (e : End). one_alias (end_things e v)) (sym r.source) ∙ alone_bound l.ends.now v ∙ ap (λ edge. bound_to l.ends.now edge (only_source v)) (sym r.edge)

-- ---- what is read is what a tail sees

module _ (clock : Calendar) (o : Over) (l : Leaves) (accums : Accums) (end : End) (v : ℕ) (t : Tree Reference) (reads : ReadsEnd l end accums) (lacks : before_in t ≡ false) where
  -- without `v.@a'` it doesn't matter which accumulators from before the block are seen
  same_at : meaning (vertex_look clock o accums end v) t ≡ meaning (sees_at clock o l accums v) t
  same_at =
      same_meaning (vertex_look clock o accums end v) (λ a x. read_slot (world_over clock o) (slots_are o.frame.accums) a x) t lacks
      ∙ ap (λ (names : List (ℕ × Placed)). meaning (look_of clock (viewed o names accums o.frame.accums)) t) (bound_alone l end v accums reads)

  pub truth_read : (r : Option Bool) → IfSome r (IsTruth (sees_at clock o l accums v) t) → IfSome r (IsTruth (vertex_look clock o accums end v) t)
  truth_read None is = tt
  truth_read (Some b) is = ap (λ (m : Outcome). m >>= value_of_meant >>= as_truth) same_at ∙ is

  pub int_read : (r : Option ℤ) → IfSome r (IsInt (sees_at clock o l accums v) t) → IfSome r (IsInt (vertex_look clock o accums end v) t)
  int_read None is = tt
  int_read (Some x) is = ap (λ (m : Outcome). m >>= value_of_meant) same_at ∙ is

pub ruleset read_laws = (are_in)
