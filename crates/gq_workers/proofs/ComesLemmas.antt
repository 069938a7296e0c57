-- ComesLemmas: the effect of a candidate that is read is the one of evaluating it.
use Rattle.std.proofs.Common.{◌≡◌, ℕ, ◌==◌, Bool, true, false, List, [], ◌∷◌, None, ap, subst, ◌∙◌}
use Rattle.std.specs.Prelude.{◌||◌, length}
use Rattle.std.specs.Option.{option_map}
use Rattle.gq_value.specs.declared.value.Wrong.{Wrong}
use Rattle.gq_graph.specs.declared.rows.Candidate.{Candidate}
use Rattle.gq_rules_meaning.specs.Answers.{Answer, Gives, ◌>>=◌}
use Rattle.gq_rules_meaning.specs.Blocks.{Match, contributions, passes}
use Rattle.gq_rules_meaning.specs.Calendars.{Calendar}
use Rattle.gq_plan_ir.specs.declared.block.Act.{Act}
use Rattle.gq_plan_ir.specs.declared.block.Block.{Block}
use Rattle.gq_plan_ir.specs.ExprView.{view}
use Rattle.gq_plan_ir.specs.BlockView.{view_acts}
use Rattle.gq_frame.specs.Slots.{slots_are}
use Rattle.gq_eval_context.specs.Viewed.{Over}
use Rattle.gq_exec_source.specs.Marks.{is_marked}
use Rattle.gq_exec_source.specs.Starts.{IsWithin}
use Rattle.gq_exec_contribute.specs.declared.leaves.Leaves.{Leaves}
use Rattle.gq_exec_contribute.specs.Prepared.{Gathers, sees}
use Rattle.gq_workers.specs.declared.found.MatchBuffer.{MatchBuffer}
use Rattle.gq_workers.specs.Running.{comes, Done, IsShaped, Tried, marks_end}
use Rattle.gq_workers.proofs.FoundLemmas.{ints_passed, filtered_same, shaped_still}

module _ (clock : Calendar) (o : Over) (l : Leaves) (block : Block) (c : Candidate) where
  abbrev go : Answer Wrong (List Match)
  go = comes clock o block l.ends.now l.edge c

  -- WHERE is false
  pub read_filtered : (old : MatchBuffer) (b : Bool) → b ≡ false → passes (sees clock o l c) (option_map view block.filter) ≡ Gives b → IsShaped (length o.vertices) old → Done o go old old true
  read_filtered old b e where_is shaped = (filtered_same o go old (ap (λ w. w >>= elim [ true ↦ contributions (sees clock o l c) (slots_are o.frame.accums) (view_acts block.accum) >>= λ xs. Gives (record { candidate = c; gives = xs } ∷ []) | false ↦ Gives [] ]) (where_is ∙ ap Gives e)), shaped)

  -- a match, with its contributions
  pub read_gathered : (old new : MatchBuffer) (acts : List Act) (b d : Bool) → acts ≡ block.accum → b ≡ true → d ≡ true → passes (sees clock o l c) (option_map view block.filter) ≡ Gives b
      → Gathers o.frame.accums.slots (contributions (sees clock o l c) (slots_are o.frame.accums) (view_acts acts)) old.inputs new.inputs d
      → IsWithin (length o.vertices) c → IsShaped (length o.vertices) old → new.batches ≡ old.batches → length new.sources ≡ length old.sources → length new.targets ≡ length old.targets
      → ((v : ℕ) → is_marked new.sources v ≡ (v == c.source || is_marked old.sources v)) → ((v : ℕ) → is_marked new.targets v ≡ (marks_end c.target v || is_marked old.targets v)) → Done o go old new true
  read_gathered old new acts b d same e t where_is gathers within shaped batches long_sources long_targets sources targets =
      let h : Gathers o.frame.accums.slots (contributions (sees clock o l c) (slots_are o.frame.accums) (view_acts block.accum)) old.inputs new.inputs true = subst (Gathers o.frame.accums.slots (contributions (sees clock o l c) (slots_are o.frame.accums) (view_acts block.accum)) old.inputs new.inputs) t
      (subst (λ (acts : List Act). Gathers o.frame.accums.slots (contributions (sees clock o l c) (slots_are o.frame.accums) (view_acts acts)) old.inputs new.inputs d) same gathers) in (
        ints_passed o c go (contributions (sees clock o l c) (slots_are o.frame.accums) (view_acts block.accum)) h.0 old new within h.2
            (ap (λ w. w >>= elim [ true ↦ contributions (sees clock o l c) (slots_are o.frame.accums) (view_acts block.accum) >>= λ xs. Gives (record { candidate = c; gives = xs } ∷ []) | false ↦ Gives [] ]) (where_is ∙ ap Gives e) ∙ ap (λ g. g >>= λ xs. Gives (record { candidate = c; gives = xs } ∷ [])) h.2.are)
            h.1 batches sources targets,
        shaped_still (length o.vertices) old new shaped (ap length batches) long_sources long_targets,
      )

pub ruleset read_laws = (read_filtered)

pub done_tried : (o : Over) (go : Answer Wrong (List Match)) (old new : MatchBuffer) (b : Bool) → b ≡ true → Done o go old new b → Tried o go old new None × IsShaped (length o.vertices) new
done_tried o go old new true e done = done
done_tried o go old new false e done = absurd (cc e)

pub done_same : (o : Over) (go : Answer Wrong (List Match)) (old new : MatchBuffer) (b : Bool) → b ≡ false → Done o go old new b → new ≡ old
done_same o go old new false e done = done
done_same o go old new true e done = absurd (cc e)
