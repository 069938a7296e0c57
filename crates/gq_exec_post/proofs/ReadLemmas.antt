-- ReadLemmas: conditions and inputs that are read at a vertex.
use Rattle.std.proofs.Common.{◌≡◌, ℕ, Bool, List, Option, Some, None, Ok, Err, refl, sym, ap, subst, ◌∙◌}
use Rattle.std.specs.Option.{option_map, option_to_list}
use Rattle.gq_tree.specs.Tree.{Tree}
use Rattle.gq_value.specs.declared.kind.Input.{Input}
use Rattle.gq_value.specs.AccumViews.{accum_of, given}
use Rattle.gq_rules_typing.specs.Selecting as plain
use Rattle.gq_rules_typing.specs.Selecting.{Acts}
use Rattle.gq_rules_typing.specs.Patterns.{edge_alias}
use Rattle.gq_rules_meaning.specs.Answers.{Gives}
use Rattle.gq_rules_meaning.specs.Blocks.{contributed}
use Rattle.gq_rules_meaning.specs.Calendars.{Calendar}
use Rattle.gq_rules_meaning.specs.Expressions.{truth_of}
use Rattle.gq_plan_ir.specs.declared.block.Walk.TheVariants as walk
use Rattle.gq_plan_ir.specs.BlockView.{view_walk}
use Rattle.gq_plan_ir.specs.Reference.{Reference, Place, Slot}
use Rattle.gq_eval_operand.specs.Meant.{Tells}
use Rattle.gq_frame.specs.declared.accums.Accums.{Accums}
use Rattle.gq_frame.specs.Names.{Placed}
use Rattle.gq_frame.specs.Slots.{AreSound, slots_are}
use Rattle.gq_eval_context.specs.declared.after.BlockFault.TheVariants as fault
use Rattle.gq_eval_context.specs.Viewed.{Over}
use Rattle.gq_exec_source.specs.declared.ends.End.{End}
use Rattle.gq_exec_source.specs.declared.ends.Ends.{Ends}
use Rattle.gq_exec_source.specs.Ends.{end_things}
use Rattle.gq_exec_contribute.specs.declared.leaves.Leaves.{Leaves}
use Rattle.gq_exec_contribute.specs.declared.scalars.ScalarInput.{ScalarInput}
use Rattle.gq_exec_contribute.specs.Aliases.{bound_to}
use Rattle.gq_exec_contribute.specs.Prepared.{AreAllCells, AreIn, IsAdded, IsTruth, only_source, sees_at}
use Rattle.gq_exec_contribute.specs.Scalars.{made_of}
use Rattle.gq_exec_post.specs.declared.making.Made.TheVariants as made
use Rattle.gq_exec_post.specs.Making.{making_of}
use Rattle.gq_exec_post.specs.Phases.{RunsAt}
use Rattle.gq_exec_post.specs.Sights.{ReadsAt, ReadsEnd, look_now, made_at, one_alias, one_waiting}
use Rattle.gq_exec_post.specs.Writing.{KeepsTo}
use Rattle.gq_exec_post.proofs.MadeLemmas.{feed_goes}
use Rattle.gq_exec_post.proofs.WaitLemmas.{input_there}
use Rattle.gq_exec_post.proofs.WriteLemmas.{made_there}

pub are_in : (l : Leaves) (aliases : List (ℕ × Placed)) (v : ℕ) (accums : Accums) → AreSound accums → ReadsAt l aliases v accums → AreIn accums l
are_in l aliases v accums sound reads = record { cells = reads.cells; sound = sound }

module _ (clock : Calendar) (o : Over) (l : Leaves) (accums : Accums) (aliases : List (ℕ × Placed)) (v : ℕ) (reads : ReadsAt l aliases v accums) where
  pub truth_read : (t : Tree Reference) (b : Bool) → IsTruth (sees_at clock o l accums v) t b → truth_of (look_now clock o aliases accums) t ≡ Gives b
  truth_read t b is = subst (λ (names : List (ℕ × Placed)). IsTruth (look_now clock o names accums) t b) (sym reads.bound) is

  added_now : (n : ℕ) (ch : plain.Change Reference) (x : ScalarInput) → IsAdded (sees_at clock o l accums v) accums.slots n ch x → IsAdded (look_now clock o aliases accums) accums.slots n ch x
  added_now n ch x is = subst (λ (names : List (ℕ × Placed)). IsAdded (look_now clock o names accums) accums.slots n ch x) (sym reads.bound) is

  pub made_read : (n : ℕ) (ch : plain.Change Reference) (x : ScalarInput) (i : Input) → IsAdded (sees_at clock o l accums v) accums.slots n ch x → i ≡ made_of x
      → Tells making_of (made_at (look_now clock o aliases accums) accums.slots n ch) (Ok (made.Input i))
  made_read n ch x i is e = let h = added_now n ch x is in
      subst (λ (ch : plain.Change Reference). Tells making_of (made_at (look_now clock o aliases accums) accums.slots n ch) (Ok (made.Input i))) (sym h.adds)
      (made_there (look_now clock o aliases accums) accums n (plain.Adds h.feed) h.slot (Ok (made.Input i)) h.declared (feed_goes (look_now clock o aliases accums) (accum_of h.slot.kind) h.feed i (h.input ∙ ap (λ i. Gives (given i)) (sym e))))

  pub input_read : (n : ℕ) (ch : plain.Change Reference) (x : ScalarInput) → IsAdded (sees_at clock o l accums v) accums.slots n ch x → contributed (look_now clock o aliases accums) (slots_are accums) (Slot n) 0 ch ≡ Gives (one_waiting n (given (made_of x)))
  input_read n ch x is = let h = added_now n ch x is in
      subst (λ (ch : plain.Change Reference). contributed (look_now clock o aliases accums) (slots_are accums) (Slot n) 0 ch ≡ Gives (one_waiting n (given (made_of x)))) (sym h.adds)
      (input_there (look_now clock o aliases accums) accums n h.feed refl h.slot (Ok (made_of x)) h.declared h.input)

pub ruleset holds_laws = (are_in)

pub ruleset made_laws = (are_in)

pub ruleset input_laws = (are_in)

-- ---- leaves at later vertices and statements

pub reads_kept : (l : Leaves) (aliases : List (ℕ × Placed)) (v : ℕ) (old new : Accums) → ReadsAt l aliases v old → KeepsTo old new → ReadsAt l aliases v new
reads_kept l aliases v old new r k = record { bound = r.bound; cells = subst (λ slots. AreAllCells slots l.cells) (sym k.slots) r.cells }

pub end_kept : (l : Leaves) (end : End) (old new : Accums) → ReadsEnd l end old → KeepsTo old new → ReadsEnd l end new
end_kept l end old new r k = record { source = r.source; edge = r.edge; cells = subst (λ slots. AreAllCells slots l.cells) (sym k.slots) r.cells }

-- the only alias of a vertex of an end
alone_bound : (ends : Ends) (v : ℕ) → one_alias (end_things ends.source v) ≡ bound_to ends None (only_source v)
alone_bound ends v = go (end_things ends.source v)
  where
    go : (o : Option (ℕ × Placed)) → one_alias o ≡ option_to_list o
    go None = refl
    go (Some a) = refl

pub reads_vertex : (l : Leaves) (end : End) (v : ℕ) (accums : Accums) (o : Option (ℕ × Placed)) → ReadsEnd l end accums → o ≡ end_things end v → ReadsAt l (one_alias o) v accums
reads_vertex l end v accums o r is = record {
  bound = ap one_alias is ∙ ap (λ (e : End). one_alias (end_things e v)) (sym r.source) ∙ alone_bound l.ends.now v ∙ ap (λ edge. bound_to l.ends.now edge (only_source v)) (sym r.edge);
  cells = r.cells;
}

-- the leaves of a phase
none_placed : (edge : Option ℕ) → option_map Place edge ≡ None → edge ≡ None
none_placed None e = refl
none_placed (Some p) e = absurd (cc e)

pub found_end : (l : Leaves) (ends : Ends) (end : End) (accums : Accums) → ends.source ≡ end → l.ends.now ≡ ends → option_map Place l.edge ≡ edge_alias (view_walk walk.Nowhere) → AreAllCells accums.slots l.cells → ReadsEnd l end accums
found_end l ends end accums s e edge cells = record { source = ap (λ (e : Ends). e.source) e ∙ s; edge = none_placed l.edge edge; cells = cells }

pub at_memory : (clock : Calendar) (o : Over) (end : End) (acts : Acts Reference) (vs : List ℕ) (accums : Accums) → RunsAt clock o end acts vs accums (Err fault.OutOfMemory)
at_memory clock o end acts vs accums = record { each = λ q h. tt }

pub ruleset phase_laws = (at_memory)
