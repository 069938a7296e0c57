-- Phases: the statements of POST-ACCUM by the end that each is for, and the effect of a phase.
use Rattle.std.specs.Prelude.{◌≡◌, ℕ, suc, Bool, true, false, if◌then◌else◌, List, [], ◌∷◌, Result}
use Rattle.std.specs.Option.{option_map}
use Rattle.gq_rules_typing.specs.Mentions.{in_act}
use Rattle.gq_rules_typing.specs.Patterns.{is_alias}
use Rattle.gq_rules_typing.specs.Selecting.{Act, Acts}
use Rattle.gq_rules_meaning.specs.Answers.{Answer, Gives, ◌>>=◌, through}
use Rattle.gq_rules_meaning.specs.Blocks as blocks
use Rattle.gq_rules_meaning.specs.Blocks.{fed_together}
use Rattle.gq_rules_meaning.specs.Calendars.{Calendar}
use Rattle.gq_rules_meaning.specs.Posts.{Post, matched, phases, post_acts, same_end}
use Rattle.gq_plan_ir.specs.Reference.{Reference, Place}
use Rattle.gq_plan_ir.specs.References.{same}
use Rattle.gq_rules_meaning.specs.States as states
use Rattle.gq_frame.specs.declared.accums.Accums.{Accums}
use Rattle.gq_frame.specs.Slots.{slots_are}
use Rattle.gq_eval_context.specs.Viewed.{Over}
use Rattle.gq_eval_context.specs.declared.after.After.{After}
use Rattle.gq_eval_context.specs.declared.after.BlockFault.{BlockFault}
use Rattle.gq_eval_context.specs.Answered.{Answered, after_is}
use Rattle.gq_exec_source.specs.declared.ends.End.{End}
use Rattle.gq_exec_source.specs.declared.ends.Ends.{Ends}
use Rattle.gq_exec_source.specs.Ends.{end_at, end_things}
use Rattle.gq_exec_post.specs.Sights.{SeesSo, one_alias}
use Rattle.gq_exec_post.specs.Writing.{KeepsTo}

-- ---- which end

-- whether a statement names the alias of an end
abbrev pub at_end : End → Act Reference → Bool
at_end e a = in_act (is_alias same (option_map Place e.alias)) a

-- whether a statement is for the target; one that names no alias is for the selected end
abbrev pub to_target : Ends → Bool → Act Reference → Bool
to_target e selects a = if at_end e.target a then true else (if at_end e.source a then false else selects)

-- the number of leading items that are for an end
abbrev pub run_length : {A : Type 0} → (A → Bool) → Bool → List A → ℕ
run_length f b [] = 0
run_length f b (x ∷ xs) = if same_end b (f x) then suc (run_length f b xs) else 0

-- ---- one phase, and all

-- the accumulators after a phase at these vertices, by the context of each
abbrev pub slots_at : (ℕ → Post Reference) → Acts Reference → List ℕ → List (states.Slot Reference) → Answer blocks.BlockFault (List (states.Slot Reference))
slots_at q acts vs slots = through (λ w v. post_acts (q v) acts w) (record { slots = slots; to_globals = [] }) vs >>= λ w. fed_together w.to_globals w.slots

-- the result of a phase for an end
abbrev pub phase_of : (ℕ → Post Reference) → Bool → Acts Reference → blocks.After Reference → Answer blocks.BlockFault (blocks.After Reference)
phase_of q b acts a =
    through (λ w v. post_acts (q v) acts w) (record { slots = a.slots; to_globals = [] }) (matched a b) >>= λ w.
    fed_together w.to_globals w.slots >>= λ slots. Gives (record a { slots = slots })

abbrev pub phases_of : (Bool → ℕ → Post Reference) → (Act Reference → Bool) → Acts Reference → blocks.After Reference → Answer blocks.BlockFault (blocks.After Reference)
phases_of q end acts a = through (λ a p. phase_of (q p.0) p.0 p.1 a) a (phases end acts)

pub record RunsAt (clock : Calendar) (o : Over) (end : End) (acts : Acts Reference) (vs : List ℕ) (accums : Accums) (result : Result Accums BlockFault) : Type 0 where
  pub each : (q : ℕ → Post Reference) → ((v : ℕ) → SeesSo clock o (one_alias (end_things end v)) v (q v)) → Answered slots_are (slots_at q acts vs (slots_are accums)) result

pub record RunsPhase (clock : Calendar) (o : Over) (ends : Ends) (b : Bool) (acts : Acts Reference) (after : After) (result : Result After BlockFault) : Type 0 where
  pub each : (q : ℕ → Post Reference) → ((v : ℕ) → SeesSo clock o (one_alias (end_things (end_at ends b) v)) v (q v)) → Answered after_is (phase_of q b acts (after_is after)) result

pub record RunsPhases (clock : Calendar) (o : Over) (ends : Ends) (selects : Bool) (acts : Acts Reference) (after : After) (result : Result After BlockFault) : Type 0 where
  pub each : (q : Bool → ℕ → Post Reference) → ((b : Bool) (v : ℕ) → SeesSo clock o (one_alias (end_things (end_at ends b) v)) v (q b v)) → Answered after_is (phases_of q (to_target ends selects) acts (after_is after)) result

-- phases change only contents
pub record KeepsAll (old new : After) : Type 0 where
  pub accums : KeepsTo old.accums new.accums
  pub sources : new.sources ≡ old.sources
  pub targets : new.targets ≡ old.targets
