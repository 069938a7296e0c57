-- Sights: the context of the statements of a phase, and their effects.
use Rattle.std.specs.Prelude.{◌≡◌, ℕ, true, false, List, [], ◌∷◌, Option, Some, None, Result, Ok, Err, slice_get}
use Rattle.gq_value.specs.declared.kind.Slot.{Slot}
use Rattle.gq_value.specs.declared.value.Wrong.{Wrong}
use Rattle.gq_value.specs.AccumViews.{accum_of}
use Rattle.gq_value.specs.Accums.{Given}
use Rattle.gq_rules_typing.specs.Selecting.{Acts, Change}
use Rattle.gq_rules_meaning.specs.Answers.{Answer, ◌>>=◌, found, through}
use Rattle.gq_rules_meaning.specs.Blocks as blocks
use Rattle.gq_rules_meaning.specs.Blocks.{Contribution}
use Rattle.gq_rules_meaning.specs.Calendars.{Calendar}
use Rattle.gq_rules_meaning.specs.Expressions.{Look}
use Rattle.gq_rules_meaning.specs.Posts.{Post, Written, post_acts}
use Rattle.gq_rules_meaning.specs.States.{sight}
use Rattle.gq_rules_meaning.specs.Writes.{Making, made_by}
use Rattle.gq_plan_ir.specs.Reference.{Reference}
use Rattle.gq_plan_ir.specs.References.{same}
use Rattle.gq_frame.specs.declared.accums.Accums.{Accums}
use Rattle.gq_frame.specs.declared.slots.Slots.{Slots}
use Rattle.gq_frame.specs.Names.{Placed}
use Rattle.gq_frame.specs.Slots.{slots_are}
use Rattle.gq_eval_context.specs.Viewed.{Over, viewed}
use Rattle.gq_eval_context.specs.Looks.{look_of}
use Rattle.gq_eval_context.specs.declared.after.BlockFault.{BlockFault}
use Rattle.gq_eval_context.specs.declared.after.BlockFault.TheVariants as fault
use Rattle.gq_eval_context.specs.Answered.{Answered}
use Rattle.gq_exec_source.specs.declared.ends.End.{End}
use Rattle.gq_exec_source.specs.Ends.{end_things}
use Rattle.gq_exec_contribute.specs.Aliases.{bound_to}
use Rattle.gq_exec_contribute.specs.Prepared.{AreAllCells, only_source}
use Rattle.gq_exec_contribute.specs.declared.leaves.Leaves.{Leaves}
use Rattle.gq_exec_post.specs.declared.making.Made.{Made}
use Rattle.gq_exec_post.specs.Changing.{Changed}
use Rattle.gq_exec_post.specs.declared.writing.Writing.{Writing}
use Rattle.gq_exec_post.specs.Writing.{written}

-- the context under these aliases, with the current accumulators; "before" refers to those from before ACCUM
abbrev pub look_now : Calendar → Over → List (ℕ × Placed) → Accums → Look Reference
look_now clock o aliases now = look_of clock (viewed o aliases now o.frame.accums)

abbrev pub one_alias : Option (ℕ × Placed) → List (ℕ × Placed)
one_alias None = []
one_alias (Some a) = a ∷ []

-- the leaves of a phase have the bindings and the slots of its statements at a vertex
pub record ReadsAt (l : Leaves) (aliases : List (ℕ × Placed)) (v : ℕ) (accums : Accums) : Type 0 where
  pub bound : aliases ≡ bound_to l.ends.now l.edge (only_source v)
  pub cells : AreAllCells accums.slots l.cells

-- the leaves of a phase have the bindings of an end alone, and the slots of the accumulators
pub record ReadsEnd (l : Leaves) (end : End) (accums : Accums) : Type 0 where
  pub source : l.ends.now.source ≡ end
  pub edge : l.edge ≡ None
  pub cells : AreAllCells accums.slots l.cells

-- a vertex of the definitions has the same context, whatever the current accumulators are
pub record SeesSo (clock : Calendar) (o : Over) (aliases : List (ℕ × Placed)) (v : ℕ) (p : Post Reference) : Type 0 where
  pub vertex : p.vertex ≡ v
  pub words : p.world.words.same ≡ same
  pub looks : (now : Accums) → look_now clock o aliases now ≡ sight p.world p.names (slots_are now) p.before

-- the effect of a vertex on the state of a phase
abbrev pub Doing : Type 0
Doing = Post Reference → Written Reference → Answer blocks.BlockFault (Written Reference)

pub record DoesSo (clock : Calendar) (o : Over) (aliases : List (ℕ × Placed)) (v : ℕ) (does : Doing) (before : Writing) (result : Result Writing BlockFault) : Type 0 where
  pub each : (p : Post Reference) → SeesSo clock o aliases v p → Answered written (does p (written before)) result

-- the effect of several vertices, one after the other, each under the alias of an end
pub record GoesSo (clock : Calendar) (o : Over) (end : End) (acts : Acts Reference) (vertices : List ℕ) (before : Writing) (result : Result Writing BlockFault) : Type 0 where
  pub each : (q : ℕ → Post Reference) → ((v : ℕ) → SeesSo clock o (one_alias (end_things end v)) v (q v)) → Answered written (through (λ w v. post_acts (q v) acts w) (written before) vertices) result

-- ---- one change

-- the meaning of a change of the accumulator of a slot
abbrev pub made_at : Look Reference → Slots → ℕ → Change Reference → Answer Wrong Making
made_at look slots n change = found (slice_get slots.declared n) >>= λ (s : Slot). made_by look (accum_of s.kind) change

-- an input to the global accumulator of a slot
abbrev pub one_waiting : ℕ → Given → List Contribution
one_waiting n x = record { slot = n; vertex = 0; input = x } ∷ []

-- a change was applied, or the changed content doesn't fit
abbrev pub PutSo : Made → ℕ → ℕ → Writing → Result Writing BlockFault → Type 0
PutSo m n v before (Ok w) = Changed m before.accums w.accums n v true × (w.waiting ≡ before.waiting)
PutSo m n v before (Err (fault.SumRange k)) = (k ≡ n) × ((new : Accums) × Changed m before.accums new n v false)
PutSo m n v before (Err (fault.Eval at w)) = ⊥
PutSo m n v before (Err fault.Stuck) = ⊥
PutSo m n v before (Err fault.OutOfMemory) = Unit {0}
