-- Written: the representation of sets in the code: a set with its types, and bits that gain numbers.
use Rattle.std.specs.Prelude.{◌≡◌, ◌≤◌, ℕ, ◌||◌, Bool, true, false, List, [], map, filter, length, Option, Some, None, Result, Ok, Err}
use Rattle.std.specs.List.{range_with_len}
use Rattle.gq_graph.specs.declared.rows.VertexRow.{VertexRow}
use Rattle.gq_value.specs.declared.value.Wrong.{Wrong}
use Rattle.gq_graph.specs.Candidates.{among, is_target}
use Rattle.gq_index.specs.Sights.{vertex_kinds}
use Rattle.gq_exec_source.specs.Marks.{is_marked}
use Rattle.gq_tree.specs.declared.body.SetOp.{SetOp}
use Rattle.gq_rules_typing.specs.Statements as plain
use Rattle.gq_rules_meaning.specs.Answers.{Answer, Gives, ◌>>=◌, through}
use Rattle.gq_rules_meaning.specs.Expressions.{World}
use Rattle.gq_rules_meaning.specs.Meanings.{Meant}
use Rattle.gq_rules_meaning.specs.States.{State, Thing}
use Rattle.gq_plan_ir.specs.declared.step.SetTerm.{SetTerm}
use Rattle.gq_plan_ir.specs.Reference.{Reference}
use Rattle.gq_plan_ir.specs.PlanView.{view_term}
use Rattle.gq_rules_meaning.specs.Sets as sets
use Rattle.gq_eval_operand.specs.declared.halt.Halt.{Halt}
use Rattle.gq_eval_operand.specs.declared.halt.Halt.TheVariants as halt
use Rattle.gq_eval_operand.specs.Meant.{Halts}
use Rattle.gq_eval_operand.specs.Sound.{IsSound}
use Rattle.gq_value.specs.Accums.{Accum, Base, SetAccum}
use Rattle.gq_nest.specs.declared.content.Content.{Content, out-Content}
use Rattle.gq_nest.specs.Forms.{view}
use Rattle.gq_nest.specs.Tells.{elements_of}
use Rattle.gq_exec_vars.specs.Lookups.{IsOver, base_types}
use Rattle.gq_exec_vars.specs.declared.bits.SetBitmap.{SetBitmap}
use Rattle.gq_exec_vars.specs.declared.typed.TypedSet.{TypedSet}
use Rattle.gq_exec_vars.specs.declared.typed.SetOperand.{SetOperand}
use Rattle.gq_exec_vars.specs.declared.typed.SetOperand.TheVariants as operand

-- a set as the definitions have it
abbrev pub typed : TypedSet → sets.TypedSet
typed t = (t.types, t.vertices)

abbrev pub set_is : SetOperand → sets.TypedSet
set_is (operand.Lent types vs) = (types.now, vs.now)
set_is (operand.Made t) = typed t

-- the vertices of a store that have one of these types
abbrev pub vertices_under : List VertexRow → List ℕ → List ℕ
vertices_under vertices kinds = filter (is_target (vertex_kinds vertices) kinds) (range_with_len 0 (length vertices))

-- words for every number of 32 bits
abbrev pub most_words : ℕ
most_words = 67108864

-- the marks are those before, and these numbers; for them there are enough words
pub record Gains (xs old new : List ℕ) : Type 0 where
  pub few : length old ≤ most_words → length new ≤ most_words
  pub marks : (v : ℕ) → is_marked new v ≡ (is_marked old v || among xs v)

-- the types and the vertices of a set are marked
pub record GainsSet (set : sets.TypedSet) (old new : SetBitmap) : Type 0 where
  pub types : Gains set.0 old.types new.types
  pub vertices : Gains set.1 old.vertices new.vertices

-- no more words than for all numbers of 32 bits
pub record HasFew (bits : SetBitmap) : Type 0 where
  pub types : length bits.types ≤ most_words
  pub vertices : length bits.vertices ≤ most_words

-- the vertices of a seed are marked, or it ends as the seed does
abbrev pub Seeded : Answer Wrong sets.TypedSet → SetBitmap → SetBitmap → Result (Unit {0}) Halt → Type 0
Seeded o old new (Ok u) = (set : sets.TypedSet) × (o ≡ Gives set) × GainsSet set old new
Seeded o old new (Err h) = Halts o h

-- the type of the vertices of a set
abbrev pub set_base : Accum → Option Base
set_base (SetAccum b) = Some b
set_base k = None

-- the vertices of a content that reads as a set are marked, with their types; or it is no set
abbrev pub PutContent : Accum → Content → List ℕ → SetBitmap → SetBitmap → Result (Unit {0}) Halt → Type 0
PutContent k c own old new (Ok u) = IsSound k c → (b : Base) × (vs : List ℕ) × (k ≡ SetAccum b) × (vs ≡ sets.vertices_in (elements_of k (view k (out-Content c)))) × GainsSet (base_types own b, vs) old new
PutContent k c own old new (Err halt.Stuck) = set_base k ≡ None
PutContent k c own old new (Err halt.OutOfMemory) = Unit {0}
PutContent k c own old new (Err e) = ⊥

-- a set without vertices
abbrev pub PutNone : Accum → List ℕ → SetBitmap → SetBitmap → Result (Unit {0}) Halt → Type 0
PutNone k own old new (Ok u) = (b : Base) × (k ≡ SetAccum b) × GainsSet (base_types own b, []) old new
PutNone k own old new (Err halt.Stuck) = set_base k ≡ None
PutNone k own old new (Err halt.OutOfMemory) = Unit {0}
PutNone k own old new (Err e) = ⊥

-- the vertices of what an accumulator reads as are marked, or it ends as the seed does
pub record PutRead (m : Meant) (own : List ℕ) (old new : SetBitmap) (result : Result (Unit {0}) Halt) : Type 0 where
  pub each : (world : World Reference) → world.graph.sorts.own_vertices ≡ own → Seeded (sets.of_content world m) old new result

-- ---- set expressions

abbrev pub others_of : List (SetOp × SetTerm) → List (SetOp × plain.SetTerm Reference)
others_of others = map (λ s. (s.0, view_term s.1)) others

-- whether it is just `{}`
abbrev pub is_bare : plain.SetTerm Reference → List (SetOp × plain.SetTerm Reference) → Bool
is_bare (plain.Seeds []) [] = true
is_bare t rest = false

-- an operator with its right side
abbrev pub step_of : World Reference → State Reference → sets.TypedSet → SetOp → plain.SetTerm Reference → Answer Wrong sets.TypedSet
step_of world s b op t = sets.term_of world s t >>= λ c. Gives (sets.joined op b c)

-- operators from left to right, from a set on
abbrev pub chain_of : World Reference → State Reference → Answer Wrong sets.TypedSet → List (SetOp × plain.SetTerm Reference) → Answer Wrong sets.TypedSet
chain_of world s first rest = first >>= λ a. through (λ b next. step_of world s b next.0 next.1) a rest

-- ---- set variables

-- what a name refers to before an assignment gives these types to a set variable
pub record Keeps (own : List ℕ) (declared : Option (plain.SetTypes Reference)) (before : Option Thing) (types kept : List ℕ) : Type 0 where
  pub each : (vertices : List VertexRow) (world : World Reference) → IsOver vertices own world → kept ≡ sets.types_kept before (sets.types_fixed world declared types)
