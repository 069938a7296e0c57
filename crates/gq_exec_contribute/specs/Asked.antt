-- Asked: results of methods of accumulators: the number of elements or keys, and the entry at an INT key.
use Rattle.std.specs.Prelude.{◌≡◌, ℕ, ℤ, Bool, true, false, List, [], ◌∷◌, slice_get, Option, Some}
use Rattle.std.specs.Int.{w64}
use Rattle.std.specs.Map.{lookup}
use Rattle.std.specs.Ordering.{is_eq}
use Rattle.std.specs.Int.RustNames.{FitsSigned}
use Rattle.gq_value.specs.Val.{Val, Int}
use Rattle.gq_value.specs.Typed.{is_scalar}
use Rattle.gq_value.specs.Accums.{Accum, Base, MapAccum, INT}
use Rattle.gq_value.specs.AccumViews.{accum_of}
use Rattle.gq_value.specs.Order.{place}
use Rattle.gq_value.specs.Views.{val}
use Rattle.gq_value.specs.declared.value.Value.{Value}
use Rattle.gq_value.specs.declared.kind.Slot as code_slot
use Rattle.gq_graph.specs.declared.rows.Candidate.{Candidate}
use Rattle.gq_nest.specs.declared.content.Content.{Content, out-Content}
use Rattle.gq_nest.specs.Forms.{IsOf}
use Rattle.gq_nest.specs.Tells.{HasKey, LacksKey}
use Rattle.gq_frame.specs.declared.accums.Accums.{Accums}
use Rattle.gq_frame.specs.declared.slots.Slots.{Slots}
use Rattle.gq_frame.specs.Slots.{slots_are}
use Rattle.gq_rules_typing.specs.Kinds.{key_types}
use Rattle.gq_rules_typing.specs.Words as words
use Rattle.gq_rules_meaning.specs.Answers.{Gives, ◌>>=◌}
use Rattle.gq_rules_meaning.specs.Calendars.{Calendar}
use Rattle.gq_rules_meaning.specs.Expressions.{Look, meaning_part, meaning_parts, value_of}
use Rattle.gq_rules_meaning.specs.Meanings.{Outcome, value_of_meant}
use Rattle.gq_rules_meaning.specs.States.{read_slot}
use Rattle.gq_rules_meaning.specs.Tree.{Tree, Method, no_tree, tree}
use Rattle.gq_plan_ir.specs.Reference.{Reference, Slot, Does}
use Rattle.gq_plan_ir.specs.declared.expr.Behind.{Behind}
use Rattle.gq_plan_ir.specs.declared.expr.Expr.{Expr}
use Rattle.gq_plan_ir.specs.ExprView.{view_behind, view_parts, views}
use Rattle.gq_eval_operand.specs.Meant.{read_of}
use Rattle.gq_eval_operand.specs.Sound.{IsSound}
use Rattle.gq_eval_builtins.specs.Elements.{size_meant}
use Rattle.gq_eval_context.specs.Viewed.{Over}
use Rattle.gq_eval_context.specs.Looks.{world_over}
use Rattle.gq_exec_contribute.specs.declared.asked.Accumulator.{Accumulator}
use Rattle.gq_exec_contribute.specs.declared.leaves.Leaves.{Leaves}
use Rattle.gq_exec_contribute.specs.Prepared.{IsInt, int_meant, sees_in}

-- the meaning of the accumulator of a slot at a vertex
abbrev pub slot_read : Calendar → Over → Accums → ℕ → ℕ → Outcome
slot_read clock o accums n v = read_slot (world_over clock o) (slots_are accums) (Slot n) v

-- parts after that accumulator have this value
pub record IsBehind (clock : Calendar) (o : Over) (l : Leaves) (accums : Accums) (c : Candidate) (n v : ℕ) (parts : List Behind) (x : Val) : Type 0 where
  pub is : ((slot_read clock o accums n v >>= λ m. meaning_parts (sees_in clock o l accums c) m (view_parts parts)) >>= value_of_meant) ≡ Gives x

-- a part after that accumulator means what this content reads as, for its kind
pub record IsGot (clock : Calendar) (o : Over) (l : Leaves) (accums : Accums) (c : Candidate) (n v : ℕ) (part : Behind) (content : Content) : Type 0 where
  pub kind : Accum
  pub sound : IsSound kind content
  pub is : (slot_read clock o accums n v >>= λ m. meaning_part (sees_in clock o l accums c) m (view_behind part)) ≡ Gives (read_of kind content)

-- an expression begins with the accumulator of a slot at a vertex, followed by parts
pub record Begins (clock : Calendar) (l : Leaves) (c : Candidate) (t : Tree Reference) (a : Accumulator) : Type 0 where
  pub each : (o : Over) (accums : Accums) → value_of (sees_in clock o l accums c) t ≡ ((slot_read clock o accums a.slot a.vertex >>= λ m. meaning_parts (sees_in clock o l accums c) m (view_parts a.parts.now)) >>= value_of_meant)

-- a part is a call of `size` without arguments
abbrev pub IsSize : Behind → Type 0
IsSize part = view_behind part ≡ Method (Does words.Size) no_tree

-- the accumulators of a slot have exactly one key, of type INT
pub record HasIntKey (slots : Slots) (n : ℕ) : Type 0 where
  pub each : (s : code_slot.Slot) → slice_get slots.declared n ≡ Some s → key_types (accum_of s.kind) ≡ INT ∷ []

-- there is one argument, an INT, and the accumulators of a slot have INT keys
pub record IsKey (accums : Accums) (look : Look Reference) (n : ℕ) (arguments : List Expr) (x : ℤ) : Type 0 where
  pub argument : Tree Reference
  pub one : views arguments ≡ tree argument no_tree
  pub is : IsInt look argument x
  pub fits : FitsSigned w64 x
  pub keys : HasIntKey accums.slots n

-- a content isn't a number, truth or average
pub record IsCollection (c : Content) : Type 0 where
  pub each : (k : Accum) → IsOf k (out-Content c) → is_scalar k ≡ false

-- the number of elements or keys of a content is n
pub record HasSize (c : Content) (n : ℤ) : Type 0 where
  pub collection : IsCollection c
  pub each : (k : Accum) → IsSound k c → size_meant (read_of k c) ≡ Gives (int_meant n)

-- a content is a map
pub record IsMap (c : Content) : Type 0 where
  pub each : (k : Accum) → IsOf k (out-Content c) → (b : Base) × (j : Accum) × (k ≡ MapAccum b j)

-- the entry at a key
abbrev pub found_in : Value → List (Value × Content) → Option Content
found_in key entries = lookup (λ k. is_eq (place (val key) (val k))) entries

-- a map holds an INT key, with this entry
pub record HasEntry (c : Content) (x : ℤ) (part : Content) : Type 0 where
  pub map : IsMap c
  pub has : HasKey c (Int x ∷ []) part

-- whether a content holds an INT key
abbrev pub KeyIs : Content → ℤ → Bool → Type 0
KeyIs c x true = (part : Content) × HasKey c (Int x ∷ []) part
KeyIs c x false = LacksKey c (Int x ∷ [])

pub record HoldsKey (c : Content) (x : ℤ) (b : Bool) : Type 0 where
  pub map : IsMap c
  pub is : KeyIs c x b
