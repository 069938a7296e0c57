-- Meant: the meaning of each form of Seen in the definitions, and when an answer is the one that was meant.
use Rattle.std.specs.Prelude.{◌≡◌, ℕ, ℤ, Bool, true, false, if◌then◌else◌, List, map, Result, Ok, Err, string_bytes}
use Rattle.gq_value.specs.declared.value.Value.{Value}
use Rattle.gq_value.specs.declared.value.Wrong.{Wrong}
use Rattle.gq_value.specs.declared.value.EvalFault.{EvalFault}
use Rattle.gq_value.specs.declared.value.EvalFault.TheVariants as eval_fault
use Rattle.gq_value.specs.declared.kind.GroupShape.{GroupShape}
use Rattle.gq_value.specs.Val.{Val, Int, UInt, Text, Vertex, Fraction}
use Rattle.gq_value.specs.Views.{val}
use Rattle.gq_value.specs.Accums as plain
use Rattle.gq_value.specs.Accums.{Accum, GroupByAccum}
use Rattle.gq_value.specs.AccumViews.{bases, base_of, parts_of, accum_of}
use Rattle.gq_accum_laws.specs.Gather.{among}
use Rattle.gq_accum_laws.specs.Holds.{HoldsEach, row_cmp}
use Rattle.gq_accum_laws.specs.After.{fresh, fresh_each}
use Rattle.gq_nest.specs.declared.content.Content.{Content, out-Content}
use Rattle.gq_nest.specs.Forms.{view}
use Rattle.gq_plan_ir.specs.Statements.{Bytes}
use Rattle.gq_value.specs.declared.kind.Number.{Number}
use Rattle.gq_value.specs.declared.kind.Number.TheVariants as number
use Rattle.gq_value.specs.Arithmetic.{in_type}
use Rattle.gq_plan_ir.specs.Answers.{Answer, Gives, Faults, Stuck, ◌>>=◌, of_result}
use Rattle.gq_plan_ir.specs.Meanings.{Meant, Is, IsAverage, IsContent, IsRow, IsEdge, IsSet, IsMember, as_number, read}
use Rattle.gq_eval_operand.specs.declared.seen.Sort.{Sort}
use Rattle.gq_eval_operand.specs.declared.seen.Sort.TheVariants as sort
use Rattle.gq_eval_operand.specs.declared.seen.Operand.{Operand}
use Rattle.gq_eval_operand.specs.declared.seen.Operand.TheVariants as operand
use Rattle.gq_eval_operand.specs.declared.seen.Seen.{Seen}
use Rattle.gq_eval_operand.specs.declared.seen.Seen.TheVariants as seen
use Rattle.gq_eval_operand.specs.declared.halt.Halt.{Halt}
use Rattle.gq_eval_operand.specs.declared.halt.Halt.TheVariants as halt

-- ---- the forms of Seen

abbrev pub sort_is : Sort → plain.Base
sort_is sort.Int = plain.INT
sort_is sort.UInt = plain.UINT
sort_is sort.Bool = plain.BOOL
sort_is sort.Text = plain.STRING
sort_is sort.Time = plain.DATETIME
sort_is sort.AnyVertex = plain.VERTEX
sort_is (sort.VertexOf t) = plain.VERTEX_OF t
sort_is (sort.Tuple n ts) = plain.TUPLE n (bases (map base_of ts.now))

abbrev pub valued : Operand → Val
valued (operand.Made v) = val v
valued (operand.Lent v) = val v.now
valued (operand.Text s) = Text s.now
valued (operand.Joined s) = Text (string_bytes s)

-- the keys and the parts of a group
abbrev pub keys_are : GroupShape → List (Bytes × plain.Base)
keys_are shape = map (λ k. (k.0, base_of k.1)) shape.keys

abbrev pub parts_are : GroupShape → plain.Parts
parts_are shape = parts_of (map (λ p. (p.0, accum_of p.1)) shape.parts)

-- the content at a key row of a map or group, or else its opening
abbrev pub at_row : {A : Type 0} → List (List Val) × (List Val → A) → List Val → A → A
at_row h row opening = if among row_cmp row h.0 then h.1 row else opening

abbrev pub parts_at : (shape : GroupShape) → Content → List Val → HoldsEach (parts_are shape)
parts_at shape c row = at_row (view (GroupByAccum (keys_are shape) (parts_are shape)) (out-Content c)) row (fresh_each (parts_are shape))

abbrev pub meant : Seen → Meant
meant (seen.Value s v) = Is (sort_is s) (valued v)
meant (seen.Average f) = IsAverage (Fraction f.sum f.count)
meant (seen.Whole k c) = IsContent (accum_of k.now) (view (accum_of k.now) (out-Content c.now))
meant (seen.Opening k) = IsContent (accum_of k.now) (fresh (accum_of k.now))
meant (seen.Row s c row) = IsRow (parts_are s.now) (parts_at s.now c.now (map val row))
meant (seen.OpeningRow s) = IsRow (parts_are s.now) (fresh_each (parts_are s.now))
meant (seen.Edge r t) = IsEdge r t
meant (seen.Set vs) = IsSet vs.now
meant (seen.Member vs s v) = IsMember vs.now (sort_is s) v

-- the value that a content reads as, and the one before any input
abbrev pub read_of : Accum → Content → Meant
read_of k c = read k (view k (out-Content c))

abbrev pub opening_of : Accum → Meant
opening_of k = read k (fresh k)

abbrev pub number_read : Number → ℤ → ℕ → Meant
number_read number.Int x n = Is plain.INT (Int x)
number_read number.UInt x n = Is plain.UINT (UInt n)

abbrev pub itself : {A : Type 0} → A → A
itself a = a

-- ---- answers

-- an evaluation ends as the meaning does; OutOfMemory may occur at any time
abbrev pub Halts : {A : Type 0} → Answer Wrong A → Halt → Type 0
Halts o (halt.Wrong w) = o ≡ Faults w
Halts o halt.Stuck = o ≡ Stuck
Halts o halt.OutOfMemory = Unit {0}

-- the answer is the one that was meant
abbrev pub Tells : {A B : Type 0} → (B → A) → Answer Wrong A → Result B Halt → Type 0
Tells view o (Ok b) = o ≡ Gives (view b)
Tells view o (Err h) = Halts o h

-- the result of an operation on values, and of what is then made of its value
abbrev pub Told : {A B : Type 0} → (B → A) → (Val → Answer Wrong A) → Result Value EvalFault → Result B Halt → Type 0
Told view next (Ok v) r = Tells view (next (val v)) r
Told view next (Err (eval_fault.Wrong w)) r = r ≡ Err (halt.Wrong w)
Told view next (Err eval_fault.OutOfMemory) r = r ≡ Err halt.OutOfMemory

-- ---- values

abbrev pub vertex_of_value : Val → Answer Wrong ℕ
vertex_of_value (Vertex v) = Gives v
vertex_of_value _ = Stuck

-- a whole number as a value
abbrev pub number_in : Val → Answer Wrong Val
number_in (Int x) = Gives (Int x)
number_in (UInt n) = Gives (UInt n)
number_in _ = Stuck

abbrev pub IsNoText : Val → Type 0
IsNoText (Text s) = ⊥
IsNoText _ = Unit {0}

abbrev pub IsText : Val → Type 0
IsText (Text s) = Unit {0}
IsText _ = ⊥

abbrev pub is_unsigned : Val → Bool
is_unsigned (UInt n) = true
is_unsigned _ = false

-- a number as one of a type
abbrev pub number_to : Number → Val → Answer Wrong Val
number_to t v = as_number v >>= λ x. of_result (in_type t x)
