-- Prepared: results that are read for a candidate instead of evaluated: the evaluation gives the same.
use Rattle.std.specs.Prelude.{◌≡◌, ◌==◌, ℕ, ℤ, ◌+◌, ◌<◌, Bool, true, false, List, [], ◌∷◌, ◌++◌, map, length, Option, Some, None, slice_get}
use Rattle.std.specs.List.{All}
use Rattle.std.specs.Int.{w64}
use Rattle.std.specs.Int.RustNames.{FitsSigned}
use Rattle.gq_value.specs.Val.{Val, Int, Truth, Tuple, vals_of}
use Rattle.gq_value.specs.Views.{val}
use Rattle.gq_value.specs.Accums.{Accum, GroupByAccum, HeapAccum, Bases, Givens, One, Keyed, INT, BOOL, TUPLE}
use Rattle.gq_value.specs.declared.kind.BaseType.{BaseType}
use Rattle.gq_frame.specs.declared.frame.Thing.TheVariants as thing
use Rattle.gq_value.specs.AccumViews.{accum_of, base_of, bases, given, givens, parts_of}
use Rattle.gq_value.specs.Typed.{suits}
use Rattle.gq_value.specs.declared.kind.GroupShape.{GroupShape}
use Rattle.gq_value.specs.declared.kind.HeapShape.{HeapShape}
use Rattle.gq_value.specs.declared.kind.Slot as code_slot
use Rattle.gq_value.specs.declared.value.Value.{Value}
use Rattle.gq_value.specs.declared.value.Wrong.{Wrong}
use Rattle.gq_nest.specs.declared.content.Content.{Content, out-Content}
use Rattle.gq_nest.specs.Forms.{IsOf}
use Rattle.gq_graph.specs.declared.rows.Candidate.{Candidate}
use Rattle.gq_frame.specs.declared.accums.Accums.{Accums}
use Rattle.gq_frame.specs.declared.slots.Slots.{Slots}
use Rattle.gq_frame.specs.Names.{AVertex}
use Rattle.gq_frame.specs.Slots.{AreSound, slots_are}
use Rattle.gq_frame.specs.Targets.{targets_of, number_of}
use Rattle.gq_rules_typing.specs.Kinds.{input_type, key_types, part_kinds}
use Rattle.gq_rules_typing.specs.Selecting as plain
use Rattle.gq_rules_typing.specs.Selecting.{Plain}
use Rattle.gq_rules_meaning.specs.Answers.{Answer, Gives, ◌>>=◌}
use Rattle.gq_rules_meaning.specs.Blocks.{Contribution, input_of}
use Rattle.gq_rules_meaning.specs.Calendars.{Calendar}
use Rattle.gq_rules_meaning.specs.Expressions.{Look, value_of, truth_of, meaning_part, meaning_factors, meaning_terms}
use Rattle.gq_rules_meaning.specs.Meanings.{Meant, Is, value_of_meant}
use Rattle.gq_rules_meaning.specs.States.{read_slot}
use Rattle.gq_rules_meaning.specs.Tree.{Tree, Behind}
use Rattle.gq_tree.specs.declared.expr.AddSign.{AddSign}
use Rattle.gq_tree.specs.declared.expr.MulSign.{MulSign}
use Rattle.gq_plan_ir.specs.Reference.{Reference, Place, Slot}
use Rattle.gq_plan_ir.specs.declared.block.Feed.{Feed}
use Rattle.gq_plan_ir.specs.declared.expr.Expr.{Expr}
use Rattle.gq_plan_ir.specs.BlockView.{view_feed}
use Rattle.gq_plan_ir.specs.ExprView.{view, view_factors, view_terms}
use Rattle.gq_plan_ir.specs.Words.{under}
use Rattle.gq_eval_operand.specs.Meant.{read_of}
use Rattle.gq_eval_operand.specs.Sound.{IsSound}
use Rattle.gq_eval_attributes.specs.declared.tuple_type.TupleType.{TupleType}
use Rattle.gq_eval_context.specs.Viewed.{Over, viewed}
use Rattle.gq_eval_context.specs.Looks.{look_of, world_over}
use Rattle.gq_exec_feed.specs.Taking.{MayTake, AreBatched}
use Rattle.gq_exec_contribute.specs.declared.cells.Cells.{Cells}
use Rattle.gq_exec_contribute.specs.declared.cells.Taken.{Taken}
use Rattle.gq_exec_contribute.specs.declared.cells.Taken.TheVariants as taken
use Rattle.gq_exec_contribute.specs.declared.scalars.ScalarInput.{ScalarInput}
use Rattle.gq_exec_contribute.specs.declared.leaves.Leaves.{Leaves}
use Rattle.gq_exec_contribute.specs.Aliases.{bound_to}
use Rattle.gq_exec_contribute.specs.declared.rows.Ints.{Ints}
use Rattle.gq_exec_contribute.specs.Scalars.{ints_of, made_of, as_inputs}

-- ---- the context of an expression for a candidate

-- the candidate's aliases and these accumulators; names with `'` read those from before the block
abbrev pub sees_in : Calendar → Over → Leaves → Accums → Candidate → Look Reference
sees_in clock o l accums c = look_of clock (viewed o (bound_to l.ends.now l.edge c) accums o.frame.accums)

-- in POST-ACCUM a vertex is bound alone, as the source
abbrev pub only_source : ℕ → Candidate
only_source v = record { source = v; edge = None; kind = None; target = None }

abbrev pub sees_at : Calendar → Over → Leaves → Accums → ℕ → Look Reference
sees_at clock o l accums v = sees_in clock o l accums (only_source v)

-- WHERE and ACCUM read the accumulators from before the block
abbrev pub sees : Calendar → Over → Leaves → Candidate → Look Reference
sees clock o l c = sees_in clock o l o.frame.accums c

-- the value of an expression is this INT, or this truth
abbrev pub IsInt : Look Reference → Tree Reference → ℤ → Type 0
IsInt look t x = value_of look t ≡ Gives (Int x)

abbrev pub IsTruth : Look Reference → Tree Reference → Bool → Type 0
IsTruth look t b = truth_of look t ≡ Gives b

-- ---- names

-- whether an alias has this place
abbrev pub is_at : Option ℕ → ℕ → Bool
is_at None place = false
is_at (Some other) place = other == place

-- a name is the alias of the edge
abbrev pub IsEdge : Leaves → ℕ → Type 0
IsEdge l p = (is_at l.ends.now.target.alias p ≡ false) × (is_at l.edge p ≡ true)

-- a name isn't an alias
pub record NoAlias (l : Leaves) (p : ℕ) : Type 0 where
  pub target : is_at l.ends.now.target.alias p ≡ false
  pub edge : is_at l.edge p ≡ false
  pub source : is_at l.ends.now.source.alias p ≡ false

-- a name is bound to this vertex
abbrev pub IsVertex : Leaves → Candidate → ℕ → ℕ → Type 0
IsVertex l c p v = (types : List ℕ) × (under ◌==◌ p (bound_to l.ends.now l.edge c) ≡ Some (AVertex types v))

-- a name is a variable with this value
pub record IsHeld (o : Over) (l : Leaves) (p : ℕ) (v : Value) : Type 0 where
  pub none : NoAlias l p
  pub base : BaseType
  pub there : slice_get o.frame.things p ≡ Some (Some (thing.Value base v))

-- a name is a variable with this INT, or with this truth
pub record IsHeldInt (o : Over) (l : Leaves) (p : ℕ) (x : ℤ) : Type 0 where
  pub value : Value
  pub variable : IsHeld o l p value
  pub is : val value ≡ Int x

pub record IsHeldTruth (o : Over) (l : Leaves) (p : ℕ) (b : Bool) : Type 0 where
  pub value : Value
  pub variable : IsHeld o l p value
  pub is : val value ≡ Truth b

-- the value of a part after a name
abbrev pub part_value : Look Reference → ℕ → Behind Reference → Answer Wrong Val
part_value look p b = look.named (Place p) >>= λ m. meaning_part look m b >>= value_of_meant

-- ---- chains of operations

abbrev pub int_meant : ℤ → Meant
int_meant x = Is INT (Int x)

-- the sum of an INT and these terms is z
pub record AreTerms (look : Look Reference) (x : ℤ) (terms : List (AddSign × Expr)) (z : ℤ) : Type 0 where
  pub sum : (meaning_terms look (int_meant x) (view_terms terms) >>= value_of_meant) ≡ Gives (Int z)

-- the product of an INT and these factors is z
pub record AreFactors (look : Look Reference) (x : ℤ) (factors : List (MulSign × Expr)) (z : ℤ) : Type 0 where
  pub product : (meaning_factors look (int_meant x) (view_factors factors) >>= value_of_meant) ≡ Gives (Int z)

-- ---- accumulators

-- a kind takes each INT, or each truth
pub record TakesInts (k : Accum) : Type 0 where
  pub typed : input_type k ≡ Some INT
  pub suited : (x : ℤ) → FitsSigned w64 x → suits k (One (Int x)) ≡ true

pub record TakesTruths (k : Accum) : Type 0 where
  pub typed : input_type k ≡ Some BOOL
  pub suited : (b : Bool) → suits k (One (Truth b)) ≡ true

-- a kind takes each tuple of n INTs
pub record TakesTuples (k : Accum) (n : ℕ) : Type 0 where
  pub number : ℕ
  pub fields : Bases
  pub typed : input_type k ≡ Some (TUPLE number fields)
  pub suited : (xs : List ℤ) → length xs ≡ n → All (FitsSigned w64) xs → suits k (One (Tuple (vals_of (map Int xs)))) ≡ true

-- INTs as inputs of parts
abbrev pub parts_given : List ℤ → Givens
parts_given ys = givens (map (λ y. One (Int y)) ys)

-- a kind takes n INTs as keys with m INTs as inputs of parts
pub record TakesKeyed (k : Accum) (n m : ℕ) : Type 0 where
  pub keys : All (λ b. b ≡ INT) (key_types k)
  pub key_count : length (key_types k) ≡ n
  pub parts : All TakesInts (part_kinds k)
  pub part_count : length (part_kinds k) ≡ m
  pub suited : (xs ys : List ℤ) → length xs ≡ n → length ys ≡ m → All (FitsSigned w64) xs → All (FitsSigned w64) ys → suits k (Keyed (map Int xs) (parts_given ys)) ≡ true

-- the kind of a group or heap of this shape
abbrev pub group_of : GroupShape → Accum
group_of s = GroupByAccum (map (λ k. (k.0, base_of k.1)) s.keys) (parts_of (map (λ p. (p.0, accum_of p.1)) s.parts))

abbrev pub heap_of : HeapShape → Accum
heap_of s = HeapAccum (TUPLE s.tuple (bases (map base_of s.fields))) s.capacity s.order

abbrev pub Takes : Accum → Taken → Type 0
Takes k taken.Int = TakesInts k
Takes k taken.Truth = TakesTruths k
Takes k taken.Element = TakesInts k
Takes k (taken.Tuple n) = TakesTuples k n
Takes k (taken.Keyed n m) = TakesKeyed k n m
Takes k taken.Other = Unit {0}

-- the cells of a slot
pub record AreCells (slots : Slots) (n : ℕ) (cells : Cells) : Type 0 where
  pub slot : code_slot.Slot
  pub declared : slice_get slots.declared n ≡ Some slot
  pub first : cells.first ≡ number_of slots n 0
  pub targets : cells.targets ≡ targets_of slots.vertices slot
  pub takes : Takes (accum_of slot.kind) cells.takes

-- the cells of all slots
pub record AreAllCells (slots : Slots) (all : List Cells) : Type 0 where
  pub each : (n : ℕ) (cells : Cells) → slice_get all n ≡ Some cells → AreCells slots n cells

-- leaves are those of these accumulators, which are sound
pub record AreIn (accums : Accums) (l : Leaves) : Type 0 where
  pub cells : AreAllCells accums.slots l.cells
  pub sound : AreSound accums

-- leaves are those of a block
pub record AreFound (o : Over) (l : Leaves) : Type 0 where
  pub cells : AreAllCells o.frame.accums.slots l.cells

-- the number of a target among the cells of its slot
pub record IsTarget (cells : Cells) (vertex target : ℕ) : Type 0 where
  pub within : vertex < cells.targets
  pub number : target ≡ cells.first + vertex

-- the content of a slot at a vertex is c, and it is sound
pub record StandsAt (a : Accums) (n vertex : ℕ) (c : Content) : Type 0 where
  pub slot : code_slot.Slot
  pub declared : slice_get a.slots.declared n ≡ Some slot
  pub within : vertex < targets_of a.slots.vertices slot
  pub stands : slice_get a.contents (number_of a.slots n vertex) ≡ Some c
  pub sound : IsSound (accum_of slot.kind) c

-- a content reads as this INT, or as this truth, for any kind it is of
pub record HoldsInt (c : Content) (x : ℤ) : Type 0 where
  pub each : (k : Accum) → IsOf k (out-Content c) → read_of k c ≡ Is INT (Int x)

pub record HoldsTruth (c : Content) (b : Bool) : Type 0 where
  pub each : (k : Accum) → IsOf k (out-Content c) → read_of k c ≡ Is BOOL (Truth b)

-- an accumulator reads as this INT, or as this truth
abbrev pub ReadsInt : Calendar → Over → Accums → ℕ → ℕ → ℤ → Type 0
ReadsInt clock o accums n v x = read_slot (world_over clock o) (slots_are accums) (Slot n) v ≡ Gives (Is INT (Int x))

abbrev pub ReadsTruth : Calendar → Over → Accums → ℕ → ℕ → Bool → Type 0
ReadsTruth clock o accums n v b = read_slot (world_over clock o) (slots_are accums) (Slot n) v ≡ Gives (Is BOOL (Truth b))

-- ---- acts

-- these inputs represent the contributions of statements
pub record AreInputs (slots : Slots) (gives : Answer Wrong (List Contribution)) (more : List (ℕ × ScalarInput)) : Type 0 where
  pub contributed : List Contribution
  pub are : gives ≡ Gives contributed
  pub may : All (MayTake slots) contributed
  pub batched : AreBatched slots contributed (as_inputs more)

-- the meaning of an input, for a kind, is x, which the kind takes
pub record IsFedTo (look : Look Reference) (f : plain.Input Reference) (x : ScalarInput) (k : Accum) : Type 0 where
  pub input : input_of look k f ≡ Gives (given (made_of x))
  pub suited : suits k (given (made_of x)) ≡ true

-- for each kind that takes such inputs
pub record IsFed (look : Look Reference) (f : plain.Input Reference) (takes : Taken) (x : ScalarInput) : Type 0 where
  pub each : (k : Accum) → Takes k takes → IsFedTo look f x k

-- a change is a `+=` of this input to the accumulator of a slot
pub record IsAdded (look : Look Reference) (slots : Slots) (n : ℕ) (change : plain.Change Reference) (x : ScalarInput) : Type 0 where
  pub slot : code_slot.Slot
  pub declared : slice_get slots.declared n ≡ Some slot
  pub feed : plain.Input Reference
  pub adds : change ≡ plain.Adds feed
  pub input : input_of look (accum_of slot.kind) feed ≡ Gives (given (made_of x))

-- this input represents the contribution of a `+=`
pub record IsInput (slots : Slots) (gives : Answer Wrong (List Contribution)) (x : ℕ × ScalarInput) : Type 0 where
  pub contribution : Contribution
  pub is : gives ≡ Gives (contribution ∷ [])
  pub may : MayTake slots contribution
  pub batched : AreBatched slots (contribution ∷ []) (as_inputs (x ∷ []))

-- ---- rows of INTs

-- the value of an expression is this INT, which fits 64 bits
pub record IsNumber (look : Look Reference) (t : Tree Reference) (x : ℤ) : Type 0 where
  pub is : IsInt look t x
  pub fits : FitsSigned w64 x

-- a feed is one value, which is this INT
pub record IsPart (look : Look Reference) (f : Feed) (x : ℤ) : Type 0 where
  pub tree : Tree Reference
  pub one : view_feed f ≡ Plain tree
  pub number : IsNumber look tree x

-- R relates the items of two lists of equal length, pairwise
abbrev pub AllPairs : {A B : Type 0} → (A → B → Type 0) → List A → List B → Type 0
AllPairs R [] [] = Unit {0}
AllPairs R (x ∷ xs) (y ∷ ys) = R x y × AllPairs R xs ys
AllPairs R _ _ = ⊥

-- an INT for each of these is appended to a row
pub record AddsInts {A : Type 0} (R : A → ℤ → Type 0) (xs : List A) (old new : Ints) : Type 0 where
  pub ints : List ℤ
  pub added : ints_of new ≡ ints_of old ++ ints
  pub are : AllPairs R xs ints

-- expressions that are INTs
abbrev pub AddsKeys : Look Reference → List Expr → Ints → Ints → Type 0
AddsKeys look keys old new = AddsInts (λ e x. IsNumber look (view e) x) keys old new

-- inputs of parts that are INTs
abbrev pub AddsParts : Look Reference → List Feed → Ints → Ints → Type 0
AddsParts look feeds old new = AddsInts (IsPart look) feeds old new

-- one INT is appended to a row
pub record AddsOne (R : ℤ → Type 0) (old new : Ints) : Type 0 where
  pub x : ℤ
  pub is : R x
  pub added : ints_of new ≡ ints_of old ++ x ∷ []

abbrev pub AddsKey : Look Reference → Tree Reference → Ints → Ints → Type 0
AddsKey look t old new = AddsOne (IsNumber look t) old new

abbrev pub AddsPart : Look Reference → Feed → Ints → Ints → Type 0
AddsPart look f old new = AddsOne (IsPart look f) old new

-- a tuple type has `count` fields, all of type INT
pub record HasInts (o : Over) (n count : ℕ) : Type 0 where
  pub type : TupleType
  pub there : slice_get o.tuples n ≡ Some type
  pub many : length type.types ≡ count
  pub ints : All (λ b. base_of b ≡ INT) type.types

-- the value of an expression is a tuple of `count` INTs, with these fields
pub record IsTuple (look : Look Reference) (t : Tree Reference) (count : ℕ) (row : Ints) : Type 0 where
  pub is : value_of look t ≡ Gives (Tuple (vals_of (map Int (ints_of row))))
  pub many : length (ints_of row) ≡ count
  pub fit : All (FitsSigned w64) (ints_of row)

-- all inputs are appended, or none
abbrev pub Gathers : Slots → Answer Wrong (List Contribution) → List (ℕ × ScalarInput) → List (ℕ × ScalarInput) → Bool → Type 0
Gathers slots gives old new true = (more : List (ℕ × ScalarInput)) × (new ≡ old ++ more) × AreInputs slots gives more
Gathers slots gives old new false = new ≡ old
