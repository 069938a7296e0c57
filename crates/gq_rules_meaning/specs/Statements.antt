-- Statements: the effects of declarations, assignments and changes of global accumulators, and the values of FOREACH.
use Rattle.std.specs.Prelude.{ℕ, zero, suc, Bool, true, false, List, [], ◌∷◌, map, ℤ, pos, ◌+ℤ◌, ◌-ℤ◌, int_le, nat_abs, Option, Some, None}
use Rattle.gq_rules_typing.specs.Tree.{Tree, Name}
use Rattle.gq_value.specs.declared.kind.Number.{Number}
use Rattle.gq_value.specs.declared.value.Wrong.{Wrong}
use Rattle.gq_value.specs.Val.{Val, Int, UInt, Truth, Text}
use Rattle.gq_value.specs.Arithmetic.{in_type, as_type, type_of_both}
use Rattle.gq_value.specs.Accums.{Base, INT, UINT, BOOL, STRING, VERTEX, VERTEX_OF}
use Rattle.gq_value.specs.Typed.{number_type}
use Rattle.gq_rules_typing.specs.Selecting.{Select}
use Rattle.gq_rules_typing.specs.Statements.{BaseTree, Ints, UInts, Bools, Strings, AnyVertex, VertexOf, SetTypes, Right, Selects, Sets, Expression, Over, Elements, Range}
use Rattle.gq_rules_typing.specs.Kinds.{element_type}
use Rattle.gq_rules_meaning.specs.Answers.{Answer, Gives, Faults, Stuck, ◌>>=◌, blaming, found, of_result}
use Rattle.gq_rules_meaning.specs.Meanings.{Meant, IsContent, as_number}
use Rattle.gq_rules_meaning.specs.Collections.{elements}
use Rattle.gq_rules_meaning.specs.Expressions.{World, Look, meaning, value_of, value_as}
use Rattle.gq_rules_meaning.specs.States.{Thing, Variable, SetOf, State, thing_named, with_name, with_new, seen}
use Rattle.gq_rules_meaning.specs.Sources.{from, candidates_of, within_bound, selects_target, types_at}
use Rattle.gq_rules_meaning.specs.Blocks.{BlockFault, AtPlace, SumRange}
use Rattle.gq_rules_meaning.specs.Writes.{WriteFault, Wrongly, TooBig}
use Rattle.gq_rules_meaning.specs.Tails.{select}
use Rattle.gq_rules_meaning.specs.Sets.{set_named, sets_of, set_assigned}

-- why a run ends: an expression's fault, a sum out of range in the accumulator of this number, the bound on loop
-- entries, or a path with too many bindings
pub data Fault : Type 0 where
  Evaluation : Wrong → Fault
  SumOutOfRange : ℕ → Fault
  LoopBound PathBound : Fault

abbrev pub of_block : BlockFault → Fault
of_block (AtPlace n w) = Evaluation w
of_block (SumRange n) = SumOutOfRange n

abbrev pub of_write : WriteFault → Fault
of_write (Wrongly w) = Evaluation w
of_write (TooBig n) = SumOutOfRange n

-- ---- locals

abbrev pub base_of_tree : {N : Type 0} → World N → BaseTree N → Answer Wrong Base
base_of_tree world Ints = Gives INT
base_of_tree world UInts = Gives UINT
base_of_tree world Bools = Gives BOOL
base_of_tree world Strings = Gives STRING
base_of_tree world AnyVertex = Gives VERTEX
base_of_tree world (VertexOf t) = found (world.words.vertex_type t) >>= λ n. Gives (VERTEX_OF n)

abbrev pub default_of : Base → Answer Wrong Val
default_of INT = Gives (Int (pos 0))
default_of UINT = Gives (UInt 0)
default_of BOOL = Gives (Truth false)
default_of STRING = Gives (Text [])
default_of b = Stuck

abbrev pub local_value : {N : Type 0} → Look N → Base → Option (Tree N) → Answer Wrong Val
local_value look b None = default_of b
local_value look b (Some t) = value_as look b t

-- each local sees those before it
abbrev pub with_local : {N : Type 0} → World N → Base → State N → N × Option (Tree N) → Answer Wrong (State N)
with_local world b s x = local_value (seen world s) b x.1 >>= λ v. Gives (with_new x.0 (Variable b v) s)

-- ---- assignments

-- a SELECT gives its accumulators, and its vertices to the set variable; first its bindings are counted, if it has a path
abbrev pub select_assigned : {N : Type 0} → World N → State N → N → Option (SetTypes N) → Select N → Answer Fault (State N)
select_assigned world s x types q =
    elim (within_bound q.walk (candidates_of world (from world s.names q).start q.walk)) [
      | false ↦ Faults PathBound
      | true ↦ blaming of_block (select world s q) >>= λ r. Gives (set_assigned world x types (types_at (from world s.names q) (selects_target world q), r.vertices) (record s { slots = r.slots }))
    ]

abbrev pub value_assigned : {N : Type 0} → World N → State N → N → Tree N → Answer Wrong (State N)
value_assigned {N = N} world s x t = found (thing_named world s.names x) >>= of_thing
  where
    of_thing : Thing → Answer Wrong (State N)
    of_thing (Variable b v) = value_as (seen world s) b t >>= λ w. Gives (with_name world x (Variable b w) s)
    of_thing thing = Stuck

abbrev pub is_set : Option Thing → Bool
is_set (Some (SetOf types vs)) = true
is_set thing = false

-- a set variable's name alone is a set
abbrev pub expression_assigned : {N : Type 0} → World N → State N → N → Option (SetTypes N) → Tree N → Answer Wrong (State N)
expression_assigned world s x types (Name y) =
    elim (is_set (thing_named world s.names y)) [
      | true ↦ set_named world s y >>= λ set. Gives (set_assigned world x types set s)
      | false ↦ value_assigned world s x (Name y)
    ]
expression_assigned world s x types t = value_assigned world s x t

abbrev pub assigned : {N : Type 0} → World N → State N → N → Option (SetTypes N) → Right N → Answer Fault (State N)
assigned world s x types (Selects q) = select_assigned world s x types q
assigned world s x types (Sets t rest) = blaming Evaluation (sets_of world s t rest) >>= λ set. Gives (set_assigned world x types set s)
assigned world s x types (Expression t) = blaming Evaluation (expression_assigned world s x types t)

-- ---- FOREACH

abbrev pub with_base : Base → List Val → List (Base × Val)
with_base b vs = map (λ v. (b, v)) vs

abbrev pub elements_of : Meant → Answer Wrong (List (Base × Val))
elements_of (IsContent k c) = found (element_type k) >>= λ b. found (elements k c) >>= λ vs. Gives (with_base b vs)
elements_of m = Stuck

-- n numbers from x on
abbrev pub numbers_from : Number → ℕ → ℤ → List Val
numbers_from n zero x = []
numbers_from n (suc k) x = as_type n x ∷ numbers_from n k (x +ℤ pos 1)

-- both ends are included; empty if the first is above the second
abbrev pub numbers_between : Number → ℤ → ℤ → List Val
numbers_between n x y = elim (int_le x y) [ true ↦ numbers_from n (suc (nat_abs (y -ℤ x))) x | false ↦ [] ]

abbrev pub end_of : Number → Val → Answer Wrong ℤ
end_of n v = as_number v >>= λ x. of_result (in_type n x) >>= as_number

-- the numbers are UINT if both ends are, else INT with both ends converted
abbrev pub between : Val → Val → Answer Wrong (List (Base × Val))
between v w = end_of (type_of_both v w) v >>= λ x. end_of (type_of_both v w) w >>= λ y. Gives (with_base (number_type (type_of_both v w)) (numbers_between (type_of_both v w) x y))

-- each value with its type, once and at the start
abbrev pub gone_over : {N : Type 0} → Look N → Over N → Answer Wrong (List (Base × Val))
gone_over look (Elements t) = meaning look t >>= elements_of
gone_over look (Range s t) = value_of look s >>= λ v. value_of look t >>= between v
