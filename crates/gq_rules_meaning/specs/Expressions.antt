-- Expressions: the meaning of expressions, one line for each form. Parts are evaluated from left to right; the first
-- fault counts. Names are looked up; the plan has numbers of slots.
use Rattle.std.specs.Prelude.{ℕ, zero, suc, Bool, true, false, not, ◌&&◌, ◌||◌, if◌then◌else◌, List, [], ◌∷◌, ℤ, Option, Some, None, Result, ◌==◌}
use Rattle.std.specs.declared.cmp.Ordering.{Ordering}
use Rattle.std.specs.declared.cmp.Ordering.TheVariants.{Less, Equal, Greater}
use Rattle.gq_rules_typing.specs.AddSign.{AddSign}
use Rattle.gq_rules_typing.specs.AddSign.TheVariants as sign
use Rattle.gq_rules_typing.specs.MulSign.{MulSign}
use Rattle.gq_rules_typing.specs.MulSign.TheVariants as times
use Rattle.gq_rules_typing.specs.CmpSign.{CmpSign}
use Rattle.gq_rules_typing.specs.CmpSign.TheVariants as cmp
use Rattle.gq_rules_typing.specs.Tree.{Tree, Behind, Trees, Parts, Factors, Terms, Number, Text, Truth, Global, Name, Call, Post, Neg, Mul, Sum, Cmp, Not, And, Or, Field, Method, Attached, Before, no_tree, tree, no_part, part, no_factor, factor, no_term, term}
use Rattle.gq_value.specs.declared.value.Wrong.{Wrong}
use Rattle.gq_value.specs.Val.{Val, rank}
use Rattle.gq_value.specs.Val as val
use Rattle.gq_value.specs.Order.{compare}
use Rattle.gq_value.specs.Arithmetic.{added, subtracted, multiplied, divided, remainder, negated}
use Rattle.gq_value.specs.Accums.{Base, STRING}
use Rattle.gq_rules_typing.specs.Words.{Words, Setting, function_named}
use Rattle.gq_rules_typing.specs.Types.{is_equality}
use Rattle.gq_rules_typing.specs.Sorts.{Fields}
use Rattle.gq_rules_meaning.specs.Answers.{Answer, Gives, Stuck, ◌>>=◌, found, of_result}
use Rattle.gq_rules_meaning.specs.Calendars.{Calendar}
use Rattle.gq_rules_meaning.specs.Graphs.{Graph}
use Rattle.gq_rules_meaning.specs.Meanings.{Meant, Is, Outcome, value_of_meant, vertex_of_meant, as_number, as_truth, converted_to, numbered, said, truly, literal}
use Rattle.gq_rules_meaning.specs.Calls.{method_wants, method_of, function_wants, function_of}

-- all that stays the same while a query runs
pub record World (N : Type 0) : Type 0 where
  pub words : Words N
  pub tuples : List (N × Fields)
  pub graph : Graph
  pub calendar : Calendar

abbrev pub setting : {N : Type 0} → World N → Setting N
setting world = record { words = world.words; sorts = world.graph.sorts; tuples = world.tuples }

-- what an expression sees: names, accumulators, the values of a vertex's accumulators before the block, fields
pub record Look (N : Type 0) : Type 0 where
  pub named : N → Outcome
  pub global : N → Outcome
  pub attached : N → ℕ → Outcome
  pub before : N → ℕ → Outcome
  pub field : Meant → N → Outcome
  pub world : World N

-- ---- operators

-- exact, on two whole numbers
abbrev pub calculated : (Val → Val → Result Val Wrong) → Val → Val → Outcome
calculated operation v w = as_number v >>= λ x. as_number w >>= λ y. of_result (operation v w) >>= numbered

abbrev pub summed : AddSign → Val → Val → Outcome
summed sign.Plus (val.Text s) (val.Text t) = of_result (added (val.Text s) (val.Text t)) >>= λ v. Gives (Is STRING v)
summed sign.Plus v w = calculated added v w
summed sign.Minus v w = calculated subtracted v w

abbrev pub product : MulSign → Val → Val → Outcome
product times.Times = calculated multiplied
product times.Over = calculated divided
product times.Modulo = calculated remainder

-- minus signs, applied from the inner one on
abbrev pub minus : ℕ → Val → Outcome
minus zero v = numbered v
minus (suc n) v = as_number v >>= λ x. of_result (negated v) >>= minus n

-- a number of NOTs
abbrev pub nots : ℕ → Bool → Bool
nots zero b = b
nots (suc n) b = nots n (not b)

-- numbers, averages and texts by every sign; truths and vertices only by `==` and `!=`
abbrev pub may_compare : CmpSign → ℕ → ℕ → Bool
may_compare s r q = (r == q) && ((r == 0) || ((r == 2) || (is_equality s && ((r == 1) || (r == 3)))))

abbrev pub related : CmpSign → Ordering → Bool
related cmp.Equal Equal = true
related cmp.NotEqual Less = true
related cmp.NotEqual Greater = true
related cmp.Less Less = true
related cmp.LessOrEqual Less = true
related cmp.LessOrEqual Equal = true
related cmp.Greater Greater = true
related cmp.GreaterOrEqual Greater = true
related cmp.GreaterOrEqual Equal = true
related s o = false

abbrev pub compared : CmpSign → Val → Val → Outcome
compared s v w = if may_compare s (rank v) (rank w) then truly (related s (compare v w)) else Stuck

abbrev pub wanted : Option Base → Val → Answer Wrong Val
wanted None v = Gives v
wanted (Some b) v = converted_to b v

-- ---- the meaning of an expression

abbrev mutual
  pub meaning : {N : Type 0} → Look N → Tree N → Outcome
  meaning look (Number n) = literal n
  meaning look (Text s) = said s
  meaning look (Truth b) = truly b
  meaning look (Global a) = look.global a
  meaning look (Name x) = look.named x
  meaning look (Call f ts) = found (function_named (setting look.world) f) >>= λ g. arguments look (function_wants g) ts >>= function_of look.world.calendar g
  meaning look (Post t parts) = meaning look t >>= λ m. meaning_parts look m parts
  meaning look (Neg n t) = meaning look t >>= value_of_meant >>= minus n
  meaning look (Mul t factors) = meaning look t >>= λ m. meaning_factors look m factors
  meaning look (Sum t terms) = meaning look t >>= λ m. meaning_terms look m terms
  meaning look (Cmp s sign t) = meaning look s >>= value_of_meant >>= λ v. meaning look t >>= value_of_meant >>= compared sign v
  meaning look (Not n t) = meaning look t >>= value_of_meant >>= as_truth >>= λ b. truly (nots n b)
  meaning look (And t ts) = meaning look t >>= λ m. meaning_all look m ts
  meaning look (Or t ts) = meaning look t >>= λ m. meaning_any look m ts

  -- arguments from left to right, each converted before the next is evaluated
  pub arguments : {N : Type 0} → Look N → List (Option Base) → Trees N → Answer Wrong (List Val)
  arguments look wants no_tree = Gives []
  arguments look [] (tree t ts) = Stuck
  arguments look (want ∷ wants) (tree t ts) = meaning look t >>= value_of_meant >>= wanted want >>= λ v. arguments look wants ts >>= λ vs. Gives (v ∷ vs)

  -- m with the parts after its dots
  pub meaning_parts : {N : Type 0} → Look N → Meant → Parts N → Outcome
  meaning_parts look m no_part = Gives m
  meaning_parts look m (part p ps) = meaning_part look m p >>= λ n. meaning_parts look n ps

  pub meaning_part : {N : Type 0} → Look N → Meant → Behind N → Outcome
  meaning_part look m (Field f) = look.field m f
  meaning_part look m (Method x ts) = found (look.world.words.method x) >>= λ f. arguments look (method_wants f m) ts >>= method_of look.world.graph f m
  meaning_part look m (Attached a) = vertex_of_meant m >>= look.attached a
  meaning_part look m (Before a) = vertex_of_meant m >>= look.before a

  -- a chain, from the operands before
  pub meaning_factors : {N : Type 0} → Look N → Meant → Factors N → Outcome
  meaning_factors look m no_factor = Gives m
  meaning_factors look m (factor sign t rest) = value_of_meant m >>= λ v. meaning look t >>= value_of_meant >>= product sign v >>= λ n. meaning_factors look n rest

  pub meaning_terms : {N : Type 0} → Look N → Meant → Terms N → Outcome
  meaning_terms look m no_term = Gives m
  meaning_terms look m (term sign t rest) = value_of_meant m >>= λ v. meaning look t >>= value_of_meant >>= summed sign v >>= λ n. meaning_terms look n rest

  -- AND and OR don't evaluate the operands after one that decides
  pub meaning_all : {N : Type 0} → Look N → Meant → Trees N → Outcome
  meaning_all look m no_tree = value_of_meant m >>= as_truth >>= truly
  meaning_all look m (tree t ts) = value_of_meant m >>= as_truth >>= elim [ true ↦ meaning look t >>= λ n. meaning_all look n ts | false ↦ truly false ]

  pub meaning_any : {N : Type 0} → Look N → Meant → Trees N → Outcome
  meaning_any look m no_tree = value_of_meant m >>= as_truth >>= truly
  meaning_any look m (tree t ts) = value_of_meant m >>= as_truth >>= elim [ true ↦ truly true | false ↦ meaning look t >>= λ n. meaning_any look n ts ]

-- ---- an expression as the type that a place requires

abbrev pub value_of : {N : Type 0} → Look N → Tree N → Answer Wrong Val
value_of look t = meaning look t >>= value_of_meant

abbrev pub number_of : {N : Type 0} → Look N → Tree N → Answer Wrong ℤ
number_of look t = value_of look t >>= as_number

abbrev pub truth_of : {N : Type 0} → Look N → Tree N → Answer Wrong Bool
truth_of look t = value_of look t >>= as_truth

-- converted to a type
abbrev pub value_as : {N : Type 0} → Look N → Base → Tree N → Answer Wrong Val
value_as look b t = value_of look t >>= converted_to b
