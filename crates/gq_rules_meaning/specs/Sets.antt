-- Sets: the vertices of set expressions, with their types.
use Rattle.std.specs.Prelude.{ℕ, not, List, [], ◌∷◌, ◌++◌, filter, Option, Some, None}
use Rattle.gq_rules_typing.specs.SetOp.{SetOp}
use Rattle.gq_rules_typing.specs.SetOp.TheVariants as op
use Rattle.gq_value.specs.declared.value.Wrong.{Wrong}
use Rattle.gq_value.specs.Val.{Val, Vertex}
use Rattle.gq_value.specs.Accums.{Base, VERTEX_OF, SetAccum}
use Rattle.gq_graph.specs.Candidates.{among}
use Rattle.gq_rules_typing.specs.Statements.{Seed, AllOf, AllVertices, OneVertex, ContentOf, SetTerm, SetNamed, Seeds, SetTypes, AnyType, TypeOf}
use Rattle.gq_rules_typing.specs.Patterns.{by_number}
use Rattle.gq_rules_meaning.specs.Answers.{Answer, Gives, Stuck, ◌>>=◌, found, each, through}
use Rattle.gq_rules_meaning.specs.Graphs.{vertices_of}
use Rattle.gq_rules_meaning.specs.Meanings.{Meant, Is, IsContent}
use Rattle.gq_rules_meaning.specs.Expressions.{World}
use Rattle.gq_rules_meaning.specs.States.{Thing, SetOf, State, thing_named, with_name, seen}

-- types and vertices
abbrev pub TypedSet : Type 0
TypedSet = List ℕ × List ℕ

-- a vertex has its type, or may be of any type of the graph
abbrev pub types_of_base : {N : Type 0} → World N → Base → List ℕ
types_of_base world (VERTEX_OF t) = t ∷ []
types_of_base world b = world.graph.sorts.own_vertices

abbrev pub vertices_in : List Val → List ℕ
vertices_in [] = []
vertices_in (Vertex v ∷ vs) = v ∷ vertices_in vs
vertices_in (v ∷ vs) = vertices_in vs

abbrev pub of_variable : {N : Type 0} → World N → Meant → Answer Wrong TypedSet
of_variable world (Is b (Vertex v)) = Gives (types_of_base world b, v ∷ [])
of_variable world m = Stuck

abbrev pub of_content : {N : Type 0} → World N → Meant → Answer Wrong TypedSet
of_content world (IsContent (SetAccum b) c) = Gives (types_of_base world b, vertices_in c)
of_content world m = Stuck

abbrev pub seed_of : {N : Type 0} → World N → State N → Seed N → Answer Wrong TypedSet
seed_of world s (AllOf n) = found (world.words.vertex_type n) >>= λ t. Gives (t ∷ [], vertices_of world.graph (t ∷ []))
seed_of world s AllVertices = Gives (world.graph.sorts.own_vertices, vertices_of world.graph world.graph.sorts.own_vertices)
seed_of world s (OneVertex x) = (seen world s).named x >>= of_variable world
seed_of world s (ContentOf a) = (seen world s).global a >>= of_content world

abbrev pub union : TypedSet → TypedSet → TypedSet
union a b = (by_number (a.0 ++ b.0), by_number (a.1 ++ b.1))

abbrev pub all_of : List TypedSet → TypedSet
all_of [] = ([], [])
all_of (a ∷ rest) = union a (all_of rest)

abbrev pub set_in : Thing → Answer Wrong TypedSet
set_in (SetOf types vs) = Gives (types, vs)
set_in thing = Stuck

abbrev pub set_named : {N : Type 0} → World N → State N → N → Answer Wrong TypedSet
set_named world s x = found (thing_named world s.names x) >>= set_in

abbrev pub term_of : {N : Type 0} → World N → State N → SetTerm N → Answer Wrong TypedSet
term_of world s (SetNamed x) = set_named world s x
term_of world s (Seeds seeds) = each (seed_of world s) seeds >>= λ sets. Gives (all_of sets)

-- a UNION has the types of both sides, the others those of the left side; all give order of number
abbrev pub joined : SetOp → TypedSet → TypedSet → TypedSet
joined op.Union a b = union a b
joined op.Intersect a b = (a.0, filter (among b.1) (by_number a.1))
joined op.Minus a b = (a.0, filter (λ v. not (among b.1 v)) (by_number a.1))

-- from left to right; `{}` alone has all types of the graph
abbrev pub sets_of : {N : Type 0} → World N → State N → SetTerm N → List (SetOp × SetTerm N) → Answer Wrong TypedSet
sets_of world s (Seeds []) [] = Gives (world.graph.sorts.own_vertices, [])
sets_of world s t rest = term_of world s t >>= λ a. through (λ b next. term_of world s next.1 >>= λ c. Gives (joined next.0 b c)) a rest

-- ---- assigning a set

-- a variable's types are fixed when it is first assigned
abbrev pub types_fixed : {N : Type 0} → World N → Option (SetTypes N) → List ℕ → List ℕ
types_fixed world None types = types
types_fixed world (Some AnyType) types = world.graph.sorts.own_vertices
types_fixed world (Some (TypeOf t)) types = of_type (world.words.vertex_type t)
  where
    of_type : Option ℕ → List ℕ
    of_type None = types
    of_type (Some n) = n ∷ []

abbrev pub types_kept : Option Thing → List ℕ → List ℕ
types_kept (Some (SetOf types vs)) fixed = types
types_kept _ fixed = fixed

abbrev pub set_assigned : {N : Type 0} → World N → N → Option (SetTypes N) → TypedSet → State N → State N
set_assigned world x types set s = with_name world x (SetOf (types_kept (thing_named world s.names x) (types_fixed world types set.0)) set.1) s
