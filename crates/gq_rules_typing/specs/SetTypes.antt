-- SetTypes: the vertex types of set expressions, and the typing rules of assignments.
use Rattle.std.specs.Prelude.{ℕ, Bool, true, false, if◌then◌else◌, List, [], ◌∷◌, ◌++◌, Option, Some, None, Ok, Err}
use Rattle.std.specs.List.{list_all}
use Rattle.gq_tree.specs.Tree.{Tree, Name}
use Rattle.gq_tree.specs.declared.body.SetOp.{SetOp}
use Rattle.gq_tree.specs.declared.body.SetOp.TheVariants as op
use Rattle.gq_tree.specs.Accums.{Base, VERTEX, VERTEX_OF, Accum, SetAccum}
use Rattle.gq_tree.specs.Candidates.{among}
use Rattle.gq_rules_typing.specs.Statements.{Seed, AllOf, AllVertices, OneVertex, ContentOf, SetTerm, SetNamed, Seeds, SetTypes, AnyType, TypeOf, Right, Selects, Sets, Expression}
use Rattle.gq_rules_typing.specs.Judging.{Mismatch, WiderSet, Judged, ◌>>=◌, ◌>>◌, unless, each_judged, through_judged}
use Rattle.gq_rules_typing.specs.ExpressionTypes.{Names, typing, base_type, converting}
use Rattle.gq_rules_typing.specs.Scopes.{Entry, Variable, SetVariable, TupleName, InStatement, Scope, entry, said, unknown, with_entry, new_name, declared_kind, names_at, vertex_type}
use Rattle.gq_rules_typing.specs.Patterns.{by_number}
use Rattle.gq_rules_typing.specs.SelectTypes.{typing_select}

abbrev pub here : {N : Type 0} → Scope N → Names N
here s = names_at s InStatement

-- ---- set expressions

-- a vertex has its type, or may be of any type of the graph
abbrev pub types_of : {N : Type 0} → Scope N → Base → Judged (List ℕ)
types_of s (VERTEX_OF t) = Ok (t ∷ [])
types_of s VERTEX = Ok s.setting.sorts.own_vertices
types_of s b = Err Mismatch

abbrev pub content_types : {N : Type 0} → Scope N → Accum → Judged (List ℕ)
content_types s (SetAccum b) = types_of s b
content_types s k = Err Mismatch

abbrev pub seed_types : {N : Type 0} → Scope N → Seed N → Judged (List ℕ)
seed_types s (AllOf n) = vertex_type s n >>= λ t. Ok (t ∷ [])
seed_types s AllVertices = Ok s.setting.sorts.own_vertices
seed_types s (OneVertex x) = base_type (here s) (Name x) >>= types_of s
seed_types s (ContentOf a) = declared_kind s false a >>= content_types s

abbrev pub all_types : List (List ℕ) → List ℕ
all_types [] = []
all_types (ts ∷ rest) = by_number (ts ++ all_types rest)

-- a set variable that is visible
abbrev pub set_types : {N : Type 0} → Scope N → N → Judged (List ℕ)
set_types s x = of_entry (entry s x)
  where
    of_entry : Option Entry → Judged (List ℕ)
    of_entry (Some (SetVariable types)) = Ok types
    of_entry (Some TupleName) = Err (unknown s x)
    of_entry None = Err (unknown s x)
    of_entry (Some e) = Err Mismatch

abbrev pub term_types : {N : Type 0} → Scope N → SetTerm N → Judged (List ℕ)
term_types s (SetNamed x) = set_types s x
term_types s (Seeds seeds) = each_judged (seed_types s) seeds >>= λ tss. Ok (all_types tss)

-- a UNION has the types of both sides, the others those of the left side
abbrev pub joined_types : SetOp → List ℕ → List ℕ → List ℕ
joined_types op.Union a b = by_number (a ++ b)
joined_types _ a b = a

-- from left to right; `{}` alone has all types of the graph
abbrev pub sets_types : {N : Type 0} → Scope N → SetTerm N → List (SetOp × SetTerm N) → Judged (List ℕ)
sets_types s (Seeds []) [] = Ok s.setting.sorts.own_vertices
sets_types s t rest = term_types s t >>= λ a. through_judged (λ b next. term_types s next.1 >>= λ c. Ok (joined_types next.0 b c)) a rest

-- ---- assignments

abbrev pub is_set : Option Entry → Bool
is_set (Some (SetVariable types)) = true
is_set _ = false

-- whether the right side is a set: a SELECT, a set expression, or a set variable's name alone. Its types
abbrev pub right_types : {N : Type 0} → Scope N → Right N → Option (Judged (List ℕ))
right_types s (Selects q) = Some (typing_select s q)
right_types s (Sets t rest) = Some (sets_types s t rest)
right_types s (Expression (Name y)) = if is_set (entry s y) then Some (set_types s y) else None
right_types s (Expression t) = None

abbrev pub right_value : {N : Type 0} → Right N → Judged (Tree N)
right_value (Expression t) = Ok t
right_value _ = Err Mismatch

-- assigned types are among those of the variable
abbrev pub kept_within : {N : Type 0} → Scope N → N → List ℕ → List ℕ → Judged Bool
kept_within s x fixed types = unless (WiderSet (said s x)) (list_all (among fixed) types)

-- `x = ..`: the entry of x and the right side are judged at the sign; an assignment of a set may declare x
abbrev pub typing_assign : {N : Type 0} → Scope N → N → Right N → Option Entry → Option (Judged (List ℕ)) → Judged (Scope N)
typing_assign s x right (Some (SetVariable fixed)) (Some set) = set >>= kept_within s x fixed >> Ok s
typing_assign s x (Expression t) (Some (Variable b)) None = converting (here s) b t >> Ok s
typing_assign s x right None (Some set) = set >>= λ types. Ok (with_entry x (SetVariable types) s)
typing_assign s x right None None = Err (unknown s x)
typing_assign s x right (Some TupleName) set = Err (unknown s x)
typing_assign s x right (Some e) set = Err Mismatch

abbrev pub fixed_types : {N : Type 0} → Scope N → SetTypes N → Judged (List ℕ)
fixed_types s AnyType = Ok s.setting.sorts.own_vertices
fixed_types s (TypeOf t) = vertex_type s t >>= λ n. Ok (n ∷ [])

-- `x (T) = ..` declares x; an expression that isn't a set is judged before it is refused
abbrev pub typing_fixed : {N : Type 0} → Scope N → N → List ℕ → Right N → Option (Judged (List ℕ)) → Judged (Scope N)
typing_fixed s x fixed right (Some set) = set >>= kept_within s x fixed >> Ok (with_entry x (SetVariable fixed) s)
typing_fixed s x fixed right None = right_value right >>= typing (here s) >> Err Mismatch

abbrev pub typing_assignment : {N : Type 0} → Scope N → N → Option (SetTypes N) → Right N → Judged (Scope N)
typing_assignment s x None right = typing_assign s x right (entry s x) (right_types s right)
typing_assignment s x (Some types) right = fixed_types s types >>= λ fixed. new_name s x >> typing_fixed s x fixed right (right_types s right)
