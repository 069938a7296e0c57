-- Selects: a SELECT split into FROM and its clauses, sets, and assignments by their left side, over byte names.
use Rattle.std.specs.Prelude.{ℕ, Bool, true, false, List, [], ◌∷◌, map, Option, Some, None, Ok, Err}
use Rattle.std.specs.List.{list_all}
use Rattle.gq_tree.specs.Tree.{Tree, Name}
use Rattle.gq_tree.specs.View.{Named, view}
use Rattle.gq_tree.specs.declared.expr.Node.{Node}
use Rattle.gq_tree.specs.declared.body.SetOp.{SetOp}
use Rattle.gq_tree.specs.declared.body.SetTermTree as code
use Rattle.gq_value.specs.Accums.{Base, STRING}
use Rattle.gq_graph.specs.Candidates.{among}
use Rattle.gq_rules_typing.specs.Statements.{Bytes, Seed, SetTerm, Seeds, Right, Expression}
use Rattle.gq_rules_typing.specs.Selecting.{Select}
use Rattle.gq_rules_typing.specs.StatementViews.{view_term}
use Rattle.gq_rules_typing.specs.Judging.{Mismatch, NotAllowedHere, UnknownName, WiderSet, Judged, ◌>>=◌, ◌>>◌, unless, or_fault, each_judged, through_judged}
use Rattle.gq_rules_typing.specs.Types.{is_number, vertex_base}
use Rattle.gq_rules_typing.specs.ExpressionTypes.{Names, typing, condition, number, converting}
use Rattle.gq_rules_typing.specs.Scopes.{Entry, Variable, SetVariable, Alias, EdgeAlias, TupleName, InBlock, InTail, InLimit, Scope, entry, with_entry, names_at, vertex_type}
use Rattle.gq_rules_typing.specs.Patterns.{target_alias, end_types}
use Rattle.gq_rules_typing.specs.ActTypes.{typing_acts, typing_post}
use Rattle.gq_rules_typing.specs.SelectTypes.{with_alias, source_types, typing_walk, selected_types, optional, is_sortable, sort_key}
use Rattle.gq_rules_typing.specs.SetTypes.{here, types_of, seed_types, all_types, term_types, joined_types, right_types, right_value}
use Rattle.gq_scope.specs.Views.{matched}
use Rattle.gq_check_from.specs.Walks.{passes}
use Rattle.gq_check_select.specs.declared.assignments.AssignTarget.{AssignTarget}
use Rattle.gq_check_select.specs.declared.assignments.AssignTarget.TheVariants as left

-- ---- SELECT

abbrev pub is_sortable_base : Base → Bool
is_sortable_base STRING = true
is_sortable_base b = is_number b

abbrev pub sortable : Names Bytes → Tree Bytes → Judged Bool
sortable names t = typing names t >>= λ x. matched (is_sortable x)

-- keys of ORDER BY
abbrev pub view_keys : List (Node × Bool) → List (Tree Named × Bool)
view_keys keys = map (λ key. (view key.0, key.1)) keys

-- HAVING and ORDER BY
abbrev pub tail_of : Names Bytes → Option (Tree Bytes) → List (Tree Bytes × Bool) → Judged Bool
tail_of names having order = optional (condition names) having >> passes (each_judged (sort_key names) order)

abbrev pub tail : Scope Bytes → Bytes → Option (Tree Bytes) → List (Tree Bytes × Bool) → Judged Bool
tail s selected having order = tail_of (names_at s (InTail selected)) having order

-- FROM and the selected name: the scope with its aliases, and the types selected
abbrev pub from : Scope Bytes → Select Bytes → Judged (Scope Bytes × List ℕ)
from s q =
    source_types s q.source >>= λ sources.
    with_alias q.alias (Alias sources) s >>= λ s₁.
    typing_walk s₁ (end_types s.setting q.walk) q.walk >>= λ s₂.
    selected_types s₂ q.alias (target_alias q.walk) q.selected >>= λ types. Ok (s₂, types)

-- WHERE, ACCUM and POST-ACCUM
abbrev pub changes : Scope Bytes → Select Bytes → Judged ℕ
changes s q =
    optional (condition (names_at s InBlock)) q.filter >>
    typing_acts s false 0 q.accum >>
    typing_post s q.alias (target_alias q.walk) 0 q.post

-- the clauses after FROM
abbrev pub clauses : Scope Bytes → Select Bytes → Judged Bool
clauses s q = changes s q >> tail s q.selected q.having q.order >> optional (number (names_at s InLimit)) q.limit

abbrev pub select_within : Scope Bytes → Select Bytes → Judged (List ℕ)
select_within s q = from s q >>= λ f. clauses f.0 q >> Ok f.1

-- ---- sets

abbrev pub all_of : Scope Bytes → Bytes → Judged (List ℕ)
all_of s n = vertex_type s n >>= λ t. Ok (t ∷ [])

-- a name that means one vertex, in a statement
abbrev pub named_types : Scope Bytes → Bytes → Judged (List ℕ)
named_types s x = of_entry (entry s x)
  where
    of_entry : Option Entry → Judged (List ℕ)
    of_entry (Some (Variable b)) = types_of s b
    of_entry (Some (Alias types)) = types_of s (vertex_base types)
    of_entry (Some (SetVariable types)) = Err NotAllowedHere
    of_entry (Some (EdgeAlias types)) = Err NotAllowedHere
    of_entry _ = Err (UnknownName x)

abbrev pub seeds_types : Scope Bytes → List (Seed Bytes) → Judged (List ℕ)
seeds_types s seeds = each_judged (seed_types s) seeds >>= λ tss. Ok (all_types tss)

abbrev pub view_terms : List (SetOp × code.SetTermTree) → List (SetOp × SetTerm Bytes)
view_terms others = map (λ s. (s.0, view_term s.1)) others

-- one more term on the right
abbrev pub joined_term : Scope Bytes → List ℕ → SetOp × SetTerm Bytes → Judged (List ℕ)
joined_term s b next = term_types s next.1 >>= λ c. Ok (joined_types next.0 b c)

abbrev pub chain : Scope Bytes → SetTerm Bytes → List (SetOp × SetTerm Bytes) → Judged (List ℕ)
chain s t rest = term_types s t >>= λ a. through_judged (joined_term s) a rest

-- just `{}`
abbrev pub is_empty : SetTerm Bytes → List (SetOp × SetTerm Bytes) → Bool
is_empty (Seeds []) [] = true
is_empty t rest = false

-- ---- assignments

abbrev pub left_of : Option Entry → AssignTarget
left_of None = left.New
left_of (Some (SetVariable types)) = left.Set types
left_of (Some (Variable b)) = left.Value
left_of (Some TupleName) = left.Tuple
left_of (Some e) = left.Other

-- the types of a set variable
abbrev pub set_in : Option Entry → Option (List ℕ)
set_in (Some (SetVariable types)) = Some types
set_in e = None

-- the types of a set variable, if the expression is just its name
abbrev pub set_alone : Scope Bytes → Tree Bytes → Option (List ℕ)
set_alone s (Name y) = set_in (entry s y)
set_alone s t = None

abbrev pub there_or_mismatch : Option (List ℕ) → Judged (List ℕ)
there_or_mismatch o = or_fault Mismatch o

abbrev pub set_or_mismatch : Option (Judged (List ℕ)) → Judged (List ℕ)
set_or_mismatch None = Err Mismatch
set_or_mismatch (Some j) = j

abbrev pub kept_within : Bytes → List ℕ → List ℕ → Judged Bool
kept_within x fixed types = unless (WiderSet x) (list_all (among fixed) types)

abbrev pub assign_set : Scope Bytes → Bytes → List ℕ → Right Bytes → Judged (Scope Bytes)
assign_set s x fixed right = set_or_mismatch (right_types s right) >>= kept_within x fixed >> Ok s

-- a value that converts to a type
abbrev pub convert : Scope Bytes → Base → Right Bytes → Judged Bool
convert s b (Expression t) = converting (here s) b t
convert s b right = Err Mismatch

-- the right side isn't a set, and it is a value for a variable
abbrev pub assign_with : Scope Bytes → Right Bytes → Option (Judged (List ℕ)) → Option Entry → Judged Bool
assign_with s right None (Some (Variable b)) = convert s b right
assign_with s right set e = Err Mismatch

abbrev pub assign_value : Scope Bytes → Option Entry → Right Bytes → Judged Bool
assign_value s e right = assign_with s right (right_types s right) e

abbrev pub declare_with : Scope Bytes → Bytes → Option (Judged (List ℕ)) → Judged (Scope Bytes)
declare_with s x None = Err (UnknownName x)
declare_with s x (Some set) = set >>= λ types. Ok (with_entry x (SetVariable types) s)

abbrev pub declare : Scope Bytes → Bytes → Right Bytes → Judged (Scope Bytes)
declare s x right = declare_with s x (right_types s right)

-- a right side that isn't a set is typed, and then refused
abbrev pub refused : Scope Bytes → Right Bytes → Judged (Scope Bytes)
refused s right = right_value right >>= typing (here s) >> Err Mismatch

abbrev pub fixed_with : Scope Bytes → Bytes → List ℕ → Right Bytes → Option (Judged (List ℕ)) → Judged (Scope Bytes)
fixed_with s x fixed right None = refused s right
fixed_with s x fixed right (Some set) = set >>= kept_within x fixed >> Ok (with_entry x (SetVariable fixed) s)

abbrev pub declare_fixed : Scope Bytes → Bytes → List ℕ → Right Bytes → Judged (Scope Bytes)
declare_fixed s x fixed right = fixed_with s x fixed right (right_types s right)
