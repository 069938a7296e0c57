-- Written: short words to write queries as trees, for examples.
use Rattle.std.proofs.Common.{List, [], ◌∷◌, Option, None}
use Rattle.gq_tree.specs.Tree.{Tree}
use Rattle.gq_rules_typing.specs.Selecting.{Input, Inputs, no_input, input_and, Act, Acts, no_act, act_and, Types, Walk, OneHop, Select}
use Rattle.gq_rules_typing.specs.Statements.{Bytes, Item, Stmt, Stmts, no_stmt, stmt_and}

abbrev pub inputs_of : List (Input Bytes) → Inputs Bytes
inputs_of [] = no_input
inputs_of (x ∷ xs) = input_and x (inputs_of xs)

abbrev pub acts : List (Act Bytes) → Acts Bytes
acts [] = no_act
acts (a ∷ rest) = act_and a (acts rest)

abbrev pub stmts : List (Stmt Bytes) → Stmts Bytes
stmts [] = no_stmt
stmts (s ∷ rest) = stmt_and s (stmts rest)

abbrev pub item : Tree Bytes → Bytes → Item Bytes
item t key = record { tree = t; key = key }

-- edges and targets with their aliases
abbrev pub hop : Types Bytes → Option Bytes → Types Bytes → Option Bytes → Walk Bytes
hop edges edge_alias targets target_alias = OneHop (record { edges = edges; edge_alias = edge_alias; targets = targets; target_alias = target_alias })

-- SELECT selected FROM source:alias, and nothing else
abbrev pub selecting : Bytes → Bytes → Option Bytes → Walk Bytes → Select Bytes
selecting selected source alias walk = record { selected = selected; source = source; alias = alias; walk = walk; filter = None; accum = no_act; post = no_act; having = None; order = []; limit = None }
