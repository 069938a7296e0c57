-- Rules: rules of gq_rules_typing on statements, split into the code's functions.
use Rattle.std.specs.Prelude.{Bool, if◌then◌else◌, List, [], Option, Ok}
use Rattle.std.specs.Option.{unwrap_or}
use Rattle.gq_value.specs.Accums.{Base}
use Rattle.gq_tree.specs.Tree.{Tree, Name}
use Rattle.gq_rules_typing.specs.Statements.{Bytes, KindTree, Item, Over, Stmts, Definition, Parameter}
use Rattle.gq_rules_typing.specs.Judging.{Typed, SetOf, Judged, Mismatch, ◌>>=◌, ◌>>◌, or_fault, through_judged}
use Rattle.gq_rules_typing.specs.Types.{printable}
use Rattle.gq_rules_typing.specs.ExpressionTypes.{Names, typing, number, converting}
use Rattle.gq_rules_typing.specs.Scopes.{Scope, Variable, InSelection, entry, with_entry, new_name, names_at}
use Rattle.gq_rules_typing.specs.SelectTypes.{optional}
use Rattle.gq_rules_typing.specs.SetTypes.{here, is_set, set_types}
use Rattle.gq_rules_typing.specs.StatementTypes.{typing_item, typing_stmts, variable_type}
use Rattle.gq_rules_typing.specs.KindTypes.{kind_written}
use Rattle.gq_rules_typing.specs.QueryTypes.{typing_parameter, typing_definition}

-- the initial value of a local
abbrev pub own_value : Scope Bytes → Base → Option (Tree Bytes) → Judged Bool
own_value s b t = optional (converting (here s) b) t

-- the LIMIT of a WHILE
abbrev pub limit : Scope Bytes → Option (Tree Bytes) → Judged Bool
limit s t = optional (number (here s)) t

-- ---- PRINT

-- without AS, the key of a selection is its set's name
abbrev pub selection_key : Bytes → Option Bytes → Bytes
selection_key set name = unwrap_or name set

-- a name alone, which may be that of a set
abbrev pub whole_name : Scope Bytes → Bytes → Judged Typed
whole_name s x = if is_set (entry s x) then Ok (SetOf []) else typing (here s) (Name x)

-- a printed expression
abbrev pub whole_value : Names Bytes → Tree Bytes → Judged Typed
whole_value names t = typing names t >>= printable

-- columns, each under its own key
abbrev pub columns : Names Bytes → List (Item Bytes) → Judged (List Bytes)
columns names items = through_judged (typing_item names) [] items

abbrev pub selection : Scope Bytes → Bytes → List (Item Bytes) → Judged (List Bytes)
selection s x items = set_types s x >> columns (names_at s (InSelection x)) items

-- ---- FOREACH

-- the variable of a FOREACH, which must be a new name
abbrev pub loop_variable : Scope Bytes → Bytes → Over Bytes → Judged (Scope Bytes)
loop_variable s x over = new_name s x >> variable_type (here s) over >>= λ b. Ok (with_entry x (Variable b) s)

-- the type of an element, if there is one
abbrev pub elements : Option Base → Judged Base
elements o = or_fault Mismatch o

-- ---- queries

-- parameters, definitions and statements, in a scope
abbrev pub query : Scope Bytes → List (Parameter Bytes) → List (Definition Bytes (KindTree Bytes)) → Stmts Bytes → Judged (Scope Bytes)
query s parameters definitions stmts = through_judged typing_parameter s parameters >>= λ s₁. through_judged (typing_definition kind_written) s₁ definitions >>= λ s₂. typing_stmts s₂ stmts
