-- StatementTypes: the typing rules of statements, in order of text; each returns the scope after it.
use Rattle.std.specs.Prelude.{Bool, true, false, not, if◌then◌else◌, List, [], ◌∷◌, Option, Some, is_some, Ok, Err, bytes_eq}
use Rattle.std.specs.List.{list_any}
use Rattle.gq_tree.specs.Tree.{Tree, Name}
use Rattle.gq_tree.specs.Accums.{Base, Accum}
use Rattle.gq_rules_typing.specs.Selecting.{Change, Adds, Puts}
use Rattle.gq_rules_typing.specs.Statements.{Bytes, Item, Printed, Whole, Selection, Over, Elements, Range, Stmt, Local, Assign, ChangeGlobal, If, While, Foreach, Print, Stmts, no_stmt, stmt_and, Branches, else_, if_}
use Rattle.gq_rules_typing.specs.Judging.{Typed, SetOf, Mismatch, NotAllowedHere, NameTwice, Judged, ◌>>=◌, ◌>>◌, unless, or_fault, through_judged}
use Rattle.gq_rules_typing.specs.Judging as judging
use Rattle.gq_rules_typing.specs.Types.{is_vertex, number_of_both, printable}
use Rattle.gq_rules_typing.specs.Kinds.{element_type}
use Rattle.gq_rules_typing.specs.ExpressionTypes.{Names, typing, condition, number, converting}
use Rattle.gq_rules_typing.specs.Scopes.{Variable, InSelection, Scope, entry, with_entry, new_name, declared_kind, names_at, base_written, Entry, SetVariable, Place}
use Rattle.gq_rules_typing.specs.ActTypes.{typing_input, settable}
use Rattle.gq_rules_typing.specs.SelectTypes.{optional}
use Rattle.gq_rules_typing.specs.SetTypes.{here, set_types, is_set, typing_assignment}

-- ---- locals

-- a vertex has no default
abbrev pub may_lack_value : Base → Bool → Bool
may_lack_value b has = if has then true else not (is_vertex b)

-- a local comes into view after its own value
abbrev pub typing_local : {N : Type 0} → Base → Scope N → N × Option (Tree N) → Judged (Scope N)
typing_local b s x = unless NotAllowedHere (may_lack_value b (is_some x.1)) >> new_name s x.0 >> optional (converting (here s) b) x.1 >> Ok (with_entry x.0 (Variable b) s)

-- ---- changes of global accumulators

abbrev pub typing_change : {N : Type 0} → Scope N → Accum → Change N → Judged Bool
typing_change s k (Adds x) = typing_input (here s) (Some k) x
typing_change s k (Puts t) = settable k >>= λ b. converting (here s) b t

-- ---- FOREACH: the type of its variable

abbrev pub element_of : Typed → Judged Base
element_of (judging.Whole k) = or_fault Mismatch (element_type k)
element_of _ = Err Mismatch

abbrev pub variable_type : {N : Type 0} → Names N → Over N → Judged Base
variable_type names (Elements t) = typing names t >>= element_of
variable_type names (Range s t) = number names s >>= λ b. number names t >>= λ c. Ok (number_of_both b c)

-- ---- PRINT

-- a key that wasn't given before
abbrev pub new_key : List Bytes → Bytes → Judged (List Bytes)
new_key keys k = unless (NameTwice k) (not (list_any (bytes_eq k) keys)) >> Ok (k ∷ keys)

-- a whole item may be a set's name alone
abbrev pub typing_whole : {N : Type 0} → Scope N → Tree N → Judged Typed
typing_whole s (Name x) = if is_set (entry s x) then Ok (SetOf []) else typing (here s) (Name x)
typing_whole s t = typing (here s) t >>= printable

abbrev pub typing_item : {N : Type 0} → Names N → List Bytes → Item N → Judged (List Bytes)
typing_item names keys i = typing names i.tree >>= printable >> new_key keys i.key

abbrev pub typing_printed : {N : Type 0} → Scope N → List Bytes → Printed N → Judged (List Bytes)
typing_printed s keys (Whole i) = typing_whole s i.tree >> new_key keys i.key
typing_printed s keys (Selection x items key) = set_types s x >> through_judged (typing_item (names_at s (InSelection x))) [] items >> new_key keys key

-- the type of an expression at a place, if a set's name alone is a whole item
abbrev pub type_of : {N : Type 0} → Scope N → Place N → Tree N → Judged Typed
type_of s place (Name x) = of_entry (entry s x)
  where
    of_entry : Option Entry → Judged Typed
    of_entry (Some (SetVariable types)) = Ok (SetOf types)
    of_entry e = typing (names_at s place) (Name x)
type_of s place t = typing (names_at s place) t

-- ---- statements

abbrev mutual
  pub typing_stmt : {N : Type 0} → Scope N → Stmt N → Judged (Scope N)
  typing_stmt s (Local base xs) = base_written s base >>= λ b. through_judged (typing_local b) s xs
  typing_stmt s (Assign x types right) = typing_assignment s x types right
  typing_stmt s (ChangeGlobal a change) = declared_kind s false a >>= λ k. typing_change s k change >> Ok s
  typing_stmt s (If branches) = typing_branches s branches >> Ok s
  typing_stmt s (While t limit body) = condition (here s) t >> optional (number (here s)) limit >> typing_stmts s body >> Ok s
  typing_stmt s (Foreach x over body) = new_name s x >> variable_type (here s) over >>= λ b. typing_stmts (with_entry x (Variable b) s) body >> Ok s
  typing_stmt s (Print ps) = through_judged (typing_printed s) [] ps >> Ok s

  pub typing_stmts : {N : Type 0} → Scope N → Stmts N → Judged (Scope N)
  typing_stmts s no_stmt = Ok s
  typing_stmts s (stmt_and st rest) = typing_stmt s st >>= λ t. typing_stmts t rest

  -- the names of a body end with it
  pub typing_branches : {N : Type 0} → Scope N → Branches N → Judged Bool
  typing_branches s (else_ body) = typing_stmts s body >> Ok true
  typing_branches s (if_ t body rest) = condition (here s) t >> typing_stmts s body >> typing_branches s rest
