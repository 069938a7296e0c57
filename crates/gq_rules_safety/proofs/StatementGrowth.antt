-- StatementGrowth: statements that are typed over some types are typed over more of them, and declare the same names.
use Rattle.std.proofs.Common.{◌≡◌, ℕ, Bool, true, false, List, [], ◌∷◌, Option, Some, None, Ok, Err, refl}
use Rattle.std.specs.Prelude.{is_some}
use Rattle.gq_tree.specs.Tree.{Tree, Name}
use Rattle.gq_value.specs.Accums.{Base, Accum}
use Rattle.gq_rules_typing.specs.Selecting.{Change, Adds, Puts}
use Rattle.gq_rules_typing.specs.Statements.{Bytes, Item, Printed, Whole, Selection, Over, Elements, Range, Stmt, Local, Assign, ChangeGlobal, If, While, Foreach, Print, Stmts, no_stmt, stmt_and, Branches, else_, if_}
use Rattle.gq_rules_typing.specs.Sorts.{Fields, VertexSort, EdgeSort, Sorts}
use Rattle.gq_rules_typing.specs.Words.{Words, Setting}
use Rattle.gq_rules_typing.specs.Judging.{Typed, Mismatch, NotAllowedHere, Judged, ◌>>=◌, ◌>>◌, unless, through_judged}
use Rattle.gq_rules_typing.specs.Types.{number_of_both, printable}
use Rattle.gq_rules_typing.specs.ExpressionTypes.{Names, typing, condition, number, converting}
use Rattle.gq_rules_typing.specs.Scopes.{Entry, Variable, InStatement, InSelection, Place, Scope, with_entry, new_name, declared_kind, names_at, base_written}
use Rattle.gq_rules_typing.specs.SelectTypes.{optional}
use Rattle.gq_rules_typing.specs.SetTypes.{here, set_types, typing_assignment}
use Rattle.gq_rules_typing.specs.StatementTypes.{may_lack_value, typing_local, typing_change, element_of, variable_type, new_key, typing_whole, typing_item, typing_printed, typing_stmt, typing_stmts, typing_branches}
use Rattle.gq_rules_safety.proofs.Leads.{Leads, Keeps, kept, kept_then, kept_on, leads_and, through_kept}
use Rattle.gq_rules_safety.proofs.ScopeGrowth.{scoped, Scopes, scopes_ok, scopes_then, scopes_through}
use Rattle.gq_rules_safety.proofs.ExpressionGrowth.{SortsGrow, at₁, at₂, tree_kept, number_kept, converting_kept}
use Rattle.gq_rules_safety.proofs.ActGrowth.{condition_at, input_at, put_at}
use Rattle.gq_rules_safety.proofs.WalkGrowth.{Grown, optional_kept}
use Rattle.gq_rules_safety.proofs.SetGrowth.{assignment_grown}

module _ {N : Type 0} (words : Words N) (a : Sorts) (vertices : List VertexSort) (edges : List EdgeSort) (h : SortsGrow words a vertices edges) (tuples : List (N × Fields)) (paths : Bool) where
  abbrev first : Setting N
  first = at₁ words a vertices edges h tuples

  abbrev second : Setting N
  second = at₂ words a vertices edges h tuples

  abbrev s : List (N × Entry) → Scope N
  s names = scoped first names paths

  abbrev t : List (N × Entry) → Scope N
  t names = scoped second names paths

  abbrev Goes : Judged (Scope N) → Judged (Scope N) → Type 0
  Goes = Leads (Grown words a vertices edges h tuples paths)

  same_names : (names : List (N × Entry)) → Goes (Ok (s names)) (Ok (t names))
  same_names names = scopes_ok first second paths names

  -- ---- the types that a place requires

  tree_at : (names : List (N × Entry)) (place : Place N) (e : Tree N) → Keeps (typing (names_at (s names) place) e) (typing (names_at (t names) place) e)
  tree_at names place e = tree_kept words a vertices edges h tuples (names_at (s names) place) e

  number_at : (names : List (N × Entry)) (e : Tree N) → Keeps (number (here (s names)) e) (number (here (t names)) e)
  number_at names e = number_kept words a vertices edges h tuples (names_at (s names) InStatement) e

  value_at : (names : List (N × Entry)) (b : Base) (e : Tree N) → Keeps (converting (here (s names)) b e) (converting (here (t names)) b e)
  value_at names b e = converting_kept words a vertices edges h tuples (names_at (s names) InStatement) b e

  tested : (names : List (N × Entry)) (e : Tree N) → Keeps (condition (here (s names)) e) (condition (here (t names)) e)
  tested names e = condition_at words a vertices edges h tuples names paths InStatement e

  -- ---- locals and changes

  local_grown : (b : Base) (names : List (N × Entry)) (x : N × Option (Tree N)) → Goes (typing_local b (s names) x) (typing_local b (t names) x)
  local_grown b names x =
      leads_and (unless NotAllowedHere (may_lack_value b (is_some x.1)) >> new_name (s names) x.0 >> optional (converting (here (s names)) b) x.1) (unless NotAllowedHere (may_lack_value b (is_some x.1)) >> new_name (t names) x.0 >> optional (converting (here (t names)) b) x.1) _ _
      (leads_and (unless NotAllowedHere (may_lack_value b (is_some x.1)) >> new_name (s names) x.0) (unless NotAllowedHere (may_lack_value b (is_some x.1)) >> new_name (t names) x.0) _ _
      (kept (unless NotAllowedHere (may_lack_value b (is_some x.1)) >> new_name (s names) x.0)) (optional_kept (converting (here (s names)) b) (converting (here (t names)) b) (value_at names b) x.1))
      (same_names ((x.0, Variable b) ∷ names))

  change_kept : (names : List (N × Entry)) (k : Accum) (c : Change N) → Keeps (typing_change (s names) k c) (typing_change (t names) k c)
  change_kept names k (Adds i) = input_at words a vertices edges h tuples names paths InStatement k i
  change_kept names k (Puts e) = put_at words a vertices edges h tuples names paths InStatement k e

  -- ---- FOREACH

  over_kept : (names : List (N × Entry)) (over : Over N) → Keeps (variable_type (here (s names)) over) (variable_type (here (t names)) over)
  over_kept names (Elements e) = kept_on (typing (here (s names)) e) (typing (here (t names)) e) element_of (tree_at names InStatement e)
  over_kept names (Range e f) = kept_then (number (here (s names)) e) (number (here (t names)) e) _ _ (number_at names e) (λ b. kept_on (number (here (s names)) f) (number (here (t names)) f) (λ c. Ok (number_of_both b c)) (number_at names f))

  -- ---- PRINT

  whole_kept : (names : List (N × Entry)) (e : Tree N) → Keeps (typing (here (s names)) e >>= printable) (typing (here (t names)) e >>= printable)
  whole_kept names e = kept_on (typing (here (s names)) e) (typing (here (t names)) e) printable (tree_at names InStatement e)

  printed_whole : (names : List (N × Entry)) (e : Tree N) → Keeps (typing_whole (s names) e) (typing_whole (t names) e)
  printed_whole names (Name x) = kept (typing_whole (s names) (Name x))
  printed_whole names e = whole_kept names e

  item_kept : (names : List (N × Entry)) (place : Place N) (keys : List Bytes) (i : Item N) → Keeps (typing_item (names_at (s names) place) keys i) (typing_item (names_at (t names) place) keys i)
  item_kept names place keys i =
      leads_and (typing (names_at (s names) place) i.tree >>= printable) (typing (names_at (t names) place) i.tree >>= printable) (new_key keys i.key) (new_key keys i.key)
      (kept_on (typing (names_at (s names) place) i.tree) (typing (names_at (t names) place) i.tree) printable (tree_at names place i.tree)) (kept (new_key keys i.key))

  printed_kept : (names : List (N × Entry)) (keys : List Bytes) (p : Printed N) → Keeps (typing_printed (s names) keys p) (typing_printed (t names) keys p)
  printed_kept names keys (Whole i) = leads_and (typing_whole (s names) i.tree) (typing_whole (t names) i.tree) (new_key keys i.key) (new_key keys i.key) (printed_whole names i.tree) (kept (new_key keys i.key))
  printed_kept names keys (Selection x items key) =
      leads_and (set_types (s names) x >> through_judged (typing_item (names_at (s names) (InSelection x))) [] items) (set_types (t names) x >> through_judged (typing_item (names_at (t names) (InSelection x))) [] items) (new_key keys key) (new_key keys key)
      (leads_and (set_types (s names) x) (set_types (t names) x) _ _ (kept (set_types (s names) x)) (through_kept (typing_item (names_at (s names) (InSelection x))) (typing_item (names_at (t names) (InSelection x))) (item_kept names (InSelection x)) items []))
      (kept (new_key keys key))

  -- ---- statements

  mutual
    pub stmt_grown : (names : List (N × Entry)) (st : Stmt N) → Goes (typing_stmt (s names) st) (typing_stmt (t names) st)
    stmt_grown names (Local base xs) = kept_then (base_written (s names) base) (base_written (t names) base) _ _ (kept (base_written (s names) base)) (λ b. scopes_through first second paths (typing_local b) (typing_local b) (local_grown b) xs names)
    stmt_grown names (Assign x types right) = assignment_grown words a vertices edges h tuples paths names x types right
    stmt_grown names (ChangeGlobal x c) =
        kept_then (declared_kind (s names) false x) (declared_kind (t names) false x) _ _ (kept (declared_kind (s names) false x))
        (λ k. leads_and (typing_change (s names) k c) (typing_change (t names) k c) (Ok (s names)) (Ok (t names)) (change_kept names k c) (same_names names))
    stmt_grown names (If branches) = leads_and (typing_branches (s names) branches) (typing_branches (t names) branches) (Ok (s names)) (Ok (t names)) (branches_kept names branches) (same_names names)
    stmt_grown names (While e limit body) =
        leads_and (condition (here (s names)) e >> optional (number (here (s names))) limit >> typing_stmts (s names) body) (condition (here (t names)) e >> optional (number (here (t names))) limit >> typing_stmts (t names) body) (Ok (s names)) (Ok (t names))
        (leads_and (condition (here (s names)) e >> optional (number (here (s names))) limit) (condition (here (t names)) e >> optional (number (here (t names))) limit) (typing_stmts (s names) body) (typing_stmts (t names) body)
        (leads_and (condition (here (s names)) e) (condition (here (t names)) e) _ _ (tested names e) (optional_kept (number (here (s names))) (number (here (t names))) (number_at names) limit))
        (stmts_grown names body))
        (same_names names)
    stmt_grown names (Foreach x over body) =
        kept_then (new_name (s names) x >> variable_type (here (s names)) over) (new_name (t names) x >> variable_type (here (t names)) over) _ _
        (leads_and (new_name (s names) x) (new_name (t names) x) _ _ (kept (new_name (s names) x)) (over_kept names over))
        (λ b. leads_and (typing_stmts (s ((x, Variable b) ∷ names)) body) (typing_stmts (t ((x, Variable b) ∷ names)) body) (Ok (s names)) (Ok (t names)) (stmts_grown ((x, Variable b) ∷ names) body) (same_names names))
    stmt_grown names (Print ps) = leads_and (through_judged (typing_printed (s names)) [] ps) (through_judged (typing_printed (t names)) [] ps) (Ok (s names)) (Ok (t names)) (through_kept (typing_printed (s names)) (typing_printed (t names)) (printed_kept names) ps []) (same_names names)

    pub stmts_grown : (names : List (N × Entry)) (body : Stmts N) → Goes (typing_stmts (s names) body) (typing_stmts (t names) body)
    stmts_grown names no_stmt = same_names names
    stmts_grown names (stmt_and st rest) = scopes_then first second paths (typing_stmt (s names) st) (typing_stmt (t names) st) _ _ (stmt_grown names st) (λ ns. stmts_grown ns rest)

    branches_kept : (names : List (N × Entry)) (branches : Branches N) → Keeps (typing_branches (s names) branches) (typing_branches (t names) branches)
    branches_kept names (else_ body) = leads_and (typing_stmts (s names) body) (typing_stmts (t names) body) (Ok true) (Ok true) (stmts_grown names body) (kept (Ok true))
    branches_kept names (if_ e body rest) =
        leads_and (condition (here (s names)) e >> typing_stmts (s names) body) (condition (here (t names)) e >> typing_stmts (t names) body) (typing_branches (s names) rest) (typing_branches (t names) rest)
        (leads_and (condition (here (s names)) e) (condition (here (t names)) e) (typing_stmts (s names) body) (typing_stmts (t names) body) (tested names e) (stmts_grown names body))
        (branches_kept names rest)
