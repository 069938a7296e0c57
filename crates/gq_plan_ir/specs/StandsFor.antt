-- StandsFor: when statements with references represent statements with names. If no name comes into view, they are the
-- same with each name's reference in its place; a name that comes into view has a reference of its own.
use Rattle.std.specs.Prelude.{◌≡◌, Bool, true, false, List, [], ◌∷◌, map, Option, Some, None}
use Rattle.std.specs.Option.{option_map}
use Rattle.gq_tree.specs.Tree.{Tree, Name}
use Rattle.gq_tree.specs.declared.body.SetOp.{SetOp}
use Rattle.gq_rules_typing.specs.Selecting.{Select}
use Rattle.gq_rules_typing.specs.Patterns.{edge_alias, target_alias}
use Rattle.gq_rules_typing.specs.Statements.{SetTerm, Right, Selects, Sets, Expression, Stmt, Local, Assign, ChangeGlobal, If, While, Foreach, Print, Stmts, no_stmt, stmt_and, Branches, else_, if_}
use Rattle.gq_plan_ir.specs.Renamed.{renamed}
use Rattle.gq_plan_ir.specs.Naming.{Visible, View, Fixed, visible_at, is_set_at, IsNew, with_name, inside, naming}
use Rattle.gq_plan_ir.specs.RenamedBlocks.{renamed_change, renamed_select}
use Rattle.gq_plan_ir.specs.RenamedStatements.{renamed_base, renamed_term, renamed_set_types, renamed_over, renamed_printed}

module _ {M N : Type 0} (fixed : Fixed M N) where
  -- ---- SELECT

  -- an alias comes into view, if there is one
  abbrev pub with_alias : View M N → Option M → Option N → View M N
  with_alias view (Some x) (Some r) = with_name fixed view x r false
  with_alias view x r = view

  abbrev pub AliasIsNew : View M N → Option M → Option N → Type 0
  AliasIsNew view None None = Unit {0}
  AliasIsNew view (Some x) (Some r) = IsNew fixed view x r
  AliasIsNew view x r = ⊥

  -- the aliases of a SELECT, which end with it
  abbrev pub with_source : View M N → Select M → Select N → View M N
  with_source view q p = with_alias view q.alias p.alias

  abbrev pub with_edge : View M N → Select M → Select N → View M N
  with_edge view q p = with_alias (with_source view q p) (edge_alias q.walk) (edge_alias p.walk)

  abbrev pub with_aliases : View M N → Select M → Select N → View M N
  with_aliases view q p = with_alias (with_edge view q p) (target_alias q.walk) (target_alias p.walk)

  pub record SelectStands (view : View M N) (q : Select M) (p : Select N) : Type 0 where
    pub source : AliasIsNew view q.alias p.alias
    pub edge : AliasIsNew (with_source view q p) (edge_alias q.walk) (edge_alias p.walk)
    pub target : AliasIsNew (with_edge view q p) (target_alias q.walk) (target_alias p.walk)
    pub is : p ≡ renamed_select (naming fixed (with_aliases view q p)) q

  -- ---- assignments

  abbrev pub RightStands : View M N → Right M → Right N → Type 0
  RightStands view (Selects q) (Selects p) = SelectStands view q p
  RightStands view (Sets t rest) (Sets u more) = (u ≡ renamed_term (naming fixed view) t) × (more ≡ map {A = SetOp × SetTerm M} (λ s. (s.0, renamed_term (naming fixed view) s.1)) rest)
  RightStands view (Expression t) (Expression u) = u ≡ renamed (inside fixed view) t
  RightStands view right other = ⊥

  -- whether the right side is a set: a SELECT, a set expression, or a set variable's name alone
  abbrev pub is_set_right : View M N → Right M → Bool
  is_set_right view (Selects q) = true
  is_set_right view (Sets t rest) = true
  is_set_right view (Expression (Name y)) = is_set_at fixed view y
  is_set_right view (Expression t) = false

  -- a name that is assigned is visible, and keeps its entry; or a set comes into view under it
  abbrev pub TargetStands : View M N → M → N → Bool → Type 0
  TargetStands view x r set = of_visible (visible_at fixed view x)
    where
      of_visible : Option (Visible M N) → Type 0
      of_visible (Some v) = (r ≡ v.reference) × (v.is_set ≡ set)
      of_visible None = (set ≡ true) × IsNew fixed view x r

  abbrev pub with_target : View M N → M → N → View M N
  with_target view x r = of_visible (visible_at fixed view x)
    where
      of_visible : Option (Visible M N) → View M N
      of_visible (Some v) = view
      of_visible None = with_name fixed view x r true

  -- ---- locals

  -- each comes into view after its own value
  abbrev pub LocalsStand : View M N → List (M × Option (Tree M)) → List (N × Option (Tree N)) → Type 0
  LocalsStand view [] [] = Unit {0}
  LocalsStand view (x ∷ xs) (y ∷ ys) = IsNew fixed view x.0 y.0 × (y.1 ≡ option_map (renamed (inside fixed view)) x.1) × LocalsStand (with_name fixed view x.0 y.0 false) xs ys
  LocalsStand view xs ys = ⊥

  abbrev pub with_locals : View M N → List (M × Option (Tree M)) → List (N × Option (Tree N)) → View M N
  with_locals view (x ∷ xs) (y ∷ ys) = with_locals (with_name fixed view x.0 y.0 false) xs ys
  with_locals view xs ys = view

  -- ---- statements

  -- the names visible after a statement; the names of a body end with it
  abbrev pub behind : View M N → Stmt M → Stmt N → View M N
  behind view (Local b xs) (Local c ys) = with_locals view xs ys
  behind view (Assign x types right) (Assign r others other) = with_target view x r
  behind view st su = view

  abbrev mutual
    pub Stands : View M N → Stmt M → Stmt N → Type 0
    Stands view (Local b xs) (Local c ys) = (c ≡ renamed_base fixed.vertex_type b) × LocalsStand view xs ys
    Stands view (Assign x types right) (Assign r others other) = (others ≡ option_map (renamed_set_types fixed.vertex_type) types) × RightStands view right other × TargetStands view x r (is_set_right view right)
    Stands view (ChangeGlobal a change) (ChangeGlobal b other) = (b ≡ fixed.accum a) × (other ≡ renamed_change (inside fixed view) change)
    Stands view (If branches) (If others) = BranchesStand view branches others
    Stands view (While t limit body) (While u bound other) = (u ≡ renamed (inside fixed view) t) × (bound ≡ option_map (renamed (inside fixed view)) limit) × AllStand view body other
    Stands view (Foreach x over body) (Foreach r others other) = IsNew fixed view x r × (others ≡ renamed_over (inside fixed view) over) × AllStand (with_name fixed view x r false) body other
    Stands view (Print items) (Print others) = others ≡ map (renamed_printed (inside fixed view)) items
    Stands view st su = ⊥

    pub AllStand : View M N → Stmts M → Stmts N → Type 0
    AllStand view no_stmt no_stmt = Unit {0}
    AllStand view (stmt_and st rest) (stmt_and su more) = Stands view st su × AllStand (behind view st su) rest more
    AllStand view body other = ⊥

    pub BranchesStand : View M N → Branches M → Branches N → Type 0
    BranchesStand view (else_ body) (else_ other) = AllStand view body other
    BranchesStand view (if_ t body rest) (if_ u other more) = (u ≡ renamed (inside fixed view) t) × AllStand view body other × BranchesStand view rest more
    BranchesStand view branches others = ⊥

  abbrev pub behind_all : View M N → Stmts M → Stmts N → View M N
  behind_all view (stmt_and st rest) (stmt_and su more) = behind_all (behind view st su) rest more
  behind_all view body other = view
