-- Steps: the statements of a plan, from those with names, and the names in view after them; None if something isn't
-- found. Each name that comes into view takes the next place.
use Rattle.std.specs.Prelude.{◌≡◌, ◌≢◌, ℕ, Bool, true, false, List, [], ◌∷◌, Option, Some, None, Result, Ok, Err}
use Rattle.gq_tree.specs.Tree.{Tree}
use Rattle.gq_scope.specs.declared.places.NameBinding.{NameBinding}
use Rattle.gq_scope.specs.Named.{Named, seen_at, with_name}
use Rattle.gq_rules_typing.specs.Statements as plain
use Rattle.gq_rules_typing.specs.Statements.{Bytes, Stmt, Local, Assign, ChangeGlobal, If, While, Foreach, Print, Stmts, no_stmt, stmt_and, Branches, else_, if_}
use Rattle.gq_rules_typing.specs.Selecting.{Select}
use Rattle.gq_rules_typing.specs.Patterns.{edge_alias, target_alias}
use Rattle.gq_plan_ir.specs.declared.expr.Expr.{Expr}
use Rattle.gq_plan_ir.specs.declared.block.Block.{Block}
use Rattle.gq_plan_ir.specs.declared.step.Right.{Right}
use Rattle.gq_plan_ir.specs.declared.step.Right.TheVariants as right
use Rattle.gq_plan_ir.specs.declared.step.Step.{Step}
use Rattle.gq_plan_ir.specs.declared.step.Step.TheVariants as step
use Rattle.gq_plan_expr.specs.declared.fault.PlanFault.{PlanFault}
use Rattle.gq_plan_expr.specs.declared.fault.PlanFault.TheVariants as fault
use Rattle.gq_plan_expr.specs.Resolved.{◌>>=◌, resolved}
use Rattle.gq_plan_select.specs.Resolved.{if_there, each_resolved, resolved_change, resolved_select}
use Rattle.gq_plan_expr.specs.Globals.{Globals, known_in, sees_in}
use Rattle.gq_plan_stmt.specs.Parts.{resolved_base, resolved_sets, resolved_set_types, is_set_right, resolved_over, resolved_item}

-- what is planned, and the names in view after it
abbrev pub Behind : Type 0 → Type 0
Behind A = Named × A

-- the answer is what is planned, with the names in view then, or nothing is planned; OutOfMemory may occur at any time
abbrev pub AnswersIn : {A : Type 0} → Option (Behind A) → Named → Result A PlanFault → Type 0
AnswersIn o n (Ok a) = o ≡ Some (n, a)
AnswersIn o n (Err e) = e ≢ fault.OutOfMemory → o ≡ None

-- the same if nothing is planned but names come into view
abbrev pub DoneIn : {A : Type 0} → Option Named → Named → Result A PlanFault → Type 0
DoneIn o n (Ok a) = o ≡ Some n
DoneIn o n (Err e) = e ≢ fault.OutOfMemory → o ≡ None

-- ---- names that come into view and end

-- only a name that isn't in view yet
abbrev pub when_new : Option NameBinding → Behind ℕ → Option (Behind ℕ)
when_new None b = Some b
when_new (Some s) b = None

abbrev pub new_name : Named → Bytes → Option (Behind ℕ)
new_name n x = when_new (seen_at n x) (with_name n x false, n.next)

-- the names of a body end with it; no place is reused
abbrev pub ended : Named → Named → Named
ended n m = record { visible = n.visible; next = m.next }

-- ---- SELECT

abbrev pub with_alias : Named → Option Bytes → Option Named
with_alias n None = Some n
with_alias n (Some x) = new_name n x >>= λ b. Some b.0

abbrev pub with_aliases : Named → Select Bytes → Option Named
with_aliases n q = with_alias n q.alias >>= λ a. with_alias a (edge_alias q.walk) >>= λ b. with_alias b (target_alias q.walk)

abbrev pub resolved_block : Globals → Named → Select Bytes → Option (Behind Block)
resolved_block g n q = with_aliases n q >>= λ m. resolved_select (known_in g m) (sees_in g m) q >>= λ b. Some (ended n m, b)

-- ---- assignments

abbrev pub resolved_right : Globals → Named → plain.Right Bytes → Option (Behind Right)
resolved_right g n (plain.Selects q) = resolved_block g n q >>= λ b. Some (b.0, right.Select b.1)
resolved_right g n (plain.Sets t rest) = resolved_sets g n t rest >>= λ s. Some (n, right.Sets s)
resolved_right g n (plain.Expression t) = resolved (known_in g n) t >>= λ e. Some (n, right.Value e)

-- a name that is in view must keep its kind; else a set comes into view
abbrev pub same_mark : Bool → Bool → Bool
same_mark true b = b
same_mark false true = false
same_mark false false = true

abbrev pub if_same : Bool → Behind ℕ → Option (Behind ℕ)
if_same true b = Some b
if_same false b = None

abbrev pub target_seen : Option NameBinding → Named → Bytes → Bool → Option (Behind ℕ)
target_seen (Some s) n x set = if_same (same_mark s.marked set) (n, s.place)
target_seen None n x set = if_same set (with_name n x true, n.next)

abbrev pub resolved_target : Named → Bytes → Bool → Option (Behind ℕ)
resolved_target n x set = target_seen (seen_at n x) n x set

abbrev pub resolved_assign : Globals → Named → Bytes → Option (plain.SetTypes Bytes) → plain.Right Bytes → Option (Behind Step)
resolved_assign g n x types r =
    if_there (resolved_set_types g) types >>= λ ts. resolved_right g n r >>= λ b. resolved_target b.0 x (is_set_right n r) >>= λ t. Some (t.0, step.Assign t.1 ts b.1)

-- ---- locals: each comes into view after its own value

abbrev pub local_and : ℕ → Option Expr → Behind (List (ℕ × Option Expr)) → Behind (List (ℕ × Option Expr))
local_and place e b = (b.0, (place, e) ∷ b.1)

abbrev pub resolved_locals : Globals → Named → List (Bytes × Option (Tree Bytes)) → Option (Behind (List (ℕ × Option Expr)))
resolved_locals g n [] = Some (n, [])
resolved_locals g n (x ∷ xs) = if_there (resolved (known_in g n)) x.1 >>= λ e. new_name n x.0 >>= λ m. resolved_locals g m.0 xs >>= λ b. Some (local_and m.1 e b)

-- ---- statements

-- IF and each ELSE IF with its condition, and the statements after ELSE; no statement is the same as no ELSE
abbrev pub Parts : Type 0
Parts = List (Expr × List Step) × Option (List Step)

abbrev pub if_of : Parts → Step
if_of p = step.If p.0 p.1

abbrev pub else_of : Named → Stmts Bytes → Option (Behind (List Step)) → Option (Behind (Option (List Step)))
else_of n no_stmt o = Some (n, None)
else_of n (stmt_and s rest) o = o >>= λ b. Some (b.0, Some b.1)

abbrev pub branch_and : Expr → List Step → Behind Parts → Behind Parts
branch_and e body b = (b.0, ((e, body) ∷ b.1.0, b.1.1))

-- a body, whose own names end with it
abbrev pub body_of : Named → Option (Behind (List Step)) → Option (Behind (List Step))
body_of n o = o >>= λ b. Some (ended n b.0, b.1)

abbrev pub step_and : Step → Behind (List Step) → Behind (List Step)
step_and s b = (b.0, s ∷ b.1)

abbrev mutual
  pub resolved_stmt : Globals → Named → Stmt Bytes → Option (Behind Step)
  resolved_stmt g n (Local b xs) = resolved_base g b >>= λ d. resolved_locals g n xs >>= λ r. Some (r.0, step.Local d r.1)
  resolved_stmt g n (Assign x types r) = resolved_assign g n x types r
  resolved_stmt g n (ChangeGlobal a c) = g.slot a >>= λ m. resolved_change (known_in g n) c >>= λ d. Some (n, step.Global m d)
  resolved_stmt g n (If branches) = resolved_branches g n branches >>= λ b. Some (b.0, if_of b.1)
  resolved_stmt g n (While t limit body) =
      resolved (known_in g n) t >>= λ e. if_there (resolved (known_in g n)) limit >>= λ l. body_of n (resolved_stmts g n body) >>= λ b. Some (b.0, step.While e l b.1)
  resolved_stmt g n (Foreach x o body) =
      resolved_over (known_in g n) o >>= λ p. new_name n x >>= λ m. body_of n (resolved_stmts g m.0 body) >>= λ b. Some (b.0, step.Foreach m.1 p b.1)
  resolved_stmt g n (Print items) = each_resolved (resolved_item (known_in g n)) items >>= λ is. Some (n, step.Print is)

  pub resolved_stmts : Globals → Named → Stmts Bytes → Option (Behind (List Step))
  resolved_stmts g n no_stmt = Some (n, [])
  resolved_stmts g n (stmt_and s rest) = resolved_stmt g n s >>= λ b. resolved_stmts g b.0 rest >>= λ c. Some (step_and b.1 c)

  pub resolved_branches : Globals → Named → Branches Bytes → Option (Behind Parts)
  resolved_branches g n (else_ body) = else_of n body (body_of n (resolved_stmts g n body)) >>= λ b. Some (b.0, ([], b.1))
  resolved_branches g n (if_ t body rest) = resolved (known_in g n) t >>= λ e. body_of n (resolved_stmts g n body) >>= λ b. resolved_branches g b.0 rest >>= λ c. Some (branch_and e b.1 c)
