-- ViewLaws: the equations of the views, one for each variant.
use Rattle.std.proofs.Common.{◌≡◌, ℕ, Bool, List, map, Option, None, Some, sym, ap, ◌∙◌}
use Rattle.std.specs.Option.{option_map}
use Rattle.gq_rules_meaning.specs.AddSign.{AddSign}
use Rattle.gq_rules_meaning.specs.MulSign.{MulSign}
use Rattle.gq_rules_meaning.specs.CmpSign.{CmpSign}
use Rattle.gq_rules_meaning.specs.Tree.{Tree, Behind, Number, Text, Truth, Global, Name, Call, Post, Neg, Mul, Sum, Cmp, Not, And, Or, Field, Method, Attached, Before}
use Rattle.gq_rules_meaning.specs.Words.{Outdegree}
use Rattle.gq_rules_meaning.specs.Selecting as plain
use Rattle.gq_rules_meaning.specs.TypingStatements as plain_stmt
use Rattle.gq_rules_meaning.specs.SelectViews.{inputs_of, choices_of}
use Rattle.gq_rules_meaning.specs.StatementViews.{branches_of}
use Rattle.gq_plan_ir.specs.declared.expr.Expr.{Expr, Expr-F, fold-roll-Expr}
use Rattle.gq_plan_ir.specs.declared.expr.Expr.TheVariants as expr
use Rattle.gq_plan_ir.specs.declared.expr.Behind.{Behind-F, fold-roll-Behind}
use Rattle.gq_plan_ir.specs.declared.expr.Behind.TheVariants as behind
use Rattle.gq_plan_ir.specs.declared.expr.Behind as code
use Rattle.gq_plan_ir.specs.declared.expr.Field as code_field
use Rattle.gq_plan_ir.specs.declared.expr.Method as code_method
use Rattle.gq_plan_ir.specs.declared.expr.Function as code_function
use Rattle.gq_plan_ir.specs.declared.block.Feed.{Feed, Feed-F, fold-roll-Feed}
use Rattle.gq_plan_ir.specs.declared.block.Feed.TheVariants as feed
use Rattle.gq_plan_ir.specs.declared.block.Change.{Change}
use Rattle.gq_plan_ir.specs.declared.block.Act.{Act, Act-F, fold-roll-Act}
use Rattle.gq_plan_ir.specs.declared.block.Act.TheVariants as act
use Rattle.gq_plan_ir.specs.declared.step.SetTypes.{SetTypes}
use Rattle.gq_plan_ir.specs.declared.step.Right.{Right}
use Rattle.gq_plan_ir.specs.declared.step.Over.{Over}
use Rattle.gq_plan_ir.specs.declared.step.PrintItem.{PrintItem}
use Rattle.gq_plan_ir.specs.declared.step.Step.{Step, Step-F, fold-roll-Step}
use Rattle.gq_plan_ir.specs.declared.step.Step.TheVariants as step
use Rattle.gq_plan_ir.specs.declared.plan.Declared.{Declared}
use Rattle.gq_plan_ir.specs.Reference.{Reference, Place, Slot, Does}
use Rattle.gq_plan_ir.specs.ExprView.{field_of, method_of, function_of, quoted, expr_step, behind_step, view, view_behind, views, view_parts, view_factors, view_terms}
use Rattle.gq_plan_ir.specs.BlockView.{feed_step, view_feed, view_change, act_step, view_act}
use Rattle.gq_plan_ir.specs.PlanView.{view_declared, view_set_types, view_right, view_over, view_item, view_locals, step_step, view_step, view_steps}

pub view-Number : (n : ℕ) → view (expr.Number n) ≡ Number n
unfolding view view_behind
view-Number n = ap view (sym (expr.rolls-Number n)) ∙ fold-roll-Expr (Behind Reference) (Tree Reference) behind_step expr_step (Expr-F.Number n)

pub view-Text : (said : List ℕ) → view (expr.Text said) ≡ Text said
unfolding view view_behind
view-Text said = ap view (sym (expr.rolls-Text said)) ∙ fold-roll-Expr (Behind Reference) (Tree Reference) behind_step expr_step (Expr-F.Text said)

pub view-Truth : (b : Bool) → view (expr.Truth b) ≡ Truth b
unfolding view view_behind
view-Truth b = ap view (sym (expr.rolls-Truth b)) ∙ fold-roll-Expr (Behind Reference) (Tree Reference) behind_step expr_step (Expr-F.Truth b)

pub view-Global : (slot : ℕ) → view (expr.Global slot) ≡ Global (Slot slot)
unfolding view view_behind
view-Global slot = ap view (sym (expr.rolls-Global slot)) ∙ fold-roll-Expr (Behind Reference) (Tree Reference) behind_step expr_step (Expr-F.Global slot)

pub view-Name : (place : ℕ) → view (expr.Name place) ≡ Name (Place place)
unfolding view view_behind
view-Name place = ap view (sym (expr.rolls-Name place)) ∙ fold-roll-Expr (Behind Reference) (Tree Reference) behind_step expr_step (Expr-F.Name place)

pub view-Call : (f : code_function.Function) (arguments : List Expr) → view (expr.Call f arguments) ≡ Call (function_of f) (views arguments)
unfolding view view_behind
view-Call f arguments = ap view (sym (expr.rolls-Call f arguments)) ∙ fold-roll-Expr (Behind Reference) (Tree Reference) behind_step expr_step (Expr-F.Call f arguments)

pub view-Post : (first : Expr) (parts : List code.Behind) → view (expr.Post first parts) ≡ Post (view first) (view_parts parts)
unfolding view view_behind
view-Post first parts = ap view (sym (expr.rolls-Post first parts)) ∙ fold-roll-Expr (Behind Reference) (Tree Reference) behind_step expr_step (Expr-F.Post first parts)

pub view-Neg : (n : ℕ) (t : Expr) → view (expr.Neg n t) ≡ Neg n (view t)
unfolding view view_behind
view-Neg n t = ap view (sym (expr.rolls-Neg n t)) ∙ fold-roll-Expr (Behind Reference) (Tree Reference) behind_step expr_step (Expr-F.Neg n t)

pub view-Mul : (first : Expr) (factors : List (MulSign × Expr)) → view (expr.Mul first factors) ≡ Mul (view first) (view_factors factors)
unfolding view view_behind
view-Mul first factors = ap view (sym (expr.rolls-Mul first factors)) ∙ fold-roll-Expr (Behind Reference) (Tree Reference) behind_step expr_step (Expr-F.Mul first factors)

pub view-Sum : (first : Expr) (terms : List (AddSign × Expr)) → view (expr.Sum first terms) ≡ Sum (view first) (view_terms terms)
unfolding view view_behind
view-Sum first terms = ap view (sym (expr.rolls-Sum first terms)) ∙ fold-roll-Expr (Behind Reference) (Tree Reference) behind_step expr_step (Expr-F.Sum first terms)

pub view-Cmp : (a : Expr) (s : CmpSign) (b : Expr) → view (expr.Cmp a s b) ≡ Cmp (view a) s (view b)
unfolding view view_behind
view-Cmp a s b = ap view (sym (expr.rolls-Cmp a s b)) ∙ fold-roll-Expr (Behind Reference) (Tree Reference) behind_step expr_step (Expr-F.Cmp a s b)

pub view-Not : (n : ℕ) (t : Expr) → view (expr.Not n t) ≡ Not n (view t)
unfolding view view_behind
view-Not n t = ap view (sym (expr.rolls-Not n t)) ∙ fold-roll-Expr (Behind Reference) (Tree Reference) behind_step expr_step (Expr-F.Not n t)

pub view-And : (first : Expr) (others : List Expr) → view (expr.And first others) ≡ And (view first) (views others)
unfolding view view_behind
view-And first others = ap view (sym (expr.rolls-And first others)) ∙ fold-roll-Expr (Behind Reference) (Tree Reference) behind_step expr_step (Expr-F.And first others)

pub view-Or : (first : Expr) (others : List Expr) → view (expr.Or first others) ≡ Or (view first) (views others)
unfolding view view_behind
view-Or first others = ap view (sym (expr.rolls-Or first others)) ∙ fold-roll-Expr (Behind Reference) (Tree Reference) behind_step expr_step (Expr-F.Or first others)

pub view_behind-Field : (f : code_field.Field) → view_behind (behind.Field f) ≡ Field (field_of f)
unfolding view view_behind
view_behind-Field f = ap view_behind (sym (behind.rolls-Field f)) ∙ fold-roll-Behind (Behind Reference) (Tree Reference) behind_step expr_step (Behind-F.Field f)

pub view_behind-Method : (m : code_method.Method) (arguments : List Expr) → view_behind (behind.Method m arguments) ≡ Method (Does (method_of m)) (views arguments)
unfolding view view_behind
view_behind-Method m arguments = ap view_behind (sym (behind.rolls-Method m arguments)) ∙ fold-roll-Behind (Behind Reference) (Tree Reference) behind_step expr_step (Behind-F.Method m arguments)

pub view_behind-Degree : (e : Option (List ℕ)) (types : List ℕ) → view_behind (behind.Degree e types) ≡ Method (Does Outdegree) (quoted e)
unfolding view view_behind
view_behind-Degree e types = ap view_behind (sym (behind.rolls-Degree e types)) ∙ fold-roll-Behind (Behind Reference) (Tree Reference) behind_step expr_step (Behind-F.Degree e types)

pub view_behind-Attached : (slot : ℕ) → view_behind (behind.Attached slot) ≡ Attached (Slot slot)
unfolding view view_behind
view_behind-Attached slot = ap view_behind (sym (behind.rolls-Attached slot)) ∙ fold-roll-Behind (Behind Reference) (Tree Reference) behind_step expr_step (Behind-F.Attached slot)

pub view_behind-Before : (slot : ℕ) → view_behind (behind.Before slot) ≡ Before (Slot slot)
unfolding view view_behind
view_behind-Before slot = ap view_behind (sym (behind.rolls-Before slot)) ∙ fold-roll-Behind (Behind Reference) (Tree Reference) behind_step expr_step (Behind-F.Before slot)

pub ruleset view_laws = (view-Number, view-Text, view-Truth, view-Global, view-Name, view-Call, view-Post, view-Neg, view-Mul, view-Sum, view-Cmp, view-Not, view-And, view-Or, view_behind-Field, view_behind-Method, view_behind-Degree, view_behind-Attached, view_behind-Before)

pub view_feed-One : (t : Expr) → view_feed (feed.One t) ≡ plain.Plain (view t)
unfolding view_feed
view_feed-One t = ap view_feed (sym (feed.rolls-One t)) ∙ fold-roll-Feed (plain.Input Reference) feed_step (Feed-F.One t)

pub view_feed-Keyed : (keys : List Expr) (xs : List Feed) → view_feed (feed.Keyed keys xs) ≡ plain.Keys (views keys) (inputs_of (map view_feed xs))
unfolding view_feed
view_feed-Keyed keys xs = ap view_feed (sym (feed.rolls-Keyed keys xs)) ∙ fold-roll-Feed (plain.Input Reference) feed_step (Feed-F.Keyed keys xs)

pub view_act-Attached : (v : ℕ) (a : ℕ) (c : Change) → view_act (act.Attached v a c) ≡ plain.AtAlias (Place v) (Slot a) (view_change c)
unfolding view_act
view_act-Attached v a c = ap view_act (sym (act.rolls-Attached v a c)) ∙ fold-roll-Act (plain.Act Reference) act_step (Act-F.Attached v a c)

pub view_act-Global : (a : ℕ) (c : Change) → view_act (act.Global a c) ≡ plain.AtGlobal (Slot a) (view_change c)
unfolding view_act
view_act-Global a c = ap view_act (sym (act.rolls-Global a c)) ∙ fold-roll-Act (plain.Act Reference) act_step (Act-F.Global a c)

-- IF, given the views of its branches
abbrev pub view_choices : List (Expr × List Act) → Option (List Act) → plain.Choices Reference
view_choices branches others = choices_of (map {A = Expr × List (plain.Act Reference)} (λ b. (view b.0, b.1)) (map {A = Expr × List Act} (λ b. (b.0, map view_act b.1)) branches)) (option_map (map view_act) others)

pub view_act-If : (branches : List (Expr × List Act)) (others : Option (List Act)) → view_act (act.If branches others) ≡ plain.Choose (view_choices branches others)
unfolding view_act
view_act-If branches None = ap view_act (sym (act.rolls-If branches None)) ∙ fold-roll-Act (plain.Act Reference) act_step (Act-F.If branches None)
view_act-If branches (Some xs) = ap view_act (sym (act.rolls-If branches (Some xs))) ∙ fold-roll-Act (plain.Act Reference) act_step (Act-F.If branches (Some xs))

pub view_step-Local : (b : Declared) (xs : List (ℕ × Option Expr)) → view_step (step.Local b xs) ≡ plain_stmt.Local (view_declared b) (view_locals xs)
unfolding view_step
view_step-Local b xs = ap view_step (sym (step.rolls-Local b xs)) ∙ fold-roll-Step (plain_stmt.Stmt Reference) step_step (Step-F.Local b xs)

pub view_step-Assign : (place : ℕ) (types : Option SetTypes) (r : Right) → view_step (step.Assign place types r) ≡ plain_stmt.Assign (Place place) (option_map view_set_types types) (view_right r)
unfolding view_step
view_step-Assign place types r = ap view_step (sym (step.rolls-Assign place types r)) ∙ fold-roll-Step (plain_stmt.Stmt Reference) step_step (Step-F.Assign place types r)

pub view_step-Global : (slot : ℕ) (c : Change) → view_step (step.Global slot c) ≡ plain_stmt.ChangeGlobal (Slot slot) (view_change c)
unfolding view_step
view_step-Global slot c = ap view_step (sym (step.rolls-Global slot c)) ∙ fold-roll-Step (plain_stmt.Stmt Reference) step_step (Step-F.Global slot c)

-- IF, given the views of its branches
abbrev pub view_branches : List (Expr × List Step) → Option (List Step) → plain_stmt.Branches Reference
view_branches branches others = branches_of (map {A = Expr × List (plain_stmt.Stmt Reference)} (λ b. (view b.0, b.1)) (map {A = Expr × List Step} (λ b. (b.0, map view_step b.1)) branches)) (option_map (map view_step) others)

pub view_step-If : (branches : List (Expr × List Step)) (others : Option (List Step)) → view_step (step.If branches others) ≡ plain_stmt.If (view_branches branches others)
unfolding view_step
view_step-If branches None = ap view_step (sym (step.rolls-If branches None)) ∙ fold-roll-Step (plain_stmt.Stmt Reference) step_step (Step-F.If branches None)
view_step-If branches (Some xs) = ap view_step (sym (step.rolls-If branches (Some xs))) ∙ fold-roll-Step (plain_stmt.Stmt Reference) step_step (Step-F.If branches (Some xs))

pub view_step-While : (t : Expr) (limit : Option Expr) (body : List Step) → view_step (step.While t limit body) ≡ plain_stmt.While (view t) (option_map view limit) (view_steps body)
unfolding view_step
view_step-While t limit body = ap view_step (sym (step.rolls-While t limit body)) ∙ fold-roll-Step (plain_stmt.Stmt Reference) step_step (Step-F.While t limit body)

pub view_step-Foreach : (place : ℕ) (o : Over) (body : List Step) → view_step (step.Foreach place o body) ≡ plain_stmt.Foreach (Place place) (view_over o) (view_steps body)
unfolding view_step
view_step-Foreach place o body = ap view_step (sym (step.rolls-Foreach place o body)) ∙ fold-roll-Step (plain_stmt.Stmt Reference) step_step (Step-F.Foreach place o body)

pub view_step-Print : (items : List PrintItem) → view_step (step.Print items) ≡ plain_stmt.Print (map view_item items)
unfolding view_step
view_step-Print items = ap view_step (sym (step.rolls-Print items)) ∙ fold-roll-Step (plain_stmt.Stmt Reference) step_step (Step-F.Print items)

pub ruleset step_laws = (view_feed-One, view_feed-Keyed, view_act-Attached, view_act-Global, view_act-If, view_step-Local, view_step-Assign, view_step-Global, view_step-If, view_step-While, view_step-Foreach, view_step-Print)
