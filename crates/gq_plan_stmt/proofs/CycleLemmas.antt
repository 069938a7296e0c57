-- CycleLemmas: each path through statements of which a prefix is planned.
use Rattle.std.proofs.Common.{◌≡◌, ◌≢◌, ℕ, ◌+◌, ◌<◌, ◌≤◌, List, [], ◌∷◌, ◌++◌, drop, length, get_or, Option, Some, None, Result, Ok, Err, sym, ap, subst, ◌∙◌}
use Rattle.std.specs.Prelude.{IsErrAnd}
use Rattle.std.proofs.lemmas.Result.{err_from_is_err_and}
use Rattle.std.proofs.lemmas.List.{drop_more, drop_all}
use Rattle.gq_tree.specs.View.{view}
use Rattle.gq_tree.specs.declared.expr.Node.{Node}
use Rattle.gq_tree.specs.declared.body.Stmt as code
use Rattle.gq_tree.specs.declared.body.Stmt.TheVariants as stmt
use Rattle.gq_scope.specs.Named.{Named, kept}
use Rattle.gq_rules_typing.specs.Statements.{Bytes, Foreach}
use Rattle.gq_rules_typing.specs.Statements as plain
use Rattle.gq_rules_typing.specs.StatementViews.{view_stmt, view_stmts}
use Rattle.gq_rules_typing.proofs.ViewLaws.{view_branches, view_stmt-If}
use Rattle.gq_plan_ir.specs.declared.expr.Expr.{Expr}
use Rattle.gq_plan_ir.specs.declared.step.Over.{Over}
use Rattle.gq_plan_ir.specs.declared.step.Step.{Step}
use Rattle.gq_plan_ir.specs.declared.step.Step.TheVariants as step
use Rattle.gq_plan_expr.specs.declared.fault.PlanFault.{PlanFault}
use Rattle.gq_plan_expr.specs.declared.fault.PlanFault.TheVariants as fault
use Rattle.gq_plan_expr.specs.Resolved.{◌>>=◌, resolved}
use Rattle.gq_plan_expr.specs.Globals.{Globals, known_in}
use Rattle.gq_plan_stmt.specs.Parts.{resolved_over}
use Rattle.gq_plan_stmt.specs.Steps.{Behind, Parts, AnswersIn, resolved_stmt, resolved_stmts, resolved_branches, new_name, step_and, branch_and, if_of, else_of, body_of}
use Rattle.gq_plan_stmt.proofs.ListLemmas.{after_in, in_all, in_step, after_branches, branches_none, branches_one, branches_all}
use Rattle.gq_plan_stmt.proofs.GrowLemmas.{stmts_cut, loop_cut}

-- ---- answers

pub answers_same : {A : Type 0} (o p : Option (Behind A)) (n : Named) (r : Result A PlanFault) → o ≡ p → AnswersIn p n r → AnswersIn o n r
answers_same o p n (Ok a) h g = h ∙ g
answers_same o p n (Err e) h g = λ k. h ∙ g k

-- what a `?` returns
pub answers_returned : {A : Type 0} (o : Option (Behind A)) (n : Named) (e : PlanFault) (r : Result A PlanFault) → IsErrAnd r (λ y. y ≡ e) → (e ≢ fault.OutOfMemory → o ≡ None) → AnswersIn o n r
answers_returned {A = A} o n e r h d =
    let p = err_from_is_err_and r h in
    subst (λ (x : Result A PlanFault). AnswersIn o n x) (sym (p.1 ∙ ap Err p.2)) d

-- ---- statements

pub stmts_at : (g : Globals) (n : Named) (trees : List code.Stmt) (i : ℕ) (tree : code.Stmt) → i < length trees → tree ≡ get_or trees i tree
    → resolved_stmts g n (view_stmts (drop i trees)) ≡ (resolved_stmt g n (view_stmt tree) >>= λ b. resolved_stmts g b.0 (view_stmts (drop (i + 1) trees)) >>= λ c. Some (step_and b.1 c))
stmts_at g n trees i tree l e = ap (λ xs. resolved_stmts g n (view_stmts xs)) (drop_more trees i tree l ∙ ap (λ y. y ∷ drop (i + 1) trees) (sym e))

pub steps_next : (g : Globals) (n m o : Named) (trees : List code.Stmt) (i : ℕ) (tree : code.Stmt) (done : List Step) (s : Step) → i < length trees → tree ≡ get_or trees i tree
    → resolved_stmts g n (view_stmts trees) ≡ after_in done (resolved_stmts g m (view_stmts (drop i trees))) → resolved_stmt g m (view_stmt tree) ≡ Some (o, s)
    → resolved_stmts g n (view_stmts trees) ≡ after_in (done ++ s ∷ []) (resolved_stmts g o (view_stmts (drop (i + 1) trees)))
steps_next g n m o trees i tree done s l e inv h =
    let rest : Behind Step → Option (Behind (List Step)) = λ b. resolved_stmts g b.0 (view_stmts (drop (i + 1) trees)) >>= λ c. Some (step_and b.1 c) in
    inv ∙ (ap (after_in done) (stmts_at g m trees i tree l e ∙ ap (λ (x : Option (Behind Step)). x >>= rest) h) ∙ in_step done s (resolved_stmts g o (view_stmts (drop (i + 1) trees))))

pub steps_stop : (g : Globals) (n m : Named) (trees : List code.Stmt) (i : ℕ) (tree : code.Stmt) (done : List Step) → i < length trees → tree ≡ get_or trees i tree
    → resolved_stmts g n (view_stmts trees) ≡ after_in done (resolved_stmts g m (view_stmts (drop i trees))) → resolved_stmt g m (view_stmt tree) ≡ None
    → resolved_stmts g n (view_stmts trees) ≡ None
steps_stop g n m trees i tree done l e inv h =
    let rest : Behind Step → Option (Behind (List Step)) = λ b. resolved_stmts g b.0 (view_stmts (drop (i + 1) trees)) >>= λ c. Some (step_and b.1 c) in
    inv ∙ ap (after_in done) (stmts_at g m trees i tree l e ∙ ap (λ (x : Option (Behind Step)). x >>= rest) h)

pub steps_all : (g : Globals) (n m : Named) (trees : List code.Stmt) (i : ℕ) (done : List Step) → length trees ≤ i
    → resolved_stmts g n (view_stmts trees) ≡ after_in done (resolved_stmts g m (view_stmts (drop i trees))) → resolved_stmts g n (view_stmts trees) ≡ Some (m, done)
steps_all g n m trees i done l inv = inv ∙ (ap (λ xs. after_in done (resolved_stmts g m (view_stmts xs))) (drop_all i trees l) ∙ in_all m done)

-- ---- IF

abbrev pub as_if : Option (Behind Parts) → Option (Behind Step)
as_if o = o >>= λ b. Some (b.0, if_of b.1)

pub if_begins : (g : Globals) (n : Named) (tree : code.Stmt) (bs items : List (Node × List code.Stmt)) (others : Option (List code.Stmt)) → tree ≡ stmt.If bs others → items ≡ bs
    → resolved_stmt g n (view_stmt tree) ≡ as_if (after_branches [] (resolved_branches g n (view_branches items others)))
if_begins g n tree bs items others e i =
    ap (resolved_stmt g n) (ap view_stmt e ∙ view_stmt-If bs others)
    ∙ (ap (λ xs. as_if (resolved_branches g n (view_branches xs others))) (sym i) ∙ ap as_if (branches_none (resolved_branches g n (view_branches items others))))

branch_at : (g : Globals) (n : Named) (bs : List (Node × List code.Stmt)) (others : Option (List code.Stmt)) (i : ℕ) (b : Node × List code.Stmt) → i < length bs → b ≡ get_or bs i b
    → resolved_branches g n (view_branches (drop i bs) others)
    ≡ (resolved (known_in g n) (view b.0) >>= λ e. body_of n (resolved_stmts g n (view_stmts b.1)) >>= λ c. resolved_branches g c.0 (view_branches (drop (i + 1) bs) others) >>= λ d. Some (branch_and e c.1 d))
branch_at g n bs others i b l e = ap (λ xs. resolved_branches g n (view_branches xs others)) (drop_more bs i b l ∙ ap (λ y. y ∷ drop (i + 1) bs) (sym e))

-- what follows the condition, and what follows the body
abbrev behind_body : Globals → List (Node × List code.Stmt) → Option (List code.Stmt) → Expr → Behind (List Step) → Option (Behind Parts)
behind_body g rest others e c = resolved_branches g c.0 (view_branches rest others) >>= λ d. Some (branch_and e c.1 d)

abbrev behind_test : Globals → Named → List code.Stmt → List (Node × List code.Stmt) → Option (List code.Stmt) → Expr → Option (Behind Parts)
behind_test g n body rest others e = body_of n (resolved_stmts g n (view_stmts body)) >>= behind_body g rest others e

pub branch_next : (g : Globals) (whole : Option (Behind Step)) (m o : Named) (bs : List (Node × List code.Stmt)) (others : Option (List code.Stmt)) (i : ℕ) (b : Node × List code.Stmt) (done : List (Expr × List Step)) (e : Expr) (body : List Step) (trees : List code.Stmt)
    → i < length bs → b ≡ get_or bs i b → trees ≡ b.1 → whole ≡ as_if (after_branches done (resolved_branches g m (view_branches (drop i bs) others)))
    → resolved (known_in g m) (view b.0) ≡ Some e → body_of m (resolved_stmts g m (view_stmts trees)) ≡ Some (o, body)
    → whole ≡ as_if (after_branches (done ++ (e, body) ∷ []) (resolved_branches g o (view_branches (drop (i + 1) bs) others)))
branch_next g whole m o bs others i b done e body trees l is same inv h k =
    let k' : body_of m (resolved_stmts g m (view_stmts b.1)) ≡ Some (o, body) = ap (λ xs. body_of m (resolved_stmts g m (view_stmts xs))) (sym same) ∙ k in
    inv
    ∙ ap as_if
    (ap (after_branches done) (branch_at g m bs others i b l is ∙ (ap (λ (x : Option Expr). x >>= behind_test g m b.1 (drop (i + 1) bs) others) h ∙ ap (λ (x : Option (Behind (List Step))). x >>= behind_body g (drop (i + 1) bs) others e) k'))
    ∙ branches_one done e body (resolved_branches g o (view_branches (drop (i + 1) bs) others)))

pub branch_test_stops : (g : Globals) (whole : Option (Behind Step)) (m : Named) (bs : List (Node × List code.Stmt)) (others : Option (List code.Stmt)) (i : ℕ) (b : Node × List code.Stmt) (done : List (Expr × List Step))
    → i < length bs → b ≡ get_or bs i b → whole ≡ as_if (after_branches done (resolved_branches g m (view_branches (drop i bs) others)))
    → resolved (known_in g m) (view b.0) ≡ None → whole ≡ None
branch_test_stops g whole m bs others i b done l is inv h =
    inv ∙ ap (λ (x : Option (Behind Parts)). as_if (after_branches done x)) (branch_at g m bs others i b l is ∙ ap (λ (x : Option Expr). x >>= behind_test g m b.1 (drop (i + 1) bs) others) h)

pub branch_body_stops : (g : Globals) (whole : Option (Behind Step)) (m : Named) (bs : List (Node × List code.Stmt)) (others : Option (List code.Stmt)) (i : ℕ) (b : Node × List code.Stmt) (done : List (Expr × List Step)) (e : Expr) (trees : List code.Stmt)
    → i < length bs → b ≡ get_or bs i b → trees ≡ b.1 → whole ≡ as_if (after_branches done (resolved_branches g m (view_branches (drop i bs) others)))
    → resolved (known_in g m) (view b.0) ≡ Some e → body_of m (resolved_stmts g m (view_stmts trees)) ≡ None → whole ≡ None
branch_body_stops g whole m bs others i b done e trees l is same inv h k =
    let k' : body_of m (resolved_stmts g m (view_stmts b.1)) ≡ None = ap (λ xs. body_of m (resolved_stmts g m (view_stmts xs))) (sym same) ∙ k in
    inv
    ∙ ap (λ (x : Option (Behind Parts)). as_if (after_branches done x))
    (branch_at g m bs others i b l is ∙ (ap (λ (x : Option Expr). x >>= behind_test g m b.1 (drop (i + 1) bs) others) h ∙ ap (λ (x : Option (Behind (List Step))). x >>= behind_body g (drop (i + 1) bs) others e) k'))

-- no branch is left
pub if_none : (g : Globals) (whole : Option (Behind Step)) (m : Named) (bs : List (Node × List code.Stmt)) (others : Option (List code.Stmt)) (i : ℕ) (done : List (Expr × List Step)) → length bs ≤ i → others ≡ None
    → whole ≡ as_if (after_branches done (resolved_branches g m (view_branches (drop i bs) others))) → whole ≡ Some (m, step.If done None)
if_none g whole m bs others i done l n inv =
    inv ∙ (ap (λ xs. as_if (after_branches done (resolved_branches g m (view_branches xs others)))) (drop_all i bs l)
    ∙ (ap (λ (o : Option (List code.Stmt)). as_if (after_branches done (resolved_branches g m (view_branches [] o)))) n ∙ ap as_if (branches_all m done None)))

-- the statements after ELSE
else_at : (g : Globals) (whole : Option (Behind Step)) (m : Named) (bs : List (Node × List code.Stmt)) (others : Option (List code.Stmt)) (trees : List code.Stmt) (i : ℕ) (done : List (Expr × List Step)) → length bs ≤ i → others ≡ Some trees
    → whole ≡ as_if (after_branches done (resolved_branches g m (view_branches (drop i bs) others)))
    → whole ≡ as_if (after_branches done (else_of m (view_stmts trees) (body_of m (resolved_stmts g m (view_stmts trees))) >>= λ b. Some (b.0, ([], b.1))))
else_at g whole m bs others trees i done l s inv =
    inv ∙ (ap (λ xs. as_if (after_branches done (resolved_branches g m (view_branches xs others)))) (drop_all i bs l)
    ∙ ap (λ (o : Option (List code.Stmt)). as_if (after_branches done (resolved_branches g m (view_branches [] o)))) s)

abbrev behind_else : Behind (Option (List Step)) → Option (Behind Parts)
behind_else b = Some (b.0, ([], b.1))

pub if_else : (g : Globals) (whole : Option (Behind Step)) (m o : Named) (bs : List (Node × List code.Stmt)) (others : Option (List code.Stmt)) (trees items : List code.Stmt) (i : ℕ) (done : List (Expr × List Step)) (r : Option (List Step))
    → length bs ≤ i → others ≡ Some trees → items ≡ trees
    → whole ≡ as_if (after_branches done (resolved_branches g m (view_branches (drop i bs) others)))
    → else_of m (view_stmts items) (body_of m (resolved_stmts g m (view_stmts items))) ≡ Some (o, r) → whole ≡ Some (o, step.If done r)
if_else g whole m o bs others trees items i done r l s is inv h =
    let h' : else_of m (view_stmts trees) (body_of m (resolved_stmts g m (view_stmts trees))) ≡ Some (o, r) = ap (λ xs. else_of m (view_stmts xs) (body_of m (resolved_stmts g m (view_stmts xs)))) (sym is) ∙ h in
    else_at g whole m bs others trees i done l s inv ∙ (ap (λ (x : Option (Behind (Option (List Step)))). as_if (after_branches done (x >>= behind_else))) h' ∙ ap as_if (branches_all o done r))

pub if_else_stops : (g : Globals) (whole : Option (Behind Step)) (m : Named) (bs : List (Node × List code.Stmt)) (others : Option (List code.Stmt)) (trees items : List code.Stmt) (i : ℕ) (done : List (Expr × List Step))
    → length bs ≤ i → others ≡ Some trees → items ≡ trees
    → whole ≡ as_if (after_branches done (resolved_branches g m (view_branches (drop i bs) others)))
    → else_of m (view_stmts items) (body_of m (resolved_stmts g m (view_stmts items))) ≡ None → whole ≡ None
if_else_stops g whole m bs others trees items i done l s is inv h =
    let h' : else_of m (view_stmts trees) (body_of m (resolved_stmts g m (view_stmts trees))) ≡ None = ap (λ xs. else_of m (view_stmts xs) (body_of m (resolved_stmts g m (view_stmts xs)))) (sym is) ∙ h in
    else_at g whole m bs others trees i done l s inv ∙ ap (λ (x : Option (Behind (Option (List Step)))). as_if (after_branches done (x >>= behind_else))) h'

-- ---- bodies

pub body_done : (g : Globals) (n m o : Named) (trees : plain.Stmts Bytes) (steps : List Step) (k : ℕ) → resolved_stmts g n trees ≡ Some (m, steps) → k ≡ length n.visible → o ≡ kept k m
    → body_of n (resolved_stmts g n trees) ≡ Some (o, steps)
body_done g n m o trees steps k h e c =
    ap (body_of n) h ∙ ap {A = Named} {B = Option (Behind (List Step))} (λ p. Some (p, steps)) (sym (c ∙ stmts_cut g n trees m steps k h e))

-- the names that a loop brings into view, and its body
abbrev behind_loop : Globals → Named → plain.Stmts Bytes → Over → Behind ℕ → Option (Behind Step)
behind_loop g n trees p m = body_of n (resolved_stmts g m.0 trees) >>= λ b. Some (b.0, step.Foreach m.1 p b.1)

abbrev behind_over : Globals → Named → Bytes → plain.Stmts Bytes → Over → Option (Behind Step)
behind_over g n x trees p = new_name n x >>= behind_loop g n trees p

pub foreach_over_stops : (g : Globals) (n : Named) (x : Bytes) (o : plain.Over Bytes) (trees : plain.Stmts Bytes) → resolved_over (known_in g n) o ≡ None → resolved_stmt g n (Foreach x o trees) ≡ None
foreach_over_stops g n x o trees h = ap (λ (q : Option Over). q >>= behind_over g n x trees) h

pub foreach_name_stops : (g : Globals) (n : Named) (x : Bytes) (o : plain.Over Bytes) (trees : plain.Stmts Bytes) (p : Over) → resolved_over (known_in g n) o ≡ Some p → new_name n x ≡ None → resolved_stmt g n (Foreach x o trees) ≡ None
foreach_name_stops g n x o trees p h i = ap (λ (q : Option Over). q >>= behind_over g n x trees) h ∙ ap (λ (q : Option (Behind ℕ)). q >>= behind_loop g n trees p) i

pub foreach_body_stops : (g : Globals) (n m : Named) (x : Bytes) (o : plain.Over Bytes) (trees : plain.Stmts Bytes) (p : Over) (place : ℕ)
    → resolved_over (known_in g n) o ≡ Some p → new_name n x ≡ Some (m, place) → resolved_stmts g m trees ≡ None → resolved_stmt g n (Foreach x o trees) ≡ None
foreach_body_stops g n m x o trees p place h i j =
    ap (λ (q : Option Over). q >>= behind_over g n x trees) h
    ∙ (ap (λ (q : Option (Behind ℕ)). q >>= behind_loop g n trees p) i ∙ ap (λ (q : Option (Behind (List Step))). body_of n q >>= λ b. Some (b.0, step.Foreach place p b.1)) j)

pub foreach_done : (g : Globals) (n m l cut : Named) (x : Bytes) (o : plain.Over Bytes) (trees : plain.Stmts Bytes) (p : Over) (place : ℕ) (steps : List Step) (k : ℕ)
    → resolved_over (known_in g n) o ≡ Some p → new_name n x ≡ Some (m, place) → resolved_stmts g m trees ≡ Some (l, steps) → k ≡ length n.visible → cut ≡ kept k l
    → resolved_stmt g n (Foreach x o trees) ≡ Some (cut, step.Foreach place p steps)
foreach_done g n m l cut x o trees p place steps k h i j e c =
    ap (λ (q : Option Over). q >>= behind_over g n x trees) h
    ∙ (ap (λ (q : Option (Behind ℕ)). q >>= behind_loop g n trees p) i
    ∙ (ap (λ (q : Option (Behind (List Step))). body_of n q >>= λ b. Some (b.0, step.Foreach place p b.1)) j
    ∙ ap {A = Named} {B = Option (Behind Step)} (λ q. Some (q, step.Foreach place p steps)) (sym (c ∙ loop_cut g n x m place trees l steps k i j e))))
