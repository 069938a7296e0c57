-- ListLemmas: lists that are planned from the left, with the names in view after them.
use Rattle.std.proofs.Common.{◌≡◌, ℕ, List, [], ◌∷◌, ◌++◌, Option, Some, None, refl, ap}
use Rattle.gq_scope.specs.Named.{Named}
use Rattle.gq_plan_ir.specs.declared.expr.Expr.{Expr}
use Rattle.gq_plan_ir.specs.declared.step.Step.{Step}
use Rattle.gq_plan_expr.specs.Resolved.{◌>>=◌}
use Rattle.gq_plan_stmt.specs.Steps.{Behind, Parts, local_and, step_and, branch_and}

append_assoc : {A : Type 0} (xs ys zs : List A) → xs ++ (ys ++ zs) ≡ (xs ++ ys) ++ zs
append_assoc [] ys zs = refl
append_assoc (x ∷ xs) ys zs = ap (λ l. x ∷ l) (append_assoc xs ys zs)

append_none : {A : Type 0} (xs : List A) → xs ++ [] ≡ xs
append_none [] = refl
append_none (x ∷ xs) = ap (λ l. x ∷ l) (append_none xs)

-- the items already planned, followed by the rest
abbrev pub after_in : {A : Type 0} → List A → Option (Behind (List A)) → Option (Behind (List A))
after_in done o = o >>= λ b. Some (b.0, done ++ b.1)

pub in_none : {A : Type 0} (o : Option (Behind (List A))) → o ≡ after_in [] o
in_none (Some b) = refl
in_none None = refl

pub in_all : {A : Type 0} (n : Named) (done : List A) → after_in done (Some (n, [])) ≡ Some (n, done)
in_all {A = A} n done = ap {A = List A} {B = Option (Behind (List A))} (λ l. Some (n, l)) (append_none done)

pub in_step : (done : List Step) (s : Step) (o : Option (Behind (List Step))) → after_in done (o >>= λ b. Some (step_and s b)) ≡ after_in (done ++ s ∷ []) o
in_step done s (Some b) = ap {A = List Step} {B = Option (Behind (List Step))} (λ l. Some (b.0, l)) (append_assoc done (s ∷ []) b.1)
in_step done s None = refl

pub in_local : (done : List (ℕ × Option Expr)) (place : ℕ) (e : Option Expr) (o : Option (Behind (List (ℕ × Option Expr)))) → after_in done (o >>= λ b. Some (local_and place e b)) ≡ after_in (done ++ (place, e) ∷ []) o
in_local done place e (Some b) = ap {A = List (ℕ × Option Expr)} {B = Option (Behind (List (ℕ × Option Expr)))} (λ l. Some (b.0, l)) (append_assoc done ((place, e) ∷ []) b.1)
in_local done place e None = refl

-- branches of an IF
abbrev pub after_branches : List (Expr × List Step) → Option (Behind Parts) → Option (Behind Parts)
after_branches done o = o >>= λ b. Some (b.0, (done ++ b.1.0, b.1.1))

pub branches_none : (o : Option (Behind Parts)) → o ≡ after_branches [] o
branches_none (Some b) = refl
branches_none None = refl

pub branches_one : (done : List (Expr × List Step)) (e : Expr) (body : List Step) (o : Option (Behind Parts)) → after_branches done (o >>= λ b. Some (branch_and e body b)) ≡ after_branches (done ++ (e, body) ∷ []) o
branches_one done e body (Some b) = ap {A = List (Expr × List Step)} {B = Option (Behind Parts)} (λ l. Some (b.0, (l, b.1.1))) (append_assoc done ((e, body) ∷ []) b.1.0)
branches_one done e body None = refl

pub branches_all : (n : Named) (done : List (Expr × List Step)) (others : Option (List Step)) → after_branches done (Some (n, ([], others))) ≡ Some (n, (done, others))
branches_all n done others = ap {A = List (Expr × List Step)} {B = Option (Behind Parts)} (λ l. Some (n, (l, others))) (append_none done)

pub ruleset in_laws = (in_none, in_all, in_step, in_local, branches_none, branches_one, branches_all)
