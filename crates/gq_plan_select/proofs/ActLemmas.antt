-- ActLemmas: the branches of an IF, planned in order.
use Rattle.std.proofs.Common.{◌≡◌, ◌<◌, ◌≤◌, List, [], ◌∷◌, ◌++◌, length, arith, Option, Some, None, refl, ap}
use Rattle.gq_tree.specs.declared.select.ActTree as code
use Rattle.gq_rules_typing.specs.SelectViews.{view_acts}
use Rattle.gq_plan_ir.specs.declared.expr.Expr.{Expr}
use Rattle.gq_plan_ir.specs.declared.block.Act.{Act}
use Rattle.gq_plan_expr.specs.Resolved.{◌>>=◌}
use Rattle.gq_plan_select.specs.Resolved.{Branches, else_of, if_of, branch_and}

-- the branches already planned, followed by the rest
abbrev pub after : List (Expr × List Act) → Option Branches → Option Branches
after done o = o >>= λ b. Some (done ++ b.0, b.1)

append_assoc : {A : Type 0} (xs ys zs : List A) → xs ++ (ys ++ zs) ≡ (xs ++ ys) ++ zs
append_assoc [] ys zs = refl
append_assoc (x ∷ xs) ys zs = ap (λ l. x ∷ l) (append_assoc xs ys zs)

append_none : {A : Type 0} (xs : List A) → xs ++ [] ≡ xs
append_none [] = refl
append_none (x ∷ xs) = ap (λ l. x ∷ l) (append_none xs)

pub branches_none : (o : Option Branches) → o ≡ after [] o
branches_none (Some b) = refl
branches_none None = refl

pub branches_one : (done : List (Expr × List Act)) (e : Expr) (acts : List Act) (o : Option Branches) → after done (o >>= λ b. Some (branch_and e acts b)) ≡ after (done ++ (e, acts) ∷ []) o
branches_one done e acts (Some b) = ap {A = List (Expr × List Act)} (λ l. Some (l, b.1)) (append_assoc done ((e, acts) ∷ []) b.0)
branches_one done e acts None = refl

-- all branches are planned
pub branches_all : (done : List (Expr × List Act)) (others : Option (List Act)) → after done (Some ([], others)) ≡ Some (done, others)
branches_all done others = ap {A = List (Expr × List Act)} (λ l. Some (l, others)) (append_none done)

-- ELSE with an act
pub else_full : (list : List code.ActTree) (o : Option (List Act)) → 0 < length list → else_of (view_acts list) o ≡ (o >>= λ acts. Some (Some acts))
else_full [] o h = absurd (omega (arith, h))
else_full (a ∷ list) o h = refl

pub else_empty : (list : List code.ActTree) (o : Option (List Act)) → length list ≤ 0 → else_of (view_acts list) o ≡ Some None
else_empty [] o h = refl
else_empty (a ∷ list) o h = absurd (omega (arith, h))

pub ruleset act_laws = (branches_none, branches_one, branches_all)
