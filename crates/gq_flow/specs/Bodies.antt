-- Bodies: the branches of IF; WHILE and FOREACH, for any body.
use Rattle.std.specs.Prelude.{ℕ, suc, Bool, List, Option}
use Rattle.gq_tree.specs.Tree.{Tree}
use Rattle.gq_value.specs.Accums.{Base}
use Rattle.gq_value.specs.Val.{Val}
use Rattle.gq_rules_typing.specs.Statements.{Over}
use Rattle.gq_rules_meaning.specs.Answers.{Answer, ◌>>=◌, blaming}
use Rattle.gq_rules_meaning.specs.Expressions.{World}
use Rattle.gq_rules_meaning.specs.States.{Variable, with_new, seen}
use Rattle.gq_rules_meaning.specs.Statements.{Fault, Evaluation, with_base, gone_over}
use Rattle.gq_rules_meaning.specs.Runs.{Running, Body, with_state, enter, rounds, limit_of, condition_of, run_branches, for_each}
use Rattle.gq_plan_ir.specs.declared.expr.Expr.{Expr}
use Rattle.gq_plan_ir.specs.declared.step.Step.{Step}
use Rattle.gq_plan_ir.specs.Reference.{Reference}
use Rattle.gq_plan_ir.proofs.ViewLaws.{view_branches}

-- IF, with these branches
abbrev pub branches_from : World Reference → List (Expr × List Step) → Option (List Step) → Body Reference
branches_from world branches others = run_branches world (view_branches branches others)

abbrev pub while_of : World Reference → Tree Reference → Option (Tree Reference) → Body Reference → Body Reference
while_of world t limit body r = blaming Evaluation (limit_of world r.state limit) >>= λ l. rounds (suc r.turns) l (condition_of world t) body r

-- its iterations, limited by `most` if it is given
abbrev pub goes_round : Option ℕ → (Running Reference → Answer Fault Bool) → Body Reference → Body Reference
goes_round most condition body r = rounds (suc r.turns) most condition body r

abbrev pub foreach_of : World Reference → Reference → Over Reference → Body Reference → Body Reference
foreach_of world x over body r = blaming Evaluation (gone_over (seen world r.state) over) >>= λ vs. for_each x body vs r

-- a body with its own variable, and the same as an iteration
abbrev pub named_body : Reference → Base × Val → Body Reference → Body Reference
named_body x v body p = body (with_state (with_new x (Variable v.0 v.1) p.state) p)

abbrev pub with_value : Reference → Body Reference → Base × Val → Body Reference
with_value x body v = enter (named_body x v body)

-- an iteration for each of these values
abbrev pub values_from : Reference → Body Reference → Base → List Val → Body Reference
values_from x body b vs = for_each x body (with_base b vs)
