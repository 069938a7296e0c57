use Rattle.std.proofs.Common.{◌∙◌, ap, sym, List, Option}
use Rattle.gq_tree.specs.declared.expr.Node.{Node}
use Rattle.gq_tree.specs.declared.body.Stmt.{Stmt}
use Rattle.gq_rules_typing.specs.Statements.{Bytes, Local}
use Rattle.gq_rules_typing.specs.StatementTypes.{typing_stmt}
use Rattle.gq_rules_typing.specs.StatementViews.{view_base, view_locals, view_stmt}
use Rattle.gq_rules_typing.proofs.ViewLaws.{view_stmt-Local}
use Rattle.gq_scope.specs.Held.{scope_in}
use Rattle.gq_check_decls.proofs.HeadLemmas.{judged_by}
use Rattle.gq_check.proofs.bodies.+statements.Goals as goal

pub statement-returns-in-Local-clause-judged : goal.statement-returns-in-Local-clause-judged
statement-returns-in-Local-clause-judged t c =
    let s = scope_in c.args.scope.now in
    judged_by _ _ _ _
    (ap (λ (d : Stmt). typing_stmt s (view_stmt d)) c.in-Local.is ∙ ap (typing_stmt s) (view_stmt-Local c.in-Local.base c.in-Local.trees)
    ∙ ap (λ (xs : List (Bytes × Option Node)). typing_stmt s (Local (view_base c.in-Local.base) (view_locals xs))) (sym c.as_slice.ensures))
    c.locals.ensures.judged
