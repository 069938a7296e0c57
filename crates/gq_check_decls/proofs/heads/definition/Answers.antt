use Rattle.std.proofs.Common.{◌∙◌, ap, sym, map, List}
use Rattle.gq_tree.specs.declared.kind.AccumTree.{AccumTree}
use Rattle.gq_tree.specs.declared.kind.DefinitionTree.{DefinitionTree}
use Rattle.gq_rules_typing.specs.KindTypes.{kind_written}
use Rattle.gq_rules_typing.specs.QueryTypes.{typing_definition}
use Rattle.gq_rules_typing.specs.StatementViews.{view_accum, view_definition, view_kind}
use Rattle.gq_scope.specs.Held.{scope_in}
use Rattle.gq_check_decls.specs.Heads.{accums}
use Rattle.gq_check_decls.proofs.HeadLemmas.{accums_are, judged_by}
use Rattle.gq_check_decls.proofs.heads.definition.Goals as goal

pub returns-in-Accums-clause-judged : goal.returns-in-Accums-clause-judged
returns-in-Accums-clause-judged c =
    let s = scope_in c.args.scope.now in
    judged_by _ _ _ _
    (ap (λ (d : DefinitionTree). typing_definition kind_written s (view_definition d)) c.in-Accums.is
    ∙ accums_are c.args.scope.now (view_kind c.in-Accums.kind) (map view_accum c.in-Accums.trees)
    ∙ ap (λ (ts : List AccumTree). accums s (view_kind c.in-Accums.kind) (map view_accum ts)) (sym c.as_slice-in-Accums.ensures))
    c.accums.ensures.judged
