use Rattle.std.proofs.Common.{◌≡◌, true, All, map, ap, sym, ◌∙◌, subst, arith}
use Rattle.std.proofs.lemmas.List.{take_all}
use Rattle.gq_graph.specs.Defaults.{is_plain}
use Rattle.gq_ddl.specs.Attributes.{attribute_of}
use Rattle.gq_ddl.proofs.AttributeLemmas.{plain_attributes}
use Rattle.gq_ddl.proofs.attributes.attributes_of.Goals as goal

pub returns-clause-plain : goal.returns-clause-plain
returns-clause-plain c =
    let trees = c.args.trees.now in
    let all = c.loop-tree.invariant ∙ ap (map attribute_of) (take_all c.loop-tree.tree-index trees (omega arith)) in
    subst (All (λ a. is_plain a ≡ true)) (sym all) (plain_attributes trees)
