use Rattle.std.proofs.Common.{◌≡◌, true, All, map, ap, sym, ◌∙◌, subst, arith}
use Rattle.std.proofs.lemmas.List.{take_all}
use Rattle.gq_graph.specs.Defaults.{is_plain}
use Rattle.gq_ddl.specs.Attributes.{discriminator_of}
use Rattle.gq_ddl.proofs.AttributeLemmas.{plain_discriminators}
use Rattle.gq_ddl.proofs.attributes.discriminators_of.Goals as goal

pub returns-clause-plain : goal.returns-clause-plain
returns-clause-plain c =
    let trees = c.args.trees.now in
    let all = c.loop-name.invariant ∙ ap (map discriminator_of) (take_all c.loop-name.name-index trees (omega arith)) in
    subst (All (λ a. is_plain a ≡ true)) (sym all) (plain_discriminators trees)
