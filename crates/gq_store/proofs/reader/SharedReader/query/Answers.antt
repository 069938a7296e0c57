use Rattle.std.proofs.Common.{List, map, subst, sym}
use mathlib.Core.List.{IsPrefix}
use Rattle.left_right.specs.Sides.{view}
use Rattle.gq_value.specs.Views.{val}
use Rattle.gq_load_check.specs.declared.insert.Insert.{Insert}
use Rattle.gq_store.specs.Answering.{RanOver}
use Rattle.gq_store.specs.Lists.{Known}
use Rattle.gq_store.proofs.Beginnings.{prefix_trans}
use Rattle.gq_store.proofs.reader.SharedReader.query.Goals as goal

pub returns-in-Ok-clause-begins : goal.returns-in-Ok-clause-begins
returns-in-Ok-clause-begins g c =
    let out = rw c.in-Ok.is at c.asked-side.ensures.answered in
    let before : List Insert = (view c.self.inside.side.place).seen in
    let after : List Insert = (view c.asked-side.result.0.place).seen in
    let later : IsPrefix c.self.inside.seen after = prefix_trans c.self.inside.seen before after c.self.invariant.0 c.asked-side.ensures.later in
    let known : IsPrefix c.args.self.seen after = subst (λ (k : Known). IsPrefix k.seen after) c.self.view_is later in
    subst (λ (l : List Insert). IsPrefix c.args.self.seen l) (sym out.rows) known

pub returns-in-Ok-clause-run : goal.returns-in-Ok-clause-run
returns-in-Ok-clause-run g c =
    let out = rw c.in-Ok.is at c.asked-side.ensures.answered in
    subst (λ (l : List Insert). RanOver g.N.StoreName.base c.args.catalog.now c.args.plan.now (map val c.args.arguments.now) c.args.turns l c.in-Ok.answer.run) (sym out.rows) out.run
