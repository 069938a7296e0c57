use Rattle.std.proofs.Common.{◌≡◌, Option, IfOk, subst}
use Rattle.gq_load_check.specs.declared.insert.Insert.{Insert}
use Rattle.gq_insert.proofs.RowLemmas.{edge_is}
use Rattle.gq_insert.proofs.check.insert_of.Goals as goal

pub returns-in-len2-up-clause-made : goal.returns-in-len2-up-clause-made
returns-in-len2-up-clause-made c read tells =
    let P : Option Insert → Type 0 = λ x. IfOk c.edge_insert.result (λ row. row ≡ x) in
    subst P (edge_is read c.args.catalog.now c.in-Edge.number c.args.target c.args.values.now c.from-item.result c.to-item.result
    c.in-Edge.is c.in-len2-up.len_at_least c.from-item.is c.to-item.is) (c.edge_insert.ensures.made read tells)
