use Rattle.std.proofs.Common.{rules, ◌∙◌, sym, ap₂, w64, FitsSigned, int_cmp}
use Rattle.std.specs.Int.{w128}
use Rattle.std.specs.Ordering.{ordering_then}
use Rattle.std.proofs.lemmas.Int.{to_z-of_z}
use Rattle.gq_value.proofs.PairLemmas.{fractions}
use Rattle.gq_value.proofs.order.fractions.Goals as goal

pub returns : goal.returns
returns c =
    let f : FitsSigned w64 c.args.f.sum = search rules in
    let g : FitsSigned w64 c.args.g.sum = search rules in
    let p : FitsSigned w128 c.side.result = search rules in
    let q : FitsSigned w128 c.side-2.result = search rules in
    let a = simp to_z-of_z at c.side.ensures in
    let b = simp to_z-of_z at c.side-2.ensures in
    let e = simp to_z-of_z at c.cmp.ensures in
    c.then.ensures ∙ ap₂ ordering_then (e ∙ ap₂ int_cmp a b) c.tie.ensures ∙ sym (fractions c.args.strict c.args.f.sum c.args.g.sum c.args.f.count c.args.g.count)
