use Rattle.std.proofs.Common.{◌+◌, ◌-◌, ◌*◌, ◌/◌, ◌^◌, length, ap, ◌∙◌, arith}
use Rattle.gq_vertex.specs.Keyed.{four}
use Rattle.gq_vertex.proofs.KeyedLemmas.{two_reads}
use Rattle.gq_vertex.proofs.key.packed.Goals as goal

pub returns-clause-exact : goal.returns-clause-exact
returns-clause-exact c =
    let id = c.args.id.now in
    ap (λ x. x / 2 ^ (64 - 8 * length id) * 4294967296 + c.four-2.result) c.four.ensures.exact
    ∙ ap (λ y. four id 0 / 2 ^ (64 - 8 * length id) * 4294967296 + y) c.four-2.ensures.exact
    ∙ two_reads id (λ k. (c.type_inv.id k).fits) (omega (arith, c.if-id-lt4.false)) (omega (arith, c.if-id-gt7.false))
