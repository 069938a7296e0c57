use Rattle.std.proofs.Common.{◌≡◌, ◌≤◌, ap, length, arith}
use Rattle.gq_schema.proofs.NameLemmas.{places_cut}
use Rattle.gq_schema.proofs.names.NameTable.cut.Goals as goal

pub invariant_of-self : goal.invariant_of-self
invariant_of-self c =
    let low : c.args.len ≤ length c.self.inside.names.items = omega (arith, ap length c.self.view_is, c.requires) in
    rw (c.truncate.ensures.items) (places_cut c.args.len c.self.inside.names.items c.self.inside.places low c.self.invariant)
