use Rattle.std.proofs.Common.{◌≤◌, ◌∙◌, ap, length, arith, length-take}
use Rattle.gq_vertex.proofs.VertexLemmas.{named_cut}
use Rattle.gq_vertex.proofs.JoinLemmas.{view_long, cut_is}
use Rattle.gq_vertex.proofs.vertices.Vertices.cut.Goals as goal

pub cut-requires-clause-within : goal.cut-requires-clause-within
cut-requires-clause-within c = omega (arith, c.requires, ap length c.deref.ensures.value, view_long c.self.inside.heads.items c.self.inside.attributes c.args.self.now c.self.view_is c.self.invariant.long)

pub invariant_of-self : goal.invariant_of-self
invariant_of-self c =
    let low : c.args.len ≤ length c.self.inside.heads.items = omega (arith, c.requires, view_long c.self.inside.heads.items c.self.inside.attributes c.args.self.now c.self.view_is c.self.invariant.long) in
    record {
      named = rw c.truncate.ensures.items
          (named_cut c.args.len c.self.inside.heads.items c.self.inside.index c.cut.new.index low c.self.invariant.named (rw c.deref.ensures.value at c.cut.ensures));
      long = ap length c.truncate.ensures.items ∙ length-take c.args.len c.self.inside.heads.items
          ∙ omega (arith, c.self.invariant.long, ap length c.truncate-2.ensures, length-take c.args.len c.self.inside.attributes);
    }

pub returns : goal.returns
returns c =
    cut_is c.args.len c.self.inside.heads.items _ c.self.inside.attributes c.truncate-2.new.self c.args.self.now c.self.view_is c.self.invariant.long c.truncate.ensures.items c.truncate-2.ensures
