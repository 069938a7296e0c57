use Rattle.std.proofs.Common.{◌∙◌, sym, arith}
use Rattle.gq_vertex.proofs.VertexLemmas.{number_low}
use Rattle.gq_vertex.proofs.JoinLemmas.{view_long, view_number, replaced_is, added_is}
use Rattle.gq_vertex.proofs.vertices.Vertices.upsert.Goals as goal
use Rattle.gq_vertex.proofs.vertices.Vertices.upsert.Goals.{in-Ok, in-Err}

pub replace-requires : goal.replace-requires
replace-requires c =
    let low = number_low c.args.self.now c.args.kind c.in-Some.number c.args.id.now (sym c.find.ensures ∙ c.in-Some.is) in
    omega (arith, low.0, c.self.invariant.long, view_long c.self.inside.heads.items c.self.inside.attributes c.args.self.now c.self.view_is c.self.invariant.long)

pub add-requires-clause-new : goal.add-requires-clause-new
add-requires-clause-new c = view_number c.self.inside.heads.items c.self.inside.attributes c.args.self.now c.args.kind c.args.id.now c.self.view_is c.self.invariant.long ∙ sym c.find.ensures ∙ c.in-None.is

pub add-requires-clause-room : goal.add-requires-clause-room
add-requires-clause-room c =
    omega (arith, c.if-len-ge-MOST_VERTICES.false, c.len.ensures.count, c.self.inside.heads.ok.0, view_long c.self.inside.heads.items c.self.inside.attributes c.args.self.now c.self.view_is c.self.invariant.long)

pub returns-else-not-replace-clause-done : goal.returns-else-not-replace-clause-done
returns-else-not-replace-clause-done c =
    let heads = c.self.inside.heads.items in let rows = c.self.inside.attributes in
    replaced_is heads rows c.replace.new.all c.args.self.now c.args.kind c.in-Some.number c.args.id.now c.args.attributes.now c.self.view_is c.self.invariant.long
    (view_number heads rows c.args.self.now c.args.kind c.args.id.now c.self.view_is c.self.invariant.long ∙ sym c.find.ensures ∙ c.in-Some.is)
    (c.replace.ensures.done c.if-not-replace.false)

pub returns-after-add-clause-done : goal.returns-after-add-clause-done
returns-after-add-clause-done c =
    let heads = c.self.inside.heads.items in let rows = c.self.inside.attributes in
    let none = view_number heads rows c.args.self.now c.args.kind c.args.id.now c.self.view_is c.self.invariant.long ∙ sym c.find.ensures ∙ c.in-None.is in
    elim c.match-add.branch [
      | in-Ok w ↦
          let done = w.in-Ok.ensures.done in
          let is = added_is heads c.add.new.rows.items rows c.add.new.all c.args.self.now c.args.kind c.args.id.now c.args.attributes.now c.self.view_is c.self.invariant.long none done.1 done.2 in
          rw w.result-is (done.0 ∙ is.0, is.1)
      | in-Err w ↦
          let done = w.in-Err.ensures.done in
          rw (w.result-is, done.0, done.1) c.self.view_is
    ]
