use Rattle.std.proofs.Common.{◌<◌, length, arith, sym, ◌∙◌}
use Rattle.std.specs.Prelude.{bytes_eq}
use Rattle.gq_load.proofs.PlaceLemmas.{field_found, field_there, place_hit, place_miss, place_end}
use Rattle.gq_load.proofs.column.place.Goals as goal
use Rattle.gq_load.proofs.column.place.Goals.{in-Some+else-eq, in-None}

pub returns-then-eq : goal.returns-then-eq
returns-then-eq c =
    let low : c.loop-n.n < length c.args.header.now = omega arith in
    place_hit (bytes_eq c.args.name.now) c.args.header.now c.loop-n.n c.in-Some.field.now (field_found _ _ _ low c.in-Some.ensures) (sym c.eq.ensures ∙ c.if-eq.true) c.loop-n.invariant

pub loop-n-preserved : goal.loop-n-preserved
loop-n-preserved c =
    let low : c.loop-n.n < length c.args.header.now = omega arith in
    elim c.match-get.branch [
      | in-Some+else-eq w ↦ place_miss (bytes_eq c.args.name.now) c.args.header.now c.loop-n.n w.in-Some.field.now (field_found _ _ _ low w.in-Some.ensures) (sym w.eq.ensures ∙ w.if-eq.false) c.loop-n.invariant
      | in-None w ↦ absurd (field_there _ _ low w.in-None.ensures)
    ]

pub returns : goal.returns
returns c = place_end (bytes_eq c.args.name.now) c.args.header.now c.loop-n.n (omega arith) c.loop-n.invariant
