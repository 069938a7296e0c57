use Rattle.gq_edge.specs.Flat.{edge_of}
use Rattle.gq_edge.proofs.TableLemmas.{findable, claimed}
use Rattle.gq_edge.proofs.find.place.Goals as goal

pub find_by_key-requires-clause-findable : goal.find_by_key-requires-clause-findable
find_by_key-requires-clause-findable c =
    findable c.args.naming (edge_of c.args.edge) c.args.rows.now c.args.namings.now c.args.index.now c.requires.named c.requires.agrees c.requires.kind

pub returns-in-Some-clause-number : goal.returns-in-Some-clause-number
returns-in-Some-clause-number c =
    (claimed c.args.naming (edge_of c.args.edge) c.args.rows.now c.args.namings.now c.args.index.now c.in_ok-name_of.field-0 c.in-Some.tree c.claim.new.names
    c.len.result c.in_ok-number.number c.requires.named c.requires.agrees c.requires.kind (rw c.in-Some.is at c.requires.sorted)
    c.in_ok-name_of.ensures.hashed c.in_ok-name_of.ensures.row c.len.ensures c.in_ok-number.ensures.number c.in_ok-number.ensures.known
    c.in_ok-number.ensures.put).0

pub returns-in-Some-clause-placed : goal.returns-in-Some-clause-placed
returns-in-Some-clause-placed c =
    (claimed c.args.naming (edge_of c.args.edge) c.args.rows.now c.args.namings.now c.args.index.now c.in_ok-name_of.field-0 c.in-Some.tree c.claim.new.names
    c.len.result c.in_ok-number.number c.requires.named c.requires.agrees c.requires.kind (rw c.in-Some.is at c.requires.sorted)
    c.in_ok-name_of.ensures.hashed c.in_ok-name_of.ensures.row c.len.ensures c.in_ok-number.ensures.number c.in_ok-number.ensures.known
    c.in_ok-number.ensures.put).1
