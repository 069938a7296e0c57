use Rattle.gq_load_csv.proofs.PlainLemmas.{own_int_id, own_uint_id}
use Rattle.gq_load_csv.proofs.id.own_id.Goals as goal

pub returns-in-Text : goal.returns-in-Text
returns-in-Text c = rw c.in-Text.is c.whole_text.ensures

pub returns-in-Int : goal.returns-in-Int
returns-in-Int c = rw c.in-Int.is (own_int_id c.args.field.now c.own_text.result c.own_text.ensures)

pub returns-in-UInt : goal.returns-in-UInt
returns-in-UInt c = rw c.in-UInt.is (own_uint_id c.args.field.now c.own_text-in-UInt.result c.own_text-in-UInt.ensures)
