use Rattle.gq_load_csv.proofs.RecordLemmas.{next_is, ready}
use Rattle.gq_load_csv.proofs.record.Record.read_cut.Goals as goal

pub returns-clause-next : goal.returns-clause-next
returns-clause-next c =
    next_is c.args.reader.now c.read_byte_record.new.self _ c.in-Ok.found
    (λ goes. c.in-Ok.ensures.reads (c.requires.plain goes) (ready c.args.reader.now (c.requires.ready goes)))
    (λ gone. let e = c.in-Ok.ensures.failed gone in cc)
