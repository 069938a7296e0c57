use Rattle.gq_index.proofs.PackedLemmas.{parts_put}
use Rattle.gq_index.proofs.packed.write.Goals as goal

pub returns-clause-put : goal.returns-clause-put
returns-clause-put c = parts_put c.args.spans.now c.args.ways.now c.args.vertex c.args.way c.requires.apart c.requires.there c.requires.room
