use Rattle.std.proofs.Common.{None}
use Rattle.std.proofs.lemmas.Map.Text.{btree_map_updates_text}
use Rattle.gq_vertex.proofs.names.take_id.Goals as goal

pub returns : goal.returns
returns c = btree_map_updates_text c.args.id.now c.args.ids.now c.remove.new.self None c.remove.ensures.updates
