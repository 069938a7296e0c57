use Rattle.left_right.specs.Sides.{view}
use Rattle.gq_store.proofs.SeenLemmas.{looks}
use Rattle.gq_store.proofs.reader.asked.Goals as goal

pub enter_as-requires : goal.enter_as-requires
enter_as-requires g c x views h at = looks x views c.args.side.place.id (view c.args.side.place) h at
