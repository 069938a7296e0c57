use Rattle.gq_insert.specs.SoundLaws.{sound_with_edge_type}
use Rattle.gq_insert.proofs.laws.catalogs_are_sound.Goals as goal

pub returns-clause-by_edge_type : goal.returns-clause-by_edge_type
returns-clause-by_edge_type c = sound_with_edge_type
