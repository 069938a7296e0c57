use Rattle.gq_store.proofs.SeenLemmas.{opens}
use Rattle.gq_store.proofs.opening.newcomer.Goals as goal

pub reader-requires : goal.reader-requires
reader-requires g c x views h = opens x views h
