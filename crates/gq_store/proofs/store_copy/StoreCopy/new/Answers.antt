use Rattle.gq_store.proofs.store_copy.StoreCopy.new.Goals as goal

pub catch_up-requires : goal.catch_up-requires
catch_up-requires g c = c.new-index.ensures.kept _ _
