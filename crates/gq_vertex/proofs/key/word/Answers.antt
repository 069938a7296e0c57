use Rattle.gq_vertex.proofs.key.word.Goals as goal

pub returns-then-id-le7-clause-bytes : goal.returns-then-id-le7-clause-bytes
returns-then-id-le7-clause-bytes c = λ k. (c.type_inv.id k).fits

pub returns-else-id-le7-clause-bytes : goal.returns-else-id-le7-clause-bytes
returns-else-id-le7-clause-bytes c = λ k. (c.type_inv.id k).fits
