use Rattle.std.proofs.Common.{[], false, refl, None}
use Rattle.gq_walk_tests.proofs.puts.near.Goals as goal

pub returns-in-Ok-put_edge : goal.returns-in-Ok-put_edge
returns-in-Ok-put_edge c = c.in-Ok-put_edge.ensures.named (λ _. record { name = []; directed = false; from = 0; to = 0; forward = None; reverse = None; discriminators = 0; attributes = [] }) refl c.requires
