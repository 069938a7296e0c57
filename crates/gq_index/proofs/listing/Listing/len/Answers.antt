use Rattle.std.proofs.Common.{length, ap, refl, arith}
use Rattle.std.proofs.lemmas.List.{length-map}
use Rattle.gq_index.specs.Runs.{shown}
use Rattle.gq_index.specs.Segments.{of_walk}
use Rattle.gq_index.proofs.RunLemmas.{length_runs}
use Rattle.gq_index.proofs.listing.Listing.len.Goals as goal

pub returns : goal.returns
returns c =
    let s = c.self.inside.segments.items in let r = c.self.inside.reached.items in
    omega (arith, c.len.ensures, c.self.inside.reached.ok.0, length_runs s r (shown s r) refl, length-map (shown s r) of_walk, ap length c.self.view_is)
