use Rattle.std.proofs.Common.{length, map, ap, refl, arith}
use Rattle.std.proofs.lemmas.List.{length-map}
use Rattle.gq_index.specs.Runs.{shown}
use Rattle.gq_index.specs.Segments.{of_walk}
use Rattle.gq_index.proofs.RunLemmas.{length_runs, none_held, none_shown}
use Rattle.gq_index.proofs.listing.Listing.push.Goals as goal

pub push-requires : goal.push-requires
push-requires c =
    let s = c.self.inside.segments.items in let r = c.self.inside.reached.items in
    omega (arith, c.self.inside.reached.ok.0, length_runs s r (shown s r) refl, length-map (shown s r) of_walk, ap length c.self.view_is, c.requires)

pub invariant_of-self-in-Err : goal.invariant_of-self-in-Err
invariant_of-self-in-Err c = none_held c.clear.new.self.items c.clear-in-Err.new.self.items c.clear.ensures.items c.clear-in-Err.ensures.items

pub returns-in-Err-clause-err : goal.returns-in-Err-clause-err
returns-in-Err-clause-err c = ap (map of_walk) (none_shown c.clear.new.self.items c.clear-in-Err.new.self.items c.clear.ensures.items c.clear-in-Err.ensures.items)
