use Rattle.std.proofs.Common.{◌≡◌, take, drop, map}
use Rattle.gq_load_check.specs.Lines.{into_of}
use Rattle.gq_load_check.specs.Refusals.{first_due, destination_refusal}
use Rattle.gq_load_check.proofs.check.destinations_of.Given as goal

abbrev pub invariant-loop-destination : goal.invariant-loop-destination
invariant-loop-destination l = record {
  made : l.intos ≡ map (into_of l.catalog l.graph) (take l.destination-index l.destinations);
  rest : first_due (destination_refusal l.catalog l.graph) l.destinations
      ≡ first_due (destination_refusal l.catalog l.graph) (drop l.destination-index l.destinations);
}
