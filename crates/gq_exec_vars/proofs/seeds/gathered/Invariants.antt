use Rattle.std.proofs.Common.{drop}
use Rattle.gq_rules_meaning.specs.Expressions.{World}
use Rattle.gq_rules_meaning.specs.States.{State}
use Rattle.gq_plan_ir.specs.Reference.{Reference}
use Rattle.gq_exec_vars.specs.Lookups.{IsSeen}
use Rattle.gq_exec_vars.specs.Written.{HasFew}
use Rattle.gq_exec_vars.proofs.GatherLemmas.{SoFar, seeds_of}
use Rattle.gq_exec_vars.proofs.seeds.gathered.Given as goal

abbrev pub invariant-loop-seed : goal.invariant-loop-seed
invariant-loop-seed l = record {
  gathered : (world : World Reference) (s : State Reference) → IsSeen l.at world s
      → SoFar (seeds_of world s l.seeds) (seeds_of world s (drop l.seed-index l.seeds)) l.initial.bits l.bits;
  few : HasFew l.bits;
}
