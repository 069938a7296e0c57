use Rattle.gq_rules_meaning.specs.Answers.{Gives, ◌>>=◌}
use Rattle.gq_rules_meaning.specs.Sets.{all_of}
use Rattle.gq_plan_ir.specs.declared.step.Seed.TheVariants as seed
use Rattle.gq_exec_vars.specs.Written.{typed}
use Rattle.gq_exec_vars.proofs.GatherLemmas.{seeds_of, seeds_begin, seeds_more, seeds_stop, seeds_end}
use Rattle.gq_exec_vars.proofs.SetLemmas.{halts_on}
use Rattle.gq_exec_vars.proofs.seeds.gathered.Goals as goal

pub loop-seed-init : goal.loop-seed-init
loop-seed-init c = record { gathered = λ world s seen. seeds_begin world s c.args.seeds.now c.in_ok-bits.bits; few = c.in_ok-bits.ensures.few }

pub loop-seed-preserved : goal.loop-seed-preserved
loop-seed-preserved c = record {
  gathered = λ world s seen.
      seeds_more world s c.args.seeds.now c.loop-seed.seed-index (seed.Type 0) c.in_ok-bits.bits c.loop-seed.bits c.gather.new.bits c.loop-seed-test.true (c.loop-seed.invariant.gathered world s seen) (c.in_ok-gather.ensures.seeded world s seen);
  few = c.in_ok-gather.ensures.few c.loop-seed.invariant.few;
}

pub returns-in_err-gather : goal.returns-in_err-gather
returns-in_err-gather c = λ world s seen.
    halts_on typed (seeds_of world s c.args.seeds.now >>= λ sets. Gives (all_of sets)) c.in_err-gather.field-0.0 c.from_residual-in_err-gather.result c.from_residual-in_err-gather.ensures.1
    (seeds_stop world s c.args.seeds.now c.loop-seed.seed-index (seed.Type 0) c.in_ok-bits.bits c.loop-seed.bits c.in_err-gather.field-0.0 c.loop-seed-test.true (c.loop-seed.invariant.gathered world s seen) (c.in_err-gather.ensures.seeded world s seen))

pub returns : goal.returns
returns c = λ world s seen.
    seeds_end world s c.args.seeds.now c.loop-seed.seed-index c.in_ok-bits.bits c.loop-seed.bits c.as_slice.result.now c.in_ok-types.types c.as_slice-2.result.now c.in_ok-vertices.vertices c.loop-seed-test.false
    (c.loop-seed.invariant.gathered world s seen) c.in_ok-bits.ensures.types c.in_ok-bits.ensures.vertices
    (c.as_slice.ensures, λ xs m. c.in_ok-types.ensures xs m) (c.as_slice-2.ensures, λ xs m. c.in_ok-vertices.ensures xs m)
