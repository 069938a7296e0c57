use Rattle.std.proofs.Common.{length, Option, refl, subst, arith}
use Rattle.gq_exec_contribute.specs.declared.candidate.Stop.{Stop}
use Rattle.gq_rules_calendar.specs.Gregorian.{gregorian}
use Rattle.gq_workers.specs.Running.{Tried, come}
use Rattle.gq_workers.proofs.RunLemmas.{within_at, chunk_first, chunk_next, chunk_fault, chunk_done}
use Rattle.gq_workers.proofs.chunk.try_chunk.Goals as goal

pub loop-place-init : goal.loop-place-init
loop-place-init c =
    chunk_first (come gregorian c.args.over.now c.args.work.now) c.args.work.now.candidates c.args.over.now c.args.start c.args.end c.args.found.now c.args.found.now c.requires.forward
    (record { batches = c.requires.empty.batches; inputs = c.requires.empty.inputs })
    (record { one = c.requires.shaped.one; sources = c.requires.shaped.sources; targets = c.requires.shaped.targets; short = record { sources = c.requires.shaped.short.sources; targets = c.requires.shaped.short.targets } }) refl refl

pub try_one-requires-clause-within : goal.try_one-requires-clause-within
try_one-requires-clause-within c = within_at (length c.args.over.now.vertices) c.loop-place.place c.args.work.now.candidates c.near-candidate.result c.requires.work.candidates.within c.near-candidate.ensures.candidate

pub returns-in-Some : goal.returns-in-Some
returns-in-Some c = chunk_fault (come gregorian c.args.over.now c.args.work.now) c.args.work.now.candidates c.args.over.now c.args.start c.args.end c.loop-place.place c.near-candidate.result c.in-Some.fault c.args.found.now c.loop-place.found c.try_one.new.found
    c.near-candidate.ensures.candidate c.loop-place.invariant
    (subst (λ (f : Option Stop). Tried c.args.over.now (come gregorian c.args.over.now c.args.work.now c.near-candidate.result) c.loop-place.found c.try_one.new.found f) c.in-Some.is c.in_ok-fault.ensures.tried)
    c.in_ok-fault.ensures.shaped

pub loop-place-preserved : goal.loop-place-preserved
loop-place-preserved c = chunk_next (come gregorian c.args.over.now c.args.work.now) c.args.work.now.candidates c.args.over.now c.args.start c.args.end c.loop-place.place c.near-candidate.result c.args.found.now c.loop-place.found c.try_one.new.found
    c.loop-place-test.true c.near-candidate.ensures.candidate c.loop-place.invariant
    (subst (λ (f : Option Stop). Tried c.args.over.now (come gregorian c.args.over.now c.args.work.now c.near-candidate.result) c.loop-place.found c.try_one.new.found f) c.in-None.is c.in_ok-fault.ensures.tried)
    c.in_ok-fault.ensures.shaped

pub returns : goal.returns
returns c = chunk_done (come gregorian c.args.over.now c.args.work.now) c.args.work.now.candidates c.args.over.now c.args.start c.args.end c.loop-place.place c.args.found.now c.loop-place.found (let t = c.loop-place-test.false in omega (arith, t)) c.loop-place.invariant
