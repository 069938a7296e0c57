use Rattle.gq_exec_vars.proofs.SeedLemmas.{content_seeded, content_halts}
use Rattle.gq_exec_vars.proofs.seeds.gather_content.Goals as goal

pub returns-in-Ok-clause-seeded : goal.returns-in-Ok-clause-seeded
returns-in-Ok-clause-seeded c = content_seeded c.args.at.now c.args.slot c.read_target.result c.in-Ok.seen c.args.bits.now c.put_seen.new.bits c.put_seen.result c.read_target.ensures.read c.in-Ok.is c.put_seen.ensures.put

pub returns-in-Err-clause-seeded : goal.returns-in-Err-clause-seeded
returns-in-Err-clause-seeded c = content_halts c.args.at.now c.args.slot c.read_target.result c.in-Err.halt c.args.bits.now c.args.bits.now c.read_target.ensures.read c.in-Err.is
