use Rattle.std.proofs.Common.{arith}
use Rattle.gq_base.proofs.KeyLemmas.{bucket_is}
use Rattle.gq_base.proofs.key.bucket.Goals as goal

pub returns-clause-exact : goal.returns-clause-exact
returns-clause-exact c = bucket_is c.args.key c.args.buckets (omega (arith, c.well_formed))
