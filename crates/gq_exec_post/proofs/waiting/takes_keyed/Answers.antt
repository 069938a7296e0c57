use Rattle.std.proofs.Common.{rules}
use Rattle.gq_exec_post.proofs.TakenLemmas.{keyed_taken}
use Rattle.gq_exec_post.proofs.waiting.takes_keyed.Goals as goal

pub returns-then-ints-count : goal.returns-then-ints-count
returns-then-ints-count c = λ e. keyed_taken c.args.taken c.args.count c.in-Keyed.keys c.in-Keyed.parts c.args.ints.now (search rules) (search rules) (search rules) (search rules) (c.all_fit.ensures e)
