use Rattle.std.proofs.Common.{rules}
use Rattle.gq_exec_post.proofs.TakenLemmas.{tuple_taken}
use Rattle.gq_exec_post.proofs.waiting.takes_tuple.Goals as goal

pub returns-then-fields-count : goal.returns-then-fields-count
returns-then-fields-count c = λ e. tuple_taken c.args.taken c.in-Tuple.count c.args.fields.now (search rules) (search rules) (c.all_fit.ensures e)
