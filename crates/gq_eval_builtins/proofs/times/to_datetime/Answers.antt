use Rattle.gq_eval_operand.specs.Meant.{valued}
use Rattle.gq_eval_builtins.proofs.TimeLemmas.{text_read}
use Rattle.gq_eval_builtins.proofs.times.to_datetime.Goals as goal

pub returns-in-Some : goal.returns-in-Some
returns-in-Some c = text_read (valued c.args.operand.now) c.in-Some.text.now c.read_time.result c.time.result c.in-Some.ensures c.read_time.ensures.some c.read_time.ensures.none c.time.ensures
