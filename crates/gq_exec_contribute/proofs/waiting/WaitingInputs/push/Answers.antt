use Rattle.std.proofs.Common.{◌∙◌, ap}
use Rattle.std.proofs.lemmas.Result.{on_ok_weaker, on_err_weaker}
use Rattle.gq_exec_contribute.specs.Waiting.{inputs_of}
use Rattle.gq_exec_contribute.proofs.WaitingLemmas.{others_are, pushed_is}
use Rattle.gq_exec_contribute.proofs.waiting.WaitingInputs.push.Goals as goal

pub returns-clause-ok : goal.returns-clause-ok
returns-clause-ok c = on_ok_weaker c.push.result (pushed_is c.self.inside.heads c.push.new.self c.self.inside.rows c.pack.new.rows c.args.self.now c.args.target c.args.input.now c.in_ok-packed.packed c.self.view_is c.self.invariant c.in_ok-packed.ensures.ok) c.push.ensures.ok

pub returns-clause-err : goal.returns-clause-err
returns-clause-err c = on_err_weaker c.push.result (λ same. ap (λ hs. inputs_of hs c.pack.new.rows) same ∙ others_are c.self.inside.heads c.self.inside.rows c.pack.new.rows c.args.self.now c.args.input.now c.in_ok-packed.packed c.self.view_is c.self.invariant c.in_ok-packed.ensures.ok) c.push.ensures.err
