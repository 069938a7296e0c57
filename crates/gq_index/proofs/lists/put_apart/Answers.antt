use Rattle.std.proofs.Common.{arith}
use Rattle.std.proofs.lemmas.Result.{IfOk-weaker}
use Rattle.gq_index.specs.Walks.{taken_from}
use Rattle.gq_index.proofs.ListLemmas.{put_more, put_past}
use Rattle.gq_index.proofs.lists.put_apart.Goals as goal

pub returns-then-walk-len : goal.returns-then-walk-len
returns-then-walk-len c = λ n count walks low are.
    put_past (λ list. list.items) c.args.lists.now.items n count walks c.args.walk (omega (arith, c.len.ensures, c.args.lists.now.ok.0)) are

pub returns : goal.returns
returns c =
    IfOk-weaker c.insert.result _ _ (λ ok h n count walks low are.
    put_more (λ list. list.items) c.args.lists.now.items c.index_mut.result.now c.insert.new.list n count walks c.args.walk (omega (arith, c.len.ensures, c.args.lists.now.ok.0)) are
    c.index_mut.ensures.value (h count c.args.walk.source (taken_from c.args.walk.source walks) low))
    c.insert.ensures
