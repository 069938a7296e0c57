use Rattle.std.proofs.Common.{◌≡◌, ◌++◌, ◌∷◌, [], length, Some, arith, ◌∙◌}
use Rattle.std.specs.Prelude.{slice_get}
use Rattle.std.proofs.lemmas.List.{length_push}
use Rattle.std.proofs.lemmas.Option.{slice_get_within}
use Rattle.gq_load.proofs.ListLemmas.{item_at}
use Rattle.gq_load.proofs.FoundLemmas.{keeps_more, stand_more}
use Rattle.gq_load.proofs.ahead.find_ends.Goals as goal

pub loop-record-preserved : goal.loop-record-preserved
loop-record-preserved c =
    let i = c.loop-record.record-index in let found = c.loop-record.found in
    let put : c.push.new.self ≡ found ++ c.ends_of.result ∷ [] = c.in_ok-push.ensures.ok in
    let at : slice_get c.args.batch.now i ≡ Some c.record-item.result = item_at c.args.batch.now i c.record-item.result (omega arith) c.record-item.is in
    rw put (record {
      long = length_push found c.ends_of.result ∙ omega (arith, c.loop-record.invariant.long);
      others = keeps_more c.args.found.now found c.ends_of.result (omega (arith, c.loop-record.invariant.long)) c.loop-record.invariant.others;
      ends = stand_more c.args.store.now.vertices c.args.from c.args.to c.args.place c.args.batch.now (length c.args.found.now) found i c.record-item.result c.ends_of.result
          c.loop-record.invariant.long at c.ends_of.ensures c.loop-record.invariant.ends;
    })

pub returns-clause-ends : goal.returns-clause-ends
returns-clause-ends c = λ k r draft at_r at_d.
    let low = slice_get_within c.args.batch.now k r at_r in
    c.loop-record.invariant.ends k r draft (omega arith) at_r at_d
