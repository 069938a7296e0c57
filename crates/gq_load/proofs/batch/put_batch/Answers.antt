use Rattle.std.proofs.Common.{◌≡◌, ◌<◌, ◌+◌, ℕ, List, length, arith, ap, subst, sym, ◌∙◌, Some}
use Rattle.std.specs.Prelude.{slice_get, slice_index_or}
use Rattle.std.specs.Vec.{with_items}
use Rattle.std.proofs.lemmas.List.{length-set, with_items_is}
use Rattle.gq_index.specs.Steps.{Done}
use Rattle.gq_load.specs.Records.{Judged, steps_from}
use Rattle.gq_load.specs.declared.draft.Draft.{Draft}
use Rattle.gq_load.specs.declared.record.ReadRecord.{ReadRecord}
use Rattle.gq_load.specs.declared.report.Report.{Report}
use Rattle.gq_load.specs.Batches.{judged_by, judged_of, IsWhole}
use Rattle.gq_load.proofs.DraftLemmas.{err_as}
use Rattle.gq_load.proofs.ListLemmas.{item_at, same_item, same_behind}
use Rattle.gq_load.proofs.BatchLemmas.{drafts_more, puts_more, puts_stop, puts_begun, counts_more}
use Rattle.gq_load.specs.Found.{AreFoundFor}
use Rattle.gq_load.proofs.FoundLemmas.{all_later}
use Rattle.gq_load.proofs.batch.put_batch.Goals as goal

pub put_record-requires-clause-whole : goal.put_record-requires-clause-whole
put_record-requires-clause-whole c =
    let room : c.loop-place.place < length c.loop-place.batch = omega arith in
    let at : slice_get c.args.batch.now c.loop-place.place ≡ Some c.index-batch-place.result = sym (same_item _ _ c.loop-place.place c.loop-place.invariant.others) ∙ item_at _ _ _ room c.index-batch-place.is in
    let old : ReadRecord = slice_index_or c.loop-place.batch c.loop-place.place c.index-batch-place.result in
    let value : c.deref_mut.result.now ≡ old.drafts.items = c.deref_mut.ensures.value in
    let whole : IsWhole c.args.catalog.now c.args.routes.now c.index-batch-place.result.verdict c.index-batch-place.result.drafts.items = c.requires.whole c.loop-place.place c.index-batch-place.result (omega arith) at in
    subst (λ (ds : List Draft). IsWhole c.args.catalog.now c.args.routes.now old.verdict ds) (sym value)
    (subst (λ (x : ReadRecord). IsWhole c.args.catalog.now c.args.routes.now x.verdict x.drafts.items) c.index-batch-place.is whole)

pub put_record-requires-clause-found : goal.put_record-requires-clause-found
put_record-requires-clause-found c =
    let room : c.loop-place.place < length c.loop-place.batch = omega arith in
    let at : slice_get c.args.batch.now c.loop-place.place ≡ Some c.index-batch-place.result = sym (same_item _ _ c.loop-place.place c.loop-place.invariant.others) ∙ item_at _ _ _ room c.index-batch-place.is in
    let old : ReadRecord = slice_index_or c.loop-place.batch c.loop-place.place c.index-batch-place.result in
    let own : AreFoundFor c.args.catalog.now c.args.routes.now c.index-batch-place.result.drafts.items c.loop-place.place c.args.store.now.vertices c.args.found.now = c.requires.found c.loop-place.place c.index-batch-place.result at in
    let later : AreFoundFor c.args.catalog.now c.args.routes.now c.index-batch-place.result.drafts.items c.loop-place.place c.loop-place.store.vertices c.args.found.now =
    all_later c.args.catalog.now c.args.routes.now c.index-batch-place.result.drafts.items c.loop-place.place c.args.store.now c.loop-place.store _ c.args.found.now c.loop-place.invariant.done own in
    subst (λ (ds : List Draft). AreFoundFor c.args.catalog.now c.args.routes.now ds c.loop-place.place c.loop-place.store.vertices c.args.found.now)
    (ap (λ (x : ReadRecord). x.drafts.items) c.index-batch-place.is ∙ sym c.deref_mut.ensures.value) later

pub returns-in-Err-clause-puts : goal.returns-in-Err-clause-puts
returns-in-Err-clause-puts c =
    let room : c.loop-place.place < length c.loop-place.batch = omega arith in
    let at : slice_get c.args.batch.now c.loop-place.place ≡ Some c.index-batch-place.result = sym (same_item _ _ c.loop-place.place c.loop-place.invariant.others) ∙ item_at _ _ _ room c.index-batch-place.is in
    let old : ReadRecord = slice_index_or c.loop-place.batch c.loop-place.place c.index-batch-place.result in
    let same : judged_of c.args.catalog.now c.args.routes.now c.index-batch-place.result ≡ judged_by c.args.catalog.now c.args.routes.now old.verdict c.deref_mut.result.now =
    ap (judged_of c.args.catalog.now c.args.routes.now) c.index-batch-place.is ∙ ap (judged_by c.args.catalog.now c.args.routes.now old.verdict) (sym c.deref_mut.ensures.value) in
    puts_stop ℕ Report c.args.catalog.now c.args.routes.now c.args.batch.now c.loop-place.place c.args.count c.index-batch-place.result c.args.store.now c.loop-place.store c.put_record.new.store c.in-Err.fault
    (omega arith) at c.loop-place.invariant.done
    (err_as ℕ ℕ c.loop-place.store c.put_record.new.store _ _ c.in-Err.fault (ap steps_from same) c.in-Err.ensures.puts)

pub returns-in-Err-with_record-clause-puts : goal.returns-in-Err-with_record-clause-puts
returns-in-Err-with_record-clause-puts c =
    let room : c.loop-place.place < length c.loop-place.batch = omega arith in
    let at : slice_get c.args.batch.now c.loop-place.place ≡ Some c.index-batch-place.result = sym (same_item _ _ c.loop-place.place c.loop-place.invariant.others) ∙ item_at _ _ _ room c.index-batch-place.is in
    let old : ReadRecord = slice_index_or c.loop-place.batch c.loop-place.place c.index-batch-place.result in
    let same : judged_of c.args.catalog.now c.args.routes.now c.index-batch-place.result ≡ judged_by c.args.catalog.now c.args.routes.now old.verdict c.deref_mut.result.now =
    ap (judged_of c.args.catalog.now c.args.routes.now) c.index-batch-place.is ∙ ap (judged_by c.args.catalog.now c.args.routes.now old.verdict) (sym c.deref_mut.ensures.value) in
    let put : Done c.loop-place.store (steps_from (judged_of c.args.catalog.now c.args.routes.now c.index-batch-place.result)) c.put_record.new.store =
    subst (λ (j : Judged). Done c.loop-place.store (steps_from j) c.put_record.new.store) (sym same) c.in-Ok.ensures.puts in
    puts_begun c.args.catalog.now c.args.routes.now c.args.batch.now (c.loop-place.place + 1) c.args.count c.args.store.now c.put_record.new.store (omega arith)
    (puts_more c.args.catalog.now c.args.routes.now c.args.batch.now c.loop-place.place c.index-batch-place.result c.args.store.now c.loop-place.store c.put_record.new.store at c.loop-place.invariant.done put)

pub loop-place-preserved : goal.loop-place-preserved
loop-place-preserved c =
    let room : c.loop-place.place < length c.loop-place.batch = omega arith in
    let here : slice_get c.loop-place.batch c.loop-place.place ≡ Some c.index-batch-place.result = item_at _ _ _ room c.index-batch-place.is in
    let at : slice_get c.args.batch.now c.loop-place.place ≡ Some c.index-batch-place.result = sym (same_item _ _ c.loop-place.place c.loop-place.invariant.others) ∙ here in
    let own : length c.index-batch-place.result.drafts.items ≡ length c.args.routes.now = c.loop-place.invariant.drafts c.loop-place.place c.index-batch-place.result here in
    let old : ReadRecord = slice_index_or c.loop-place.batch c.loop-place.place c.index-batch-place.result in
    let same : judged_of c.args.catalog.now c.args.routes.now c.index-batch-place.result ≡ judged_by c.args.catalog.now c.args.routes.now old.verdict c.deref_mut.result.now =
    ap (judged_of c.args.catalog.now c.args.routes.now) c.index-batch-place.is ∙ ap (judged_by c.args.catalog.now c.args.routes.now old.verdict) (sym c.deref_mut.ensures.value) in
    let put : Done c.loop-place.store (steps_from (judged_of c.args.catalog.now c.args.routes.now c.index-batch-place.result)) c.put_record.new.store =
    subst (λ (j : Judged). Done c.loop-place.store (steps_from j) c.put_record.new.store) (sym same) c.in-Ok.ensures.puts in
    let r : ReadRecord = record { verdict = old.verdict; drafts = with_items old.drafts c.put_record.new.drafts } in
    let size : length c.put_record.new.drafts ≡ old.drafts.len = omega (arith, c.put_record.auto.drafts, c.deref_mut.ensures.len) in
    let items : r.drafts.items ≡ c.put_record.new.drafts = with_items_is old.drafts c.put_record.new.drafts size in
    let count : length r.drafts.items ≡ length c.args.routes.now =
    omega (arith, ap length items, c.put_record.auto.drafts, ap length c.deref_mut.ensures.value, ap (λ (x : ReadRecord). length x.drafts.items) c.index-batch-place.is, own) in
    record {
      room = length-set c.loop-place.batch c.loop-place.place r ∙ c.loop-place.invariant.room;
      drafts = drafts_more c.args.routes.now c.loop-place.batch c.loop-place.place r c.loop-place.invariant.drafts count;
      others = same_behind c.loop-place.batch c.args.batch.now c.loop-place.place r c.loop-place.invariant.others;
      done = puts_more c.args.catalog.now c.args.routes.now c.args.batch.now c.loop-place.place c.index-batch-place.result c.args.store.now c.loop-place.store c.put_record.new.store at c.loop-place.invariant.done put;
      counted = counts_more c.args.catalog.now c.args.routes.now c.args.batch.now c.loop-place.place c.index-batch-place.result c.args.report c.loop-place.report c.in-Ok-with_record.report at c.loop-place.invariant.counted
          (λ js j now is. c.in-Ok-with_record.ensures js j now (ap (λ (x : ReadRecord). x.verdict) (sym c.index-batch-place.is) ∙ is));
      named = c.in-Ok.ensures.named;
    }
