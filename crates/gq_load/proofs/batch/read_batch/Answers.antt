use Rattle.std.proofs.Common.{◌≡◌, ◌<◌, List, length, set, arith, ap, subst, sym, ◌∙◌, Some}
use Rattle.std.specs.Prelude.{slice_get}
use Rattle.std.proofs.lemmas.List.{length-set}
use Rattle.gq_load.specs.declared.record.ReadRecord.{ReadRecord}
use Rattle.gq_load.specs.Batches.{IsNext, ReadsOn}
use Rattle.gq_load.proofs.ListLemmas.{item_at}
use Rattle.gq_load.proofs.BatchLemmas.{drafts_more, whole_more, whole_kept, take_kept, reads_more, reads_all, reads_room}
use Rattle.gq_load.proofs.batch.read_batch.Goals as goal

pub returns-in-Ok-false-clause-reads : goal.returns-in-Ok-false-clause-reads
returns-in-Ok-false-clause-reads c =
    let r : ReadRecord = c.read_record.new.into in
    let none = rw c.in-Ok-false.field-0-test at c.in-Ok-false.ensures.reads in
    let room : c.loop-place.place < length (set c.loop-place.batch c.loop-place.place r) = omega (arith, length-set c.loop-place.batch c.loop-place.place r) in
    reads_all c.args.catalog.now c.args.routes.now c.args.records.now c.loop-place.records c.read_record.new.records _ c.loop-place.place (length (set c.loop-place.batch c.loop-place.place r)) room none
    (subst (λ (b : List ReadRecord). ReadsOn c.args.catalog.now c.args.routes.now c.args.records.now c.loop-place.records b) (sym (take_kept c.loop-place.batch c.loop-place.place r)) c.loop-place.invariant.reads)

pub returns-in-Ok-false-clause-drafts : goal.returns-in-Ok-false-clause-drafts
returns-in-Ok-false-clause-drafts c = drafts_more c.args.routes.now c.loop-place.batch c.loop-place.place c.read_record.new.into c.loop-place.invariant.drafts c.in-Ok-false.ensures.count

pub returns-in-Ok-false-clause-whole : goal.returns-in-Ok-false-clause-whole
returns-in-Ok-false-clause-whole c = whole_kept c.args.catalog.now c.args.routes.now c.loop-place.batch c.loop-place.place c.read_record.new.into c.loop-place.invariant.whole

pub read_record-requires-clause-count : goal.read_record-requires-clause-count
read_record-requires-clause-count c =
    let room : c.loop-place.place < length c.loop-place.batch = omega arith in
    let at : slice_get c.loop-place.batch c.loop-place.place ≡ Some c.index-batch-place.result = item_at _ _ _ room c.index-batch-place.is in
    let own : length c.index-batch-place.result.drafts.items ≡ length c.args.routes.now = c.loop-place.invariant.drafts c.loop-place.place c.index-batch-place.result at in
    sym (ap (λ (r : ReadRecord). length r.drafts.items) c.index-batch-place.is) ∙ own

pub loop-place-preserved : goal.loop-place-preserved
loop-place-preserved c =
    let room : c.loop-place.place < length c.loop-place.batch = omega arith in
    let r : ReadRecord = c.read_record.new.into in
    let next : IsNext c.args.catalog.now c.args.routes.now c.loop-place.records c.read_record.new.records r = rw c.in-Ok-true.field-0-test at c.in-Ok-true.ensures.reads in
    record {
      room = length-set c.loop-place.batch c.loop-place.place r ∙ c.loop-place.invariant.room;
      drafts = drafts_more c.args.routes.now c.loop-place.batch c.loop-place.place r c.loop-place.invariant.drafts c.in-Ok-true.ensures.count;
      whole = whole_more c.args.catalog.now c.args.routes.now c.loop-place.batch c.loop-place.place r c.loop-place.invariant.whole (c.in-Ok-true.ensures.whole c.in-Ok-true.field-0-test);
      reads = reads_more c.args.catalog.now c.args.routes.now c.args.records.now c.loop-place.records c.read_record.new.records c.loop-place.batch c.loop-place.place next.fields r room
          c.loop-place.invariant.reads next.split next.judged;
    }

pub returns-clause-reads : goal.returns-clause-reads
returns-clause-reads c =
    let all : c.loop-place.place ≡ length c.loop-place.batch = omega arith in
    reads_room c.args.catalog.now c.args.routes.now c.args.records.now c.loop-place.records _ _ _ (omega arith) (rw (← all) c.loop-place.invariant.reads)
