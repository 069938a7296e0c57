use Rattle.std.proofs.Common.{◌≡◌, ◌<◌, ◌≤◌, List, length, take, arith, ap, subst, sym, ◌∙◌}
use Rattle.std.specs.Vec.{with_items}
use Rattle.std.proofs.lemmas.List.{with_items_is, length-take}
use Rattle.gq_load.specs.Columns.{Fields}
use Rattle.gq_load.specs.declared.record.ReadRecord.{ReadRecord}
use Rattle.gq_load.specs.declared.report.Report.{Report}
use Rattle.gq_load.specs.Batches.{left_behind, HaveDrafts, ReadsOn}
use Rattle.gq_load.proofs.BatchLemmas.{left_none, left_some, fewer_left}
use Rattle.gq_load.proofs.LoadLemmas.{IsUnderWay, goes_on, stops, ends}
use Rattle.gq_load.proofs.loading.load_records.Goals as goal

pub returns-in-Err-put_batch-clause-loads : goal.returns-in-Err-put_batch-clause-loads
returns-in-Err-put_batch-clause-loads c read tells =
    let size : length c.read_batch.new.batch ≡ c.reading.batch.len = omega (arith, c.read_batch.auto.batch, c.deref_mut.ensures.len) in
    let same : c.deref_mut-in-reading.result.now ≡ c.read_batch.new.batch = c.deref_mut-in-reading.ensures.value ∙ with_items_is c.reading.batch c.read_batch.new.batch size in
    let left : List Fields = left_behind c.in-Ok-read_batch.count (length c.read_batch.new.batch) c.read_batch.new.records in
    let on : ReadsOn c.args.catalog.now c.args.routes.now c.reading.records left (take c.in-Ok-read_batch.count c.deref_mut-in-reading.result.now) =
    subst (λ (b : List ReadRecord). ReadsOn c.args.catalog.now c.args.routes.now c.reading.records left (take c.in-Ok-read_batch.count b)) (sym same) c.in-Ok-read_batch.ensures.reads in
    stops Report read c.args.catalog.now c.args.routes.now c.args.records.now c.args.store.now c.reading.records left c.reading.store c.put_batch.new.store c.reading.report
    (take c.in-Ok-read_batch.count c.deref_mut-in-reading.result.now) c.in-Err-put_batch.fault tells c.reading.invariant.way on c.in-Err-put_batch.ensures.puts

pub returns-then-count-lt-AHEAD-clause-loads : goal.returns-then-count-lt-AHEAD-clause-loads
returns-then-count-lt-AHEAD-clause-loads c read tells =
    let size : length c.read_batch.new.batch ≡ c.reading.batch.len = omega (arith, c.read_batch.auto.batch, c.deref_mut.ensures.len) in
    let same : c.deref_mut-in-reading.result.now ≡ c.read_batch.new.batch = c.deref_mut-in-reading.ensures.value ∙ with_items_is c.reading.batch c.read_batch.new.batch size in
    let room : c.in-Ok-read_batch.count < length c.read_batch.new.batch = omega (arith, c.read_batch.auto.batch, c.reading.invariant.room, ap length c.deref_mut.ensures.value) in
    let left : List Fields = left_behind c.in-Ok-read_batch.count (length c.read_batch.new.batch) c.read_batch.new.records in
    let on : ReadsOn c.args.catalog.now c.args.routes.now c.reading.records left (take c.in-Ok-read_batch.count c.deref_mut-in-reading.result.now) =
    subst (λ (b : List ReadRecord). ReadsOn c.args.catalog.now c.args.routes.now c.reading.records left (take c.in-Ok-read_batch.count b)) (sym same) c.in-Ok-read_batch.ensures.reads in
    let way : IsUnderWay c.args.catalog.now c.args.routes.now c.args.records.now c.args.store.now left c.put_batch.new.store c.in-Ok-put_batch.report =
    goes_on c.args.catalog.now c.args.routes.now c.args.records.now c.args.store.now c.reading.records left c.reading.store c.put_batch.new.store c.reading.report c.in-Ok-put_batch.report
    (take c.in-Ok-read_batch.count c.deref_mut-in-reading.result.now) c.reading.invariant.way on c.in-Ok-put_batch.ensures.puts c.in-Ok-put_batch.ensures.counts in
    ends read c.args.catalog.now c.args.routes.now c.args.records.now c.args.store.now left c.put_batch.new.store c.in-Ok-put_batch.report tells way
    (left_none c.in-Ok-read_batch.count (length c.read_batch.new.batch) c.read_batch.new.records room)

pub reading-smaller : goal.reading-smaller
reading-smaller c =
    let high : length c.read_batch.new.batch ≤ c.in-Ok-read_batch.count = omega (arith, c.read_batch.auto.batch, c.reading.invariant.room, ap length c.deref_mut.ensures.value) in
    let on : ReadsOn c.args.catalog.now c.args.routes.now c.reading.records c.read_batch.new.records (take c.in-Ok-read_batch.count c.read_batch.new.batch) =
    subst (λ (left : List Fields). ReadsOn c.args.catalog.now c.args.routes.now c.reading.records left (take c.in-Ok-read_batch.count c.read_batch.new.batch))
    (left_some c.in-Ok-read_batch.count (length c.read_batch.new.batch) c.read_batch.new.records high) c.in-Ok-read_batch.ensures.reads in
    fewer_left c.args.catalog.now c.args.routes.now c.reading.records c.read_batch.new.records (take c.in-Ok-read_batch.count c.read_batch.new.batch)
    (omega (arith, length-take c.in-Ok-read_batch.count c.read_batch.new.batch, c.read_batch.auto.batch, c.reading.invariant.room, ap length c.deref_mut.ensures.value)) on

pub reading-preserved : goal.reading-preserved
reading-preserved c =
    let size : length c.read_batch.new.batch ≡ c.reading.batch.len = omega (arith, c.read_batch.auto.batch, c.deref_mut.ensures.len) in
    let same : c.deref_mut-in-reading.result.now ≡ c.read_batch.new.batch = c.deref_mut-in-reading.ensures.value ∙ with_items_is c.reading.batch c.read_batch.new.batch size in
    let high : length c.read_batch.new.batch ≤ c.in-Ok-read_batch.count = omega (arith, c.read_batch.auto.batch, c.reading.invariant.room, ap length c.deref_mut.ensures.value) in
    let first : ReadsOn c.args.catalog.now c.args.routes.now c.reading.records c.read_batch.new.records (take c.in-Ok-read_batch.count c.read_batch.new.batch) =
    subst (λ (left : List Fields). ReadsOn c.args.catalog.now c.args.routes.now c.reading.records left (take c.in-Ok-read_batch.count c.read_batch.new.batch))
    (left_some c.in-Ok-read_batch.count (length c.read_batch.new.batch) c.read_batch.new.records high) c.in-Ok-read_batch.ensures.reads in
    let on : ReadsOn c.args.catalog.now c.args.routes.now c.reading.records c.read_batch.new.records (take c.in-Ok-read_batch.count c.deref_mut-in-reading.result.now) =
    subst (λ (b : List ReadRecord). ReadsOn c.args.catalog.now c.args.routes.now c.reading.records c.read_batch.new.records (take c.in-Ok-read_batch.count b)) (sym same) first in
    let items : (with_items (with_items c.reading.batch c.read_batch.new.batch) c.put_batch.new.batch).items ≡ c.put_batch.new.batch =
    with_items_is (with_items c.reading.batch c.read_batch.new.batch) c.put_batch.new.batch (omega (arith, c.put_batch.auto.batch, ap length same, size)) in
    record {
      way = goes_on c.args.catalog.now c.args.routes.now c.args.records.now c.args.store.now c.reading.records c.read_batch.new.records c.reading.store c.put_batch.new.store c.reading.report c.in-Ok-put_batch.report
          (take c.in-Ok-read_batch.count c.deref_mut-in-reading.result.now) c.reading.invariant.way on c.in-Ok-put_batch.ensures.puts c.in-Ok-put_batch.ensures.counts;
      named = c.in-Ok-put_batch.ensures.named;
      room = ap length items ∙ omega (arith, c.put_batch.auto.batch, ap length same, c.read_batch.auto.batch, c.reading.invariant.room, ap length c.deref_mut.ensures.value);
      drafts = subst (HaveDrafts c.args.routes.now) (sym items) c.in-Ok-put_batch.ensures.drafts;
    }
