use Rattle.std.proofs.Common.{◌≡◌, List, length, arith, ap, subst, sym, ◌∙◌}
use Rattle.std.specs.Vec.{with_items}
use Rattle.std.proofs.lemmas.List.{with_items_is}
use Rattle.gq_load.specs.declared.draft.Draft.{Draft}
use Rattle.gq_load.specs.declared.record.ReadRecord.{ReadRecord}
use Rattle.gq_load.specs.Batches.{judged_by, IsWhole}
use Rattle.gq_load.proofs.batch.cut_record.Goals as goal

pub judge-requires-clause-count : goal.judge-requires-clause-count
judge-requires-clause-count c = ap length c.deref_mut.ensures.value ∙ c.requires.count

pub returns-clause-reads : goal.returns-clause-reads
returns-clause-reads c =
    let old : ReadRecord = c.args.into.now in
    let size : length c.judge.new.drafts ≡ old.drafts.len = omega (arith, c.judge.auto.drafts, c.deref_mut.ensures.len) in
    let same : (with_items old.drafts c.judge.new.drafts).items ≡ c.judge.new.drafts = with_items_is old.drafts c.judge.new.drafts size in
    record {
      fields = c.next.new.row;
      split = rw c.in-Ok-true.field-0-test at c.in-Ok-true.ensures;
      judged = λ read tells. ap (judged_by c.args.catalog.now c.args.routes.now c.in-Ok.verdict) same ∙ c.in-Ok.ensures.judged read tells;
    }

pub returns-clause-count : goal.returns-clause-count
returns-clause-count c =
    let old : ReadRecord = c.args.into.now in
    let size : length c.judge.new.drafts ≡ old.drafts.len = omega (arith, c.judge.auto.drafts, c.deref_mut.ensures.len) in
    ap length (with_items_is old.drafts c.judge.new.drafts size) ∙ omega (arith, c.judge.auto.drafts, ap length c.deref_mut.ensures.value, c.requires.count)

pub returns-clause-whole : goal.returns-clause-whole
returns-clause-whole c = λ _.
    let old : ReadRecord = c.args.into.now in
    let size : length c.judge.new.drafts ≡ old.drafts.len = omega (arith, c.judge.auto.drafts, c.deref_mut.ensures.len) in
    subst (λ (ds : List Draft). IsWhole c.args.catalog.now c.args.routes.now c.in-Ok.verdict ds) (sym (with_items_is old.drafts c.judge.new.drafts size)) c.in-Ok.ensures.whole
