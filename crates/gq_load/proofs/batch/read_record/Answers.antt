use Rattle.std.proofs.Common.{◌≡◌, List, length, arith, ap, subst, sym, ◌∙◌}
use Rattle.std.specs.Vec.{with_items}
use Rattle.std.proofs.lemmas.List.{with_items_is}
use Rattle.gq_load.specs.declared.draft.Draft.{Draft}
use Rattle.gq_load.specs.declared.record.ReadRecord.{ReadRecord}
use Rattle.gq_load.specs.declared.record.Verdict.TheVariants as verdict
use Rattle.gq_load.specs.Batches.{judged_by}
use Rattle.gq_load.specs.Drafts.{AreSized}
use Rattle.gq_load.specs.Straight.{IsReadFrom}
use Rattle.gq_load.proofs.batch.read_record.Goals as goal

pub read_line-requires-clause-count : goal.read_line-requires-clause-count
read_line-requires-clause-count c = ap length c.deref_mut.ensures.value ∙ c.requires.count

pub returns-in-Ok-true-clause-reads : goal.returns-in-Ok-true-clause-reads
returns-in-Ok-true-clause-reads c =
    let old : ReadRecord = c.args.into.now in
    let size : length c.read_line.new.drafts ≡ old.drafts.len = omega (arith, c.read_line.auto.drafts, c.deref_mut.ensures.len) in
    let same : (with_items old.drafts c.read_line.new.drafts).items ≡ c.read_line.new.drafts = with_items_is old.drafts c.read_line.new.drafts size in
    let from : IsReadFrom c.args.catalog.now c.args.routes.now c.args.records.now c.read_line.new.records c.read_line.new.drafts = c.in-Ok-true.ensures.reads c.in-Ok-true.field-0-test in
    record {
      fields = from.fields;
      split = from.split;
      judged = λ read tells. ap (judged_by c.args.catalog.now c.args.routes.now verdict.Loaded) same ∙ from.judged read tells;
    }

pub returns-in-Ok-true-clause-count : goal.returns-in-Ok-true-clause-count
returns-in-Ok-true-clause-count c =
    let old : ReadRecord = c.args.into.now in
    let size : length c.read_line.new.drafts ≡ old.drafts.len = omega (arith, c.read_line.auto.drafts, c.deref_mut.ensures.len) in
    ap length (with_items_is old.drafts c.read_line.new.drafts size) ∙ omega (arith, c.read_line.auto.drafts, ap length c.deref_mut.ensures.value, c.requires.count)

pub returns-in-Ok-true-clause-whole : goal.returns-in-Ok-true-clause-whole
returns-in-Ok-true-clause-whole c = λ _ _.
    let old : ReadRecord = c.args.into.now in
    let size : length c.read_line.new.drafts ≡ old.drafts.len = omega (arith, c.read_line.auto.drafts, c.deref_mut.ensures.len) in
    subst (λ (ds : List Draft). AreSized c.args.catalog.now c.args.routes.now ds) (sym (with_items_is old.drafts c.read_line.new.drafts size)) (c.in-Ok-true.ensures.sized c.in-Ok-true.field-0-test)
