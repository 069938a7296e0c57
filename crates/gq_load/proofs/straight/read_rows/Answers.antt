use Rattle.std.proofs.Common.{◌≡◌, ◌<◌, length, arith, Some, ◌∙◌, subst}
use Rattle.std.specs.Prelude.{slice_get}
use Rattle.std.proofs.lemmas.List.{take_more_set, length-set}
use Rattle.std.proofs.lemmas.Option.{slice_get_within}
use Rattle.gq_load_csv.specs.Next.{NextRecord}
use Rattle.gq_load.specs.Rows.{steps_along, steps_of}
use Rattle.gq_load.specs.Drafts.{drafted}
use Rattle.gq_load.proofs.ListLemmas.{item_at}
use Rattle.gq_load.proofs.DraftLemmas.{steps_more, steps_end, sized_more}
use Rattle.gq_load.proofs.straight.read_rows.Goals as goal

pub loop-place-preserved : goal.loop-place-preserved
loop-place-preserved c =
    let low : c.loop-place.place < length c.args.routes.now = omega arith in
    let at : slice_get c.args.routes.now c.loop-place.place ≡ Some c.index-routes-place.result = item_at _ _ _ low c.index-routes-place.is in
    let room : c.loop-place.place < length c.loop-place.drafts = omega arith in
    let same : c.restart.new.self ≡ c.args.line.now = c.restart.ensures ∙ c.loop-place.invariant.same in
    record {
      reads = λ read tells. steps_more (steps_of read c.args.catalog.now c.args.routes.now c.args.line.now.fields) read c.args.catalog.now c.args.routes.now c.loop-place.drafts _ c.args.line.now.fields c.loop-place.place
          c.index-routes-place.result c.read_row.new.draft at c.loop-place.invariant.count (take_more_set c.loop-place.drafts c.loop-place.place c.read_row.new.draft room)
          (subst (λ (n : NextRecord). steps_along read c.args.catalog.now c.index-routes-place.result n.fields ≡ Some (drafted c.args.catalog.now c.index-routes-place.result c.read_row.new.draft)) same
          (c.in-Ok-true.ensures.reads c.in-Ok-true.field-0-test read tells)) (c.loop-place.invariant.reads read tells);
      count = length-set c.loop-place.drafts c.loop-place.place c.read_row.new.draft ∙ c.loop-place.invariant.count;
      sized = sized_more c.args.catalog.now c.args.routes.now c.loop-place.drafts c.loop-place.place c.index-routes-place.result c.read_row.new.draft at room (c.in-Ok-true.ensures.sized c.in-Ok-true.field-0-test) c.loop-place.invariant.sized;
      same = c.read_row.ensures.same ∙ same;
    }

pub returns-clause-reads : goal.returns-clause-reads
returns-clause-reads c = λ ok read tells.
    steps_end (steps_of read c.args.catalog.now c.args.routes.now c.args.line.now.fields) read c.args.catalog.now c.args.routes.now c.loop-place.drafts c.args.line.now.fields c.loop-place.place
    (omega arith) c.loop-place.invariant.count (c.loop-place.invariant.reads read tells)

pub returns-clause-sized : goal.returns-clause-sized
returns-clause-sized c = λ ok k route draft at_r at_d. c.loop-place.invariant.sized k route draft (let low = slice_get_within c.args.routes.now k route at_r in omega arith) at_r at_d
