use Rattle.std.proofs.Common.{◌≡◌, ◌<◌, length, arith, Some, ◌∙◌}
use Rattle.std.specs.Prelude.{slice_get}
use Rattle.std.proofs.lemmas.List.{take_more_set, length-set}
use Rattle.std.proofs.lemmas.Option.{slice_get_within}
use Rattle.gq_load.specs.Rows.{steps_of}
use Rattle.gq_load.proofs.ListLemmas.{item_at}
use Rattle.gq_load.proofs.DraftLemmas.{steps_more, sized_more}
use Rattle.gq_load.proofs.record.read_drafts.Goals as goal

pub loop-place-preserved : goal.loop-place-preserved
loop-place-preserved c =
    let low : c.loop-place.place < length c.args.routes.now = omega arith in
    let at : slice_get c.args.routes.now c.loop-place.place ≡ Some c.index-routes-place.result = item_at _ _ _ low c.index-routes-place.is in
    let room : c.loop-place.place < length c.loop-place.drafts = omega arith in
    record {
      reads = λ read tells. steps_more (steps_of read c.args.catalog.now c.args.routes.now c.args.row.now) read c.args.catalog.now c.args.routes.now c.loop-place.drafts _ c.args.row.now c.loop-place.place
          c.index-routes-place.result c.read_draft.new.draft at c.loop-place.invariant.count (take_more_set c.loop-place.drafts c.loop-place.place c.read_draft.new.draft room) (rw c.in-Ok-true.field-0-test at (c.in-Ok-true.ensures.reads read tells)) (c.loop-place.invariant.reads read tells);
      count = length-set c.loop-place.drafts c.loop-place.place c.read_draft.new.draft ∙ c.loop-place.invariant.count;
      sized = sized_more c.args.catalog.now c.args.routes.now c.loop-place.drafts c.loop-place.place c.index-routes-place.result c.read_draft.new.draft at room (c.in-Ok-true.ensures.sized c.in-Ok-true.field-0-test) c.loop-place.invariant.sized;
    }

pub returns-clause-sized : goal.returns-clause-sized
returns-clause-sized c ok k route draft at_r at_d = c.loop-place.invariant.sized k route draft (let low = slice_get_within c.args.routes.now k route at_r in omega arith) at_r at_d
