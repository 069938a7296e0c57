use Rattle.std.proofs.Common.{◌≡◌, ◌<◌, ℕ, length, arith, Some, sym, ap, ◌∙◌}
use Rattle.std.specs.Prelude.{slice_get}
use Rattle.gq_load.specs.Drafts.{drafted}
use Rattle.gq_load.proofs.ListLemmas.{item_at, same_item, same_behind}
use Rattle.gq_load.proofs.DraftLemmas.{put_more, put_stops, err_as}
use Rattle.gq_load.proofs.FoundLemmas.{found_later}
use Rattle.gq_load.proofs.record.put_drafts.Goals as goal

pub put_draft-requires-clause-sized : goal.put_draft-requires-clause-sized
put_draft-requires-clause-sized c =
    let low : c.loop-place.place < length c.args.routes.now = omega arith in
    let room : c.loop-place.place < length c.loop-place.drafts = omega arith in
    let at_d : slice_get c.args.drafts.now c.loop-place.place ≡ Some c.index-drafts-place.result = sym (same_item _ _ c.loop-place.place c.loop-place.invariant.others) ∙ item_at _ _ _ room c.index-drafts-place.is in
    rw (← c.index-drafts-place.is) (c.requires.sized c.loop-place.place c.index-routes-place.result c.index-drafts-place.result (item_at _ _ _ low c.index-routes-place.is) at_d)

pub put_draft-requires-clause-found : goal.put_draft-requires-clause-found
put_draft-requires-clause-found c =
    let low : c.loop-place.place < length c.args.routes.now = omega arith in
    let room : c.loop-place.place < length c.loop-place.drafts = omega arith in
    let at_d : slice_get c.args.drafts.now c.loop-place.place ≡ Some c.index-drafts-place.result = sym (same_item _ _ c.loop-place.place c.loop-place.invariant.others) ∙ item_at _ _ _ room c.index-drafts-place.is in
    rw (← c.index-drafts-place.is) (found_later c.args.catalog.now c.args.store.now c.loop-place.store _ c.index-routes-place.result.target c.index-drafts-place.result c.ends_at-ends.result _ c.loop-place.invariant.done c.ends_at-ends.ensures
    (c.requires.found c.loop-place.place c.index-routes-place.result c.index-drafts-place.result (item_at _ _ _ low c.index-routes-place.is) at_d))

pub returns-in-Err-clause-puts : goal.returns-in-Err-clause-puts
returns-in-Err-clause-puts c =
    let low : c.loop-place.place < length c.args.routes.now = omega arith in
    let room : c.loop-place.place < length c.loop-place.drafts = omega arith in
    let at_d : slice_get c.args.drafts.now c.loop-place.place ≡ Some c.index-drafts-place.result = sym (same_item _ _ c.loop-place.place c.loop-place.invariant.others) ∙ item_at _ _ _ room c.index-drafts-place.is in
    put_stops ℕ ℕ c.args.catalog.now c.args.store.now c.loop-place.store c.put_draft.new.store c.args.routes.now c.args.drafts.now c.loop-place.place c.index-routes-place.result c.index-drafts-place.result c.in-Err.fault
    (item_at _ _ _ low c.index-routes-place.is) at_d c.requires.count c.loop-place.invariant.done
    (err_as ℕ ℕ c.loop-place.store c.put_draft.new.store _ _ c.in-Err.fault (ap (drafted c.args.catalog.now c.index-routes-place.result) c.index-drafts-place.is) c.in-Err.ensures.puts)

pub loop-place-preserved : goal.loop-place-preserved
loop-place-preserved c =
    let low : c.loop-place.place < length c.args.routes.now = omega arith in
    let room : c.loop-place.place < length c.loop-place.drafts = omega arith in
    let at_d : slice_get c.args.drafts.now c.loop-place.place ≡ Some c.index-drafts-place.result = sym (same_item _ _ c.loop-place.place c.loop-place.invariant.others) ∙ item_at _ _ _ room c.index-drafts-place.is in
    record {
      done = put_more c.args.catalog.now c.args.store.now c.loop-place.store c.put_draft.new.store c.args.routes.now c.args.drafts.now c.loop-place.place c.index-routes-place.result c.index-drafts-place.result
          (item_at _ _ _ low c.index-routes-place.is) at_d c.requires.count c.loop-place.invariant.done (rw (← c.index-drafts-place.is) at c.in-Ok.ensures.puts);
      others = same_behind c.loop-place.drafts c.args.drafts.now c.loop-place.place c.put_draft.new.draft c.loop-place.invariant.others;
      named = c.in-Ok.ensures.named;
    }
