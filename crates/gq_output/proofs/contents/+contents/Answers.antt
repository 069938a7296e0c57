use Rattle.std.proofs.Common.{rules, ℕ, ◌<◌, ◌≤◌, List, length, map, ap, sym, subst, ◌∙◌, arith}
use Rattle.std.specs.Map.Iter.{deref_pair}
use Rattle.std.proofs.lemmas.Map.Iter.{rest_more}
use Rattle.gq_value.specs.declared.kind.BaseType.{BaseType}
use Rattle.gq_value.specs.declared.kind.Kind.{Kind}
use Rattle.gq_value.specs.Accums.{TUPLE, SetAccum, BagAccum, ListAccum, MapAccum, HeapAccum}
use Rattle.gq_value.specs.AccumViews.{accum_of, base_of, bases}
use Rattle.gq_value.proofs.AccumLemmas.{accum_of-Set, accum_of-Bag, accum_of-List, accum_of-Map, accum_of-Group, accum_of-Heap}
use Rattle.gq_rules_calendar.specs.Gregorian.{gregorian}
use Rattle.gq_eval_operand.specs.Meant.{keys_are, parts_are, sort_is}
use Rattle.gq_eval_context.specs.Looks.{world_over}
use Rattle.gq_output.specs.Printed.{AreShown, IsMap, part_kinds}
use Rattle.gq_output.proofs.ContentLemmas.{entries_first, groups_first, groups_more, group_put, group_asked, map_asked, map_told, set_told, bag_told, list_told, heap_told, parts_all, parts_next}
use Rattle.gq_output.proofs.contents.+contents.Goals as goal

pub entries-loop-key-init : goal.entries-loop-key-init
entries-loop-key-init t c =
    let e = c.into_iter-key-iterator.ensures.into_iter_gives in
    entries_first (world_over gregorian c.args.over.now) (accum_of c.args.kind.now) c.args.content.now _ _ _ _ c.in-Map.is e.1 c.requires c.new-members.ensures e.0

pub groups-loop-row-init : goal.groups-loop-row-init
groups-loop-row-init t c =
    let e = c.into_iter-row-iterator.ensures.into_iter_gives in
    groups_first (world_over gregorian c.args.over.now) (keys_are c.args.shape.now) (parts_are c.args.shape.now) c.args.content.now _ _ _ _ c.in-Group.is e.1 c.requires c.new-outs.ensures e.0

pub groups-loop-row-preserved : goal.groups-loop-row-preserved
groups-loop-row-preserved t c =
    groups_more (world_over gregorian c.args.over.now) (keys_are c.args.shape.now) (parts_are c.args.shape.now) c.args.content.now c.loop-row.outs _ _ _ _ _ c.lent-parts.result.now c.as_slice.result.now _ (rest_more deref_pair _ _ _ _ c.in-Some.is c.next.ensures.steps)
    c.lent-parts.ensures.parts c.as_slice.ensures.value c.in_ok-group-in-Group.ensures c.in_ok-push-in-Group.ensures.ok c.loop-row.invariant

pub group-returns : goal.group-returns
group-returns t c =
    group_put (world_over gregorian c.args.over.now) c.args.shape.now c.args.row.now c.args.parts.now _ _ _ c.as_slice.result.now c.as_slice-2.result.now c.new-members.ensures c.as_slice.ensures c.as_slice-2.ensures c.in_ok-put_keys.ensures c.in_ok-put_parts.ensures

pub out_content-entries-requires : goal.out_content-entries-requires
out_content-entries-requires t c =
    ((search rules), subst (λ (k : Kind). IsMap (accum_of k) c.args.content.now) (sym c.get.ensures) (map_asked (accum_of c.args.kind.now) (base_of c.in-Map.field-0) (accum_of c.in-Map.inner) c.args.content.now (ap accum_of c.in-Map.is ∙ accum_of-Map c.in-Map.field-0 c.in-Map.inner) c.requires))

pub out_content-groups-requires : goal.out_content-groups-requires
out_content-groups-requires t c =
    ((search rules), group_asked (accum_of c.args.kind.now) (keys_are c.in-Group.shape) (parts_are c.in-Group.shape) c.args.content.now (ap accum_of c.in-Group.is ∙ accum_of-Group c.in-Group.shape) c.requires)

pub out_content-returns-in-Set : goal.out_content-returns-in-Set
out_content-returns-in-Set t c =
    set_told (world_over gregorian c.args.over.now) (sort_is c.of.result) (accum_of c.args.kind.now) c.args.content.now c.collection.result (ap accum_of c.in-Set.is ∙ accum_of-Set c.in-Set.base ∙ ap SetAccum (sym c.of.ensures)) c.requires c.collection.ensures

pub out_content-returns-in-Bag : goal.out_content-returns-in-Bag
out_content-returns-in-Bag t c =
    bag_told (world_over gregorian c.args.over.now) (sort_is c.of-in-Bag.result) (accum_of c.args.kind.now) c.args.content.now c.collection-in-Bag.result (ap accum_of c.in-Bag.is ∙ accum_of-Bag c.in-Bag.base ∙ ap BagAccum (sym c.of-in-Bag.ensures)) c.requires c.collection-in-Bag.ensures

pub out_content-returns-in-List : goal.out_content-returns-in-List
out_content-returns-in-List t c =
    list_told (world_over gregorian c.args.over.now) (sort_is c.of-in-List.result) (accum_of c.args.kind.now) c.args.content.now c.collection-in-List.result (ap accum_of c.in-List.is ∙ accum_of-List c.in-List.base ∙ ap ListAccum (sym c.of-in-List.ensures)) c.requires
    c.collection-in-List.ensures

pub out_content-returns-in-Heap : goal.out_content-returns-in-Heap
out_content-returns-in-Heap t c =
    let shape = c.in-Heap.shape in
    heap_told (world_over gregorian c.args.over.now) (TUPLE shape.tuple (bases (map base_of c.as_slice.result.now))) (accum_of c.args.kind.now) c.args.content.now shape.capacity shape.order c.collection-in-Heap.result
    (ap accum_of c.in-Heap.is ∙ accum_of-Heap shape ∙ ap (λ (ts : List BaseType). HeapAccum (TUPLE shape.tuple (bases (map base_of ts))) shape.capacity shape.order) (sym c.as_slice.ensures)) c.requires c.collection-in-Heap.ensures

pub out_content-returns-in_ok-entries-in-Map : goal.out_content-returns-in_ok-entries-in-Map
out_content-returns-in_ok-entries-in-Map t c =
    map_told (world_over gregorian c.args.over.now) (accum_of c.args.kind.now) (base_of c.in-Map.field-0) (accum_of c.get.result.now) c.args.content.now _
    (ap accum_of c.in-Map.is ∙ accum_of-Map c.in-Map.field-0 c.in-Map.inner ∙ ap (λ (k : Kind). MapAccum (base_of c.in-Map.field-0) (accum_of k)) (sym c.get.ensures)) c.in_ok-entries-in-Map.ensures

pub put_parts-loop-place-preserved : goal.put_parts-loop-place-preserved
put_parts-loop-place-preserved t c =
    let n : c.loop-place.place < length c.args.parts.now = omega arith in
    parts_next (world_over gregorian c.args.over.now) c.args.kinds.now c.args.parts.now _ c.loop-place.members _ c.loop-place.place _ c.kind_at-kind.result.now c.as_str.result.now _ c.loop-place.invariant c.kind_at-kind.ensures.kind n c.index-parts-place.is c.as_str.ensures
    c.in_ok-value.ensures c.in_ok-put.ensures

pub put_parts-returns : goal.put_parts-returns
put_parts-returns t c =
    let n : length c.args.parts.now ≤ c.loop-place.place = omega arith in
    parts_all (world_over gregorian c.args.over.now) c.args.kinds.now c.args.parts.now _ c.loop-place.members c.loop-place.place c.loop-place.invariant n

pub group-put_parts-requires : goal.group-put_parts-requires
group-put_parts-requires t c = ((search rules), subst (λ (qs : List (List ℕ × Kind)). AreShown (part_kinds qs) c.args.parts.now) (sym c.as_slice-2.ensures) c.requires)
