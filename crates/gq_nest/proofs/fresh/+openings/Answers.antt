use Rattle.std.proofs.Common.{refl, ◌∙◌, rules}
use Rattle.gq_value.specs.AccumViews.{accum_of}
use Rattle.gq_accum_laws.specs.After.{fresh}
use Rattle.gq_nest.specs.Shows.{Shows}
use Rattle.gq_nest.proofs.PartSteps.{pairs_next}
use Rattle.gq_nest.proofs.GroupSteps.{fresh_group}
use Rattle.gq_nest.proofs.FreshSteps.{fresh_scalar, fresh_set, fresh_bag, fresh_list, fresh_heap, fresh_map}
use Rattle.gq_nest.proofs.fresh.+openings.Goals as goal

pub fresh-returns-in-Sum : goal.fresh-returns-in-Sum
fresh-returns-in-Sum t c = fresh_scalar _ _ c.fresh-in-Sum.ensures

pub fresh-returns-in-Set : goal.fresh-returns-in-Set
fresh-returns-in-Set t c = fresh_set _ _ _ c.in-Set.is c.new.ensures.empty

pub fresh-returns-in-Bag : goal.fresh-returns-in-Bag
fresh-returns-in-Bag t c = fresh_bag _ _ _ c.in-Bag.is c.new-in-Bag.ensures

pub fresh-returns-in-List : goal.fresh-returns-in-List
fresh-returns-in-List t c = fresh_list _ _ _ c.in-List.is c.new-in-List.ensures

pub fresh-returns-in_ok-new-in-Heap : goal.fresh-returns-in_ok-new-in-Heap
fresh-returns-in_ok-new-in-Heap t c = fresh_heap _ _ _ c.in-Heap.is refl (c.in_ok-new-in-Heap.ensures ∙ c.in_ok-from_slice-in-Heap.ensures ∙ c.as_slice.ensures) c.new-in-Heap-2.ensures

pub fresh-returns-in_ok-new-in-Map : goal.fresh-returns-in_ok-new-in-Map
fresh-returns-in_ok-new-in-Map t c = fresh_map _ _ _ _ _ c.in-Map.is (rw (← c.in_ok-new-in-Map.ensures, c.get.ensures) at c.in_ok-opening-in-Map.ensures) c.new-in-Map-2.ensures.empty

pub fresh-returns-in_ok-new-in-Group : goal.fresh-returns-in_ok-new-in-Group
fresh-returns-in_ok-new-in-Group t c = fresh_group _ _ _ _ c.in-Group.is (rw (← c.in_ok-new-in-Group.ensures, c.as_slice-in-Group.ensures) at c.in_ok-openings-in-Group.ensures) c.new-in-Group-2.ensures.empty

pub fresh_parts-loop-kind-preserved : goal.fresh_parts-loop-kind-preserved
fresh_parts-loop-kind-preserved t c = pairs_next (λ p x. Shows (accum_of p.1) x (fresh (accum_of p.1))) _ _ _ _ _ _ (search rules) c.loop-kind-item.is c.in_ok-fresh.ensures c.in_ok-push.ensures.ok c.loop-kind.invariant
