use Rattle.std.proofs.Common.{◌∙◌}
use Rattle.gq_nest.proofs.TellSteps.{tells_set, tells_bag, tells_list, tells_heap, tells_map, set_size, bag_size, list_size, heap_size, map_size}
use Rattle.gq_nest.proofs.GroupSteps.{tells_group, group_size}
use Rattle.gq_nest.proofs.content.Content.size.Goals as goal

pub returns-in-Set : goal.returns-in-Set
returns-in-Set c = tells_set _ _ _ _ c.in-Set.is (λ b. set_size _ _ c.len.ensures.len c.len.ensures.ordered)

pub returns-in-Bag : goal.returns-in-Bag
returns-in-Bag c = tells_bag _ _ _ _ c.in-Bag.is (λ b. bag_size _ _ c.len-in-Bag.ensures)

pub returns-in-List : goal.returns-in-List
returns-in-List c = tells_list _ _ _ _ c.in-List.is (λ b. list_size _ _ c.len-in-List.ensures)

pub returns-in-Heap : goal.returns-in-Heap
returns-in-Heap c = tells_heap _ _ _ _ c.in-Heap.is (λ b. c.min.ensures ∙ heap_size _ _ _ c.len-in-Heap.ensures c.from.ensures)

pub returns-in-Map : goal.returns-in-Map
returns-in-Map c = tells_map _ _ _ _ _ c.in-Map.is (λ b k. map_size _ _ c.len-in-Map.ensures.len c.len-in-Map.ensures.ordered)

pub returns-in-Group : goal.returns-in-Group
returns-in-Group c = tells_group _ _ _ _ _ c.in-Group.is (λ keys ps. group_size _ _ c.len-in-Group.ensures.len c.len-in-Group.ensures.ordered)
