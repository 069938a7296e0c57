use Rattle.std.proofs.Common.{◌≡◌, List, map, take, ap}
use Rattle.gq_value.specs.declared.value.Value.{Value}
use Rattle.gq_value.specs.Views.{val}
use Rattle.gq_value.specs.Order.{place}
use Rattle.gq_accum_laws.specs.Gather.{sorted, distinct}
use Rattle.gq_accum_laws.specs.Holds.{heap_cmp}
use Rattle.gq_nest.specs.Tells.{Tells, elements_of}
use Rattle.gq_nest.proofs.TellSteps.{if_ok, tells_set, tells_bag, tells_list, tells_heap}
use Rattle.gq_nest.proofs.content.Content.elements.Goals as goal

pub returns-in-Set : goal.returns-in-Set
returns-in-Set c = if_ok c.keys_in_order.result (λ (row : List Value). map val row ≡ distinct place (map val c.in-Set.keys.keys)) (λ row. Tells c.args.self.now (map val row) elements_of) c.keys_in_order.ensures (λ row h. tells_set _ _ _ _ c.in-Set.is (λ b. h))

pub returns-in-Bag : goal.returns-in-Bag
returns-in-Bag c = if_ok c.sorted_row.result (λ (row : List Value). map val row ≡ sorted place (map val c.in-Bag.items)) (λ row. Tells c.args.self.now (map val row) elements_of) (rw c.as_slice.ensures at c.sorted_row.ensures) (λ row h. tells_bag _ _ _ _ c.in-Bag.is (λ b. h))

pub returns-in-List : goal.returns-in-List
returns-in-List c = if_ok c.duplicate_row.result (λ (row : List Value). row ≡ c.in-List.items) (λ row. Tells c.args.self.now (map val row) elements_of) (rw c.as_slice-in-List.ensures at c.duplicate_row.ensures) (λ row h. tells_list _ _ _ _ c.in-List.is (λ b. ap (map val) h))

pub returns-in-Heap : goal.returns-in-Heap
returns-in-Heap c = if_ok c.first.result (λ (row : List Value). map val row ≡ take c.in-Heap.heap.capacity (sorted (heap_cmp c.in-Heap.heap.order) (map val c.in-Heap.heap.tuples))) (λ row. Tells c.args.self.now (map val row) elements_of) c.first.ensures (λ row h. tells_heap _ _ _ _ c.in-Heap.is (λ b. h))
