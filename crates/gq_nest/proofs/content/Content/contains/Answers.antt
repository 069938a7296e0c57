use Rattle.gq_nest.proofs.TellSteps.{tells_set, tells_bag, tells_list, set_has, bag_has, list_has}
use Rattle.gq_nest.proofs.content.Content.contains.Goals as goal

pub returns-in-Set : goal.returns-in-Set
returns-in-Set c = tells_set _ _ _ _ c.in-Set.is (λ b. set_has _ _ _ c.contains.ensures)

pub returns-in-Bag : goal.returns-in-Bag
returns-in-Bag c = tells_bag _ _ _ _ c.in-Bag.is (λ b. bag_has _ _ _ _ c.as_slice.ensures c.contains-in-Bag.ensures.value)

pub returns-in-List : goal.returns-in-List
returns-in-List c = tells_list _ _ _ _ c.in-List.is (λ b. list_has _ _ _ _ c.as_slice-in-List.ensures c.contains-in-List.ensures.value)
