use Rattle.std.proofs.Common.{◌≡◌, List, map}
use Rattle.gq_value.specs.declared.value.Value.{Value}
use Rattle.gq_value.specs.Views.{val}
use Rattle.gq_accum_laws.specs.Gather.{distinct}
use Rattle.gq_accum_laws.specs.Holds.{row_cmp}
use Rattle.gq_nest.specs.Entries.{key_row, group_row, rows}
use Rattle.gq_nest.specs.Tells.{Tells, keys_of}
use Rattle.gq_nest.proofs.TellSteps.{if_ok, tells_map}
use Rattle.gq_nest.proofs.GroupSteps.{tells_group}
use Rattle.gq_nest.proofs.content.Content.keys.Goals as goal

pub returns-in-Map : goal.returns-in-Map
returns-in-Map c = if_ok c.key_rows.result (λ (all : List (List Value)). map (map val) all ≡ distinct row_cmp (rows key_row c.in-Map.entries.entries)) (λ all. Tells c.args.self.now (map (map val) all) keys_of) c.key_rows.ensures (λ all h. tells_map _ _ _ _ _ c.in-Map.is (λ b k. h))

pub returns-in-Group : goal.returns-in-Group
returns-in-Group c = if_ok c.group_rows.result (λ (all : List (List Value)). map (map val) all ≡ distinct row_cmp (rows group_row c.in-Group.groups.entries)) (λ all. Tells c.args.self.now (map (map val) all) keys_of) c.group_rows.ensures (λ all h. tells_group _ _ _ _ _ c.in-Group.is (λ keys ps. h))
