use Rattle.gq_nest.proofs.GroupSteps.{lacks_row, gets_part}
use Rattle.gq_nest.proofs.content.Content.part_at.Goals as goal

pub returns-in-Some : goal.returns-in-Some
returns-in-Some c = gets_part _ _ _ c.in-Group.is _ _ c.as_slice.ensures _ _ c.in-Some.ensures.value c.as_slice-in-Some.ensures _ _ c.get-in-Some.ensures.lookup

pub returns-in-None : goal.returns-in-None
returns-in-None c = lacks_row _ _ _ c.in-Group.is _ _ c.as_slice.ensures _ c.in-None.ensures.value
