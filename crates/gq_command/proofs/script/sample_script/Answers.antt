use Rattle.gq_command.specs.Script.{script_text}
use Rattle.gq_command.proofs.FileLemmas.{three_parts}
use Rattle.gq_command.proofs.script.sample_script.Goals as goal

pub returns : goal.returns
unfolding script_text
returns c = three_parts _ _ _ _ _ _ c.in_ok-script.ensures.items c.in_ok-extend_from_slice.ensures.items c.in_ok-extend_from_slice-2.ensures.items
