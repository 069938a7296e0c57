use Rattle.std.proofs.Common.{rules}
use Rattle.gq_load_check.proofs.FileLemmas.{files_back}
use Rattle.gq_load_check.proofs.files.JobFiles.of.Goals as goal

pub loop-place-preserved : goal.loop-place-preserved
loop-place-preserved c = (
  files_back c.args.lines.now c.loop-place.place c.index-lines-place.result c.loop-place.files c.add_file.new.files (search rules) (search rules)
      c.index-lines-place.is c.loop-place.invariant.0 c.in_ok-add_file.ensures.added,
  c.in_ok-add_file.ensures.placed,
)
