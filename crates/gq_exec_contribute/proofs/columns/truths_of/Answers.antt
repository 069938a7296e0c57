use Rattle.std.proofs.Common.{rules}
use Rattle.gq_exec_contribute.specs.Columns.{StandsTruth}
use Rattle.gq_exec_contribute.proofs.ColumnLemmas.{truths_none, list_more, list_none}
use Rattle.gq_exec_contribute.proofs.columns.truths_of.Goals as goal

pub loop-vertex-init : goal.loop-vertex-init
loop-vertex-init c = list_none (StandsTruth c.args.accums.now c.args.at.now.slot) c.new-truths.result c.new-truths.ensures

pub loop-vertex-preserved : goal.loop-vertex-preserved
loop-vertex-preserved c = list_more (StandsTruth c.args.accums.now c.args.at.now.slot) c.loop-vertex.vertex c.loop-vertex.truths c.push.new.self c.in-Some.truth c.in-Some.ensures (search rules) c.loop-vertex.invariant
