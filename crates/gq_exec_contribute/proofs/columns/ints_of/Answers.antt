use Rattle.std.proofs.Common.{rules}
use Rattle.gq_exec_contribute.specs.Columns.{StandsInt}
use Rattle.gq_exec_contribute.proofs.ColumnLemmas.{ints_none, list_more, list_none}
use Rattle.gq_exec_contribute.proofs.columns.ints_of.Goals as goal

pub loop-vertex-init : goal.loop-vertex-init
loop-vertex-init c = list_none (StandsInt c.args.accums.now c.args.at.now.slot) c.new-ints.result c.new-ints.ensures

pub loop-vertex-preserved : goal.loop-vertex-preserved
loop-vertex-preserved c = list_more (StandsInt c.args.accums.now c.args.at.now.slot) c.loop-vertex.vertex c.loop-vertex.ints c.push.new.self c.in-Some.x c.in-Some.ensures (search rules) c.loop-vertex.invariant
