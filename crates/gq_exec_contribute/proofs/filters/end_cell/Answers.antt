use Rattle.gq_exec_contribute.specs.Filters.{IsEndOf}
use Rattle.gq_exec_contribute.proofs.NameLemmas.{moved, post_view}
use Rattle.gq_exec_contribute.proofs.filters.end_cell.Goals as goal

pub returns-in-Post : goal.returns-in-Post
returns-in-Post c = moved (IsEndOf c.args.leaves.now) _ _ c.end_behind.result (post_view c.args.expr.now c.in-Post.first c.get.result.now c.in-Post.parts c.as_slice.result.now c.in-Post.is c.get.ensures c.as_slice.ensures) c.end_behind.ensures
