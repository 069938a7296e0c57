use Rattle.std.proofs.Common.{nat_eq, sym, subst}
use Rattle.std.specs.List.{IsDistinct}
use Rattle.gq_index.proofs.OrderLemmas.{none_distinct}
use Rattle.gq_index.proofs.vertex_list.VertexList.new.Goals as goal

pub invariant_of-result : goal.invariant_of-result
invariant_of-result c = subst (IsDistinct nat_eq) (sym c.new.ensures) none_distinct
