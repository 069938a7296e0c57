use Rattle.std.proofs.Common.{◌≡◌, ◌<◌, ◌+◌, ◌-◌, length, take, subst, sym, arith}
use Rattle.gq_vertex.specs.Named.{IsSorted}
use Rattle.gq_vertex.proofs.SortedLemmas.{sorted_pop}
use Rattle.gq_vertex.proofs.index.cut_names.Goals as goal

pub loop-left-preserved : goal.loop-left-preserved
loop-left-preserved c =
    let rows = c.args.rows.now in let left = c.loop-left.left in
    let low : left - 1 < length rows = omega (arith, c.loop-left-test.true, c.loop-left.invariant.low) in
    let more : left - 1 + 1 ≡ left = omega (arith, c.loop-left-test.true) in
    record {
      sorted = sorted_pop rows (left - 1) c.index-rows-left.result c.loop-left.names c.take_out.new.names c.requires.apart low c.index-rows-left.is
          (subst (λ n. IsSorted (take n rows) c.loop-left.names) (sym more) c.loop-left.invariant.sorted) (rw (c.kind.ensures, c.id.ensures) at c.take_out.ensures);
      low = omega (arith, low);
      over = omega (arith, c.loop-left-test.true);
    }
