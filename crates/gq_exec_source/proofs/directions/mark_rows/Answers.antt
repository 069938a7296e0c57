use Rattle.std.proofs.Common.{◌∙◌, ◌||◌, ap, arith}
use Rattle.gq_exec_source.specs.Directions.{leads_from}
use Rattle.gq_exec_source.specs.Marks.{is_marked}
use Rattle.gq_exec_source.proofs.LeadingLemmas.{any_so_far}
use Rattle.gq_exec_source.proofs.directions.mark_rows.Goals as goal

pub loop-row-preserved : goal.loop-row-preserved
loop-row-preserved c = record {
  len = c.mark_row.ensures.len ∙ c.loop-row.invariant.len;
  marks = λ v low.
      any_so_far (λ row. leads_from c.args.directions.now c.args.targets.now row v) c.args.rows.now c.loop-row.row-index c.row-item.result (is_marked c.args.words.now v) (is_marked c.loop-row.words v) (is_marked c.mark_row.new.words v)
      c.loop-row-test.true (c.loop-row.invariant.marks v low) (c.mark_row.ensures.marks v (omega (arith, low, c.loop-row.invariant.len)) ∙ ap (λ x. is_marked c.loop-row.words v || leads_from c.args.directions.now c.args.targets.now x v) c.row-item.is);
}
