use Rattle.std.proofs.Common.{◌≡◌, drop, map}
use Rattle.gq_value.specs.Views.{val}
use Rattle.gq_accum_laws.specs.Gather.{among}
use Rattle.gq_accum_laws.specs.Holds.{row_cmp}
use Rattle.gq_eval_builtins.proofs.elements.has_row.Given as goal

abbrev pub invariant-loop-other : goal.invariant-loop-other
invariant-loop-other l = among row_cmp (map val l.row) (map (map val) l.rows) ≡ among row_cmp (map val l.row) (map (map val) (drop l.other-index l.rows))
