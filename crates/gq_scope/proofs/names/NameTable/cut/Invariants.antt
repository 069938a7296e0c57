use Rattle.std.proofs.Common.{◌≡◌, ◌≤◌, take, vec_len}
use Rattle.gq_scope.specs.NameTables.{IsKept}
use Rattle.gq_scope.proofs.names.NameTable.cut.Given as goal

abbrev pub invariant-loop-self : goal.invariant-loop-self
invariant-loop-self g l = record {
  kept : IsKept l.self-inside.rows.items l.self-inside.hidden.items l.self-inside.last;
  enough : l.len ≤ vec_len l.self-inside.rows;
  same : take l.len l.self-inside.rows.items ≡ take l.len l.initial.self-inside.rows.items;
}

abbrev pub decreases-loop-self : goal.decreases-loop-self
decreases-loop-self g l = vec_len l.self-inside.rows
