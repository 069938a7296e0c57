use Rattle.std.proofs.Common.{◌≡◌, ◌<◌, ◌*◌, ◌&&◌, ℕ, nat_lt, length}
use Rattle.gq_index.specs.Sights.{vertex_kinds}
use Rattle.gq_exec_source.specs.Indexed.{leads_on}
use Rattle.gq_exec_source.specs.Marks.{is_marked}
use Rattle.gq_exec_source.proofs.indexed.targets_of.Given as goal

abbrev pub invariant-loop-vertex : goal.invariant-loop-vertex
invariant-loop-vertex l = record {
  room : length l.graph.store.now.vertices < length l.words * 64;
  marks : (v : ℕ) → is_marked l.words v ≡ (nat_lt v l.vertex && leads_on (vertex_kinds l.graph.store.now.vertices) l.targets l.rest v);
}
