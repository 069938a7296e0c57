use Rattle.std.proofs.Common.{◌≡◌, ◌*◌, length}
use Rattle.gq_load.proofs.FoundLemmas.{FoundTo}
use Rattle.gq_load.proofs.ahead.look_ahead.Given as goal

abbrev pub invariant-loop-place : goal.invariant-loop-place
invariant-loop-place l = record {
  long : length l.found ≡ l.place * 256;
  found : FoundTo l.catalog l.routes l.batch l.store.vertices l.found l.place;
}
