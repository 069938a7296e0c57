use Rattle.std.proofs.Common.{◌≡◌, ◌++◌, take}
use Rattle.gq_graph.specs.Spans.{even_spans}
use Rattle.gq_graph.proofs.spans.all.Given as goal

abbrev pub invariant-loop-number : goal.invariant-loop-number
invariant-loop-number l = l.all.items ≡ even_spans l.number l.width

abbrev pub invariant-loop-span : goal.invariant-loop-span
invariant-loop-span l = l.all.items ≡ even_spans l.even l.width ++ take l.span-index l.rest
