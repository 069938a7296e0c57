use Rattle.gq_output.proofs.SlotLemmas.{NamedFrom}
use Rattle.gq_output.proofs.attributes.accum_name.Given as goal

-- the name is among those of the definitions left, after as many others
abbrev pub invariant-loop-definition : goal.invariant-loop-definition
invariant-loop-definition l = NamedFrom l.definitions l.number l.definition-index l.left
