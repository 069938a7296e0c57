use Rattle.gq_load_csv.proofs.DigitLemmas.{SoFar}
use Rattle.gq_load_csv.proofs.numbers.few_digits.Given as goal

abbrev pub invariant-loop-byte : goal.invariant-loop-byte
invariant-loop-byte l = SoFar l.text l.byte-index l.number
