-- ExactReads: the grammar alone determines what a parser for it finds.
use Rattle.std.proofs.Common.{ℕ, ◌-◌, List, length, Some, None, arith}
use Rattle.gq_grammar.specs.Lexemes.{Terminal}
use Rattle.gq_grammar.specs.Languages.{Language}
use Rattle.gq_grammar.specs.Parsers.{Parser}
use Rattle.gq_grammar.proofs.Claims.{Reads}
use Rattle.gq_grammar.proofs.WholeLemmas.{longest, none}
use Rattle.gq_parse_common.specs.Exact.{IsExact}

pub exact : {A : Type 0} (D : Language A) (p : Parser A) (fs cs : List Terminal) → ((n : ℕ) → Reads n D D p fs cs) → IsExact D p
exact D p fs cs r all at None f = none (r (length all - at)) all at (omega arith) f
exact D p fs cs r all at (Some read) f = longest (r (length all - at)) all at read.0 read.1 (omega arith) f
