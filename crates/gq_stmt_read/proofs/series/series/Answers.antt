use Rattle.std.proofs.Common.{Some, None, sym, subst}
use Rattle.gq_grammar.specs.Lexemes.{sign}
use Rattle.gq_grammar.specs.Parsers.{Found, separated}
use Rattle.gq_grammar.specs.Series.{chain}
use Rattle.gq_stmt_read.proofs.SeriesLemmas.{separated_none, separated_found, call_found}
use Rattle.gq_stmt_read.proofs.series.series.Goals as goal

pub returns-in-Some : goal.returns-in-Some
returns-in-Some g c = λ p f.
    separated_found p c.args.source.now c.args.at c.in-Some.read.0 c.in-Some.read.1
    (call_found (chain (sign ",") p) c.args.source.now c.args.at c.list.result c.in_ok-read.field-0 (Some c.in-Some.read) (c.list.ensures p f) c.in_ok-read.was c.in-Some.is)

pub returns-in-None : goal.returns-in-None
returns-in-None g c = λ p f.
    subst (λ z. Found (separated p) c.args.source.now c.args.at (Some (z, c.args.at))) (sym c.new.ensures)
    (separated_none p c.args.source.now c.args.at
    (call_found (chain (sign ",") p) c.args.source.now c.args.at c.list.result c.in_ok-read.field-0 None (c.list.ensures p f) c.in_ok-read.was c.in-None.is)
    c.requires.at)
