use Rattle.std.proofs.Common.{length}
use Rattle.std.proofs.lemmas.List.{length-map}
use Rattle.gq_grammar.specs.Lexemes.{lexeme_of, lexemes_of}
use Rattle.gq_expr_read.proofs.Productions.{longest_of, none_of}
use Rattle.gq_expr_read.proofs.read.read_expr.Goals as goal

pub returns-in-None-clause-none : goal.returns-in-None-clause-none
returns-in-None-clause-none c = λ _.
    none_of (lexemes_of c.args.bytes.now c.args.tokens.now) c.new-source.result (length c.args.tokens.now) c.args.at c.new-source.ensures
    (length-map c.args.tokens.now (lexeme_of c.args.bytes.now)) (rw c.in-None.is at c.in_ok-expr.ensures)

pub returns-in-Some-clause-found : goal.returns-in-Some-clause-found
returns-in-Some-clause-found c =
    longest_of (lexemes_of c.args.bytes.now c.args.tokens.now) c.new-source.result (length c.args.tokens.now) c.args.at c.in-Some.read.0 c.in-Some.read.1 c.new-source.ensures
    (length-map c.args.tokens.now (lexeme_of c.args.bytes.now)) (rw c.in-Some.is at c.in_ok-expr.ensures)
