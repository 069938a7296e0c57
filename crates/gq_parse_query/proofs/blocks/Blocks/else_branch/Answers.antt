use Rattle.std.proofs.Common.{IfOk, Some, subst}
use Rattle.std.specs.Option.{option_map}
use Rattle.gq_grammar.specs.Lexemes.{sign, word}
use Rattle.gq_grammar.specs.Parsers.{Found, both, made, maybe, one, many}
use Rattle.gq_grammar.specs.Series.{ended, one_and_all}
use Rattle.gq_parse_select.specs.Bodies.{nested_parser, plain_parser, stmts_parser, else_parser}
use Rattle.gq_parse_query.proofs.ItemLemmas.{marked_series}
use Rattle.gq_parse_query.proofs.blocks.Blocks.else_branch.Goals as goal

pub returns-in_ok-statements-in-Some : goal.returns-in_ok-statements-in-Some
unfolding else_parser stmts_parser
returns-in_ok-statements-in-Some g c =
    marked_series (word "ELSE") (ended (sign ";") (plain_parser (nested_parser c.args.self.now.levels))) (many (ended (sign ";") (nested_parser c.args.self.now.levels))) c.args.self.now.source.now c.args.at c.in-Some.next c.in_ok-statements-in-Some.end c.in_ok-statements-in-Some.statements c.listed.result c.listed.ensures
    (subst (λ s. Found (one (word "ELSE")) c.args.self.now.source.now c.args.at (option_map (λ next. (tt, next)) s)) c.in-Some.is c.keyword.ensures)
    (subst (λ r. IfOk r (λ read. Found (maybe (made one_and_all (both (ended (sign ";") (plain_parser (nested_parser c.args.self.now.levels))) (many (ended (sign ";") (nested_parser c.args.self.now.levels)))))) c.args.self.now.source.now c.in-Some.next (Some read))) c.in_ok-statements-in-Some.was c.some_plain_and_more.ensures)
