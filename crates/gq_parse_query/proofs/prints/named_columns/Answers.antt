use Rattle.std.proofs.Common.{subst}
use Rattle.gq_grammar.specs.Parsers.{Found, maybe}
use Rattle.gq_parse_select.specs.Bodies.{item_columns_parser, as_name_parser, named_columns_parser}
use Rattle.gq_parse_query.proofs.prints.named_columns.Goals as goal

pub returns-in-Some : goal.returns-in-Some
unfolding named_columns_parser
returns-in-Some c =
    c.beside.ensures (item_columns_parser) (maybe as_name_parser) c.args.source.now c.args.at c.in-Some.at
    (subst (Found (item_columns_parser) c.args.source.now c.args.at) c.in-Some.is c.in_ok-item_columns.ensures) c.some_name.ensures
