use Rattle.std.proofs.Common.{subst}
use Rattle.gq_grammar.specs.Lexemes.{sign}
use Rattle.gq_grammar.specs.Parsers.{Found}
use Rattle.gq_grammar.specs.Series.{chain}
use Rattle.gq_parse_common.specs.Kinds.{base_parser}
use Rattle.gq_parse_select.specs.Bodies.{new_name_parser}
use Rattle.gq_parse_select.proofs.assigns.base_and_names.Goals as goal

pub returns-in-Some : goal.returns-in-Some
returns-in-Some c =
    c.paired.ensures (base_parser) (chain (sign ",") new_name_parser) c.args.source.now c.args.at c.in-Some.at
    (subst (Found (base_parser) c.args.source.now c.args.at) c.in-Some.is c.in_ok-base.ensures) c.new_names.ensures
