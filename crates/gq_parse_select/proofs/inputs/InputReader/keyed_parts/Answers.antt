use Rattle.std.proofs.Common.{subst}
use Rattle.gq_grammar.specs.Lexemes.{sign}
use Rattle.gq_grammar.specs.Parsers.{Found}
use Rattle.gq_grammar.specs.Series.{chain}
use Rattle.gq_parse_common.specs.Expression.{expression}
use Rattle.gq_parse_select.specs.Acts.{nested_input_parser, inputs_parser}
use Rattle.gq_parse_select.proofs.inputs.InputReader.keyed_parts.Goals as goal

pub returns-in-Some : goal.returns-in-Some
returns-in-Some g c =
    c.paired.ensures (chain (sign ",") expression) (inputs_parser (nested_input_parser c.args.self.now.levels)) c.args.self.now.source.now c.args.at c.in-Some.at
    (subst (Found (chain (sign ",") expression) c.args.self.now.source.now c.args.at) c.in-Some.is c.in_ok-keys.ensures) c.inputs.ensures
