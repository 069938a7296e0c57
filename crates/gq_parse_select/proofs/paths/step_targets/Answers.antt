use Rattle.std.proofs.Common.{subst}
use Rattle.gq_grammar.specs.Lexemes.{sign}
use Rattle.gq_grammar.specs.Parsers.{Found, after}
use Rattle.gq_parse_select.specs.Selects.{step_edges_parser, types_parser}
use Rattle.gq_parse_select.proofs.paths.step_targets.Goals as goal

pub returns-in-Some : goal.returns-in-Some
returns-in-Some c =
    c.paired.ensures (step_edges_parser) (after (sign "-") types_parser) c.args.source.now c.args.at c.in-Some.at
    (subst (Found (step_edges_parser) c.args.source.now c.args.at) c.in-Some.is c.in_ok-step_edges.ensures) c.step_types.ensures
