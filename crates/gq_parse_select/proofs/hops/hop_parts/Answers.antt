use Rattle.std.proofs.Common.{subst}
use Rattle.gq_grammar.specs.Lexemes.{sign}
use Rattle.gq_grammar.specs.Parsers.{Found, both, maybe}
use Rattle.gq_grammar.specs.Series.{ended}
use Rattle.gq_parse_select.specs.Selects.{hop_edges_parser, types_parser, alias_parser}
use Rattle.gq_parse_select.proofs.hops.hop_parts.Goals as goal

pub returns-in-Some : goal.returns-in-Some
returns-in-Some c =
    c.beside.ensures (both (ended (sign "->") hop_edges_parser) (maybe types_parser)) (maybe alias_parser) c.args.source.now c.args.at c.in-Some.at
    (subst (Found (both (ended (sign "->") hop_edges_parser) (maybe types_parser)) c.args.source.now c.args.at) c.in-Some.is c.in_ok-hop_targets.ensures) c.some_alias.ensures
