use Rattle.std.proofs.Common.{◌≡◌, map, take}
use Rattle.gq_grammar.specs.Lexemes.{lexeme_of}
use Rattle.gq_grammar.specs.Series.{joined}
use Rattle.gq_grammar.proofs.source.Source.joined.Given as goal

-- the text joins the tokens so far
abbrev pub invariant-loop-token : goal.invariant-loop-token
invariant-loop-token l = l.text.items ≡ joined (map (lexeme_of l.self-inside.bytes.now) (take l.token-index l.token-items))
