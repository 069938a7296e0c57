use Rattle.std.proofs.Common.{◌∙◌, Some, ap, subst, sym}
use Rattle.std.specs.Str.{IsAscii}
use Rattle.gq_token.specs.Spelling.{TokenOf}
use Rattle.gq_token.specs.Cut.{text_of}
use Rattle.gq_token.proofs.WordLemmas.{global_ascii}
use Rattle.gq_token.proofs.token.Token.global.Goals as goal

pub ascii-requires : goal.ascii-requires
ascii-requires c =
    subst IsAscii (sym c.text.ensures) (global_ascii (text_of c.args.bytes.now c.args.self.now) (c.requires.spells ∙ ap (λ shape. Some (TokenOf shape)) c.in-Global.is))
