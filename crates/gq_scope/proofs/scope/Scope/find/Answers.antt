use Rattle.std.proofs.Common.{◌∙◌, ap, reverse}
use Rattle.std.specs.Option.{option_map}
use Rattle.std.specs.Str.{bytes_eq}
use Rattle.gq_rules_typing.specs.Words.{under}
use Rattle.gq_scope.specs.Held.{Held, entry_of, scope_in, setting_in}
use Rattle.gq_scope.proofs.NameTableLemmas.{under_map}
use Rattle.gq_scope.proofs.scope.Scope.find.Goals as goal

pub returns : goal.returns
unfolding scope_in setting_in
returns c =
    ap (option_map entry_of) (c.find.ensures ∙ ap (λ (h : Held). under bytes_eq c.args.name.now (reverse h.names)) c.self.view_is)
    ∙ under_map entry_of c.args.name.now (reverse c.args.self.now.names)
