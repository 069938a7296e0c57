use Rattle.std.proofs.Common.{◌∙◌, ap}
use Rattle.std.specs.Str.{bytes_eq}
use Rattle.std.specs.List.{position}
use Rattle.gq_scope.specs.Held.{Held, fields_of, setting_in}
use Rattle.gq_scope.specs.Kept.{tuple_types}
use Rattle.gq_scope.proofs.WordLemmas.{named_place}
use Rattle.gq_scope.proofs.scope.Scope.tuple_named.Goals as goal

pub returns : goal.returns
unfolding setting_in
returns c =
    c.tuple_named.ensures ∙ ap (λ (h : Held). position (λ t. bytes_eq t.0 c.args.name.now) (tuple_types h.names)) c.self.view_is
    ∙ named_place fields_of (λ n. bytes_eq n c.args.name.now) (tuple_types c.args.self.now.names)
