use Rattle.std.proofs.Common.{◌∙◌, ap}
use Rattle.std.specs.List.{slice_get}
use Rattle.std.specs.Option.{option_map}
use Rattle.gq_scope.specs.Held.{Held, fields_of, setting_in}
use Rattle.gq_scope.specs.Kept.{tuple_types}
use Rattle.gq_scope.proofs.TupleLemmas.{typed_at}
use Rattle.gq_scope.proofs.scope.Scope.tuple_at.Goals as goal

pub returns : goal.returns
unfolding setting_in
returns c =
    ap (option_map fields_of) (c.tuple_at.ensures ∙ ap (λ (h : Held). option_map (λ t. t.1) (slice_get (tuple_types h.names) c.args.number)) c.self.view_is)
    ∙ typed_at fields_of (tuple_types c.args.self.now.names) c.args.number
