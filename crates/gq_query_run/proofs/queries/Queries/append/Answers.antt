use Rattle.std.proofs.Common.{◌∙◌, ap, sym}
use Rattle.std.specs.Prelude.{position}
use Rattle.std.specs.String.{string_bytes}
use Rattle.std.proofs.lemmas.Map.Text.{btree_map_updates_text}
use Rattle.gq_query_run.specs.Kept.{Kept}
use Rattle.gq_query_run.specs.Queries.{is_named}
use Rattle.gq_query_run.proofs.PlaceLemmas.{placed_either}
use Rattle.gq_query_run.proofs.queries.Queries.append.Goals as goal

pub invariant_of-self : goal.invariant_of-self
invariant_of-self c = rw (c.in-Err.ensures.err) c.self.invariant

pub invariant_of-self-2 : goal.invariant_of-self-2
invariant_of-self-2 c =
    let q = c.created.result in
    placed_either c.self.inside.stored c.self.inside.places c.self.invariant c.insert.new.self q (string_bytes c.in_ok-key.key) c.len.result
    (ap (λ (k : Kept). position (is_named k.name) c.self.inside.stored) c.created.ensures ∙ ap (position (is_named c.args.name.now)) c.self.view_is ∙ c.requires)
    (c.in_ok-key.ensures.ok ∙ sym (ap (λ (k : Kept). k.name) c.created.ensures)) c.len.ensures
    (λ other. btree_map_updates_text (string_bytes c.in_ok-key.key) c.self.inside.places c.insert.new.self _ c.in-Ok.ensures.updates other)
    c.push.new.self c.push.result c.push.ensures.ok c.push.ensures.err
