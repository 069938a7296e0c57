use Rattle.std.proofs.Common.{◌∙◌, false, ap, sym}
use Rattle.std.specs.String.{string_bytes}
use Rattle.std.proofs.lemmas.Map.Text.{btree_map_updates_text}
use Rattle.gq_ddl.specs.declared.named.NamedJob.{NamedJob}
use Rattle.gq_ddl.specs.Jobs.{has_job}
use Rattle.gq_ddl.proofs.PlaceLemmas.{placed_either}
use Rattle.gq_ddl.proofs.named.Jobs.push.Goals as goal

pub invariant_of-self : goal.invariant_of-self
invariant_of-self c = rw (c.in-Err.ensures.err) c.self.invariant

pub invariant_of-self-2 : goal.invariant_of-self-2
invariant_of-self-2 c =
    placed_either c.self.inside.entries c.self.inside.places c.self.invariant c.insert.new.self c.args.entry (string_bytes c.in_ok-key.key) c.len.result
    (ap (λ jobs. has_job jobs c.args.entry.name) c.self.view_is ∙ c.requires)
    (c.in_ok-key.ensures.ok ∙ c.as_str.ensures) c.len.ensures
    (λ other. btree_map_updates_text (string_bytes c.in_ok-key.key) c.self.inside.places c.insert.new.self _ c.in-Ok.ensures.updates other)
    c.push.new.self c.push.result c.push.ensures.ok c.push.ensures.err
