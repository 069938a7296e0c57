use Rattle.std.proofs.Common.{◌∙◌}
use Rattle.std.specs.String.{string_bytes}
use Rattle.std.proofs.lemmas.Map.Text.{btree_map_updates_text}
use Rattle.gq_load_check.proofs.FileLemmas.{files_added}
use Rattle.gq_load_check.proofs.files.append.Goals as goal

pub returns-clause-placed : goal.returns-clause-placed
returns-clause-placed c =
    files_added c.args.files.now c.args.places.now c.insert.new.self c.args.name.now (string_bytes c.in_ok-key.key) c.in_ok-path_copy.field-0 c.len.result
    c.requires.new (c.in_ok-key.ensures.ok ∙ c.as_str.ensures) c.len.ensures
    (λ other. btree_map_updates_text (string_bytes c.in_ok-key.key) c.args.places.now c.insert.new.self _ c.in-Ok.ensures.updates other)
    c.in_ok-name.name c.push.new.self c.push.result (c.in_ok-name.ensures ∙ c.as_str-2.ensures) c.push.ensures.ok c.requires.placed
