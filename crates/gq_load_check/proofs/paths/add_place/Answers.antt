use Rattle.std.proofs.Common.{◌∙◌}
use Rattle.std.specs.String.{string_bytes}
use Rattle.std.proofs.lemmas.Map.Text.{btree_map_updates_text}
use Rattle.gq_load_check.proofs.PathLemmas.{last_more}
use Rattle.gq_load_check.proofs.paths.add_place.Goals as goal

pub returns : goal.returns
returns c =
    last_more c.args.pairs.now c.args.places.now c.insert.new.self (string_bytes c.in_ok-key.key) c.args.place c.index-pairs-place.result c.requires.low
    (c.in_ok-key.ensures.ok ∙ c.as_str.ensures)
    (λ other. btree_map_updates_text (string_bytes c.in_ok-key.key) c.args.places.now c.insert.new.self _ c.in-Ok.ensures.updates other)
    c.requires.placed
