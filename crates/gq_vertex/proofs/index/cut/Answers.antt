use Rattle.std.proofs.Common.{ap, ◌∙◌, take}
use Rattle.std.proofs.lemmas.List.{take-map}
use Rattle.gq_vertex.specs.Named.{row_key}
use Rattle.gq_vertex.proofs.index.cut.Goals as goal

pub returns-in-Hashed : goal.returns-in-Hashed
returns-in-Hashed c =
    c.cut.ensures ∙ ap (take c.args.len) (rw c.in-Hashed.is at c.requires.named.finds) ∙ take-map row_key c.args.len c.args.rows.now
