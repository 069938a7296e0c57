use Rattle.std.proofs.Common.{◌∙◌, ap, drop, List, Option}
use Rattle.left_right.specs.Sides.{view}
use Rattle.gq_load_check.specs.declared.insert.Insert.{Insert}
use Rattle.gq_store.specs.declared.view.Shown.{Shown}
use Rattle.gq_store.specs.Entries.{rows_in}
use Rattle.gq_store.proofs.ChangeLemmas.{both, rows_taken, sealed_taken}
use Rattle.gq_store.proofs.SeenLemmas.{shows}
use Rattle.gq_store.proofs.writer.show.Goals as goal

pub publish_as-requires : goal.publish_as-requires
publish_as-requires g c next is views h at =
    let w = c.args.side in
    let before : Shown = w.desk.shown.value in
    let changes : List (Option Insert) = drop w.behind w.log.items in
    shows before next (rows_in changes) views w.desk.place.id (view w.desk.place)
    (ap (λ (s : Shown). s.rows) is ∙ rows_taken before changes) (ap (λ (s : Shown). s.sealed) is ∙ sealed_taken before changes c.requires) h at

pub returns : goal.returns
returns g c =
    let w = c.args.side in
    both _ _ _ _ _ _ c.publish_as.result.1 (λ a b. (ap (λ (s : Shown). s.rows) a.0 ∙ rows_taken w.desk.shown.value (drop w.behind w.log.items), a.1)) (λ a. a) c.publish_as.ensures.values c.publish_as.ensures.rule
