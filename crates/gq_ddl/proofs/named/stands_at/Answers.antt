use Rattle.std.proofs.Common.{◌∙◌, Some, ap, ltb-true, sym}
use Rattle.std.specs.Prelude.{bytes_eq}
use Rattle.std.proofs.lemmas.Option.{slice_get-get_or}
use Rattle.gq_ddl.proofs.PlaceLemmas.{stands_there}
use Rattle.gq_ddl.proofs.named.stands_at.Goals as goal

pub returns-in-Some : goal.returns-in-Some
returns-in-Some c =
    let there = c.in-Some.ensures.lookup in
    stands_there c.args.jobs.now c.args.place c.in-Some.entry.now c.args.name.now c.eq.result
    (slice_get-get_or c.args.jobs.now c.args.place c.in-Some.entry.now (ltb-true _ _ (sym there.0)) ∙ ap Some (sym there.1))
    (c.eq.ensures ∙ ap (λ name. bytes_eq name c.args.name.now) c.as_str.ensures)
