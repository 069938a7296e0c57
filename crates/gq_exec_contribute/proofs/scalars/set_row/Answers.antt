use Rattle.std.proofs.Common.{FitsSigned, ap, get_or, pos, refl, rules, ◌∙◌}
use Rattle.std.specs.Int.{w64}
use Rattle.std.proofs.lemmas.Int.{to_z-of_z}
use Rattle.gq_value.specs.declared.value.Value.TheVariants as value
use Rattle.gq_exec_contribute.proofs.ScalarLemmas.{set_first, set_next, set_all}
use Rattle.gq_exec_contribute.proofs.scalars.set_row.Goals as goal

pub loop-place-init : goal.loop-place-init
loop-place-init c = set_first value.Int c.args.ints.now c.args.row.now

pub loop-place-preserved : goal.loop-place-preserved
loop-place-preserved c =
    let fits : FitsSigned w64 (get_or c.args.ints.now c.loop-place.place (pos 0)) = search rules in
    set_next value.Int _ c.args.row.now _ _ _ _ _ _ c.requires c.loop-place-test.true refl (c.set_value.ensures ∙ ap value.Int (to_z-of_z w64 _ fits)) refl c.loop-place.invariant

pub returns : goal.returns
returns c = set_all value.Int c.args.ints.now c.args.row.now c.loop-place.row c.loop-place.place c.requires (search rules) c.loop-place.invariant
