use Rattle.std.proofs.Common.{◌≡◌, ℤ, pos, Some, ap, ◌∙◌, arith, to_z, w64}
use Rattle.std.proofs.lemmas.Int.{ints}
use Rattle.gq_value.specs.declared.value.Value.TheVariants as variant
use Rattle.gq_graph.specs.Defaults.{sort_of}
use Rattle.gq_graph.specs.SortLaws.{sort-Int}
use Rattle.gq_load_csv.proofs.PlainLemmas.{field_short, key_short}
use Rattle.gq_load_csv.proofs.value.read_int.Goals as goal

pub returns-in-Some-clause-field : goal.returns-in-Some-clause-field
returns-in-Some-clause-field c read =
    let same : pos c.in-Some.number ≡ to_z w64 c.in-Some.number = omega (arith, ints, c.in-Some.ensures.fits) in
    field_short read c.args.attribute.now c.args.field.now c.in-Some.number (ap sort_of c.in-Int.is ∙ sort-Int) c.in-Some.ensures
    ∙ ap (λ (z : ℤ). Some (variant.Int z)) same

pub returns-in-Some-clause-key : goal.returns-in-Some-clause-key
returns-in-Some-clause-key c read =
    let same : pos c.in-Some.number ≡ to_z w64 c.in-Some.number = omega (arith, ints, c.in-Some.ensures.fits) in
    key_short read c.args.attribute.now c.args.field.now c.in-Some.number (ap sort_of c.in-Int.is ∙ sort-Int) c.in-Some.ensures
    ∙ ap (λ (z : ℤ). Some (variant.Int z)) same
