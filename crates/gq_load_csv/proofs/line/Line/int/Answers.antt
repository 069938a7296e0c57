use Rattle.std.proofs.Common.{◌≡◌, ℤ, pos, [], Some, ap, ◌∙◌, arith, to_z, w64}
use Rattle.std.proofs.lemmas.Int.{ints}
use Rattle.csv.specs.Records.{field_at}
use Rattle.gq_value.specs.declared.value.Value.TheVariants as variant
use Rattle.gq_graph.specs.Defaults.{sort_of}
use Rattle.gq_graph.specs.SortLaws.{sort-Int}
use Rattle.gq_load_csv.specs.Cursors.{HasNumber}
use Rattle.gq_load_csv.specs.Lines.{line_from}
use Rattle.gq_load_csv.proofs.CursorLemmas.{field_int, key_int}
use Rattle.gq_load_csv.proofs.line.Line.int.Goals as goal
use Rattle.gq_load_csv.proofs.line.Line.int.Goals.{in-Some, in-None}

pub returns-after-number_at-clause-field : goal.returns-after-number_at-clause-field
returns-after-number_at-clause-field c = elim c.match-number_at.branch [
  | in-Some w ↦
      let line = line_from c.self.inside.lines.separator [] [] c.self.inside.lines.rest.now in
      let has : HasNumber (field_at line.0 c.args.number) w.in-Some.number = w.in-Some.ensures.number line c.self.invariant.stands in
      let same : pos w.in-Some.number ≡ to_z w64 w.in-Some.number = omega (arith, ints, has.short.fits) in
      rw (w.result-is, ← c.self.view_is) (λ read. field_int read c.args.attribute.now (field_at line.0 c.args.number) w.in-Some.number (ap sort_of c.in-Int.is ∙ sort-Int) has ∙ ap (λ (z : ℤ). Some (variant.Int z)) same)
  | in-None w ↦ rw w.result-is tt
]

pub returns-after-number_at-clause-key : goal.returns-after-number_at-clause-key
returns-after-number_at-clause-key c = elim c.match-number_at.branch [
  | in-Some w ↦
      let line = line_from c.self.inside.lines.separator [] [] c.self.inside.lines.rest.now in
      let has : HasNumber (field_at line.0 c.args.number) w.in-Some.number = w.in-Some.ensures.number line c.self.invariant.stands in
      let same : pos w.in-Some.number ≡ to_z w64 w.in-Some.number = omega (arith, ints, has.short.fits) in
      rw (w.result-is, ← c.self.view_is) (λ read. key_int read c.args.attribute.now (field_at line.0 c.args.number) w.in-Some.number (ap sort_of c.in-Int.is ∙ sort-Int) has ∙ ap (λ (z : ℤ). Some (variant.Int z)) same)
  | in-None w ↦ rw w.result-is tt
]
