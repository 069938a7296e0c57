use Rattle.std.proofs.Common.{◌≡◌, ◌+◌, ◌<◌, true, List, length, take, drop, subst, sym, ◌∙◌, arith}
use Rattle.gq_value.specs.declared.value.Value.{Value}
use Rattle.gq_insert.specs.Fits.{row_fits}
use Rattle.gq_insert.specs.Inserts.{row_of}
use Rattle.gq_insert.proofs.FitLemmas.{row_more}
use Rattle.gq_insert.proofs.RowLemmas.{behind, row_step}
use Rattle.gq_insert.proofs.values.row_of.Goals as goal

pub loop-place-preserved : goal.loop-place-preserved
loop-place-preserved c =
    let attributes = c.args.attributes.now in
    let values = c.args.values.now in
    let i = c.loop-place.place in
    let a = c.index-attributes-place.result in
    let l = c.index-values-place.result in
    let v = c.in-Some.value in
    let low : i < length attributes = omega arith in
    let less : i < length values = omega (arith, low, c.requires.count) in
    let P : List Value → Type 0 = λ r. row_fits (take (i + 1) attributes) r ≡ true in
    record {
      fits = subst P (sym c.in_ok-push-in-Some.ensures.ok)
          (row_more attributes c.loop-place.row i a v low c.index-attributes-place.is c.loop-place.invariant.fits (rw c.in-Some.is at c.in_ok-value.ensures.fits));
      made = λ read tells.
          let Q : List Value → Type 0 = λ r. row_of read attributes values ≡ behind r (row_of read (drop (i + 1) attributes) (drop (i + 1) values)) in
          subst Q (sym c.in_ok-push-in-Some.ensures.ok)
          (row_step read attributes values c.loop-place.row i a l v (row_of read attributes values) low less c.index-attributes-place.is c.index-values-place.is
          (sym (c.in_ok-value.ensures.value read tells) ∙ c.in-Some.is) (c.loop-place.invariant.made read tells));
    }
