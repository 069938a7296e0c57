use Rattle.std.proofs.Common.{◌≡◌, ℕ, List, [], ◌∷◌, ◌++◌, ◌-◌, ◌≤◌, true, false, length, drop, get_or, ap, ◌∙◌, refl, arith}
use Rattle.std.specs.Prelude.{◌==◌}
use Rattle.std.proofs.lemmas.List.{take_all}
use Rattle.std.proofs.lemmas.Bool.Decides.{nat_tests}
use Rattle.gq_load_csv.specs.Lines.{says}
use Rattle.gq_load_csv.proofs.LineLemmas.{piece, copied, parted, ended, all_read, length_behind, said_more}
use Rattle.gq_load_csv.proofs.lines.read_fields.Goals as goal
use Rattle.gq_load_csv.proofs.lines.read_fields.Goals.{then-byte-separator+in_ok-push, else-byte-separator+else-byte-eq10}

pub returns-then-byte-eq10-clause-line : goal.returns-then-byte-eq10-clause-line
returns-then-byte-eq10-clause-line c =
    let here : get_or c.args.text.now c.loop-place.place 0 ≡ 10 = grind (arith, nat_tests) in
    let other : (10 == c.args.separator) ≡ false = grind (arith, nat_tests) in
    let old : List (List ℕ) = says c.loop-place.fields.items in
    let put : says c.push-then-byte-eq10.new.self.items ≡ old ++ piece c.loop-place.start c.loop-place.place c.args.text.now ∷ [] =
    ap says c.in_ok-push-2.ensures.items ∙ said_more c.loop-place.fields.items _ in
    ended c.args.separator c.args.text.now old (says c.push-then-byte-eq10.new.self.items) c.loop-place.start c.loop-place.place 10 c.loop-place.invariant
    (omega arith) here other refl put

pub loop-place-preserved : goal.loop-place-preserved
loop-place-preserved c = elim c.if-byte-separator.branch [
  | then-byte-separator+in_ok-push w ↦
      let here : get_or c.args.text.now c.loop-place.place 0 ≡ c.args.separator = grind (arith, nat_tests) in
      let same : (c.args.separator == c.args.separator) ≡ true = grind (arith, nat_tests) in
      let old : List (List ℕ) = says c.loop-place.fields.items in
      let put : says w.push.new.self.items ≡ old ++ piece c.loop-place.start c.loop-place.place c.args.text.now ∷ [] =
      ap says w.in_ok-push.ensures.items ∙ said_more c.loop-place.fields.items _ in
      rw (w.start-is, w.fields-is)
      (parted c.args.separator c.args.text.now old (says w.push.new.self.items) c.loop-place.start c.loop-place.place c.args.separator c.loop-place.invariant (omega arith) here same put)
  | else-byte-separator+else-byte-eq10 w ↦
      let c0 : ℕ = get_or c.args.text.now c.loop-place.place 0 in
      let other : (c0 == c.args.separator) ≡ false = grind (arith, nat_tests) in
      let line : (c0 == 10) ≡ false = grind (arith, nat_tests) in
      rw (w.start-is, w.fields-is)
      (copied c.args.separator c.args.text.now (says c.loop-place.fields.items) c.loop-place.start c.loop-place.place c0 c.loop-place.invariant (omega arith) refl other line)
]

pub returns-clause-line : goal.returns-clause-line
returns-clause-line c =
    let old : List (List ℕ) = says c.loop-place.fields.items in
    let field : List ℕ = drop c.loop-place.start c.args.text.now in
    let long : length field ≤ length c.args.text.now - c.loop-place.start =
    omega (arith, length_behind c.loop-place.start c.args.text.now (omega (arith, c.loop-place.invariant.order))) in
    let put : says c.push-2.new.self.items ≡ old ++ field ∷ [] =
    ap says c.in_ok-push-3.ensures.items ∙ said_more c.loop-place.fields.items _
    ∙ ap (λ (p : List ℕ). old ++ p ∷ []) (take_all (length c.args.text.now - c.loop-place.start) field long) in
    all_read c.args.separator c.args.text.now old (says c.push-2.new.self.items) c.loop-place.start c.loop-place.place c.loop-place.invariant (omega arith) (omega arith) put
