use Rattle.std.proofs.Common.{◌≡◌, ◌+◌, get_or, arith, sym, length, take, false, ◌∙◌}
use Rattle.std.specs.Prelude.{◌==◌}
use Rattle.std.proofs.lemmas.List.{drop_all}
use Rattle.std.proofs.lemmas.Bool.Decides.{nat_tests}
use Rattle.gq_load_csv.proofs.CursorLemmas.{left_apart, left_line, left_end, goes_next, field_next}
use Rattle.gq_load_csv.proofs.cursor.end_field.Goals as goal

pub returns-then-size-text-clause-goes : goal.returns-then-size-text-clause-goes
returns-then-size-text-clause-goes c =
    let next : c.over.result.next ≡ c.args.cursor.now.next + 1 = c.over.ensures.next ∙ omega arith in
    goes_next c.args.separator c.args.cursor.now c.over.result (take c.args.size c.args.cursor.now.rest.now) (length c.args.cursor.now.rest.now)
    (left_end c.args.separator c.args.cursor.now c.over.result c.args.size c.requires.open c.over.ensures.over c.over.ensures.rest c.requires.inner c.requires.within (omega arith))
    next (c.over.ensures.rest ∙ sym (drop_all (length c.args.cursor.now.rest.now) c.args.cursor.now.rest.now (omega arith)))

pub returns-then-size-text-clause-field : goal.returns-then-size-text-clause-field
returns-then-size-text-clause-field c = λ _.
    field_next c.args.separator c.args.cursor.now c.over.result (take c.args.size c.args.cursor.now.rest.now)
    (left_end c.args.separator c.args.cursor.now c.over.result c.args.size c.requires.open c.over.ensures.over c.over.ensures.rest c.requires.inner c.requires.within (omega arith))

pub returns-then-byte-separator-clause-goes : goal.returns-then-byte-separator-clause-goes
returns-then-byte-separator-clause-goes c =
    let here : get_or c.args.cursor.now.rest.now c.args.size 0 ≡ c.args.separator = grind (arith, nat_tests) in
    let next : c.behind_byte.result.next ≡ c.args.cursor.now.next + 1 = c.behind_byte.ensures.next ∙ omega arith in
    goes_next c.args.separator c.args.cursor.now c.behind_byte.result (take c.args.size c.args.cursor.now.rest.now) (c.args.size + 1)
    (left_apart c.args.separator c.args.cursor.now c.behind_byte.result c.args.size c.requires.open c.behind_byte.ensures.over c.behind_byte.ensures.rest c.requires.inner (omega arith) here)
    next c.behind_byte.ensures.rest

pub returns-then-byte-separator-clause-field : goal.returns-then-byte-separator-clause-field
returns-then-byte-separator-clause-field c = λ _.
    let here : get_or c.args.cursor.now.rest.now c.args.size 0 ≡ c.args.separator = grind (arith, nat_tests) in
    field_next c.args.separator c.args.cursor.now c.behind_byte.result (take c.args.size c.args.cursor.now.rest.now)
    (left_apart c.args.separator c.args.cursor.now c.behind_byte.result c.args.size c.requires.open c.behind_byte.ensures.over c.behind_byte.ensures.rest c.requires.inner (omega arith) here)

pub returns-then-byte-eq10-clause-goes : goal.returns-then-byte-eq10-clause-goes
returns-then-byte-eq10-clause-goes c =
    let here : get_or c.args.cursor.now.rest.now c.args.size 0 ≡ 10 = grind (arith, nat_tests) in
    let other : (10 == c.args.separator) ≡ false = grind (arith, nat_tests) in
    let next : c.behind_byte-then-byte-eq10.result.next ≡ c.args.cursor.now.next + 1 = c.behind_byte-then-byte-eq10.ensures.next ∙ omega arith in
    goes_next c.args.separator c.args.cursor.now c.behind_byte-then-byte-eq10.result (take c.args.size c.args.cursor.now.rest.now) (c.args.size + 1)
    (left_line c.args.separator c.args.cursor.now c.behind_byte-then-byte-eq10.result c.args.size c.requires.open c.behind_byte-then-byte-eq10.ensures.over c.behind_byte-then-byte-eq10.ensures.rest c.requires.inner (omega arith) here other)
    next c.behind_byte-then-byte-eq10.ensures.rest

pub returns-then-byte-eq10-clause-field : goal.returns-then-byte-eq10-clause-field
returns-then-byte-eq10-clause-field c = λ _.
    let here : get_or c.args.cursor.now.rest.now c.args.size 0 ≡ 10 = grind (arith, nat_tests) in
    let other : (10 == c.args.separator) ≡ false = grind (arith, nat_tests) in
    field_next c.args.separator c.args.cursor.now c.behind_byte-then-byte-eq10.result (take c.args.size c.args.cursor.now.rest.now)
    (left_line c.args.separator c.args.cursor.now c.behind_byte-then-byte-eq10.result c.args.size c.requires.open c.behind_byte-then-byte-eq10.ensures.over c.behind_byte-then-byte-eq10.ensures.rest c.requires.inner (omega arith) here other)
