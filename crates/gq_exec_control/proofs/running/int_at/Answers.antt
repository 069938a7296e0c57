use Rattle.std.proofs.Common.{◌≡◌, ◌<ℤ◌, ◌≤ℤ◌, ◌+ℤ◌, pos, Some, ap, ◌∙◌, arith, w64}
use Rattle.std.proofs.lemmas.Int.{ints, to_z-of_z}
use Rattle.gq_value.specs.declared.kind.Number.TheVariants as number
use Rattle.gq_exec_control.proofs.RoundLemmas.{number_there, number_past, int_is}
use Rattle.gq_exec_control.proofs.running.int_at.Goals as goal

pub returns-then-x-from : goal.returns-then-x-from
returns-then-x-from c =
    let a : c.from.result ≡ c.args.first = c.from.ensures ∙ to_z-of_z w64 c.args.first c.ranges.first in
    let b : c.from-2.result ≡ pos c.args.round = c.from-2.ensures in
    let d : c.from-3.result ≡ c.args.last = c.from-3.ensures ∙ to_z-of_z w64 c.args.last c.ranges.last in
    let within : (c.args.first +ℤ pos c.args.round) ≤ℤ c.args.last = omega (arith, ints, c.if-x-from.true) in
    number_there number.Int c.args.first c.args.last c.args.round within ∙ ap Some (int_is c.args.first c.args.round _ (omega (arith, ints)))

pub returns-else-x-from : goal.returns-else-x-from
returns-else-x-from c =
    let a : c.from.result ≡ c.args.first = c.from.ensures ∙ to_z-of_z w64 c.args.first c.ranges.first in
    let b : c.from-2.result ≡ pos c.args.round = c.from-2.ensures in
    let d : c.from-3.result ≡ c.args.last = c.from-3.ensures ∙ to_z-of_z w64 c.args.last c.ranges.last in
    let past : c.args.last <ℤ (c.args.first +ℤ pos c.args.round) = omega (arith, ints, c.if-x-from.false) in
    number_past number.Int c.args.first c.args.last c.args.round past
