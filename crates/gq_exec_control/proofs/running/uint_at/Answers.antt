use Rattle.std.proofs.Common.{◌<ℤ◌, ◌≤ℤ◌, ◌+ℤ◌, pos, Some, ap, ◌∙◌, arith}
use Rattle.std.proofs.lemmas.Int.{ints}
use Rattle.gq_value.specs.declared.kind.Number.TheVariants as number
use Rattle.gq_exec_control.proofs.RoundLemmas.{number_there, number_past, uint_is}
use Rattle.gq_exec_control.proofs.running.uint_at.Goals as goal

pub returns-then-first-last : goal.returns-then-first-last
returns-then-first-last c =
    let past : pos c.args.last <ℤ (pos c.args.first +ℤ pos c.args.round) = omega (arith, ints) in
    number_past number.UInt (pos c.args.first) (pos c.args.last) c.args.round past

pub returns-then-round-span : goal.returns-then-round-span
returns-then-round-span c =
    let past : pos c.args.last <ℤ (pos c.args.first +ℤ pos c.args.round) = omega (arith, ints) in
    number_past number.UInt (pos c.args.first) (pos c.args.last) c.args.round past

pub returns : goal.returns
returns c =
    let within : (pos c.args.first +ℤ pos c.args.round) ≤ℤ pos c.args.last = omega (arith, ints) in
    number_there number.UInt (pos c.args.first) (pos c.args.last) c.args.round within ∙ ap Some (uint_is c.args.first c.args.round)
