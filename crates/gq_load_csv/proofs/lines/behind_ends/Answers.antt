use Rattle.std.proofs.Common.{◌≡◌, ◌+◌, drop, get_or, ap, ◌∙◌, arith}
use Rattle.std.specs.List.{list_all}
use Rattle.std.proofs.lemmas.List.{take_all}
use Rattle.std.proofs.lemmas.Bool.Decides.{nat_tests}
use Rattle.csv.specs.Reading.{records}
use Rattle.gq_load_csv.specs.Records.{config_of}
use Rattle.gq_load_csv.proofs.LineLemmas.{byte_here, end_before, length_behind, plain_behind}
use Rattle.gq_load_csv.proofs.lines.behind_ends.Goals as goal

pub returns-then-byte-ne10-clause-plain : goal.returns-then-byte-ne10-clause-plain
returns-then-byte-ne10-clause-plain c p e =
    ap (list_all p) (take_all _ (drop c.loop-place.place c.args.text.now) (omega (arith, length_behind c.loop-place.place c.args.text.now (omega arith))))
    ∙ plain_behind p c.loop-place.place c.args.text.now e

pub loop-place-preserved : goal.loop-place-preserved
loop-place-preserved c separator quote =
    let here : get_or c.args.text.now c.loop-place.place 0 ≡ 10 = grind (arith, nat_tests) in
    c.loop-place.invariant separator quote
    ∙ ap (records (config_of separator quote)) (byte_here c.args.text.now c.loop-place.place 10 (omega arith) here)
    ∙ end_before separator quote (drop (c.loop-place.place + 1) c.args.text.now)
