use Rattle.std.proofs.Common.{sym, ◌∙◌, length, arith}
use Rattle.std.proofs.lemmas.Bool.{lt-ltb}
use Rattle.gq_arguments.proofs.CountLemmas.{too_many, none_left}
use Rattle.gq_arguments.proofs.row.wrong_count.Goals as goal

pub returns-then-arguments-parameters : goal.returns-then-arguments-parameters
returns-then-arguments-parameters c =
    let more = c.if-arguments-parameters.true in
    lt-ltb (length c.args.parameters.now) (length c.args.arguments.now) more ∙ sym (too_many c.args.parameters.now c.args.arguments.now more)

pub returns-else-arguments-parameters : goal.returns-else-arguments-parameters
returns-else-arguments-parameters c = c.lacks_default.ensures ∙ none_left c.args.parameters.now c.args.arguments.now (omega (arith, c.if-arguments-parameters.false))
