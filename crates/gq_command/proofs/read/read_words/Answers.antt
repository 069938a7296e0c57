use Rattle.std.proofs.Common.{◌≡◌, map, string_bytes, Some, None, Err, ap, sym, ◌∙◌}
use Rattle.gq_command.specs.declared.command.WordsFault.TheVariants.{Usage}
use Rattle.clap.specs.Words.{found_of, rows_of}
use Rattle.gq_command.proofs.WordsLemmas.{nothing, asked}
use Rattle.gq_command.proofs.read.read_words.Goals as goal

pub returns-in-Err-clause-usage : goal.returns-in-Err-clause-usage
returns-in-Err-clause-usage c = λ is.
    let usage : c.in-Err.fault ≡ Usage = cc in
    nothing (map string_bytes c.args.words.now) (c.in-Err.ensures.usage (ap (λ f. Err f) usage))

pub returns-in-Some-clause-command : goal.returns-in-Some-clause-command
returns-in-Some-clause-command c = asked (map string_bytes c.args.words.now) (rows_of (found_of c.in-Ok.found)) (Some c.in-Some.command) c.in-Ok.ensures.rows (sym c.in-Some.is ∙ c.in_ok-command.ensures.command)

pub returns-clause-usage : goal.returns-clause-usage
returns-clause-usage c = λ _. asked (map string_bytes c.args.words.now) (rows_of (found_of c.in-Ok.found)) None c.in-Ok.ensures.rows (sym c.in-None.is ∙ c.in_ok-command.ensures.command)
