use Rattle.std.proofs.Common.{◌≡◌, map, string_bytes}
use Rattle.clap.specs.Words.{found_of, kind_of, rows_of}
use Rattle.gq_command.specs.declared.command.WordsFault.TheVariants.{Usage}
use Rattle.gq_command.proofs.WordsLemmas.{taken, refusal}
use Rattle.gq_command.proofs.line.matches_in.Goals as goal

pub returns-in-Ok-clause-rows : goal.returns-in-Ok-clause-rows
returns-in-Ok-clause-rows c = taken (map string_bytes c.args.words.now) (rows_of (found_of c.in-Ok.found)) c.in-Ok.ensures.err c.in-Ok.ensures.ok

pub returns-in-Err-clause-usage : goal.returns-in-Err-clause-usage
returns-in-Err-clause-usage c = λ is.
    let usage : c.words_fault.result ≡ Usage = cc in
    refusal (map string_bytes c.args.words.now) (kind_of c.in-Err.error) c.in-Err.ensures.err (c.words_fault.ensures usage)
