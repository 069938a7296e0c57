use Rattle.std.proofs.Common.{refl, true, map, ◌≡◌, string_bytes}
use Rattle.std.proofs.lemmas.Result.{IfOk-weaker}
use Rattle.clap.specs.Words.{HasMatchesOf, is_simple, found_of, matches_of, rows_of}
use Rattle.clap.proofs.OnLiterals.{clap_on_literals}
use Rattle.gq_command.specs.Line.{gsql}
use Rattle.gq_command.proofs.line.matched.Goals as goal

simple : is_simple gsql ≡ true
unfolding clap_on_literals
simple = refl

pub returns-clause-ok : goal.returns-clause-ok
returns-clause-ok c =
    let e = c.in_ok-command.ensures in
    IfOk-weaker c.try_get_matches_from.result (HasMatchesOf gsql (map string_bytes c.args.words.now)) (λ m. rows_of (found_of m) ≡ matches_of gsql (map string_bytes c.args.words.now)) (λ m h. (h simple).0) (rw e at c.try_get_matches_from.ensures.matches)
