use Rattle.gq_token.proofs.WordLemmas.{keyword_is}
use Rattle.gq_token.proofs.token.Token.is_keyword.Goals as goal

pub returns-in-Some : goal.returns-in-Some
returns-in-Some c =
    let parts = c.in-Some.ensures.word in
    keyword_is _ _ _ c.args.word.now c.eq_ignore_ascii_case.result parts.0 parts.1 c.eq_ignore_ascii_case.ensures.test
