use Rattle.std.proofs.Common.{◌≡◌, ℕ, drop, Option, Some, None, Result, Ok, Err, IfOk, ap, ◌∙◌, subst}
use Rattle.gq_grammar.specs.Lexemes.{Lexemes, sign, word}
use Rattle.gq_grammar.specs.Parsers.{Parser, Found, or_else, ◌or◌, after}
use Rattle.gq_parse_select.specs.Acts.{acts_parser}
use Rattle.gq_parse_select.specs.Selects.{post_acts_parser}
use Rattle.gq_parse_select.proofs.parts.post_acts.Goals as goal

-- if the first finds nothing, the result of the second is that of both
second_found : {A E : Type 0} (p q : Parser A) (all : Lexemes) (at : ℕ) (r : Option (A × ℕ)) (s : Result (Option (A × ℕ)) E) → Found p all at r → r ≡ None → IfOk s (Found q all at) → IfOk s (Found (p or q) all at)
second_found p q all at r (Err e) f is h = h
second_found p q all at r (Ok None) f is h = ap (λ o. or_else o (q (drop at all))) (subst (Found p all at) is f) ∙ h
second_found p q all at r (Ok (Some x)) f is h = (ap (λ o. or_else o (q (drop at all))) (subst (Found p all at) is f) ∙ h.0, h.1, h.2)

pub returns-in-None : goal.returns-in-None
unfolding post_acts_parser
returns-in-None c =
    second_found (after (word "POST") (after (sign "-") (after (word "ACCUM") acts_parser))) (after (word "POST_ACCUM") acts_parser)
    c.args.source.now c.args.at c.in_ok-read.field-0 c.acts_after.result c.in_ok-read.ensures c.in-None.is c.acts_after.ensures
