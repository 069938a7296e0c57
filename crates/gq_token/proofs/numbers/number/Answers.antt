use Rattle.std.proofs.Common.{refl, sym, subst, arith}
use Rattle.gq_token.specs.declared.token.TokenKind.TheVariants.{Number}
use Rattle.gq_token.specs.Spelling.{TokenOf}
use Rattle.gq_token.specs.Items.{IsItem}
use Rattle.gq_token.proofs.RunLemmas.{digits_item, digits_too_big}
use Rattle.gq_token.proofs.numbers.number.Goals as goal

pub returns-in-Some-clause-item : goal.returns-in-Some-clause-item
returns-in-Some-clause-item c =
    let fits = c.in-Some.ensures in
    let item = digits_item c.args.rest.now c.run_size-size.result c.requires.some c.requires.digit c.run_size-size.ensures fits.0 in
    subst (λ n. IsItem c.args.rest.now c.run_size-size.result (TokenOf (Number n))) (sym fits.1) item

pub returns-in-None-clause-fault : goal.returns-in-None-clause-fault
returns-in-None-clause-fault c =
    (digits_too_big c.args.rest.now c.run_size-size.result c.requires.some c.requires.digit c.run_size-size.ensures (omega (arith, c.in-None.ensures)), refl)
