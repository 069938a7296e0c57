use Rattle.std.proofs.Common.{IfOk, Some, ◌∙◌, subst}
use Rattle.gq_grammar.specs.Parsers.{Found}
use Rattle.gq_parse_select.proofs.StageLemmas.{chain_of}
use Rattle.gq_parse_select.proofs.stages.chained.Goals as goal

pub returns : goal.returns
returns g c = λ p q all at next f s.
    chain_of p q all at next c.in_ok-all.at c.args.first c.in_ok-all.all.items c.from_vec.result (c.from_vec.ensures ∙ c.in_ok-insert.ensures.items) f
    (subst (λ r. IfOk r (λ read. Found q all next (Some (read.0.items, read.1)))) c.in_ok-all.was s)
