use Rattle.std.proofs.Common.{◌∙◌, ap, sym, cond, ◌++◌, ◌∷◌, [], List, ℕ}
use Rattle.gq_schema.specs.Members as spec
use Rattle.gq_schema.proofs.MemberLemmas.{chosen_more}
use Rattle.gq_schema.proofs.catalog.Catalog.edges.Goals as goal

pub loop-number-preserved : goal.loop-number-preserved
loop-number-preserved c =
    c.in_ok-add_if.ensures
    ∙ ap (λ b. c.loop-number.numbers ++ cond b (c.loop-number.number ∷ []) []) c.has_edge.ensures
    ∙ ap (λ (l : List ℕ). l ++ cond (spec.has_edge_marked c.args.self.now c.args.named.now c.loop-number.number) (c.loop-number.number ∷ []) []) c.loop-number.invariant
    ∙ sym (chosen_more (spec.has_edge_marked c.args.self.now c.args.named.now) c.loop-number.number)
