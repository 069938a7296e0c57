use Rattle.std.proofs.Common.{◌∙◌, ◌++◌, ◌∷◌, [], ap, sym, List}
use Rattle.std.specs.Option.{option_to_list}
use Rattle.gq_graph.specs.declared.types.EdgeType.{EdgeType}
use Rattle.gq_schema.proofs.JudgeLemmas.{seam}
use Rattle.gq_schema.proofs.entries.append_edge_types.Goals as goal

pub returns-in-Ok-clause-done : goal.returns-in-Ok-clause-done
returns-in-Ok-clause-done c =
    let old = c.args.types.now.items in (
      c.len-number.ensures ∙ c.args.types.now.ok.0,
      c.put_edge_type-in-Some.ensures.items
          ∙ ap (λ (l : List EdgeType). l ++ c.in-Some.backward ∷ []) (c.put_edge_type.ensures.items ∙ ap (λ (l : List EdgeType). l ++ c.args.forward ∷ []) c.reserve.ensures.items)
          ∙ seam old c.args.forward (c.in-Some.backward ∷ [])
          ∙ ap (λ o. old ++ c.args.forward ∷ option_to_list o) (sym c.in-Some.is),
    )
