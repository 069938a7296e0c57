use Rattle.std.proofs.Common.{List, ap₂, ap, ◌∙◌, subst}
use Rattle.gq_graph.specs.declared.rows.VertexRow.{VertexRow}
use Rattle.gq_value.specs.declared.value.Value.{Value}
use Rattle.gq_index.specs.Steps.{Step, Done}
use Rattle.gq_index.specs.Ends.{edge_steps}
use Rattle.gq_load.specs.Inserts.{end_row}
use Rattle.gq_load.proofs.inserting.insert_edge.Goals as goal

pub returns-in-Ok-put_edge : goal.returns-in-Ok-put_edge
returns-in-Ok-put_edge c =
    subst (λ (steps : List Step). Done c.args.store.now steps c.put_edge.new.store)
    (ap₂ (λ (from to : VertexRow). edge_steps c.args.naming from to c.in-Ok.attributes) c.lent.ensures.row c.lent-2.ensures.row
    ∙ ap (λ (values : List Value). edge_steps c.args.naming (end_row c.args.from.now) (end_row c.args.to.now) values) c.in-Ok.ensures)
    c.in-Ok-put_edge.ensures.puts
