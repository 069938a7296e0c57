use Rattle.gq_ddl.proofs.DeniedLemmas.{graph_denied}
use Rattle.gq_ddl.proofs.create.create_graph.Goals as goal

pub returns-in-Err-clause-created : goal.returns-in-Err-clause-created
returns-in-Err-clause-created c =
    graph_denied c.args.catalog.now c.add_graph.new.self c.in-Err.fault c.statement_fault.result c.statement_fault.ensures c.in-Err.ensures.done
    c.args.tree.now _ _ c.as_str.ensures c.names.ensures c.in-Err.ensures.judged
