use Rattle.gq_grammar.specs.Jobs.{JobOf, RunJobOf}
use Rattle.gq_grammar.specs.Schema.{VertexOf, EdgeOf, GraphOf, InsertOf}
use Rattle.gq_parse_common.proofs.ExactReads.{exact}
use Rattle.gq_parse_ddl.specs.Jobs.{job_parser, run_job_parser}
use Rattle.gq_parse_ddl.specs.Schema.{vertex_parser, edge_parser, graph_parser, insert_parser}
use Rattle.gq_parse_ddl.proofs.JobReads.{job_reads, run_job_reads}
use Rattle.gq_parse_ddl.proofs.SchemaReads.{vertex_reads, edge_reads, graph_reads, insert_reads}
use Rattle.gq_parse_ddl.proofs.laws.declarations_are_exact.Goals as goal

pub returns-clause-vertex : goal.returns-clause-vertex
returns-clause-vertex c = exact VertexOf vertex_parser _ _ vertex_reads

pub returns-clause-edge : goal.returns-clause-edge
returns-clause-edge c = exact EdgeOf edge_parser _ _ edge_reads

pub returns-clause-graph : goal.returns-clause-graph
returns-clause-graph c = exact GraphOf graph_parser _ _ graph_reads

pub returns-clause-insert : goal.returns-clause-insert
returns-clause-insert c = exact InsertOf insert_parser _ _ insert_reads

pub returns-clause-job : goal.returns-clause-job
returns-clause-job c = exact JobOf job_parser _ _ job_reads

pub returns-clause-run_job : goal.returns-clause-run_job
returns-clause-run_job c = exact RunJobOf run_job_parser _ _ run_job_reads
