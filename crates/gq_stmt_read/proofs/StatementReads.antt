-- StatementReads: statements are read as the grammar says, a lemma for each production.
use Rattle.std.proofs.Common.{ℕ, List, [], ◌∷◌, Some, None, refl}
use Rattle.gq_tree.specs.declared.statement.Statement.{Statement}
use Rattle.gq_tree.specs.declared.statement.Statement.TheVariants as top
use Rattle.gq_grammar.specs.Scripts.{created_query}
use Rattle.gq_grammar.specs.Scripts as g
use Rattle.gq_grammar.specs.Literals.{OfGraph}
use Rattle.gq_grammar.specs.Schema.{VertexOf, EdgeOf, GraphOf}
use Rattle.gq_grammar.specs.Jobs.{JobOf, RunJobOf}
use Rattle.gq_grammar.specs.Queries.{RunOf}
use Rattle.gq_grammar.specs.Lexemes.{Lexemes, Terminal, sign, word}
use Rattle.gq_grammar.specs.Reserved.{is_reserved}
use Rattle.gq_grammar.specs.Languages.{Made, ◌∣◌}
use Rattle.gq_grammar.specs.Signs.{After}
use Rattle.gq_grammar.specs.Parsers.{Found}
use Rattle.gq_grammar.specs.Reading.{IsLongest, HasNone, HasOneTree}
use Rattle.gq_grammar.proofs.Sets.{Starts}
use Rattle.gq_grammar.proofs.Claims.{Reads}
use Rattle.gq_grammar.proofs.MadeLemmas.{made_reads, either_reads}
use Rattle.gq_grammar.proofs.SignLemmas.{stands_reads, after_reads}
use Rattle.gq_grammar.proofs.WholeLemmas.{one_value}
use Rattle.gq_parse_common.specs.Exact.{IsExact}
use Rattle.gq_parse_common.proofs.ExactReads.{exact}
use Rattle.gq_parse_common.proofs.LiteralReads.{of_graph_reads}
use Rattle.gq_parse_ddl.proofs.SchemaReads.{vertex_reads, edge_reads, graph_reads, insert_reads}
use Rattle.gq_parse_ddl.proofs.JobReads.{job_reads, run_job_reads}
use Rattle.gq_stmt_read.proofs.QueryReads.{created_query_reads, interpret_reads, install_reads, run_reads}
use Rattle.gq_stmt_read.specs.Statements as d

-- the terminals with which statements begin
abbrev pub firsts : List Terminal
firsts =
    word "CREATE" ∷ word "USE" ∷ word "RUN" ∷ word "INSTALL" ∷ word "INTERPRET" ∷ word "INSERT" ∷ word "BEGIN" ∷ word "END" ∷ []

-- the terminals that may continue them
abbrev pub goes : List Terminal
goes =
    word "WITH" ∷ sign "," ∷ word "WITH" ∷ word "USING" ∷ sign "," ∷ sign "(" ∷ sign "," ∷ []

pub declared_reads : (n : ℕ) → Reads n (Made top.Vertex VertexOf ∣ Made top.Edge EdgeOf ∣ Made top.Graph GraphOf ∣ Made top.Job JobOf) (Made top.Vertex VertexOf ∣ Made top.Edge EdgeOf ∣ Made top.Graph GraphOf ∣ Made top.Job JobOf) d.declared_parser (word "VERTEX" ∷ word "DIRECTED" ∷ word "UNDIRECTED" ∷ word "GRAPH" ∷ word "LOADING" ∷ []) (word "WITH" ∷ sign "," ∷ word "WITH" ∷ [])
unfolding d.declared_parser is_reserved
declared_reads n =
    either_reads (either_reads (either_reads (made_reads top.Vertex (vertex_reads n)) (made_reads top.Edge (edge_reads n)) refl) (made_reads top.Graph (graph_reads n)) refl) (made_reads top.Job (job_reads n)) refl

pub use_reads : (n : ℕ) → Reads n (Made top.Use (After (word "USE") OfGraph)) (Made top.Use (After (word "USE") OfGraph)) d.use_parser (word "USE" ∷ []) ([])
unfolding d.use_parser is_reserved
use_reads n =
    made_reads top.Use (after_reads (word "USE") (of_graph_reads n))

pub run_statement_reads : (n : ℕ) → Reads n (Made top.RunJob RunJobOf ∣ Made top.Run RunOf) (Made top.RunJob RunJobOf ∣ Made top.Run RunOf) d.run_statement_parser (word "LOADING" ∷ word "QUERY" ∷ []) (word "USING" ∷ sign "," ∷ sign "(" ∷ [])
unfolding d.run_statement_parser is_reserved
run_statement_reads n =
    either_reads (made_reads top.RunJob (run_job_reads n)) (made_reads top.Run (run_reads n)) refl

pub created_reads : (n : ℕ) → Reads n g.Created g.Created d.created_parser (word "VERTEX" ∷ word "DIRECTED" ∷ word "UNDIRECTED" ∷ word "GRAPH" ∷ word "LOADING" ∷ word "OR" ∷ word "QUERY" ∷ []) (word "WITH" ∷ sign "," ∷ word "WITH" ∷ [])
unfolding g.Created d.created_parser is_reserved
created_reads n =
    either_reads (declared_reads n) (made_reads created_query (created_query_reads n)) refl

pub statement_reads : (n : ℕ) → Reads n g.StatementOf g.StatementOf d.statement_parser firsts goes
unfolding g.StatementOf d.statement_parser d.plain_parser is_reserved
statement_reads n =
    either_reads (either_reads (either_reads (either_reads
    (either_reads (either_reads (either_reads (after_reads (word "CREATE") (created_reads n)) (use_reads n) refl) (after_reads (word "RUN") (run_statement_reads n)) refl) (made_reads top.Install (install_reads n)) refl)
    (made_reads top.Interpret (interpret_reads n)) refl) (made_reads top.Insert (insert_reads n)) refl) (stands_reads n top.Begin (word "BEGIN")) refl) (stands_reads n top.End (word "END")) refl

pub statement_exact : IsExact g.StatementOf d.statement_parser
statement_exact = exact g.StatementOf d.statement_parser firsts goes statement_reads

pub statement_longest : (all : Lexemes) (at : ℕ) (s : Statement) (end : ℕ) → Found d.statement_parser all at (Some (s, end)) → IsLongest g.StatementOf all at s end
statement_longest all at s end f = statement_exact all at (Some (s, end)) f

pub statement_none : (all : Lexemes) (at : ℕ) → Found d.statement_parser all at None → HasNone g.StatementOf all at
statement_none all at f = statement_exact all at None f

pub statement_one : HasOneTree g.StatementOf
statement_one = one_value {p = λ n. d.statement_parser} statement_reads

pub statement_begins : (s : Statement) (x : Lexemes) → g.StatementOf s x → Starts firsts x
statement_begins = (statement_reads 0).begins
