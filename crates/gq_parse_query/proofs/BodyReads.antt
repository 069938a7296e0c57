-- BodyReads: bodies are read as the grammar says.
use Rattle.std.proofs.Common.{ℕ, [], ◌∷◌, ◌++◌, refl}
use Rattle.gq_grammar.specs.Bodies.{body_of}
use Rattle.gq_grammar.specs.Bodies as g
use Rattle.gq_grammar.specs.Lexemes.{sign}
use Rattle.gq_grammar.specs.Reserved.{is_reserved}
use Rattle.gq_grammar.proofs.Claims.{Reads}
use Rattle.gq_grammar.proofs.ThenLemmas.{lead_reads}
use Rattle.gq_grammar.proofs.MadeLemmas.{made_reads}
use Rattle.gq_grammar.proofs.ManyLemmas.{many_takes}
use Rattle.gq_grammar.proofs.SignLemmas.{after_reads}
use Rattle.gq_grammar.proofs.SeriesLemmas.{ended_reads, ended_takes}
use Rattle.gq_parse_common.proofs.KindReads.{definition_reads}
use Rattle.gq_parse_select.specs.Bodies as d
use Rattle.gq_parse_query.proofs.StmtReads.{stmt_firsts, statement_reads}

body_stmts_reads : (n : ℕ) → Reads n g.BodyStmts g.BodyStmts d.body_stmts_parser (stmt_firsts ++ (sign "}" ∷ [])) []
unfolding g.BodyStmts d.body_stmts_parser
body_stmts_reads n = ended_takes (sign "}") (many_takes (ended_reads (sign ";") (statement_reads n) refl) refl) refl

pub body_reads : (n : ℕ) → Reads n g.BodyOf g.BodyOf d.body_parser (sign "{" ∷ []) []
unfolding g.BodyOf d.body_parser is_reserved
body_reads n =
    made_reads body_of (after_reads (sign "{") (lead_reads (many_takes (ended_reads (sign ";") (definition_reads n) refl) refl) (body_stmts_reads n) refl))
