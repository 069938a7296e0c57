-- QueryReads: queries are read as the grammar says, a lemma for each production.
use Rattle.std.proofs.Common.{ℕ, [], ◌∷◌, refl}
use Rattle.gq_tree.specs.declared.query.Mode.TheVariants as mode
use Rattle.gq_tree.specs.declared.query.Installed.TheVariants as installed
use Rattle.gq_tree.specs.declared.query.Argument.TheVariants as argument
use Rattle.gq_grammar.specs.Literals.{is_there}
use Rattle.gq_grammar.specs.Queries.{parameter_of, query_of, interpret_of, vertex_argument, run_of}
use Rattle.gq_grammar.specs.Queries as g
use Rattle.gq_grammar.specs.Lexemes.{Name, Number, Text, sign, word, spelling, said}
use Rattle.gq_grammar.specs.Reserved.{is_reserved}
use Rattle.gq_grammar.specs.Signs.{After, One}
use Rattle.gq_grammar.proofs.Claims.{Reads}
use Rattle.gq_grammar.proofs.TokenLemmas.{token_reads}
use Rattle.gq_grammar.proofs.ThenLemmas.{then_reads, tail_reads, lead_reads}
use Rattle.gq_grammar.proofs.MadeLemmas.{made_reads, either_reads, maybe_takes}
use Rattle.gq_grammar.proofs.ManyLemmas.{many_takes}
use Rattle.gq_grammar.proofs.SignLemmas.{one_reads, stands_reads, after_reads, enclosed_reads, enclosed_takes, separated_takes}
use Rattle.gq_grammar.proofs.SeriesLemmas.{ended_takes}
use Rattle.gq_parse_common.proofs.Steps.{more}
use Rattle.gq_parse_common.proofs.LiteralReads.{literal_reads, names_reads, of_graph_reads}
use Rattle.gq_parse_common.proofs.KindReads.{base_reads}
use Rattle.gq_parse_query.proofs.BodyReads.{body_reads}
use Rattle.gq_stmt_read.specs.Queries as d

pub default_reads : (n : ℕ) → Reads n g.DefaultValue g.DefaultValue d.default_parser (sign "=" ∷ []) ([])
unfolding g.DefaultValue d.default_parser is_reserved
default_reads n =
    after_reads (sign "=") (literal_reads n)

pub parameter_reads : (n : ℕ) → Reads n g.ParameterOf g.ParameterOf d.parameter_parser (word "INT" ∷ word "UINT" ∷ word "BOOL" ∷ word "STRING" ∷ word "VERTEX" ∷ []) (sign "=" ∷ [])
unfolding g.ParameterOf d.parameter_parser is_reserved
parameter_reads n =
    made_reads parameter_of (then_reads (base_reads n) (tail_reads (token_reads n Name spelling) (maybe_takes (default_reads n)) refl) (more n) refl)

pub mode_reads : (n : ℕ) → Reads n g.ModeOf g.ModeOf d.mode_parser (word "API" ∷ word "SYNTAX" ∷ []) ([])
unfolding g.ModeOf d.mode_parser is_reserved
mode_reads n =
    either_reads (made_reads mode.Api (after_reads (word "API") (enclosed_reads (token_reads n Text said) (more n) refl))) (made_reads mode.Syntax (after_reads (word "SYNTAX") (token_reads n Name spelling))) refl

pub for_graph_reads : (n : ℕ) → Reads n g.ForGraph g.ForGraph d.for_graph_parser (word "FOR" ∷ []) ([])
unfolding g.ForGraph d.for_graph_parser is_reserved
for_graph_reads n =
    after_reads (word "FOR") (of_graph_reads n)

pub replace_reads : (n : ℕ) → Reads n (After (word "OR") (One (word "REPLACE"))) (After (word "OR") (One (word "REPLACE"))) d.replace_parser (word "OR" ∷ []) ([])
unfolding d.replace_parser is_reserved
replace_reads n =
    after_reads (word "OR") (one_reads n (word "REPLACE"))

pub query_head_reads : (n : ℕ) → Reads n g.QueryHead g.QueryHead d.query_head_parser (word "OR" ∷ word "QUERY" ∷ []) ([])
unfolding g.QueryHead d.query_head_parser is_reserved
query_head_reads n =
    made_reads is_there (ended_takes (word "QUERY") (maybe_takes (replace_reads n)) refl)

pub install_reads : (n : ℕ) → Reads n g.InstallOf g.InstallOf d.install_parser (word "INSTALL" ∷ []) (sign "," ∷ [])
unfolding g.InstallOf d.install_parser d.installed_parser is_reserved
install_reads n =
    after_reads (word "INSTALL") (after_reads (word "QUERY") (either_reads (either_reads (stands_reads n installed.All (word "ALL")) (stands_reads n installed.All (sign "*")) refl) (made_reads installed.Named (names_reads n)) refl))

pub argument_reads : (n : ℕ) → Reads n g.ArgumentOf g.ArgumentOf d.argument_parser (sign "-" ∷ Number ∷ Text ∷ word "TRUE" ∷ word "FALSE" ∷ sign "(" ∷ []) ([])
unfolding g.ArgumentOf d.argument_parser d.vertex_argument_parser is_reserved
argument_reads n =
    either_reads (made_reads argument.Literal (literal_reads n)) (made_reads vertex_argument (enclosed_reads (then_reads (token_reads n Text said) (after_reads (sign ",") (token_reads n Text said)) (more n) refl) (more n) refl)) refl

pub run_reads : (n : ℕ) → Reads n g.RunOf g.RunOf d.run_parser (word "QUERY" ∷ []) (sign "(" ∷ [])
unfolding g.RunOf d.run_parser is_reserved
run_reads n =
    made_reads run_of (tail_reads (after_reads (word "QUERY") (token_reads n Name spelling)) (maybe_takes (enclosed_takes (separated_takes (argument_reads n) refl) (more n) refl)) refl)

pub modes_and_body_reads : (n : ℕ) → Reads n g.ModesAndBody g.ModesAndBody d.modes_and_body_parser (word "API" ∷ word "SYNTAX" ∷ sign "{" ∷ []) ([])
unfolding g.ModesAndBody d.modes_and_body_parser is_reserved
modes_and_body_reads n =
    lead_reads (many_takes (mode_reads n) refl) (body_reads n) refl

pub query_rest_reads : (n : ℕ) → Reads n g.QueryRest g.QueryRest d.query_rest_parser (word "FOR" ∷ word "API" ∷ word "SYNTAX" ∷ sign "{" ∷ []) ([])
unfolding g.QueryRest d.query_rest_parser is_reserved
query_rest_reads n =
    lead_reads (maybe_takes (for_graph_reads n)) (modes_and_body_reads n) refl

pub query_reads : (n : ℕ) → Reads n g.QueryOf g.QueryOf d.query_parser (sign "(" ∷ []) ([])
unfolding g.QueryOf d.query_parser is_reserved
query_reads n =
    made_reads query_of (then_reads (enclosed_takes (separated_takes (parameter_reads n) refl) (more n) refl) (query_rest_reads n) (more n) refl)

pub created_query_reads : (n : ℕ) → Reads n g.CreatedQuery g.CreatedQuery d.created_query_parser (word "OR" ∷ word "QUERY" ∷ []) ([])
unfolding g.CreatedQuery d.created_query_parser is_reserved
created_query_reads n =
    then_reads (query_head_reads n) (then_reads (token_reads n Name spelling) (query_reads n) (more n) refl) (more n) refl

pub interpret_reads : (n : ℕ) → Reads n g.InterpretOf g.InterpretOf d.interpret_parser (word "INTERPRET" ∷ []) ([])
unfolding g.InterpretOf d.interpret_parser is_reserved
interpret_reads n =
    made_reads interpret_of (after_reads (word "INTERPRET") (after_reads (word "QUERY") (then_reads (one_reads n (sign "(")) (then_reads (one_reads n (sign ")")) (query_rest_reads n) (more n) refl) (more n) refl)))
