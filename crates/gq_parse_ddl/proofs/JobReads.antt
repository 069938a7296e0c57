-- JobReads: jobs are read as the grammar says, a lemma for each production.
use Rattle.std.proofs.Common.{ℕ, [], ◌∷◌, refl}
use Rattle.gq_tree.specs.declared.job.FileTree.TheVariants as file
use Rattle.gq_tree.specs.declared.job.Table.TheVariants as table
use Rattle.gq_tree.specs.declared.job.Column.TheVariants as column
use Rattle.gq_tree.specs.declared.job.LoadOption.TheVariants as option
use Rattle.gq_grammar.specs.Jobs.{destination_of, load_of, define_of, job_of, run_job_of}
use Rattle.gq_grammar.specs.Jobs as g
use Rattle.gq_grammar.specs.Lexemes.{Name, Number, Text, sign, word, spelling, number, said}
use Rattle.gq_grammar.specs.Reserved.{is_reserved}
use Rattle.gq_grammar.proofs.Claims.{Reads, widen}
use Rattle.gq_grammar.proofs.TokenLemmas.{token_reads}
use Rattle.gq_grammar.proofs.ThenLemmas.{then_reads, tail_reads}
use Rattle.gq_grammar.proofs.MadeLemmas.{made_reads, either_reads, maybe_takes}
use Rattle.gq_grammar.proofs.ManyLemmas.{many_takes}
use Rattle.gq_grammar.proofs.SignLemmas.{stands_reads, after_reads, enclosed_reads}
use Rattle.gq_grammar.proofs.SeriesLemmas.{chain_reads, ended_reads, ended_takes}
use Rattle.gq_parse_common.proofs.Steps.{more}
use Rattle.gq_parse_ddl.specs.Jobs as d
use Rattle.gq_parse_common.proofs.LiteralReads.{setting_reads, of_graph_reads}

pub column_reads : (n : ℕ) → Reads n g.ColumnOf g.ColumnOf d.column_parser (sign "$" ∷ word "_" ∷ []) ([])
unfolding g.ColumnOf d.column_parser is_reserved
column_reads n =
    either_reads (after_reads (sign "$") (either_reads (made_reads column.Number (token_reads n Number number)) (made_reads column.Named (token_reads n Text said)) refl)) (stands_reads n column.Default (word "_")) refl

pub table_reads : (n : ℕ) → Reads n g.TableOf g.TableOf d.table_parser (word "VERTEX" ∷ word "EDGE" ∷ []) ([])
unfolding g.TableOf d.table_parser is_reserved
table_reads n =
    either_reads (stands_reads n table.Vertex (word "VERTEX")) (stands_reads n table.Edge (word "EDGE")) refl

pub columns_reads : (n : ℕ) → Reads n g.Columns g.Columns d.columns_parser (word "VALUES" ∷ []) ([])
unfolding g.Columns d.columns_parser is_reserved
columns_reads n =
    after_reads (word "VALUES") (enclosed_reads (chain_reads (sign ",") (column_reads n) refl) (more n) refl)

pub destination_reads : (n : ℕ) → Reads n g.DestinationOf g.DestinationOf d.destination_parser (word "TO" ∷ []) ([])
unfolding g.DestinationOf d.destination_parser is_reserved
destination_reads n =
    made_reads destination_of (after_reads (word "TO") (then_reads (table_reads n) (then_reads (token_reads n Name spelling) (columns_reads n) (more n) refl) (more n) refl))

pub load_option_name_reads : (n : ℕ) → Reads n g.LoadOptionName g.LoadOptionName d.load_option_name_parser (word "SEPARATOR" ∷ word "HEADER" ∷ word "QUOTE" ∷ word "EOL" ∷ []) ([])
unfolding g.LoadOptionName d.load_option_name_parser is_reserved
load_option_name_reads n =
    either_reads (either_reads (either_reads (stands_reads n option.Separator (word "SEPARATOR")) (stands_reads n option.Header (word "HEADER")) refl) (stands_reads n option.Quote (word "QUOTE")) refl) (stands_reads n option.Eol (word "EOL")) refl

pub load_option_reads : (n : ℕ) → Reads n g.LoadOptionOf g.LoadOptionOf d.load_option_parser (word "SEPARATOR" ∷ word "HEADER" ∷ word "QUOTE" ∷ word "EOL" ∷ []) ([])
unfolding g.LoadOptionOf d.load_option_parser is_reserved
load_option_reads n =
    then_reads (load_option_name_reads n) (setting_reads n) (more n) refl

pub load_options_reads : (n : ℕ) → Reads n g.LoadOptions g.LoadOptions d.load_options_parser (word "USING" ∷ []) (sign "," ∷ [])
unfolding g.LoadOptions d.load_options_parser is_reserved
load_options_reads n =
    after_reads (word "USING") (chain_reads (sign ",") (load_option_reads n) refl)

pub file_reads : (n : ℕ) → Reads n g.FileOf g.FileOf d.file_parser (Name ∷ Text ∷ []) ([])
unfolding g.FileOf d.file_parser is_reserved
file_reads n =
    either_reads (made_reads file.Defined (token_reads n Name spelling)) (made_reads file.Path (token_reads n Text said)) refl

pub load_from_reads : (n : ℕ) → Reads n g.LoadFrom g.LoadFrom d.load_from_parser (word "LOAD" ∷ []) (sign "," ∷ [])
unfolding g.LoadFrom d.load_from_parser is_reserved
load_from_reads n =
    after_reads (word "LOAD") (then_reads (file_reads n) (chain_reads (sign ",") (destination_reads n) refl) (more n) refl)

pub file_name_reads : (n : ℕ) → Reads n g.FileName g.FileName d.file_name_parser (word "DEFINE" ∷ []) ([])
unfolding g.FileName d.file_name_parser is_reserved
file_name_reads n =
    after_reads (word "DEFINE") (after_reads (word "FILENAME") (token_reads n Name spelling))

pub line_reads : (n : ℕ) → Reads n g.LineOf g.LineOf d.line_parser (word "DEFINE" ∷ word "LOAD" ∷ []) (sign "=" ∷ sign "," ∷ word "USING" ∷ [])
unfolding g.LineOf d.line_parser is_reserved
line_reads n =
    widen (word "DEFINE" ∷ word "LOAD" ∷ []) (sign "=" ∷ sign "," ∷ word "USING" ∷ []) refl refl (either_reads (made_reads define_of (tail_reads (file_name_reads n) (maybe_takes (setting_reads n)) refl)) (made_reads load_of (tail_reads (load_from_reads n) (maybe_takes (load_options_reads n)) refl)) refl)

pub job_lines_reads : (n : ℕ) → Reads n g.JobLines g.JobLines d.job_lines_parser (sign "{" ∷ []) ([])
unfolding g.JobLines d.job_lines_parser is_reserved
job_lines_reads n =
    after_reads (sign "{") (ended_takes (sign "}") (many_takes (ended_reads (sign ";") (line_reads n) refl) refl) refl)

pub job_name_reads : (n : ℕ) → Reads n g.JobName g.JobName d.job_name_parser (word "LOADING" ∷ []) ([])
unfolding g.JobName d.job_name_parser is_reserved
job_name_reads n =
    after_reads (word "LOADING") (after_reads (word "JOB") (token_reads n Name spelling))

pub job_reads : (n : ℕ) → Reads n g.JobOf g.JobOf d.job_parser (word "LOADING" ∷ []) ([])
unfolding g.JobOf d.job_parser is_reserved
job_reads n =
    made_reads job_of (then_reads (job_name_reads n) (then_reads (after_reads (word "FOR") (of_graph_reads n)) (job_lines_reads n) (more n) refl) (more n) refl)

pub file_path_reads : (n : ℕ) → Reads n g.FilePath g.FilePath d.file_path_parser (Name ∷ []) ([])
unfolding g.FilePath d.file_path_parser is_reserved
file_path_reads n =
    then_reads (token_reads n Name spelling) (setting_reads n) (more n) refl

pub paths_reads : (n : ℕ) → Reads n g.Paths g.Paths d.paths_parser (word "USING" ∷ []) (sign "," ∷ [])
unfolding g.Paths d.paths_parser is_reserved
paths_reads n =
    after_reads (word "USING") (chain_reads (sign ",") (file_path_reads n) refl)

pub run_job_reads : (n : ℕ) → Reads n g.RunJobOf g.RunJobOf d.run_job_parser (word "LOADING" ∷ []) (word "USING" ∷ sign "," ∷ [])
unfolding g.RunJobOf d.run_job_parser is_reserved
run_job_reads n =
    made_reads run_job_of (tail_reads (job_name_reads n) (maybe_takes (paths_reads n)) refl)
