-- LiteralReads: literals are read as the grammar says, a lemma for each production.
use Rattle.std.proofs.Common.{ℕ, [], ◌∷◌, true, false, refl}
use Rattle.gq_tree.specs.declared.schema.Literal.TheVariants as literal
use Rattle.gq_grammar.specs.Literals.{number_of}
use Rattle.gq_grammar.specs.Literals as g
use Rattle.gq_grammar.specs.Lexemes.{Name, Number, Text, sign, word, spelling, number, said}
use Rattle.gq_grammar.specs.Reserved.{is_reserved}
use Rattle.gq_grammar.proofs.Claims.{Reads}
use Rattle.gq_grammar.proofs.TokenLemmas.{token_reads}
use Rattle.gq_grammar.proofs.ThenLemmas.{lead_reads}
use Rattle.gq_grammar.proofs.MadeLemmas.{made_reads, either_reads, maybe_takes}
use Rattle.gq_grammar.proofs.SignLemmas.{one_reads, stands_reads, after_reads}
use Rattle.gq_grammar.proofs.SeriesLemmas.{chain_reads}
use Rattle.gq_parse_common.specs.Literals as d

pub literal_reads : (n : ℕ) → Reads n g.LiteralOf g.LiteralOf d.literal_parser (sign "-" ∷ Number ∷ Text ∷ word "TRUE" ∷ word "FALSE" ∷ []) ([])
unfolding g.LiteralOf d.literal_parser is_reserved
literal_reads n =
    either_reads (either_reads (either_reads (made_reads number_of (lead_reads (maybe_takes (one_reads n (sign "-"))) (token_reads n Number number) refl)) (made_reads literal.Text (token_reads n Text said)) refl) (stands_reads n (literal.Truth true) (word "TRUE")) refl) (stands_reads n (literal.Truth false) (word "FALSE")) refl

pub setting_reads : (n : ℕ) → Reads n g.Setting g.Setting d.setting_parser (sign "=" ∷ []) ([])
unfolding g.Setting d.setting_parser is_reserved
setting_reads n =
    after_reads (sign "=") (token_reads n Text said)

pub names_reads : (n : ℕ) → Reads n g.Names g.Names d.names_parser (Name ∷ []) (sign "," ∷ [])
unfolding g.Names d.names_parser is_reserved
names_reads n =
    chain_reads (sign ",") (token_reads n Name spelling) refl

pub of_graph_reads : (n : ℕ) → Reads n g.OfGraph g.OfGraph d.of_graph_parser (word "GRAPH" ∷ []) ([])
unfolding g.OfGraph d.of_graph_parser is_reserved
of_graph_reads n =
    after_reads (word "GRAPH") (token_reads n Name spelling)
