-- SelectReads: SELECT is read as the grammar says, a lemma for each production.
use Rattle.std.proofs.Common.{ℕ, List, [], ◌∷◌, ◌++◌, refl}
use Rattle.gq_grammar.specs.Kinds.{ordered}
use Rattle.gq_grammar.specs.Selects.{select_of}
use Rattle.gq_grammar.specs.Selects as g
use Rattle.gq_grammar.specs.Expressions.{Derives}
use Rattle.gq_grammar.specs.Lexemes.{Terminal, Name, sign, word, spelling}
use Rattle.gq_grammar.specs.Reserved.{is_reserved}
use Rattle.gq_grammar.specs.Signs.{After}
use Rattle.gq_grammar.proofs.Claims.{Reads, widen}
use Rattle.gq_grammar.proofs.TokenLemmas.{token_reads}
use Rattle.gq_grammar.proofs.ThenLemmas.{then_reads, tail_reads}
use Rattle.gq_grammar.proofs.MadeLemmas.{made_reads, either_reads, maybe_takes}
use Rattle.gq_grammar.proofs.SignLemmas.{after_reads}
use Rattle.gq_grammar.proofs.SeriesLemmas.{chain_reads}
use Rattle.gq_expr_read.proofs.Productions.{firsts, goes}
use Rattle.gq_parse_common.proofs.Steps.{more, expression_reads}
use Rattle.gq_parse_common.proofs.KindReads.{direction_reads}
use Rattle.gq_parse_select.specs.Selects as d
use Rattle.gq_parse_select.proofs.InputReads.{list_goes}
use Rattle.gq_parse_select.proofs.ActReads.{acts_reads}
use Rattle.gq_parse_select.proofs.WalkReads.{walk_goes, alias_reads, walk_reads}

-- the terminals that may continue SELECT, up to each of its parts
abbrev filtered_goes : List Terminal
filtered_goes = word "WHERE" ∷ walk_goes ++ list_goes

abbrev acting_goes : List Terminal
acting_goes = word "ACCUM" ∷ word "POST" ∷ word "POST_ACCUM" ∷ filtered_goes

abbrev ordered_goes : List Terminal
ordered_goes = word "HAVING" ∷ word "ORDER" ∷ word "ASC" ∷ word "DESC" ∷ acting_goes

abbrev pub select_goes : List Terminal
select_goes = word "LIMIT" ∷ ordered_goes

abbrev pub select_words : List Terminal
select_words = word "SELECT" ∷ []

module _ (n : ℕ) where
  from_reads : Reads n g.From g.From d.from_parser select_words (sign ":" ∷ [])
  unfolding g.From d.from_parser
  from_reads = tail_reads (after_reads (word "SELECT") (then_reads (token_reads n Name spelling) (after_reads (word "FROM") (token_reads n Name spelling)) (more n) refl)) (maybe_takes (alias_reads n)) refl

  filter_reads : Reads n (After (word "WHERE") Derives) (After (word "WHERE") Derives) d.filter_parser (word "WHERE" ∷ []) goes
  unfolding d.filter_parser
  filter_reads = after_reads (word "WHERE") (expression_reads n)

  filtered_reads : Reads n g.Filtered g.Filtered d.filtered_parser select_words filtered_goes
  unfolding g.Filtered d.filtered_parser is_reserved
  filtered_reads =
      widen select_words filtered_goes refl refl
      (tail_reads (tail_reads from_reads (maybe_takes (walk_reads n)) refl) (maybe_takes filter_reads) refl)

  post_acts_reads : Reads n g.PostActs g.PostActs d.post_acts_parser (word "POST" ∷ word "POST_ACCUM" ∷ []) list_goes
  unfolding g.PostActs d.post_acts_parser
  post_acts_reads =
      widen (word "POST" ∷ word "POST_ACCUM" ∷ []) list_goes refl refl
      (either_reads (after_reads (word "POST") (after_reads (sign "-") (after_reads (word "ACCUM") (acts_reads n)))) (after_reads (word "POST_ACCUM") (acts_reads n)) refl)

  acting_reads : Reads n g.Acting g.Acting d.acting_parser select_words acting_goes
  unfolding g.Acting d.acting_parser d.accum_acts_parser is_reserved
  acting_reads =
      widen select_words acting_goes refl refl
      (tail_reads (tail_reads filtered_reads (maybe_takes (after_reads (word "ACCUM") (acts_reads n))) refl) (maybe_takes post_acts_reads) refl)

  order_value_reads : Reads n g.OrderValue g.OrderValue d.order_value_parser firsts (word "ASC" ∷ word "DESC" ∷ goes)
  unfolding g.OrderValue d.order_value_parser
  order_value_reads =
      widen firsts (word "ASC" ∷ word "DESC" ∷ goes) refl refl (made_reads ordered (tail_reads (expression_reads n) (maybe_takes (direction_reads n)) refl))

  order_by_reads : Reads n g.OrderBy g.OrderBy d.order_by_parser (word "ORDER" ∷ []) (word "ASC" ∷ word "DESC" ∷ list_goes)
  unfolding g.OrderBy d.order_by_parser
  order_by_reads =
      widen (word "ORDER" ∷ []) (word "ASC" ∷ word "DESC" ∷ list_goes) refl refl (after_reads (word "ORDER") (after_reads (word "BY") (chain_reads (sign ",") order_value_reads refl)))

  ordered_reads : Reads n g.Ordered g.Ordered d.ordered_parser select_words ordered_goes
  unfolding g.Ordered d.ordered_parser d.having_parser is_reserved
  ordered_reads =
      widen select_words ordered_goes refl refl
      (tail_reads (tail_reads acting_reads (maybe_takes (after_reads (word "HAVING") (expression_reads n))) refl) (maybe_takes order_by_reads) refl)

  pub select_reads : Reads n g.SelectOf g.SelectOf d.select_parser select_words select_goes
  unfolding g.SelectOf d.select_parser d.limit_parser is_reserved
  select_reads =
      widen select_words select_goes refl refl
      (made_reads select_of (tail_reads ordered_reads (maybe_takes (after_reads (word "LIMIT") (expression_reads n))) refl))
