-- SetReads: vertex sets and assignments are read as the grammar says, a lemma for each production.
use Rattle.std.proofs.Common.{ℕ, List, [], ◌∷◌, ◌++◌, refl}
use Rattle.gq_tree.specs.declared.body.SeedTree.TheVariants as seed
use Rattle.gq_tree.specs.declared.body.SetTermTree.TheVariants as term
use Rattle.gq_tree.specs.declared.body.SetOp.TheVariants as op
use Rattle.gq_tree.specs.declared.body.SetTypesTree.TheVariants as types
use Rattle.gq_tree.specs.declared.body.RightTree.TheVariants as right
use Rattle.gq_grammar.specs.Bodies.{named_seed, any_seed, seeds_chain, name_chain, assign_of, local_of, global_of}
use Rattle.gq_grammar.specs.Bodies as g
use Rattle.gq_grammar.specs.Expressions.{Derives}
use Rattle.gq_grammar.specs.Lexemes.{Terminal, Name, Global, sign, word, spelling}
use Rattle.gq_grammar.specs.Reserved.{is_reserved}
use Rattle.gq_grammar.specs.Languages.{Made, ◌∣◌}
use Rattle.gq_grammar.specs.Parsers.{made, ◌or◌}
use Rattle.gq_grammar.proofs.Claims.{Reads, widen}
use Rattle.gq_grammar.proofs.TokenLemmas.{token_reads}
use Rattle.gq_grammar.proofs.ThenLemmas.{then_reads, tail_reads}
use Rattle.gq_grammar.proofs.MadeLemmas.{made_reads, either_reads, choice_reads, maybe_takes, made_some}
use Rattle.gq_grammar.proofs.ManyLemmas.{many_takes}
use Rattle.gq_grammar.proofs.SignLemmas.{one_reads, stands_reads, after_reads, enclosed_reads, separated_takes}
use Rattle.gq_grammar.proofs.SeriesLemmas.{chain_reads, ended_takes}
use Rattle.gq_expr_read.proofs.Productions.{firsts, goes}
use Rattle.gq_parse_common.specs.Expression.{expression}
use Rattle.gq_parse_common.proofs.Steps.{more, expression_reads}
use Rattle.gq_parse_common.proofs.KindReads.{base_reads, value_reads}
use Rattle.gq_parse_select.proofs.InputReads.{change_reads}
use Rattle.gq_parse_select.proofs.SelectReads.{select_reads, select_goes}
use Rattle.gq_parse_select.specs.Bodies as d
use Rattle.gq_parse_query.proofs.Past.{ends_at_name, past_name}

-- the words between sets
abbrev pub set_words : List Terminal
set_words = word "UNION" ∷ word "INTERSECT" ∷ word "MINUS" ∷ []

-- the terminals that may continue the right side of an assignment
abbrev pub right_goes : List Terminal
right_goes = set_words ++ select_goes

module _ (n : ℕ) where
  star_reads : Reads n g.Star g.Star d.star_parser (sign "." ∷ []) []
  unfolding g.Star d.star_parser
  star_reads = after_reads (sign ".") (one_reads n (sign "*"))

  seed_reads : Reads n g.SeedOf g.SeedOf d.seed_parser (Name ∷ word "ANY" ∷ Global ∷ []) (sign "." ∷ [])
  unfolding g.SeedOf d.seed_parser is_reserved
  seed_reads =
      widen (Name ∷ word "ANY" ∷ Global ∷ []) (sign "." ∷ []) refl refl
      (either_reads
      (either_reads
      (made_reads named_seed (tail_reads (token_reads n Name spelling) (maybe_takes star_reads) refl))
      (made_reads any_seed (tail_reads (one_reads n (word "ANY")) (maybe_takes star_reads) refl)) refl)
      (made_reads seed.Global (token_reads n Global spelling)) refl)

  seeds_reads : Reads n g.Seeds g.Seeds d.seeds_parser (sign "{" ∷ []) []
  unfolding g.Seeds d.seeds_parser
  seeds_reads = after_reads (sign "{") (ended_takes (sign "}") (separated_takes seed_reads refl) refl)

  term_reads : Reads n g.TermOf g.TermOf d.term_parser (Name ∷ sign "{" ∷ []) []
  unfolding g.TermOf d.term_parser
  term_reads = either_reads (made_reads term.Name (token_reads n Name spelling)) (made_reads term.Seeds seeds_reads) refl

  set_op_reads : Reads n g.SetOpOf g.SetOpOf d.set_op_parser set_words []
  unfolding g.SetOpOf d.set_op_parser
  set_op_reads =
      either_reads (either_reads (stands_reads n op.Union (word "UNION")) (stands_reads n op.Intersect (word "INTERSECT")) refl) (stands_reads n op.Minus (word "MINUS")) refl

  operand_reads : Reads n g.Operand g.Operand d.operand_parser set_words []
  unfolding g.Operand d.operand_parser
  operand_reads = then_reads set_op_reads term_reads (more n) refl

  seeds_chain_reads : Reads n g.SeedsChain g.SeedsChain d.seeds_chain_parser (sign "{" ∷ []) set_words
  unfolding g.SeedsChain d.seeds_chain_parser
  seeds_chain_reads = made_reads seeds_chain (tail_reads seeds_reads (many_takes operand_reads refl) refl)

  operands_reads : Reads n g.Operands g.Operands d.operands_parser set_words set_words
  unfolding g.Operands d.operands_parser
  operands_reads = tail_reads operand_reads (many_takes operand_reads refl) refl

  name_chain_reads : Reads n g.NameChain g.NameChain d.name_chain_parser (Name ∷ []) set_words
  unfolding g.NameChain d.name_chain_parser
  name_chain_reads = made_reads name_chain (then_reads (token_reads n Name spelling) operands_reads (more n) refl)

  -- a chain that begins with a name is read further than the expression that is just this name
  name_chain_or_value_reads : Reads n (Made right.Sets g.NameChain ∣ Made right.Value Derives) (Made right.Sets g.NameChain ∣ Made right.Value Derives) (made right.Sets d.name_chain_parser or made right.Value expression) firsts (set_words ++ goes)
  unfolding d.name_chain_parser
  name_chain_or_value_reads =
      widen firsts (set_words ++ goes) refl refl
      (choice_reads set_words (made_reads right.Sets name_chain_reads) (made_reads right.Value (expression_reads n))
      (λ a x y b r s le h.
      let w = made_some right.Sets (d.name_chain_parser (x ++ y)) b r h in
      past_name set_words name_chain (expression_reads n) operands_reads (λ a t v. ends_at_name set_words refl a t v) s.0 x y w.0 r s.1 w.1))

  right_reads : Reads n g.RightOf g.RightOf d.right_parser (word "SELECT" ∷ sign "{" ∷ firsts) right_goes
  unfolding g.RightOf d.right_parser is_reserved
  right_reads =
      widen (word "SELECT" ∷ sign "{" ∷ firsts) right_goes refl refl
      (either_reads (either_reads (made_reads right.Select (select_reads n)) (made_reads right.Sets seeds_chain_reads) refl) name_chain_or_value_reads refl)

  set_types_reads : Reads n g.SetTypesOf g.SetTypesOf d.set_types_parser (sign "(" ∷ []) []
  unfolding g.SetTypesOf d.set_types_parser is_reserved
  set_types_reads = enclosed_reads (either_reads (made_reads types.Of (token_reads n Name spelling)) (stands_reads n types.Any (word "ANY")) refl) (more n) refl

  pub assign_reads : Reads n g.AssignOf g.AssignOf d.assign_parser (Name ∷ []) right_goes
  unfolding g.AssignOf d.assign_parser
  assign_reads =
      made_reads assign_of (then_reads (tail_reads (token_reads n Name spelling) (maybe_takes set_types_reads) refl) (after_reads (sign "=") right_reads) (more n) refl)

  new_name_reads : Reads n g.NewName g.NewName d.new_name_parser (Name ∷ []) (sign "=" ∷ goes)
  unfolding g.NewName d.new_name_parser
  new_name_reads = tail_reads (token_reads n Name spelling) (maybe_takes (value_reads n)) refl

  pub local_reads : Reads n g.LocalOf g.LocalOf d.local_parser (word "INT" ∷ word "UINT" ∷ word "BOOL" ∷ word "STRING" ∷ word "VERTEX" ∷ []) (sign "," ∷ sign "=" ∷ goes)
  unfolding g.LocalOf d.local_parser is_reserved
  local_reads =
      widen (word "INT" ∷ word "UINT" ∷ word "BOOL" ∷ word "STRING" ∷ word "VERTEX" ∷ []) (sign "," ∷ sign "=" ∷ goes) refl refl
      (made_reads local_of (then_reads (base_reads n) (chain_reads (sign ",") new_name_reads refl) (more n) refl))

  pub global_reads : Reads n g.GlobalOf g.GlobalOf d.global_parser (Global ∷ []) goes
  unfolding g.GlobalOf d.global_parser
  global_reads = made_reads global_of (then_reads (token_reads n Global spelling) (change_reads n) (more n) refl)
