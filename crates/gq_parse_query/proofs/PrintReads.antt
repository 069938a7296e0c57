-- PrintReads: PRINT is read as the grammar says, a lemma for each production.
use Rattle.std.proofs.Common.{◌≡◌, ℕ, List, [], ◌∷◌, ◌++◌, true, Option, Some, None, refl, sym, subst}
use Rattle.gq_tree.specs.declared.expr.Node.{Node}
use Rattle.gq_tree.specs.declared.body.Label.{Label}
use Rattle.gq_tree.specs.declared.body.Stmt.TheVariants as stmt
use Rattle.gq_grammar.specs.Bodies.{labelled, value_item, columns_item}
use Rattle.gq_grammar.specs.Bodies as g
use Rattle.gq_grammar.specs.Expressions.{Derives}
use Rattle.gq_grammar.specs.Lexemes.{Lexeme, Lexemes, Terminal, Name, is_of, sign, word, spelling}
use Rattle.gq_grammar.specs.Languages.{Maybe}
use Rattle.gq_grammar.specs.Series.{Kept}
use Rattle.gq_grammar.proofs.Sets.{Starts, clash}
use Rattle.gq_grammar.proofs.Claims.{Reads, widen}
use Rattle.gq_grammar.proofs.TokenLemmas.{token_reads}
use Rattle.gq_grammar.proofs.ThenLemmas.{then_reads, tail_reads}
use Rattle.gq_grammar.proofs.MadeLemmas.{made_reads, choice_reads, maybe_takes}
use Rattle.gq_grammar.proofs.SignLemmas.{after_reads}
use Rattle.gq_grammar.proofs.SeriesLemmas.{chain_reads, ended_reads, kept_reads}
use Rattle.gq_expr_read.proofs.Productions.{firsts, goes}
use Rattle.gq_parse_common.proofs.Steps.{more, expression_reads}
use Rattle.gq_parse_select.specs.Bodies as d
use Rattle.gq_parse_query.proofs.Past.{ends_at_name, past_name}

as_name_reads : (n : ℕ) → Reads n g.AsName g.AsName d.as_name_parser (word "AS" ∷ []) []
unfolding g.AsName d.as_name_parser
as_name_reads n = after_reads (word "AS") (token_reads n Name spelling)

labelled_reads : (n : ℕ) → Reads n g.Labelled g.Labelled d.labelled_parser firsts (word "AS" ∷ goes)
unfolding g.Labelled d.labelled_parser
labelled_reads n =
    widen firsts (word "AS" ∷ goes) refl refl (made_reads labelled (tail_reads (kept_reads (expression_reads n)) (maybe_takes (as_name_reads n)) refl))

-- ---- what begins with a name can't continue with "[", not even after AS

no_bracket_behind : (o : Option (List ℕ)) (v : Lexemes) → Maybe g.AsName o v → Starts (sign "[" ∷ []) v → ⊥
no_bracket_behind None v m s = subst (Starts (sign "[" ∷ [])) m s
no_bracket_behind (Some name) v m s = clash (word "AS" ∷ []) (sign "[" ∷ []) refl v ((as_name_reads 0).begins name v m) s

no_bracket : (a : Node) (o : Option (List ℕ)) (t : Lexeme) (u v : Lexemes) → is_of Name t ≡ true → Derives a (t ∷ u) → Maybe g.AsName o v → Starts (sign "[" ∷ []) (u ++ v) → ⊥
no_bracket a o t [] v h d m s = no_bracket_behind o v m s
no_bracket a o t (k ∷ u) v h d m s = ends_at_name (sign "[" ∷ []) refl a t (k ∷ u) h d s

parted : (a : Node) (o : Option (List ℕ)) (t : Lexeme) (w u v : Lexemes) → is_of Name t ≡ true → t ∷ w ≡ u ++ v → Derives a u → Maybe g.AsName o v → Starts (sign "[" ∷ []) w → ⊥
parted a o t w [] v h e d m s = absurd ((expression_reads 0).begins a [] d)
parted a o t w (k ∷ u) v h e d m s =
    let i = same_parts t k w (u ++ v) e in
    no_bracket a o t u v h (subst (λ z. Derives a (z ∷ u)) (sym i.0) d) m (subst (Starts (sign "[" ∷ [])) i.1 s)
  where
    same_parts : (t k : Lexeme) (w z : Lexemes) → t ∷ w ≡ k ∷ z → (t ≡ k) × (w ≡ z)
    same_parts t k w z e = (cc, cc)

labelled_ends : (a : Node × Label) (t : Lexeme) (v : Lexemes) → is_of Name t ≡ true → g.Labelled a (t ∷ v) → Starts (sign "[" ∷ []) v → ⊥
unfolding g.Labelled Kept
labelled_ends a t v h d s = parted d.0.0.0 d.0.1 t v d.1.0 d.1.1 h d.1.2 d.1.3.0 d.1.4 s

-- ---- columns, and items

item_columns_reads : (n : ℕ) → Reads n g.ItemColumns g.ItemColumns d.item_columns_parser (sign "[" ∷ []) []
unfolding g.ItemColumns d.item_columns_parser
item_columns_reads n = after_reads (sign "[") (ended_reads (sign "]") (chain_reads (sign ",") (labelled_reads n) refl) refl)

named_columns_reads : (n : ℕ) → Reads n g.NamedColumns g.NamedColumns d.named_columns_parser (sign "[" ∷ []) (word "AS" ∷ [])
unfolding g.NamedColumns d.named_columns_parser
named_columns_reads n = tail_reads (item_columns_reads n) (maybe_takes (as_name_reads n)) refl

-- the terminals that may continue an item
abbrev pub item_goes : List Terminal
item_goes = sign "[" ∷ word "AS" ∷ goes

item_reads : (n : ℕ) → Reads n g.ItemOf g.ItemOf d.item_parser firsts item_goes
unfolding g.ItemOf d.item_parser
item_reads n =
    widen firsts item_goes refl refl
    (choice_reads (sign "[" ∷ []) (made_reads columns_item (then_reads (token_reads n Name spelling) (named_columns_reads n) (more n) refl)) (made_reads value_item (labelled_reads n))
    (λ a x y b r s le h. past_name (sign "[" ∷ []) columns_item (labelled_reads n) (named_columns_reads n) labelled_ends s.0 x y b r s.1 h))

pub print_reads : (n : ℕ) → Reads n g.PrintOf g.PrintOf d.print_parser (word "PRINT" ∷ []) (sign "," ∷ item_goes)
unfolding g.PrintOf d.print_parser
print_reads n =
    widen (word "PRINT" ∷ []) (sign "," ∷ item_goes) refl refl (made_reads stmt.Print (after_reads (word "PRINT") (chain_reads (sign ",") (item_reads n) refl)))
