-- ActReads: acts are read as the grammar says, a lemma for each production.
use Rattle.std.proofs.Common.{◌≡◌, ℕ, zero, suc, ◌≤◌, List, [], ◌∷◌, ◌++◌, length, refl, arith}
use Rattle.gq_tree.specs.declared.select.ActTree.{ActTree}
use Rattle.gq_grammar.specs.Acts.{attached_act, global_act, first_and_rest, if_act}
use Rattle.gq_grammar.specs.Acts as g
use Rattle.gq_grammar.specs.Lexemes.{Lexemes, Terminal, Name, Global, Attached, sign, word, spelling}
use Rattle.gq_grammar.specs.Reserved.{is_reserved}
use Rattle.gq_grammar.specs.Languages.{Language, ◌then◌, Many, Made}
use Rattle.gq_grammar.specs.Signs.{After}
use Rattle.gq_grammar.specs.Parsers.{Parser}
use Rattle.gq_grammar.proofs.Sets.{Starts}
use Rattle.gq_grammar.proofs.Claims.{Reads, widen}
use Rattle.gq_grammar.proofs.TokenLemmas.{token_reads}
use Rattle.gq_grammar.proofs.ThenLemmas.{then_reads, tail_reads}
use Rattle.gq_grammar.proofs.MadeLemmas.{made_reads, either_reads, maybe_takes}
use Rattle.gq_grammar.proofs.ManyLemmas.{many_takes}
use Rattle.gq_grammar.proofs.SignLemmas.{after_reads}
use Rattle.gq_grammar.proofs.SeriesLemmas.{chain_reads, ended_takes}
use Rattle.gq_grammar.proofs.ExactLemmas.{many_lead}
use Rattle.gq_expr_read.proofs.Productions.{firsts, goes}
use Rattle.gq_parse_common.proofs.Steps.{more, after_more, after_apart, end_none, goes_as, expression_reads}
use Rattle.gq_parse_select.specs.Acts as d
use Rattle.gq_parse_select.proofs.InputReads.{list_goes, no_tokens, change_reads}

-- the terminals with which acts begin
abbrev pub act_firsts : List Terminal
act_firsts = Name ∷ Global ∷ word "IF" ∷ []

pub plain_act_reads : (n : ℕ) → Reads n g.PlainAct g.PlainAct d.plain_act_parser (Name ∷ Global ∷ []) goes
unfolding g.PlainAct d.plain_act_parser is_reserved
plain_act_reads n =
    widen (Name ∷ Global ∷ []) goes refl refl (either_reads (made_reads attached_act (then_reads (token_reads n Name spelling) (after_reads (sign ".") (then_reads (token_reads n Attached spelling) (change_reads n) (more n) refl)) (more n) refl)) (made_reads global_act (then_reads (token_reads n Global spelling) (change_reads n) (more n) refl)) refl)

-- ---- acts, over acts one level deeper, which have one token less

module _ (m : ℕ) (A A' : Language ActTree) (a : Parser ActTree) (r : Reads m A A' a act_firsts goes) where
  act_branch_reads : Reads m (g.ActBranch A) (g.ActBranch A') (d.act_branch_parser a) firsts list_goes
  unfolding g.ActBranch d.act_branch_parser is_reserved
  act_branch_reads =
      widen firsts list_goes refl refl (then_reads (expression_reads m) (after_reads (word "THEN") (chain_reads (sign ",") r refl)) (more m) refl)

  if_acts_reads : (n : ℕ) → n ≤ suc m → Reads n (g.IfActs A) (g.IfActs A') (d.if_acts_parser a) (word "IF" ∷ []) list_goes
  unfolding g.IfActs d.if_acts_parser
  if_acts_reads n nm = after_more (word "IF") nm act_branch_reads

  last_acts_reads : Reads m (Made first_and_rest (g.PlainAct then Many (After (sign ",") A))) (Made first_and_rest (g.PlainAct then Many (After (sign ",") A'))) (d.last_acts_parser a) (Name ∷ Global ∷ []) list_goes
  unfolding d.last_acts_parser
  last_acts_reads =
      widen (Name ∷ Global ∷ []) list_goes refl refl (made_reads first_and_rest (tail_reads (plain_act_reads m) (many_takes (after_reads (sign ",") r) refl) refl))

  else_acts_reads : Reads m (g.ElseActs A) (g.ElseActs A') (d.else_acts_parser a) (word "ELSE" ∷ []) list_goes
  unfolding g.ElseActs d.else_acts_parser
  else_acts_reads = after_reads (word "ELSE") last_acts_reads

  acts_end_reads : Reads m (g.ActsEnd A) (g.ActsEnd A') (d.acts_end_parser a) (word "ELSE" ∷ word "END" ∷ []) []
  unfolding g.ActsEnd d.acts_end_parser is_reserved
  acts_end_reads = ended_takes (word "END") (maybe_takes else_acts_reads) refl

  -- at the start of the last acts or of the end, no other IF of the chain is found
  act_branches_reads : Reads m (g.ActBranches A) (g.ActBranches A') (d.act_branches_parser a) (word "ELSE" ∷ word "END" ∷ []) []
  unfolding g.ActBranches d.act_branches_parser g.ActsEnd g.ElseActs is_reserved
  act_branches_reads =
      widen (word "ELSE" ∷ word "END" ∷ []) [] refl refl
      (many_lead (after_reads (word "ELSE") (if_acts_reads m (more m))) acts_end_reads refl refl
      (λ b x y s le. end_none (word "END") (g.ElseActs A) (after_reads (word "ELSE") (if_acts_reads m (more m))) refl
      (λ b x y s. after_apart (word "ELSE") (word "ELSE") (Name ∷ Global ∷ []) (if_acts_reads m (more m)) last_acts_reads refl b x y s)
      b x y s))

  act_in_reads : (n : ℕ) → n ≤ suc m → Reads n (g.ActIn A) (g.ActIn A') (d.act_in_parser a) act_firsts goes
  unfolding g.ActIn d.act_in_parser is_reserved
  act_in_reads n nm =
      widen act_firsts goes refl refl (either_reads (plain_act_reads n) (made_reads if_act (then_reads (if_acts_reads n nm) act_branches_reads nm refl)) refl)

-- ---- the recursion: what is read is derived in n levels; what is derived in k levels is read, in at most n tokens

nested_begins : (k : ℕ) (r : Reads zero (g.NestedAct k) (g.NestedAct zero) (d.nested_act_parser zero) act_firsts goes) (t : ActTree) (x : Lexemes) → g.NestedAct (suc k) t x → Starts act_firsts x
unfolding g.NestedAct
nested_begins k r t x s = (act_in_reads zero (g.NestedAct k) (g.NestedAct zero) (d.nested_act_parser zero) r zero (omega arith)).begins t x s

nested_reads : (n k : ℕ) → Reads n (g.NestedAct k) (g.NestedAct n) (d.nested_act_parser n) act_firsts goes
unfolding g.NestedAct d.nested_act_parser
nested_reads zero zero = record {
  sound = λ l t r h. cc;
  opens = λ l t r h. cc;
  begins = λ t x s. absurd s;
  whole = λ t x y s le. absurd s;
}
nested_reads zero (suc k) = record {
  sound = λ l t r h. cc;
  opens = λ l t r h. cc;
  begins = nested_begins k (nested_reads zero k);
  whole = λ t x y s le. absurd (no_tokens act_firsts x y le (nested_begins k (nested_reads zero k) t x s));
}
nested_reads (suc n) zero =
    let w = act_in_reads n (g.NestedAct zero) (g.NestedAct n) (d.nested_act_parser n) (nested_reads n zero) (suc n) (omega arith) in
    record { sound = w.sound; opens = w.opens; begins = λ t x s. absurd s; whole = λ t x y s le. absurd s }
nested_reads (suc n) (suc k) =
    let w = act_in_reads n (g.NestedAct k) (g.NestedAct n) (d.nested_act_parser n) (nested_reads n k) (suc n) (omega arith) in
    record { sound = w.sound; opens = w.opens; begins = w.begins; whole = w.whole }

levels_reads : (n : ℕ) → Reads n g.ActOf g.ActOf (d.nested_act_parser n) act_firsts goes
unfolding g.ActOf
levels_reads n = record {
  sound = λ l t r h. let s = (nested_reads n zero).sound l t r h in record { text = s.text; is = s.is; derives = (n, s.derives) };
  opens = (nested_reads n zero).opens;
  begins = λ t x s. (nested_reads n s.0).begins t x s.1;
  whole = λ t x y s le. (nested_reads n s.0).whole t x y s.1 le;
}

act_at : (l : Lexemes) → d.act_parser l ≡ d.nested_act_parser (length l) l
unfolding d.act_parser
act_at l = refl

pub act_reads : (n : ℕ) → Reads n g.ActOf g.ActOf d.act_parser act_firsts goes
unfolding d.act_parser
act_reads n = record {
  sound = λ l t r h. (levels_reads (length l)).sound l t r h;
  opens = λ l t r h. (levels_reads (length l)).opens l t r h;
  begins = λ t x s. (levels_reads n).begins t x s;
  whole = λ t x y s le. goes_as (d.nested_act_parser (length (x ++ y))) d.act_parser goes t (x ++ y) y (act_at (x ++ y)) ((levels_reads (length (x ++ y))).whole t x y s (omega arith));
}

pub acts_reads : (n : ℕ) → Reads n g.Acts g.Acts d.acts_parser act_firsts list_goes
unfolding g.Acts d.acts_parser
acts_reads n = widen act_firsts list_goes refl refl (chain_reads (sign ",") (act_reads n) refl)
