-- StmtReads: statements are read as the grammar says, a lemma for each production.
use Rattle.std.proofs.Common.{◌≡◌, ℕ, zero, suc, ◌≤◌, List, [], ◌∷◌, ◌++◌, length, Option, Some, None, refl, sym, ap, ◌∙◌, subst, arith}
use Rattle.gq_tree.specs.declared.body.Stmt.{Stmt}
use Rattle.gq_tree.specs.declared.body.OverTree.TheVariants as over
use Rattle.gq_grammar.specs.Bodies.{while_of, range_of, foreach_of, branch_of, else_of, if_of}
use Rattle.gq_grammar.specs.Bodies as g
use Rattle.gq_grammar.specs.Lexemes.{Lexemes, Terminal, Name, Global, sign, word, spelling}
use Rattle.gq_grammar.specs.Reserved.{is_reserved}
use Rattle.gq_grammar.specs.Languages.{Language, ◌then◌, Maybe}
use Rattle.gq_grammar.specs.Signs.{One}
use Rattle.gq_grammar.specs.Series.{Ended, ended}
use Rattle.gq_grammar.specs.Parsers.{Parser, both, after}
use Rattle.gq_grammar.proofs.Sets.{Starts, starts_left, starts_right, starts_on}
use Rattle.gq_grammar.proofs.Claims.{Reads, Takes, widen}
use Rattle.gq_grammar.proofs.TokenLemmas.{token_reads}
use Rattle.gq_grammar.proofs.ThenLemmas.{then_reads, tail_reads}
use Rattle.gq_grammar.proofs.MadeLemmas.{made_reads, either_reads, maybe_takes}
use Rattle.gq_grammar.proofs.ManyLemmas.{many_takes}
use Rattle.gq_grammar.proofs.SignLemmas.{one_reads, after_reads}
use Rattle.gq_grammar.proofs.SeriesLemmas.{ended_reads, ended_takes}
use Rattle.gq_grammar.proofs.ExactLemmas.{opens_none, after_none, many_lead}
use Rattle.gq_expr_read.proofs.Productions.{firsts, goes}
use Rattle.gq_parse_common.proofs.Steps.{more, after_more, goes_as, expression_reads}
use Rattle.gq_parse_select.specs.Bodies as d
use Rattle.gq_parse_query.proofs.SetReads.{right_goes, assign_reads, local_reads, global_reads}
use Rattle.gq_parse_query.proofs.PrintReads.{print_reads}

-- the terminals with which statements other than IF begin
abbrev pub plain_firsts : List Terminal
plain_firsts =
    word "INT" ∷ word "UINT" ∷ word "BOOL" ∷ word "STRING" ∷ word "VERTEX" ∷ Name ∷ Global ∷ word "PRINT" ∷ word "WHILE" ∷ word "FOREACH" ∷ []

-- the terminals with which statements begin, and those that may continue them
abbrev pub stmt_firsts : List Terminal
stmt_firsts = word "IF" ∷ plain_firsts

abbrev pub stmt_goes : List Terminal
stmt_goes = sign "," ∷ sign "=" ∷ sign "[" ∷ word "AS" ∷ right_goes

-- ---- statements that contain no statements

module _ (n : ℕ) where
  limit_reads : Reads n g.Limit g.Limit d.limit_parser (word "LIMIT" ∷ []) goes
  unfolding g.Limit d.limit_parser
  limit_reads = after_reads (word "LIMIT") (expression_reads n)

  range_reads : Reads n g.RangeOf g.RangeOf d.range_parser (word "RANGE" ∷ []) []
  unfolding g.RangeOf d.range_parser
  range_reads =
      made_reads range_of
      (after_reads (word "RANGE") (after_reads (sign "[") (then_reads (expression_reads n) (after_reads (sign ",") (ended_reads (sign "]") (expression_reads n) refl)) (more n) refl)))

  over_reads : Reads n g.OverOf g.OverOf d.over_parser (firsts ++ (word "RANGE" ∷ [])) goes
  unfolding g.OverOf d.over_parser is_reserved
  over_reads = widen (firsts ++ (word "RANGE" ∷ [])) goes refl refl (either_reads (made_reads over.Elements (expression_reads n)) range_reads refl)

-- ---- statements that contain statements, which have one token less

module _ (m : ℕ) (S S' : Language Stmt) (s : Parser Stmt) (r : Reads m S S' s stmt_firsts stmt_goes) where
  stmts_takes : Takes m (g.Stmts S) (g.Stmts S') (d.stmts_parser s) stmt_firsts stmt_firsts
  unfolding g.Stmts d.stmts_parser
  stmts_takes = many_takes (ended_reads (sign ";") r refl) refl

  do_body_reads : Reads m (g.DoBody S) (g.DoBody S') (d.do_body_parser s) (word "DO" ∷ []) []
  unfolding g.DoBody d.do_body_parser is_reserved
  do_body_reads = after_reads (word "DO") (ended_takes (word "END") stmts_takes refl)

  while_reads : (n : ℕ) → n ≤ suc m → Reads n (g.WhileOf S) (g.WhileOf S') (d.while_parser s) (word "WHILE" ∷ []) []
  unfolding g.WhileOf d.while_parser
  while_reads n nm =
      made_reads while_of (then_reads (after_reads (word "WHILE") (tail_reads (expression_reads n) (maybe_takes (limit_reads n)) refl)) do_body_reads nm refl)

  foreach_reads : (n : ℕ) → n ≤ suc m → Reads n (g.ForeachOf S) (g.ForeachOf S') (d.foreach_parser s) (word "FOREACH" ∷ []) []
  unfolding g.ForeachOf d.foreach_parser
  foreach_reads n nm =
      made_reads foreach_of
      (after_more (word "FOREACH") nm (then_reads (token_reads m Name spelling) (then_reads (after_reads (word "IN") (over_reads m)) do_body_reads (more m) refl) (more m) refl))

  plain_reads : (n : ℕ) → n ≤ suc m → Reads n (g.PlainStmt S) (g.PlainStmt S') (d.plain_parser s) plain_firsts stmt_goes
  unfolding g.PlainStmt d.plain_parser is_reserved
  plain_reads n nm =
      widen plain_firsts stmt_goes refl refl
      (either_reads
      (either_reads
      (either_reads (either_reads (either_reads (local_reads n) (assign_reads n) refl) (global_reads n) refl) (print_reads n) refl)
      (while_reads n nm) refl)
      (foreach_reads n nm) refl)

  branch_reads : Reads m (g.Branch S) (g.Branch S') (d.branch_parser s) firsts stmt_firsts
  unfolding g.Branch d.branch_parser
  branch_reads = made_reads branch_of (then_reads (expression_reads m) (tail_reads (one_reads m (word "THEN")) stmts_takes refl) (more m) refl)

  if_branch_reads : (n : ℕ) → n ≤ suc m → Reads n (g.IfBranch S) (g.IfBranch S') (d.if_branch_parser s) (word "IF" ∷ []) stmt_firsts
  unfolding g.IfBranch d.if_branch_parser
  if_branch_reads n nm = after_more (word "IF") nm branch_reads

  else_first_reads : Reads m (Ended (sign ";") (g.PlainStmt S) then g.Stmts S) (Ended (sign ";") (g.PlainStmt S') then g.Stmts S') (both (ended (sign ";") (d.plain_parser s)) (d.stmts_parser s)) plain_firsts stmt_firsts
  else_first_reads = tail_reads (ended_reads (sign ";") (plain_reads m (more m)) refl) stmts_takes refl

  else_reads : Reads m (g.ElseStmts S) (g.ElseStmts S') (d.else_parser s) (word "ELSE" ∷ []) stmt_firsts
  unfolding g.ElseStmts d.else_parser
  else_reads =
      widen (word "ELSE" ∷ []) stmt_firsts refl refl (made_reads else_of (tail_reads (one_reads m (word "ELSE")) (maybe_takes else_first_reads) refl))

  if_end_reads : Reads m (g.IfEnd S) (g.IfEnd S') (d.if_end_parser s) (word "ELSE" ∷ word "END" ∷ []) []
  unfolding g.IfEnd d.if_end_parser is_reserved
  if_end_reads = ended_takes (word "END") (maybe_takes else_reads) refl

  -- ---- after ELSE come other statements or END: the chain of IF ends there

  else_or_end : (b : Option (Stmt × List Stmt)) (v w : Lexemes) → Maybe (Ended (sign ";") (g.PlainStmt S) then g.Stmts S) b v → One (word "END") tt w → Starts (word "END" ∷ plain_firsts) (v ++ w)
  else_or_end None v w none end =
      subst (λ z. Starts (word "END" ∷ plain_firsts) (z ++ w)) (sym none) (starts_left (word "END" ∷ []) plain_firsts w ((one_reads m (word "END")).begins tt w end))
  else_or_end (Some b) v w some end = starts_on (word "END" ∷ plain_firsts) v w (starts_right (word "END" ∷ []) plain_firsts v (else_first_reads.begins b v some))

  other_branch_none : (b : Option (Stmt × List Stmt)) (x v w y : Lexemes) → One (word "ELSE") tt x → Maybe (Ended (sign ";") (g.PlainStmt S) then g.Stmts S) b v → One (word "END") tt w → after (word "ELSE") (d.if_branch_parser s) (((x ++ v) ++ w) ++ y) ≡ None
  unfolding One is_reserved
  other_branch_none b x v w y first some end =
      ap (λ z. after (word "ELSE") (d.if_branch_parser s) (((z ++ v) ++ w) ++ y)) first.1
      ∙ after_none (word "ELSE") (d.if_branch_parser s) first.0 ((v ++ w) ++ y)
      (opens_none (word "END" ∷ plain_firsts) (if_branch_reads m (more m)) refl ((v ++ w) ++ y) (starts_on (word "END" ∷ plain_firsts) (v ++ w) y (else_or_end b v w some end)))

  last_none : (o : Option (List Stmt)) (u w y : Lexemes) → Maybe (g.ElseStmts S) o u → One (word "END") tt w → after (word "ELSE") (d.if_branch_parser s) ((u ++ w) ++ y) ≡ None
  unfolding g.ElseStmts
  last_none None u w y none end =
      ap (λ z. after (word "ELSE") (d.if_branch_parser s) ((z ++ w) ++ y)) none
      ∙ opens_none (word "END" ∷ []) (after_reads (word "ELSE") (if_branch_reads m (more m))) refl (w ++ y) (starts_on (word "END" ∷ []) w y ((one_reads m (word "END")).begins tt w end))
  last_none (Some b) u w y some end =
      let p = some.1 in
      ap (λ z. after (word "ELSE") (d.if_branch_parser s) ((z ++ w) ++ y)) p.2 ∙ other_branch_none some.0.1 p.0 p.1 w y p.3 p.4 end

  no_other_branch : (o : Option (List Stmt)) (x y : Lexemes) → g.IfEnd S o x → after (word "ELSE") (d.if_branch_parser s) (x ++ y) ≡ None
  unfolding g.IfEnd Ended
  no_other_branch o x y ends =
      let p = ends.1 in
      ap (λ z. after (word "ELSE") (d.if_branch_parser s) (z ++ y)) p.2 ∙ last_none ends.0.0 p.0 p.1 y p.3 p.4

  branches_reads : Reads m (g.Branches S) (g.Branches S') (d.branches_parser s) (word "ELSE" ∷ word "END" ∷ []) []
  unfolding g.Branches d.branches_parser is_reserved
  branches_reads =
      widen (word "ELSE" ∷ word "END" ∷ []) [] refl refl
      (many_lead (after_reads (word "ELSE") (if_branch_reads m (more m))) if_end_reads refl refl (λ b x y e le. no_other_branch b x y e))

  if_reads : (n : ℕ) → n ≤ suc m → Reads n (g.IfOf S) (g.IfOf S') (d.if_parser s) (word "IF" ∷ []) []
  unfolding g.IfOf d.if_parser is_reserved
  if_reads n nm = made_reads if_of (then_reads (if_branch_reads n nm) branches_reads nm refl)

  pub stmt_in_reads : (n : ℕ) → n ≤ suc m → Reads n (g.StmtIn S) (g.StmtIn S') (d.stmt_in_parser s) stmt_firsts stmt_goes
  unfolding g.StmtIn d.stmt_in_parser is_reserved
  stmt_in_reads n nm = widen stmt_firsts stmt_goes refl refl (either_reads (plain_reads n nm) (if_reads n nm) refl)

-- ---- the recursion: what is read is derived in n levels; what is derived in k levels is read, in at most n tokens

no_tokens : (x y : Lexemes) → length (x ++ y) ≤ zero → Starts stmt_firsts x → ⊥
no_tokens [] y le s = s
no_tokens (t ∷ x) y le s = omega (arith, le)

nested_begins : (k : ℕ) (r : Reads zero (g.NestedStmt k) (g.NestedStmt zero) (d.nested_parser zero) stmt_firsts stmt_goes) (t : Stmt) (x : Lexemes) → g.NestedStmt (suc k) t x → Starts stmt_firsts x
unfolding g.NestedStmt
nested_begins k r t x s = (stmt_in_reads zero (g.NestedStmt k) (g.NestedStmt zero) (d.nested_parser zero) r zero (omega arith)).begins t x s

nested_reads : (n k : ℕ) → Reads n (g.NestedStmt k) (g.NestedStmt n) (d.nested_parser n) stmt_firsts stmt_goes
unfolding g.NestedStmt d.nested_parser
nested_reads zero zero = record {
  sound = λ l t r h. cc;
  opens = λ l t r h. cc;
  begins = λ t x s. absurd s;
  whole = λ t x y s le. absurd s;
}
nested_reads zero (suc k) = record {
  sound = λ l t r h. cc;
  opens = λ l t r h. cc;
  begins = nested_begins k (nested_reads zero k);
  whole = λ t x y s le. absurd (no_tokens x y le (nested_begins k (nested_reads zero k) t x s));
}
nested_reads (suc n) zero =
    let w = stmt_in_reads n (g.NestedStmt zero) (g.NestedStmt n) (d.nested_parser n) (nested_reads n zero) (suc n) (omega arith) in
    record { sound = w.sound; opens = w.opens; begins = λ t x s. absurd s; whole = λ t x y s le. absurd s }
nested_reads (suc n) (suc k) =
    let w = stmt_in_reads n (g.NestedStmt k) (g.NestedStmt n) (d.nested_parser n) (nested_reads n k) (suc n) (omega arith) in
    record { sound = w.sound; opens = w.opens; begins = w.begins; whole = w.whole }

levels_reads : (n : ℕ) → Reads n g.StmtOf g.StmtOf (d.nested_parser n) stmt_firsts stmt_goes
unfolding g.StmtOf
levels_reads n = record {
  sound = λ l t r h. let s = (nested_reads n zero).sound l t r h in record { text = s.text; is = s.is; derives = (n, s.derives) };
  opens = (nested_reads n zero).opens;
  begins = λ t x s. (nested_reads n s.0).begins t x s.1;
  whole = λ t x y s le. (nested_reads n s.0).whole t x y s.1 le;
}

statement_at : (l : Lexemes) → d.statement_parser l ≡ d.nested_parser (length l) l
unfolding d.statement_parser
statement_at l = refl

pub statement_reads : (n : ℕ) → Reads n g.StmtOf g.StmtOf d.statement_parser stmt_firsts stmt_goes
unfolding d.statement_parser
statement_reads n = record {
  sound = λ l t r h. (levels_reads (length l)).sound l t r h;
  opens = λ l t r h. (levels_reads (length l)).opens l t r h;
  begins = λ t x s. (levels_reads n).begins t x s;
  whole = λ t x y s le. goes_as (d.nested_parser (length (x ++ y))) d.statement_parser stmt_goes t (x ++ y) y (statement_at (x ++ y)) ((levels_reads (length (x ++ y))).whole t x y s (omega arith));
}
