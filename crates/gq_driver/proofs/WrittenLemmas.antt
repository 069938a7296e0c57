-- WrittenLemmas: in the statements of a script INTERPRET QUERY has no parameters.
use Rattle.std.proofs.Common.{◌≡◌, ℕ, zero, suc, ◌<◌, length, get_or, All, inl, inr, List, [], ◌∷◌, ap, sym, ◌∙◌, subst, arith}
use Rattle.gq_token.specs.declared.token.Token.{Token}
use Rattle.gq_tree.specs.declared.query.QueryTree.{QueryTree}
use Rattle.gq_tree.specs.declared.statement.Placed.{Placed}
use Rattle.gq_tree.specs.declared.statement.Statement.{Statement}
use Rattle.gq_tree.specs.declared.statement.Statement.TheVariants as top
use Rattle.gq_grammar.specs.Cutting.{Cuts, IsScript}
use Rattle.gq_grammar.specs.Languages.{Language, Made, ◌∣◌}
use Rattle.gq_grammar.specs.Lexemes.{Lexemes, Terminal}
use Rattle.gq_grammar.specs.Jobs.{RunJobOf}
use Rattle.gq_grammar.specs.Queries.{InterpretOf, RunOf}
use Rattle.gq_grammar.specs.Scripts.{Created, StatementOf}
use Rattle.gq_grammar.specs.Signs.{Stands, After}
use Rattle.gq_session.specs.Safe.{IsWritten}

abbrev pub AreWritten : List Placed → Type 0
AreWritten [] = Unit {0}
AreWritten (p ∷ others) = IsWritten p.statement × AreWritten others

after_has : {A : Type 0} (t : Terminal) (D : Language A) (b : A) (x : Lexemes) → After t D b x → (v : Lexemes) × D b v
unfolding After
after_has t D b x (p, (u, v, cut, one, derives), is) = (v, subst (λ a. D a v) (sym is) derives)

stands_is : {A : Type 0} (t : Terminal) (a b : A) (x : Lexemes) → Stands a t b x → b ≡ a
unfolding Stands
stands_is t a b x (u, one, is) = is

interpret_bare : (tree : QueryTree) (x : Lexemes) → InterpretOf tree x → tree.parameters ≡ []
unfolding InterpretOf
interpret_bare tree x (p, derives, is) = ap (λ (t : QueryTree). t.parameters) is

-- CREATE and RUN begin no INTERPRET QUERY
not_created : (tree : QueryTree) (x : Lexemes) → Created (top.Interpret tree) x → ⊥
unfolding Created
not_created tree x (inl (inl (inl (inl (a, derives, is))))) = cc is
not_created tree x (inl (inl (inl (inr (a, derives, is))))) = cc is
not_created tree x (inl (inl (inr (a, derives, is)))) = cc is
not_created tree x (inl (inr (a, derives, is))) = cc is
not_created tree x (inr (a, derives, is)) = cc is

module _ (tree : QueryTree) where
  not_run : (x : Lexemes) → (Made top.RunJob RunJobOf ∣ Made top.Run RunOf) (top.Interpret tree) x → ⊥
  not_run x (inl (a, derives, is)) = cc is
  not_run x (inr (a, derives, is)) = cc is

  same_tree : (other : QueryTree) → top.Interpret tree ≡ top.Interpret other → tree ≡ other
  same_tree other is = cc

  interpret_written : (x : Lexemes) → StatementOf (top.Interpret tree) x → tree.parameters ≡ []
  unfolding StatementOf
  interpret_written x (inl (inl (inl (inl (inl (inl (inl created))))))) = absurd (let has = after_has _ Created (top.Interpret tree) x created in not_created tree has.0 has.1)
  interpret_written x (inl (inl (inl (inl (inl (inl (inr (a, derives, is)))))))) = absurd (cc is)
  interpret_written x (inl (inl (inl (inl (inl (inr ran)))))) =
      absurd (let has = after_has _ (Made top.RunJob RunJobOf ∣ Made top.Run RunOf) (top.Interpret tree) x ran in not_run has.0 has.1)
  interpret_written x (inl (inl (inl (inl (inr (a, derives, is)))))) = absurd (cc is)
  interpret_written x (inl (inl (inl (inr (a, derives, is))))) =
      let same = same_tree a is in ap (λ (t : QueryTree). t.parameters) same ∙ interpret_bare a x derives
  interpret_written x (inl (inl (inr (a, derives, is)))) = absurd (cc is)
  interpret_written x (inl (inr begins)) = absurd (let is = stands_is _ top.Begin (top.Interpret tree) x begins in cc is)
  interpret_written x (inr ends) = absurd (let is = stands_is _ top.End (top.Interpret tree) x ends in cc is)

statement_written : (p : Statement) (x : Lexemes) → StatementOf p x → IsWritten p
statement_written (top.Interpret tree) x derives = interpret_written tree x derives
statement_written (top.Vertex tree) x derives = tt
statement_written (top.Edge tree) x derives = tt
statement_written (top.Graph tree) x derives = tt
statement_written (top.Use name) x derives = tt
statement_written (top.Job tree) x derives = tt
statement_written (top.RunJob tree) x derives = tt
statement_written (top.Query replace name tree) x derives = tt
statement_written (top.Install which) x derives = tt
statement_written (top.Run tree) x derives = tt
statement_written (top.Insert tree) x derives = tt
statement_written top.Begin x derives = tt
statement_written top.End x derives = tt

module _ (bytes : List ℕ) (tokens : List Token) where
  cuts_written : (at : ℕ) (statements : List Placed) (to : ℕ) → Cuts bytes tokens at statements to → AreWritten statements
  cuts_written at [] to cuts = tt
  cuts_written at (p ∷ others) to (next, is, cuts) = (statement_written p.statement _ is.longest.derives, cuts_written next others to cuts)

  pub script_written : (statements : List Placed) → IsScript bytes tokens statements → AreWritten statements
  script_written statements is = cuts_written 0 statements is.end is.cuts

  -- by place
  pub each_written : (statements : List Placed) → IsScript bytes tokens statements → All (λ p. IsWritten p.statement) statements
  each_written statements is = by statements (script_written statements is)
    where
      by : (ps : List Placed) → AreWritten ps → (k : ℕ) (d : Placed) → k < length ps → IsWritten (get_or ps k d).statement
      by [] written k d low = absurd (omega arith)
      by (p ∷ others) written zero d low = written.0
      by (p ∷ others) written (suc k) d low = by others written.1 k d (omega arith)
