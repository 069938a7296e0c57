-- StepLemmas: the effect of an iteration of the loop over a script, and what its results say.
use Rattle.std.proofs.Common.{◌≡◌, ◌≢◌, ℕ, ◌+◌, ◌<◌, ◌≤◌, List, [], ◌∷◌, ◌++◌, length, get_or, Option, Some, None, Result, Ok, Err, IfOk, refl, sym, ap, ◌∙◌, subst, arith, length-append}
use Rattle.std.specs.Prelude.{IfErr}
use Rattle.std.proofs.lemmas.Option.{slice_get-get_or}
use Rattle.gq_token.specs.declared.token.Token.{Token}
use Rattle.gq_token.specs.Nesting.{IsTooDeepAt, IsShallow}
use Rattle.gq_grammar.specs.Lexemes.{Lexemes, lexemes_of, sign}
use Rattle.gq_grammar.specs.Parsers.{Found, one}
use Rattle.gq_grammar.specs.Reading.{between}
use Rattle.gq_grammar.proofs.Sets.{starts_some}
use Rattle.gq_tree.specs.declared.statement.Statement.{Statement}
use Rattle.gq_tree.specs.declared.statement.Placed.{Placed}
use Rattle.gq_grammar.specs.Cutting.{IsScript, FailsAt}
use Rattle.gq_stmt_read.specs.declared.fault.ScriptFault.{ScriptFault}
use Rattle.gq_stmt_read.specs.declared.fault.ScriptFault.TheVariants.{Syntax, TooDeep, OutOfMemory}
use Rattle.gq_stmt_read.specs.Outcomes.{IsRead, HasFault, IsSyntaxFault}
use Rattle.gq_stmt_read.specs.Statements.{statement_parser}
use Rattle.gq_stmt_read.proofs.StatementReads.{firsts, statement_longest, statement_none, statement_one, statement_begins}
use Rattle.gq_stmt_read.proofs.PlaceLemmas.{length_between, as_many}
use Rattle.gq_stmt_read.proofs.CutLemmas.{CutBefore, sign_next, cut_semicolon, cut_statement, cut_fault}
use Rattle.gq_stmt_read.proofs.ScriptLemmas.{Known, script_alike, fault_alike, script_apart}

pub some_inj : {X : Type 0} {x y : X} → Some x ≡ Some y → x ≡ y
some_inj h = cc

pub none_some : {X : Type 0} {x : X} → None ≡ Some x → ⊥
none_some h = cc

-- these statements are cut up to the next place, which is further on
pub record Stepped (bytes : List ℕ) (tokens : List Token) (found : List Placed) (at next : ℕ) : Type 0 where
  pub within : next ≤ length tokens
  pub counted : length found ≤ next
  pub before : CutBefore bytes tokens found next
  pub further : at < next

pub known : Known
known = record { begins = statement_begins; one = statement_one }

module _ (bytes : List ℕ) (tokens : List Token) (all : Lexemes) (is : all ≡ lexemes_of bytes tokens) where
  many : length all ≡ length tokens
  many = ap length is ∙ as_many bytes tokens

  pub semicolon_step : (found : List Placed) (at next : ℕ) → length found ≤ at → CutBefore bytes tokens found at → at < length tokens → Found (one (sign ";")) all at (Some (tt, next)) → Stepped bytes tokens found at next
  semicolon_step found at next counted c lt f =
      let g : Found (one (sign ";")) (lexemes_of bytes tokens) at (Some (tt, next)) = subst (λ l. Found (one (sign ";")) l at (Some (tt, next))) is f in
      let e : next ≡ at + 1 = sign_next bytes tokens (sign ";") at next g in
      record {
        within = omega (arith, f.2, many);
        counted = omega arith;
        before = cut_semicolon bytes tokens found at next c lt g;
        further = omega arith;
      }

  pub statement_step : (found after : List Placed) (at next : ℕ) (s : Statement) (o : Option (Statement × ℕ)) (d : Token) → length found ≤ at → CutBefore bytes tokens found at → at < length tokens
      → Found statement_parser all at o → o ≡ Some (s, next) → after ≡ found ++ (record { statement = s; from = (get_or tokens at d).from }) ∷ [] → Stepped bytes tokens after at next
  statement_step found after at next s o d counted c lt f e pushed =
      let script = lexemes_of bytes tokens in
      let p : Placed = record { statement = s; from = (get_or tokens at d).from } in
      let g : Found statement_parser script at (Some (s, next)) = subst (λ l. Found statement_parser l at (Some (s, next))) is (subst (Found statement_parser all at) e f) in
      let l = statement_longest script at s next g in
      let some = starts_some firsts (between script at next) (statement_begins s (between script at next) l.derives) in
      let further : at < next = omega (arith, some, length_between script at next l.from_le l.to_le) in
      let cut = cut_statement bytes tokens found at next p (get_or tokens at d) c l (slice_get-get_or tokens at d lt) refl in
      record {
        within = omega (arith, l.to_le, as_many bytes tokens);
        counted = omega (arith, ap length pushed, length-append found (p ∷ []));
        before = subst (λ z. CutBefore bytes tokens z next) (sym pushed) cut;
        further = further;
      }

  pub fault_step : (found : List Placed) (at count : ℕ) (o : Option (Statement × ℕ)) (d : Token) → CutBefore bytes tokens found at → at < length tokens → Found (one (sign ";")) all at None
      → Found statement_parser all at o → o ≡ None → count ≡ length found → FailsAt bytes tokens (count + 1) (get_or tokens at d).from
  fault_step found at count o d c lt f g e n =
      let script = lexemes_of bytes tokens in
      let none = statement_none script at (subst (λ l. Found statement_parser l at None) is (subst (Found statement_parser all at) e g)) in
      cut_fault bytes tokens found at (count + 1) (get_or tokens at d).from (get_or tokens at d) c (slice_get-get_or tokens at d lt)
      (subst (λ l. Found (one (sign ";")) l at None) is f) none (ap (λ z. z + 1) n) refl

-- ---- what no other result can be

module _ {X : Type 0} (items : X → List Placed) (known : Known) (bytes : List ℕ) (tokens : List Token) where
  -- no token nests too deeply
  abbrev IsNeverDeep : Type 0
  IsNeverDeep = (place : ℕ) → IsTooDeepAt bytes tokens place → ⊥

  pub is_script : (r : Result X ScriptFault) → IsShallow bytes tokens → IfOk r (λ found. IsScript bytes tokens (items found)) → IfOk r (λ found. IsRead bytes tokens (items found))
  is_script (Err e) shallow h = h
  is_script (Ok found) shallow h = (shallow, h)

  pub only_script : (r : Result X ScriptFault) → IfOk r (λ found. IsScript bytes tokens (items found)) → IfOk r (λ found. (statements : List Placed) → IsRead bytes tokens statements → statements ≡ items found)
  only_script (Err e) h = h
  only_script (Ok found) h = λ statements s. script_alike bytes tokens known statements (items found) s.1 h

  none_beside : (statements : List Placed) → IsScript bytes tokens statements → IsNeverDeep → (fault : ScriptFault) → HasFault bytes tokens fault → ⊥
  none_beside statements s never (Syntax number at) h = script_apart bytes tokens known statements number at s h.1
  none_beside statements s never (TooDeep place) h = never place h
  none_beside statements s never OutOfMemory h = h

  pub no_fault : IsNeverDeep → (r : Result X ScriptFault) → IfOk r (λ found. IsScript bytes tokens (items found)) → IfOk r (λ found. (fault : ScriptFault) → HasFault bytes tokens fault → ⊥)
  no_fault never (Err e) h = h
  no_fault never (Ok found) h = λ fault f. none_beside (items found) h never fault f

  other_fault : IsNeverDeep → (number at : ℕ) → FailsAt bytes tokens number at → (other : ScriptFault) → HasFault bytes tokens other → other ≡ Syntax number at
  other_fault never number at f (Syntax m place) h =
      let w = fault_alike bytes tokens known m place number at h.1 f in
      ap (λ n. Syntax n place) w.0 ∙ ap (λ n. Syntax number n) w.1
  other_fault never number at f (TooDeep place) h = absurd (never place h)
  other_fault never number at f OutOfMemory h = absurd h

  only_this : IsNeverDeep → (fault : ScriptFault) → IsSyntaxFault bytes tokens fault → fault ≢ OutOfMemory → (other : ScriptFault) → HasFault bytes tokens other → other ≡ fault
  only_this never (Syntax number at) h ne = other_fault never number at h
  only_this never (TooDeep at) h ne = absurd h
  only_this never OutOfMemory h ne = absurd (ne refl)

  pub only_fault : IsNeverDeep → (r : Result X ScriptFault) → IfErr r (IsSyntaxFault bytes tokens) → IfErr r (λ fault. fault ≢ OutOfMemory → (other : ScriptFault) → HasFault bytes tokens other → other ≡ fault)
  only_fault never (Ok found) h = h
  only_fault never (Err fault) h = only_this never fault h

  not_this : (fault : ScriptFault) → IsSyntaxFault bytes tokens fault → fault ≢ OutOfMemory → (statements : List Placed) → IsRead bytes tokens statements → ⊥
  not_this (Syntax number at) h ne = λ statements s. script_apart bytes tokens known statements number at s.1 h
  not_this (TooDeep at) h ne = absurd h
  not_this OutOfMemory h ne = absurd (ne refl)

  pub no_script : (r : Result X ScriptFault) → IfErr r (IsSyntaxFault bytes tokens) → IfErr r (λ fault. fault ≢ OutOfMemory → (statements : List Placed) → IsRead bytes tokens statements → ⊥)
  no_script (Ok found) h = h
  no_script (Err fault) h = not_this fault h

-- ---- what a script that nests too deeply can't be

module _ (bytes : List ℕ) (tokens : List Token) (at : ℕ) where
  pub deep_only : ((place : ℕ) → IsTooDeepAt bytes tokens place → Some at ≡ Some place) → (IsShallow bytes tokens → ⊥) → (other : ScriptFault) → HasFault bytes tokens other → other ≡ TooDeep at
  deep_only only shallow (Syntax number place) h = absurd (shallow h.0)
  deep_only only shallow (TooDeep place) h = ap TooDeep (sym (some_inj (only place h)))
  deep_only only shallow OutOfMemory h = absurd h
