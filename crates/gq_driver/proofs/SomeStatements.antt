-- SomeStatements: tokens form a script, or one of its statements can't be parsed.
use Rattle.std.proofs.Common.{◌≡◌, ℕ, zero, suc, ◌+◌, ◌-◌, ◌<◌, ◌≤◌, ◌⊎◌, inl, inr, Bool, true, false, All, List, [], ◌∷◌, ◌++◌, length, take, drop, get_or, Option, Some, None, refl, ap, sym, ◌∙◌, subst, arith, length-append, length-drop, length-take}
use Rattle.std.specs.Prelude.{slice_get}
use Rattle.std.specs.Option.{option_map}
use Rattle.std.proofs.Math.Seq.{drop-append_seam}
use Rattle.std.proofs.lemmas.Bool.{cases_lt}
use Rattle.std.proofs.lemmas.List.{drop-drop, drop_more, length-map}
use Rattle.std.proofs.lemmas.List.Elements.{All-cons}
use Rattle.std.proofs.lemmas.Option.{slice_get-get_or, slice_get-map, get_or_from_slice_get}
use Rattle.gq_token.specs.declared.token.Token.{Token}
use Rattle.gq_token.specs.declared.token.TokenKind.TheVariants.{Word}
use Rattle.gq_grammar.specs.Lexemes.{Lexeme, Lexemes, lexeme_of, lexemes_of, sign, is_of}
use Rattle.gq_grammar.specs.Parsers.{Found}
use Rattle.gq_grammar.specs.Reading.{between, IsLongest, HasNone}
use Rattle.gq_grammar.specs.Scripts.{StatementOf}
use Rattle.gq_grammar.specs.Cutting.{IsSemicolon, AreSemicolons, Cuts, IsScript, FailsAt}
use Rattle.gq_grammar.proofs.Sets.{starts_some}
use Rattle.gq_grammar.proofs.Claims.{Spelled}
use Rattle.gq_tree.specs.declared.statement.Statement.{Statement}
use Rattle.gq_tree.specs.declared.statement.Placed.{Placed}
use Rattle.gq_stmt_read.specs.Statements.{statement_parser}
use Rattle.gq_stmt_read.proofs.StatementReads.{firsts, statement_reads, statement_longest, statement_none, statement_begins}

-- the rest after a prefix is the suffix after as many lexemes
behind : (all : Lexemes) (at : ℕ) (text rest : Lexemes) → drop at all ≡ text ++ rest → drop (at + length text) all ≡ rest
behind all at text rest is = sym (drop-drop (length text) at all) ∙ ap (drop (length text)) is ∙ drop-append_seam text rest

module _ (bytes : List ℕ) (tokens : List Token) where
  abbrev all : Lexemes
  all = lexemes_of bytes tokens

  as_many : length all ≡ length tokens
  as_many = length-map tokens (lexeme_of bytes)

  -- the default for a token that doesn't exist
  abbrev no_token : Token
  no_token = record { shape = Word; from = 0; to = 0 }

  -- from a token on the rest consists of these statements
  record IsRead (at : ℕ) : Type 0 where
    statements : List Placed
    end : ℕ
    cuts : Cuts bytes tokens at statements end
    rest : AreSemicolons bytes tokens end (length tokens)

  -- or a statement after these can't be parsed
  record IsStuck (at : ℕ) : Type 0 where
    statements : List Placed
    end : ℕ
    cuts : Cuts bytes tokens at statements end
    start : ℕ
    apart : AreSemicolons bytes tokens end start
    token : Token
    stands : slice_get tokens start ≡ Some token
    other : is_of (sign ";") (lexeme_of bytes token) ≡ false
    none : HasNone StatementOf all start

  abbrev Reads : ℕ → Type 0
  Reads at = IsStuck at ⊎ IsRead at

  -- between a token and itself there are only lone `;`
  nothing_between : (at : ℕ) → at ≤ length tokens → AreSemicolons bytes tokens at at
  nothing_between at low = record {
    from_le = omega arith;
    to_le = low;
    all = λ k d less. absurd (omega (arith, length-take (at - at) (drop at all), less));
  }

  at_end : (at : ℕ) → at ≤ length tokens → length tokens ≤ at → Reads at
  at_end at low over =
      let all_read : at ≡ length tokens = omega arith in
      inr (record { statements = []; end = at; cuts = refl; rest = subst (AreSemicolons bytes tokens at) all_read (nothing_between at low) })

  module _ (at : ℕ) (below : at < length tokens) where
    -- the token there
    abbrev here : Token
    here = get_or tokens at no_token

    stands_here : slice_get tokens at ≡ Some here
    stands_here = slice_get-get_or tokens at no_token below

    -- its lexeme
    abbrev lexeme : Lexeme
    lexeme = lexeme_of bytes here

    lexeme_here : get_or all at lexeme ≡ lexeme
    lexeme_here = get_or_from_slice_get all at lexeme lexeme (slice_get-map (lexeme_of bytes) tokens at ∙ ap (option_map (lexeme_of bytes)) stands_here)

    -- ---- a lone `;`

    module _ (is : is_of (sign ";") lexeme ≡ true) where
      -- before others
      one_more : (to : ℕ) → AreSemicolons bytes tokens (at + 1) to → AreSemicolons bytes tokens at to
      one_more to more =
          let count : to - at ≡ suc (to - (at + 1)) = omega (arith, more.from_le) in
          let whole : between all at to ≡ lexeme ∷ between all (at + 1) to =
          ap (λ n. take n (drop at all)) count ∙ ap (take (suc (to - (at + 1)))) (drop_more all at lexeme (omega (arith, as_many, below)))
          ∙ ap (λ t. t ∷ between all (at + 1) to) lexeme_here in
          record {
            from_le = omega (arith, more.from_le);
            to_le = more.to_le;
            all = subst (All IsSemicolon) (sym whole) (All-cons IsSemicolon lexeme (between all (at + 1) to) is more.all);
          }

      -- before statements
      before : (statements : List Placed) (end to : ℕ) → Cuts bytes tokens (at + 1) statements end → AreSemicolons bytes tokens end to
          → (e : ℕ) × Cuts bytes tokens at statements e × AreSemicolons bytes tokens e to
      before [] end to cuts apart = (at, refl, one_more to (subst (λ i. AreSemicolons bytes tokens i to) (sym cuts) apart))
      before (s ∷ others) end to (next, first, cuts) apart =
          (end, (next, record { start = first.start; apart = one_more first.start first.apart; longest = first.longest; place = first.place }, cuts), apart)

      past_semicolon : Reads (at + 1) → Reads at
      past_semicolon (inl stuck) =
          let cut = before stuck.statements stuck.end stuck.start stuck.cuts stuck.apart in
          inl (record {
            statements = stuck.statements;
            end = cut.0;
            cuts = cut.1;
            start = stuck.start;
            apart = cut.2;
            token = stuck.token;
            stands = stuck.stands;
            other = stuck.other;
            none = stuck.none;
          })
      past_semicolon (inr read) =
          let cut = before read.statements read.end (length tokens) read.cuts read.rest in
          inr (record { statements = read.statements; end = cut.0; cuts = cut.1; rest = cut.2 })

    -- ---- a statement

    module _ (is : is_of (sign ";") lexeme ≡ false) where
      -- no statement begins there
      stuck_here : statement_parser (drop at all) ≡ None → Reads at
      stuck_here none = inl (record {
        statements = [];
        end = at;
        cuts = refl;
        start = at;
        apart = nothing_between at (omega arith);
        token = here;
        stands = stands_here;
        other = is;
        none = statement_none all at none;
      })

      -- a statement does, and the rest is parsed after it
      past_statement : (s : Statement) (rest : Lexemes) → statement_parser (drop at all) ≡ Some (s, rest) → ((to : ℕ) → at < to → to ≤ length tokens → Reads to) → Reads at
      past_statement s rest reads next =
          let spelled : Spelled StatementOf (drop at all) s rest = (statement_reads 0).sound (drop at all) s rest reads in
          let to = at + length spelled.text in
          let within : to ≤ length all = omega (arith, ap length spelled.is, length-append spelled.text rest, length-drop at all, below, as_many) in
          let some = starts_some firsts spelled.text (statement_begins s spelled.text spelled.derives) in
          let left : drop to all ≡ rest = behind all at spelled.text rest spelled.is in
          let found : Found statement_parser all at (Some (s, to)) = (reads ∙ ap (λ l. Some (s, l)) (sym left), omega arith, within) in
          with_first to (statement_longest all at s to found) (next to (omega (arith, some)) (omega (arith, within, as_many)))
        where
          placed : Placed
          placed = record { statement = s; from = here.from }

          with_first : (to : ℕ) → IsLongest StatementOf all at s to → Reads to → Reads at
          with_first to longest (inl stuck) = inl (record {
            statements = placed ∷ stuck.statements;
            end = stuck.end;
            cuts = (to, record { start = at; apart = nothing_between at (omega arith); longest = longest; place = (here, stands_here, refl) }, stuck.cuts);
            start = stuck.start;
            apart = stuck.apart;
            token = stuck.token;
            stands = stuck.stands;
            other = stuck.other;
            none = stuck.none;
          })
          with_first to longest (inr read) = inr (record {
            statements = placed ∷ read.statements;
            end = read.end;
            cuts = (to, record { start = at; apart = nothing_between at (omega arith); longest = longest; place = (here, stands_here, refl) }, read.cuts);
            rest = read.rest;
          })

      parsed : (o : Option (Statement × Lexemes)) → statement_parser (drop at all) ≡ o → ((to : ℕ) → at < to → to ≤ length tokens → Reads to) → Reads at
      parsed None reads next = stuck_here reads
      parsed (Some (s, rest)) reads next = past_statement s rest reads next

    -- the token there, and the rest after it
    one_read : (b : Bool) → is_of (sign ";") lexeme ≡ b → ((to : ℕ) → at < to → to ≤ length tokens → Reads to) → Reads at
    one_read true is next = past_semicolon is (next (at + 1) (omega arith) (omega arith))
    one_read false is next = parsed is (statement_parser (drop at all)) refl next

  -- from a token on, with at most `left` tokens left
  read_from : (left at : ℕ) → at ≤ length tokens → length tokens - at ≤ left → Reads at
  read_from zero at low few = at_end at low (omega arith)
  read_from (suc left) at low few = by (cases_lt at (length tokens)) (λ to further within. read_from left to within (omega arith))
    where
      by : (at < length tokens) ⊎ (length tokens ≤ at) → ((to : ℕ) → at < to → to ≤ length tokens → Reads to) → Reads at
      by (inr over) next = at_end at low over
      by (inl below) next = one_read at below (is_of (sign ";") (lexeme_of bytes (get_or tokens at no_token))) refl next

  pub script_or_fault : ((number : ℕ) × (at : ℕ) × FailsAt bytes tokens number at) ⊎ ((statements : List Placed) × IsScript bytes tokens statements)
  script_or_fault = by (read_from (length tokens) 0 (omega arith) (omega arith))
    where
      by : Reads 0 → ((number : ℕ) × (at : ℕ) × FailsAt bytes tokens number at) ⊎ ((statements : List Placed) × IsScript bytes tokens statements)
      by (inl stuck) = inl (
        suc (length stuck.statements),
        stuck.token.from,
        record {
          statements = stuck.statements;
          end = stuck.end;
          cuts = stuck.cuts;
          start = stuck.start;
          apart = stuck.apart;
          token = stuck.token;
          stands = stuck.stands;
          other = stuck.other;
          none = stuck.none;
          counted = refl;
          place = refl;
        },
      )
      by (inr read) = inr (read.statements, record { end = read.end; cuts = read.cuts; rest = read.rest })
