-- WalkReads: patterns are read as the grammar says, a lemma for each production.
use Rattle.std.proofs.Common.{◌≡◌, ℕ, List, [], ◌∷◌, ◌++◌, length, Option, Some, None, ◌⊎◌, inl, inr, ⊎_elim, refl, sym, ap, ◌∙◌, subst, arith, append-nil}
use Rattle.gq_tree.specs.declared.select.TypesTree.{TypesTree}
use Rattle.gq_tree.specs.declared.select.TypesTree.TheVariants as types
use Rattle.gq_tree.specs.declared.select.HopTree.{HopTree}
use Rattle.gq_tree.specs.declared.select.Way.{Way}
use Rattle.gq_tree.specs.declared.select.Way.TheVariants as way
use Rattle.gq_tree.specs.declared.select.PatternTree.TheVariants as walk
use Rattle.gq_grammar.specs.Selects.{hop_of, forward_if, backward, step_of, steps_of}
use Rattle.gq_grammar.specs.Selects as g
use Rattle.gq_grammar.specs.Lexemes.{Lexeme, Lexemes, Terminal, Name, sign, word, spelling}
use Rattle.gq_grammar.specs.Reserved.{is_reserved}
use Rattle.gq_grammar.specs.Languages.{Language, Token, ◌then◌, Many, Maybe}
use Rattle.gq_grammar.specs.Signs.{One, After}
use Rattle.gq_grammar.specs.Series.{Chain, Ended, chain}
use Rattle.gq_grammar.specs.Parsers.{Parser, both, maybe, after}
use Rattle.gq_grammar.proofs.Sets.{Starts, starts_on, starts_wide}
use Rattle.gq_grammar.proofs.Claims.{Reads, widen, cut}
use Rattle.gq_grammar.proofs.TokenLemmas.{token_reads}
use Rattle.gq_grammar.proofs.ThenLemmas.{then_reads, tail_reads, lead_reads}
use Rattle.gq_grammar.proofs.MadeLemmas.{made_reads, either_reads, maybe_takes}
use Rattle.gq_grammar.proofs.SignLemmas.{one_reads, stands_reads, after_reads, enclosed_reads}
use Rattle.gq_grammar.proofs.SeriesLemmas.{chain_reads, ended_reads, ended_takes}
use Rattle.gq_grammar.proofs.ExactLemmas.{opens_none, after_none, apart_reads}
use Rattle.gq_parse_common.proofs.Steps.{more}
use Rattle.gq_parse_select.specs.Selects as d
use Rattle.gq_parse_select.proofs.Missing.{none_both, none_second, none_made}

-- the terminals with which types begin
abbrev type_firsts : List Terminal
type_firsts = word "ANY" ∷ word "_" ∷ Name ∷ sign "(" ∷ []

-- the terminals that may continue a hop or a path
abbrev pub walk_goes : List Terminal
walk_goes = sign "-" ∷ sign ":" ∷ sign "|" ∷ type_firsts

module _ (n : ℕ) where
  pub alias_reads : Reads n g.Alias g.Alias d.alias_parser (sign ":" ∷ []) []
  unfolding g.Alias d.alias_parser
  alias_reads = after_reads (sign ":") (token_reads n Name spelling)

  type_names_reads : Reads n g.TypeNames g.TypeNames d.type_names_parser (Name ∷ []) (sign "|" ∷ [])
  unfolding g.TypeNames d.type_names_parser
  type_names_reads = chain_reads (sign "|") (token_reads n Name spelling) refl

  types_reads : Reads n g.TypesOf g.TypesOf d.types_parser type_firsts (sign "|" ∷ [])
  unfolding g.TypesOf d.types_parser is_reserved
  types_reads =
      widen type_firsts (sign "|" ∷ []) refl refl
      (either_reads
      (either_reads
      (either_reads (stands_reads n types.Any (word "ANY")) (stands_reads n types.Any (word "_")) refl)
      (made_reads types.Named type_names_reads) refl)
      (made_reads types.Named (enclosed_reads type_names_reads (more n) refl)) refl)

  edge_alias_reads : Reads n g.EdgeAlias g.EdgeAlias d.edge_alias_parser (sign ":" ∷ sign ")" ∷ []) []
  unfolding g.EdgeAlias d.edge_alias_parser
  edge_alias_reads = ended_takes (sign ")") (maybe_takes alias_reads) refl

  -- ---- one hop

  hop_edges_reads : Reads n g.HopEdges g.HopEdges d.hop_edges_parser (sign "-" ∷ []) []
  unfolding g.HopEdges d.hop_edges_parser
  hop_edges_reads = after_reads (sign "-") (after_reads (sign "(") (lead_reads (maybe_takes types_reads) edge_alias_reads refl))

  hop_reads : Reads n g.HopOf g.HopOf d.hop_parser (sign "-" ∷ []) walk_goes
  unfolding g.HopOf d.hop_parser
  hop_reads =
      widen (sign "-" ∷ []) walk_goes refl refl
      (made_reads hop_of (tail_reads (tail_reads (ended_reads (sign "->") hop_edges_reads refl) (maybe_takes types_reads) refl) (maybe_takes alias_reads) refl))

  -- ---- steps

  way_reads : Reads n g.WayOf g.WayOf d.way_parser (Name ∷ sign "<" ∷ []) (sign ">" ∷ [])
  unfolding g.WayOf d.way_parser
  way_reads =
      either_reads (made_reads forward_if (tail_reads (token_reads n Name spelling) (maybe_takes (one_reads n (sign ">"))) refl)) (made_reads backward (after_reads (sign "<") (token_reads n Name spelling))) refl

  ways_reads : Reads n (Chain (sign "|") g.WayOf) (Chain (sign "|") g.WayOf) (chain (sign "|") d.way_parser) (Name ∷ sign "<" ∷ []) (sign ">" ∷ sign "|" ∷ sign ">" ∷ [])
  ways_reads = chain_reads (sign "|") way_reads refl

  step_edges_reads : Reads n g.StepEdges g.StepEdges d.step_edges_parser (sign "-" ∷ []) []
  unfolding g.StepEdges d.step_edges_parser
  step_edges_reads = after_reads (sign "-") (after_reads (sign "(") (then_reads ways_reads edge_alias_reads (more n) refl))

  step_reads : Reads n g.StepOf g.StepOf d.step_parser (sign "-" ∷ []) (sign "|" ∷ sign ":" ∷ [])
  unfolding g.StepOf d.step_parser
  step_reads = made_reads step_of (tail_reads (then_reads step_edges_reads (after_reads (sign "-") types_reads) (more n) refl) (maybe_takes alias_reads) refl)

  path_reads : Reads n g.PathOf g.PathOf d.path_parser (sign "-" ∷ []) walk_goes
  unfolding g.PathOf d.path_parser
  path_reads =
      widen (sign "-" ∷ []) walk_goes refl refl
      (made_reads steps_of (tail_reads step_reads (maybe_takes (tail_reads step_reads (maybe_takes step_reads) refl)) refl))

-- ---- at a hop, no path is found

after_swap : {A B : Type 0} (k : Terminal) (D : Language A) (E : Language B) (a : A) (b : B) → ((v : Lexemes) → D a v → E b v) → (x : Lexemes) → After k D a x → After k E b x
unfolding After
after_swap k D E a b f x s =
    let u = s.1 in
    ((s.0.0, b), (u.0, u.1, u.2, u.3, f u.1 (subst (λ c. D c u.1) (sym s.2) u.4)), refl)

-- a single name is a direction, both ways
name_way : (a : List ℕ) (v : Lexemes) → Token Name spelling a v → g.WayOf (way.Both, a) v
unfolding g.WayOf
name_way a v s = inl ((a, None), (v, [], sym (append-nil v), s, refl), refl)

more_ways : (names : List (List ℕ)) (x : Lexemes) → Many (After (sign "|") (Token Name spelling)) names x → (ways : List (Way × List ℕ)) × Many (After (sign "|") g.WayOf) ways x
more_ways [] x s = ([], s)
more_ways (a ∷ names) x s =
    let w = more_ways names s.1 s.4 in
    ((way.Both, a) ∷ w.0, (s.0, s.1, s.2, after_swap (sign "|") (Token Name spelling) g.WayOf a (way.Both, a) (name_way a) s.0 s.3, w.1))

names_are_ways : (names : List (List ℕ)) (x : Lexemes) → g.TypeNames names x → (ways : List (Way × List ℕ)) × Chain (sign "|") g.WayOf ways x
unfolding g.TypeNames Chain
names_are_ways names x s =
    let u = s.1 in
    let w = more_ways s.0.1 u.1 u.4 in
    ((way.Both, s.0.0) ∷ w.0, (((way.Both, s.0.0), w.0), (u.0, u.1, u.2, name_way s.0.0 u.0 u.3, w.1), refl))

-- the terminals within the parentheses with which no direction begins
abbrev no_ways : List Terminal
no_ways = sign ":" ∷ sign ")" ∷ word "ANY" ∷ word "_" ∷ sign "(" ∷ []

types_or_ways : (t : TypesTree) (x : Lexemes) → g.TypesOf t x → Starts no_ways x ⊎ ((ways : List (Way × List ℕ)) × Chain (sign "|") g.WayOf ways x)
unfolding g.TypesOf is_reserved
types_or_ways t x s = ⊎_elim
    (λ s. ⊎_elim
    (λ s. inl (starts_wide (word "ANY" ∷ word "_" ∷ []) no_ways refl x ((either_reads (stands_reads 0 types.Any (word "ANY")) (stands_reads 0 types.Any (word "_")) refl).begins t x s)))
    (λ s. inr (names_are_ways s.0 x s.1))
    s)
    (λ s. inl (starts_wide (sign "(" ∷ []) no_ways refl x ((enclosed_reads {n = 0} (type_names_reads 0) (more 0) refl).begins s.0 x s.1)))
    s

abbrev Within : Language (Option TypesTree × Option (List ℕ))
Within = Maybe g.TypesOf then g.EdgeAlias

abbrev WaysWithin : Language (List (Way × List ℕ) × Option (List ℕ))
WaysWithin = Chain (sign "|") g.WayOf then g.EdgeAlias

abbrev ways_within : Parser (List (Way × List ℕ) × Option (List ℕ))
ways_within = both (chain (sign "|") d.way_parser) d.edge_alias_parser

within : (o : Option TypesTree) (alias : Option (List ℕ)) (u v x : Lexemes) → x ≡ u ++ v → Maybe g.TypesOf o u → g.EdgeAlias alias v → Starts no_ways x ⊎ ((c : List (Way × List ℕ) × Option (List ℕ)) × WaysWithin c x)
within None alias u v x e none s =
    inl (subst (Starts no_ways) (sym (e ∙ ap (λ z. z ++ v) none)) (starts_wide (sign ":" ∷ sign ")" ∷ []) no_ways refl v ((edge_alias_reads 0).begins alias v s)))
within (Some t) alias u v x e some s = ⊎_elim
    (λ w. inl (subst (Starts no_ways) (sym e) (starts_on no_ways u v w)))
    (λ w. inr ((w.0, alias), (u, v, e, w.1, s)))
    (types_or_ways t u some)

-- what follows the first lexeme is P, or may as well be E
after_cases : {A B : Type 0} (k : Terminal) (D : Language A) (E : Language B) (P : Lexemes → Type 0) (a : A) → ((v : Lexemes) → D a v → P v ⊎ ((b : B) × E b v)) → (x : Lexemes) → After k D a x
    → ((t : Lexeme) × (v : Lexemes) × (x ≡ t ∷ v) × P v) ⊎ ((b : B) × After k E b x)
unfolding After One
after_cases k D E P a f x s =
    let u = s.1 in
    ⊎_elim
    (λ p. inl (u.3.0, u.1, u.2 ∙ ap (λ z. z ++ u.1) u.3.1, p))
    (λ c. inr (c.0, ((s.0.0, c.0), (u.0, u.1, u.2, u.3, c.1), refl)))
    (f u.1 (subst (λ c. D c u.1) (sym s.2) u.4))

-- a lexeme that no direction follows
abbrev NoWays : Lexemes → Type 0
NoWays v = (t : Lexeme) × (w : Lexemes) × (v ≡ t ∷ w) × Starts no_ways w

no_edges : (x y : Lexemes) (t : Lexeme) (v : Lexemes) → x ≡ t ∷ v → NoWays v → d.step_edges_parser (x ++ y) ≡ None
unfolding d.step_edges_parser is_reserved
no_edges x y t v e n =
    ap (λ z. after (sign "-") (after (sign "(") ways_within) (z ++ y)) (e ∙ ap (λ z. t ∷ z) n.2)
    ∙ after_none (sign "-") (after (sign "(") ways_within) t (n.0 ∷ (n.1 ++ y))
    (after_none (sign "(") ways_within n.0 (n.1 ++ y)
    (none_both (chain (sign "|") d.way_parser) d.edge_alias_parser (n.1 ++ y) (opens_none no_ways (ways_reads 0) refl (n.1 ++ y) (starts_on no_ways n.1 y n.3))))

-- the edges of a hop are those of a step, or no step reads them
edges_or_none : (b : Option TypesTree × Option (List ℕ)) (x y : Lexemes) → g.HopEdges b x → (d.step_edges_parser (x ++ y) ≡ None) ⊎ ((c : List (Way × List ℕ) × Option (List ℕ)) × g.StepEdges c x)
unfolding g.HopEdges g.StepEdges
edges_or_none b x y s = ⊎_elim
    (λ none. inl (no_edges x y none.0 none.1 none.2 none.3))
    (λ some. inr some)
    (after_cases (sign "-") (After (sign "(") Within) (After (sign "(") WaysWithin) NoWays b
    (λ v s. after_cases (sign "(") Within WaysWithin (Starts no_ways) b (λ w q. within b.0 b.1 q.0 q.1 w q.2 q.3 q.4) v s)
    x s)

no_start : (z : Lexemes) → Starts [] z → ⊥
no_start [] h = h
no_start (t ∷ z) h = cc

edges_found : (c : List (Way × List ℕ) × Option (List ℕ)) (u z : Lexemes) → g.StepEdges c u → d.step_edges_parser (u ++ z) ≡ Some (c, z)
edges_found c u z s = ⊎_elim (λ e. e) (λ on. absurd (no_start z on.0)) ((step_edges_reads (length (u ++ z))).whole c u z s (omega arith))

-- edges, followed by an arrow
record Arrow (l : Lexemes) : Type 0 where
  edges : Option TypesTree × Option (List ℕ)
  text : Lexemes
  rest : Lexemes
  is : l ≡ text ++ rest
  derives : g.HopEdges edges text
  on : Starts (sign "->" ∷ []) rest

hop_front : (h : HopTree) (x y : Lexemes) → g.HopOf h x → Arrow (x ++ y)
unfolding g.HopOf Ended
hop_front h x y s =
    let a = s.1 in
    let b = a.3 in
    let c = b.3.1 in
    record {
      edges = b.3.0.0;
      text = c.0;
      rest = c.1 ++ (b.1 ++ (a.1 ++ y));
      is = cut x y a.0 a.1 a.2 ∙ cut a.0 (a.1 ++ y) b.0 b.1 b.2 ∙ cut b.0 (b.1 ++ (a.1 ++ y)) c.0 c.1 c.2;
      derives = c.3;
      on = starts_on (sign "->" ∷ []) c.1 (b.1 ++ (a.1 ++ y)) ((one_reads 0 (sign "->")).begins b.3.0.1 c.1 c.4);
    }

abbrev to_targets : Parser ((List (Way × List ℕ) × Option (List ℕ)) × TypesTree)
to_targets = both d.step_edges_parser (after (sign "-") d.types_parser)

no_targets : (b : Option TypesTree × Option (List ℕ)) (u z : Lexemes) → g.HopEdges b u → Starts (sign "->" ∷ []) z → to_targets (u ++ z) ≡ None
no_targets b u z s on = ⊎_elim
    (λ none. none_both d.step_edges_parser (after (sign "-") d.types_parser) (u ++ z) none)
    (λ some. none_second d.step_edges_parser (after (sign "-") d.types_parser) (u ++ z) some.0 z (edges_found some.0 u z some.1) (opens_none (sign "->" ∷ []) (after_reads (sign "-") (types_reads 0)) refl z on))
    (edges_or_none b u z s)

step_none : (h : HopTree) (x y : Lexemes) → g.HopOf h x → d.step_parser (x ++ y) ≡ None
unfolding d.step_parser
step_none h x y s =
    let f = hop_front h x y s in
    none_made step_of (both to_targets (maybe d.alias_parser)) (x ++ y)
    (none_both to_targets (maybe d.alias_parser) (x ++ y) (ap to_targets f.is ∙ no_targets f.edges f.text f.rest f.derives f.on))

path_none : (h : HopTree) (x y : Lexemes) → g.HopOf h x → d.path_parser (x ++ y) ≡ None
unfolding d.path_parser
path_none h x y s =
    none_made steps_of (both d.step_parser (maybe (both d.step_parser (maybe d.step_parser)))) (x ++ y)
    (none_both d.step_parser (maybe (both d.step_parser (maybe d.step_parser))) (x ++ y) (step_none h x y s))

pub walk_reads : (n : ℕ) → Reads n g.WalkOf g.WalkOf d.walk_parser (sign "-" ∷ []) walk_goes
unfolding g.WalkOf d.walk_parser
walk_reads n =
    widen (sign "-" ∷ []) walk_goes refl refl
    (apart_reads (made_reads walk.Path (path_reads n)) (made_reads walk.Hop (hop_reads n)) (λ a x y s le. none_made walk.Path d.path_parser (x ++ y) (path_none s.0 x y s.1)))
