-- InputLaws: a typed input is never stuck, and is one that its kind takes.
use Rattle.std.proofs.Common.{◌≡◌, ℕ, Bool, true, false, not, List, [], ◌∷◌, map, length, arith, Option, Some, None, Ok, refl}
use Rattle.std.specs.Prelude.{◌&&◌, ◌==◌}
use Rattle.gq_rules_typing.specs.Tree.{Tree}
use Rattle.gq_value.specs.declared.value.Wrong.{Wrong}
use Rattle.gq_value.specs.Val.{Val}
use Rattle.gq_value.specs.Accums.{Base, Accum, MapAccum, GroupByAccum, Parts, no_part, part_and, One, Keyed, Givens, no_given, given_and}
use Rattle.gq_rules_typing.specs.Selecting.{Input, Plain, Keys, Inputs, no_input, input_and}
use Rattle.gq_rules_typing.specs.Statements.{Bytes}
use Rattle.gq_rules_typing.specs.Sorts.{bases_of}
use Rattle.gq_rules_typing.specs.Judging.{◌>>◌, each_judged, Mismatch}
use Rattle.gq_rules_typing.specs.Types.{converts, convert_all, as_base}
use Rattle.gq_rules_typing.specs.Kinds.{input_type, key_types, part_kinds, kinds_in}
use Rattle.gq_rules_typing.specs.ExpressionTypes.{Names, typing, typing_all, base_type, converting}
use Rattle.gq_rules_typing.specs.ActTypes.{converts_into, takes, takes_keys, input_count, typing_input, typing_inputs}
use Rattle.gq_rules_meaning.specs.Answers.{Answer, Gives, found}
use Rattle.gq_rules_meaning.specs.Answers as answers
use Rattle.gq_rules_meaning.specs.Meanings.{value_of_meant, converted_to}
use Rattle.gq_rules_meaning.specs.Expressions.{Look, meaning, value_as}
use Rattle.gq_rules_meaning.specs.Fitting.{Safe, is_value, row_is}
use Rattle.gq_rules_meaning.specs.StateFits.{ValueFits, InputFits, InputsFit}
use Rattle.gq_rules_meaning.specs.Laws.{LookFits, InputLaw}
use Rattle.gq_rules_meaning.specs.Blocks.{input_of, inputs_of}
use Rattle.gq_rules_meaning.proofs.AnswerLaws.{safe_then, then_ok, after_ok, unless_ok, and_ok, both_ok}
use Rattle.gq_rules_meaning.proofs.ValueLaws.{same_number, IsValue}
use Rattle.gq_rules_meaning.proofs.OperatorLaws.{converted_safe}
use Rattle.gq_rules_meaning.proofs.CallLaws.{AreArguments, accepts_keys}
use Rattle.gq_rules_meaning.proofs.NeverStuck.{never_stuck, arguments_safe, as_value_safe}

module _ {N : Type 0} (names : Names N) (look : Look N) (fits : LookFits names look) where
  -- an expression as a value of the required type
  pub value_as_safe : (b : Base) (t : Tree N) (q : Bool) → converting names b t ≡ Ok q → Safe (IsValue look.world b) (value_as look b t)
  value_as_safe b t q e =
      let c = then_ok (base_type names t) _ q e in let x = then_ok (typing names t) as_base c.0 c.1 in
      safe_then (IsValue look.world c.0) _ _ (converted_to b) (as_value_safe names look fits t x.0 c.0 (never_stuck names look fits t x.0 x.1) x.2) (λ v f. converted_safe look.world c.0 b v (unless_ok Mismatch (converts c.0 b) q c.2) f)

  one_fits : (k : Accum) (v : Val) → ValueFits look.world (input_type k) v → InputFits look.world k (One v)
  one_fits (MapAccum b k) v h = absurd h
  one_fits (GroupByAccum keys ps) v h = absurd h
  one_fits k v h = h

  -- one value
  plain_safe : (k : Accum) (o : Option Base) (t : Tree N) (b : Base) → Safe (IsValue look.world b) (answers.◌>>=◌ (meaning look t) value_of_meant) → converts_into b o ≡ true → ((v : Val) → ValueFits look.world o v → InputFits look.world k (One v))
      → Safe {F = Wrong} (InputFits look.world k) (answers.◌>>=◌ (found o) (λ c. answers.◌>>=◌ (value_as look c t) (λ v. Gives (One v))))
  plain_safe k None t b h c f = cc
  plain_safe k (Some c) t b h e f = safe_then (IsValue look.world c) _ (value_as look c t) _ (safe_then (IsValue look.world b) _ _ (converted_to c) h (λ v g. converted_safe look.world b c v e g)) (λ v g. f v g)

  -- keys that convert are a row of the kind's
  keys_row : (cs bs : List Base) (vs : List Val) → convert_all bs cs ≡ true → AreArguments look.world (map Some cs) bs vs → row_is look.world cs vs ≡ true
  keys_row [] [] [] e h = refl
  keys_row (c ∷ cs) (b ∷ bs) (v ∷ vs) e h = let w = and_ok (converts b c) (convert_all bs cs) e in both_ok (is_value look.world c v) (row_is look.world cs vs) h.0 (keys_row cs bs vs w.1 h.1)
  keys_row [] [] (v ∷ vs) e h = absurd h
  keys_row (c ∷ cs) (b ∷ bs) [] e h = absurd h
  keys_row [] (b ∷ bs) vs e h = cc
  keys_row (c ∷ cs) [] vs e h = cc

  -- an input for each kind
  abbrev GivensFit : List Accum → Givens → Type 0
  GivensFit [] no_given = Unit {0}
  GivensFit (k ∷ ks) (given_and x xs) = InputFits look.world k x × GivensFit ks xs
  GivensFit _ _ = ⊥

  for_parts : (ps : Parts) (xs : Givens) → GivensFit (kinds_in ps) xs → InputsFit look.world ps xs
  for_parts no_part no_given h = tt
  for_parts (part_and name k ps) (given_and x xs) h = (h.0, for_parts ps xs h.1)
  for_parts no_part (given_and x xs) h = absurd h
  for_parts (part_and name k ps) no_given h = absurd h

  not_both : (c t : Bool) → (c && (t && not t)) ≡ true → ⊥
  not_both true true h = cc
  not_both true false h = cc
  not_both false t h = cc

  -- a row of keys with an input for each part
  keyed_fits : (k : Accum) (n : ℕ) (bs : List Base) (vs : List Val) (xs : Givens) → takes_keys (Some k) bs n ≡ true → AreArguments look.world (map Some (key_types k)) bs vs → GivensFit (part_kinds k) xs → InputFits look.world k (Keyed vs xs)
  keyed_fits (MapAccum b k) n bs vs (given_and x no_given) e a h = (keys_row (b ∷ []) bs vs (and_ok _ _ e).0 a, h.0)
  keyed_fits (MapAccum b k) n bs vs (given_and x (given_and y ys)) e a h = absurd h.1
  keyed_fits (MapAccum b k) n bs vs no_given e a h = absurd h
  keyed_fits (GroupByAccum keys ps) n bs vs xs e a h = (keys_row (bases_of keys) bs vs (and_ok _ _ e).0 a, for_parts ps xs h)
  keyed_fits k n bs vs xs e a h = absurd (not_both (convert_all bs []) (n == 0) e)

  mutual
    pub input_safe : (k : Accum) (x : Input N) (q : Bool) → typing_input names (Some k) x ≡ Ok q → Safe (InputFits look.world k) (input_of look k x)
    input_safe k (Plain t) q e =
        let b = then_ok (base_type names t) _ q e in let x = then_ok (typing names t) as_base b.0 b.1 in
        plain_safe k (input_type k) t b.0 (as_value_safe names look fits t x.0 b.0 (never_stuck names look fits t x.0 x.1) x.2) (unless_ok Mismatch (takes (Some k) b.0) q b.2) (one_fits k)
    input_safe k (Keys ts xs) q e =
        let types = then_ok (typing_all names ts) _ q e in
        let bs = then_ok (typing_inputs names (part_kinds k) xs >> each_judged as_base types.0) _ q types.2 in
        let w = after_ok (typing_inputs names (part_kinds k) xs) (each_judged as_base types.0) bs.0 bs.1 in
        let u = unless_ok Mismatch (takes_keys (Some k) bs.0 (input_count xs)) q bs.2 in
        let c = and_ok (convert_all bs.0 (key_types k)) _ u in
        let n : input_count xs ≡ length (part_kinds k) = same_number _ _ (and_ok (input_count xs == length (part_kinds k)) _ c.1).0 in
        safe_then (AreArguments look.world (map Some (key_types k)) bs.0) _ _ _ (arguments_safe names look fits ts types.0 bs.0 types.1 w.1 (map Some (key_types k)) (accepts_keys look.world bs.0 (key_types k) c.0)) (λ vs a.
        safe_then (GivensFit (part_kinds k)) _ _ _ (inputs_safe (part_kinds k) xs w.0.0 w.0.1 n) (λ ys h. keyed_fits k (input_count xs) bs.0 vs ys u a h))

    inputs_safe : (ks : List Accum) (xs : Inputs N) (q : Bool) → typing_inputs names ks xs ≡ Ok q → input_count xs ≡ length ks → Safe (GivensFit ks) (inputs_of look ks xs)
    inputs_safe [] no_input q e n = tt
    inputs_safe (k ∷ ks) (input_and x xs) q e n =
        let w = after_ok (typing_input names (Some k) x) (typing_inputs names ks xs) q e in
        safe_then (InputFits look.world k) _ _ _ (input_safe k x w.0.0 w.0.1) (λ y f. safe_then (GivensFit ks) _ _ _ (inputs_safe ks xs q w.1 (omega (arith, n))) (λ ys g. (f, g)))
    inputs_safe [] (input_and x xs) q e n = absurd (omega (arith, n))
    inputs_safe (k ∷ ks) no_input q e n = absurd (omega (arith, n))

pub input_law_by_name : InputLaw Bytes
input_law_by_name names look fits k x q e = input_safe names look fits k x q e
