-- ContributionLaws: the contributions of a match are never stuck, and each input is one that its accumulator takes.
use Rattle.std.proofs.Common.{◌≡◌, ℕ, Bool, true, false, List, [], ◌∷◌, ◌++◌, Option, Some, None, Ok, Err, refl, ap, sym, ◌∙◌, subst}
use Rattle.std.specs.Prelude.{not, slice_get}
use Rattle.gq_rules_typing.specs.Tree.{Tree}
use Rattle.gq_value.specs.Accums.{Accum}
use Rattle.gq_rules_typing.specs.Selecting.{Change, Adds, Puts, Act, AtAlias, AtGlobal, Choose, Acts, no_act, act_and, Choices, otherwise, when}
use Rattle.gq_rules_typing.specs.Statements.{Bytes}
use Rattle.gq_rules_typing.specs.Judging.{AliasOf, Judged, ◌>>◌, Mismatch, OrderDependent, NotAllowedHere}
use Rattle.gq_rules_typing.specs.Types.{is_bool, as_base}
use Rattle.gq_rules_typing.specs.Kinds.{is_list}
use Rattle.gq_rules_typing.specs.ExpressionTypes.{typing, base_type, condition}
use Rattle.gq_rules_typing.specs.Scopes.{Entry, Variable, SetVariable, Alias, EdgeAlias, Accumulator, TupleName, InBlock, Scope, entry, said, unknown, name_at, declared_kind, names_at}
use Rattle.gq_rules_typing.specs.ActTypes.{vertex_alias, typing_given, typing_at, typing_global, one_more, typing_acts, typing_act, typing_choices}
use Rattle.gq_rules_meaning.specs.Meanings.{vertex_of_meant, as_truth}
use Rattle.gq_rules_meaning.specs.Expressions.{World, Look, truth_of}
use Rattle.gq_rules_meaning.specs.States.{Thing, Slot, slot_number, slot_named, sight}
use Rattle.gq_rules_meaning.specs.Fitting.{Safe, Suits}
use Rattle.gq_rules_meaning.specs.StateFits.{InputFits, AllOf, NamesFit}
use Rattle.gq_rules_meaning.specs.Laws.{LookFits, Contributes, ContributionLaw}
use Rattle.gq_rules_meaning.specs.Blocks.{Contribution, input_of, vertex_named, contributed, contributions, of_act, of_choices}
use Rattle.gq_rules_meaning.proofs.AnswerLaws.{safe_then, safe_found, then_ok, after_ok, unless_ok, checked, some_inj}
use Rattle.gq_rules_meaning.proofs.ValueLaws.{IsValue, IsOwn, truth_safe, vertex_safe}
use Rattle.gq_rules_meaning.proofs.NeverStuck.{never_stuck, as_value_safe}
use Rattle.gq_rules_meaning.proofs.InputLaws.{input_safe}
use Rattle.gq_rules_meaning.proofs.LookLaws.{look_fits, declared_entry}

append_fits : {A : Type 0} (P : A → Type 0) (xs ys : List A) → AllOf P xs → AllOf P ys → AllOf P (xs ++ ys)
append_fits P [] ys h g = g
append_fits P (x ∷ xs) ys h g = (h.0, append_fits P xs ys h.1 g)

module _ {N : Type 0} (world : World N) (s : Scope N) (names : List (N × Thing)) (slots : List (Slot N)) (h : NamesFit world s names slots) where
  abbrev look : Look N
  look = sight world names slots slots

  fits : LookFits (names_at s InBlock) look
  fits = look_fits world s InBlock names slots slots refl h h

  abbrev AllContribute : List Contribution → Type 0
  AllContribute = AllOf (Contributes world slots)

  abbrev at : Option ℕ → Option (Slot N)
  at None = None
  at (Some n) = slice_get slots n

  -- an accumulator that is there has a number
  numbered : (o : Option ℕ) (slot : Slot N) → at o ≡ Some slot → (n : ℕ) × (o ≡ Some n) × (slice_get slots n ≡ Some slot)
  numbered (Some n) slot e = (n, refl, e)
  numbered None slot e = cc

  -- `+=` to an accumulator
  added_safe : (a : N) (k : Accum) (attached : Bool) (v : ℕ) (c : Change N) (q : Bool) → declared_kind s attached a ≡ Ok k → typing_given s a k c ≡ Ok q → Safe AllContribute (contributed look slots a v c)
  added_safe a k attached v (Puts t) q d e = cc
  added_safe a k attached v (Adds x) q d e =
      let u = checked (OrderDependent (said s a)) (not (is_list k)) _ q e in
      let accum = h.accum a k attached (declared_entry world s attached a k d) in
      let n = numbered (slot_number world slots a) accum.slot accum.found in
      safe_found _ (slot_number world slots a) n.0 _ n.1 (safe_found _ (slot_named world slots a) accum.slot _ accum.found
      (safe_then (InputFits world accum.slot.kind) _ (input_of look accum.slot.kind x) _
      (subst (λ j. Safe (InputFits world j) (input_of look j x)) (sym accum.fit.kind) (input_safe (names_at s InBlock) look fits k x q u.1))
      (λ y f. (λ slot e. subst (λ z. InputFits world z.kind y) (some_inj (sym n.2 ∙ e)) f, tt))))

  -- a vertex alias is a vertex
  alias_entry : (v : N) (q : Bool) → vertex_alias s v ≡ Ok q → (types : List ℕ) × (entry s v ≡ Some (Alias types))
  alias_entry v q e = go (entry s v) refl e
    where
      of_entry : Option Entry → Judged Bool
      of_entry None = Err (unknown s v)
      of_entry (Some (Alias types)) = Ok true
      of_entry (Some TupleName) = Err (unknown s v)
      of_entry (Some e) = Err NotAllowedHere

      go : (o : Option Entry) → entry s v ≡ o → of_entry o ≡ Ok q → (types : List ℕ) × (entry s v ≡ Some (Alias types))
      go (Some (Alias types)) d e = (types, d)
      go None d e = cc
      go (Some (Variable b)) d e = cc
      go (Some (SetVariable ts)) d e = cc
      go (Some (EdgeAlias ts)) d e = cc
      go (Some (Accumulator k attached)) d e = cc
      go (Some TupleName) d e = cc

  alias_safe : (v : N) (q : Bool) → vertex_alias s v ≡ Ok q → Safe (IsOwn world) (vertex_named look v)
  alias_safe v q e =
      let w = alias_entry v q e in
      let named : name_at s InBlock v (entry s v) ≡ Ok (AliasOf w.0) = ap (name_at s InBlock v) w.1 in
      safe_then (Suits world (AliasOf w.0)) _ _ vertex_of_meant (fits.named v (AliasOf w.0) named) (λ m f. vertex_safe world (AliasOf w.0) m refl f)

  -- a condition
  condition_safe : (t : Tree N) (q : Bool) → condition (names_at s InBlock) t ≡ Ok q → Safe (λ (b : Bool). Unit {0}) (truth_of look t)
  condition_safe t q e =
      let b = then_ok (base_type (names_at s InBlock) t) _ q e in let x = then_ok (typing (names_at s InBlock) t) as_base b.0 b.1 in
      safe_then (IsValue world b.0) _ _ as_truth (as_value_safe (names_at s InBlock) look fits t x.0 b.0 (never_stuck (names_at s InBlock) look fits t x.0 x.1) x.2) (λ v f. truth_safe world b.0 v (unless_ok Mismatch (is_bool b.0) q b.2) f)

  mutual
    pub contributions_safe : (acts : Acts N) (n m : ℕ) → typing_acts s false n acts ≡ Ok m → Safe AllContribute (contributions look slots acts)
    contributions_safe no_act n m e = tt
    contributions_safe (act_and a acts) n m e =
        let i = then_ok (one_more n) _ m e in let j = then_ok (typing_act s false i.0 a) _ m i.2 in
        safe_then AllContribute _ _ _ (act_safe a i.0 j.0 j.1) (λ xs f. safe_then AllContribute _ _ _ (contributions_safe acts j.0 m j.2) (λ ys g. append_fits (Contributes world slots) xs ys f g))

    act_safe : (a : Act N) (n m : ℕ) → typing_act s false n a ≡ Ok m → Safe AllContribute (of_act look slots a)
    act_safe (AtAlias v a c) n m e =
        let w = after_ok (typing_at s false v a c) _ m e in let k = then_ok (vertex_alias s v >> declared_kind s true a) _ w.0.0 w.0.1 in let u = after_ok (vertex_alias s v) (declared_kind s true a) k.0 k.1 in
        safe_then (IsOwn world) _ _ _ (alias_safe v u.0.0 u.0.1) (λ n o. added_safe a k.0 true n c w.0.0 u.1 k.2)
    act_safe (AtGlobal a c) n m e =
        let w = after_ok (typing_global s false a c) _ m e in let k = then_ok (declared_kind s false a) _ w.0.0 w.0.1 in added_safe a k.0 false 0 c w.0.0 k.1 k.2
    act_safe (Choose choices) n m e = choices_safe choices n m e

    choices_safe : (choices : Choices N) (n m : ℕ) → typing_choices s false n choices ≡ Ok m → Safe AllContribute (of_choices look slots choices)
    choices_safe (otherwise acts) n m e = contributions_safe acts n m e
    choices_safe (when t acts rest) n m e =
        let i = then_ok (condition (names_at s InBlock) t >> typing_acts s false n acts) _ m e in let u = after_ok (condition (names_at s InBlock) t) (typing_acts s false n acts) i.0 i.1 in
        safe_then (λ (b : Bool). Unit {0}) _ _ _ (condition_safe t u.0.0 u.0.1) (elim [ true ↦ λ z. contributions_safe acts n i.0 u.1 | false ↦ λ z. choices_safe rest i.0 m i.2 ])

pub contribution_law_by_name : ContributionLaw Bytes
contribution_law_by_name world s names slots h acts n m e = contributions_safe world s names slots h acts n m e
