-- LookLaws: in a state that fits its scope, an expression sees values of the types of the names that it may use.
use Rattle.std.proofs.Common.{◌≡◌, ℕ, zero, suc, ◌<◌, Bool, true, false, List, [], ◌∷◌, length, Option, Some, None, Ok, Err, arith, refl, sym, ◌∙◌, subst}
use Rattle.std.proofs.lemmas.Option.{slice_get_within}
use Rattle.std.specs.Prelude.{slice_get}
use Rattle.gq_value.specs.declared.value.Wrong.{Wrong}
use Rattle.gq_value.specs.Val.{Vertex}
use Rattle.gq_value.specs.Accums.{Base, Accum}
use Rattle.gq_graph.specs.Candidates.{is_target}
use Rattle.gq_rules_typing.specs.Statements.{Bytes}
use Rattle.gq_rules_typing.specs.Judging.{Typed, Of, AliasOf, EdgeOf, SetOf, Judged, ◌>>◌, unless, NotAllowedHere}
use Rattle.gq_rules_typing.specs.Kinds.{read_type}
use Rattle.gq_rules_typing.specs.Scopes.{Entry, Variable, SetVariable, Alias, EdgeAlias, Accumulator, TupleName, Place, InStatement, InBlock, InPost, InLimit, InOpening, InSelection, InTail, Scope, entry, unknown, alias_at, edge_at, set_at, name_at, declared_kind, global_at, before_at, same_flag, names_at}
use Rattle.gq_rules_meaning.specs.Answers.{Answer, Gives, found}
use Rattle.gq_rules_meaning.specs.Answers as answers
use Rattle.gq_rules_meaning.specs.Meanings.{read}
use Rattle.gq_rules_meaning.specs.Expressions.{World}
use Rattle.gq_rules_meaning.specs.States.{Thing, EdgeRow, Slot, thing_named, slot_named, read_slot, meant, sight}
use Rattle.gq_rules_meaning.specs.States as states
use Rattle.gq_rules_meaning.specs.Fitting.{Safe, Suits}
use Rattle.gq_rules_meaning.specs.StateFits.{ThingFits, places_of, AccumFits, NamesFit}
use Rattle.gq_rules_meaning.specs.Laws.{LookFits, is_plain, LookLaw}
use Rattle.gq_rules_meaning.proofs.AnswerLaws.{safe_found, then_ok, checked, ok_inj}
use Rattle.gq_rules_meaning.proofs.ContentLaws.{read_suits}
use Rattle.gq_rules_meaning.proofs.FieldLaws.{target_kind}

module _ {N : Type 0} (world : World N) (s : Scope N) where
  -- ---- names

  variable_safe : (b : Base) (o : Option Thing) → ThingFits world (Variable b) o → Safe {F = Wrong} (Suits world (Of b)) (answers.◌>>=◌ (found o) (λ thing. Gives (meant thing)))
  variable_safe b (Some (states.Variable c v)) h = h
  variable_safe b (Some (states.SetOf ts vs)) h = absurd h
  variable_safe b (Some (EdgeRow r t)) h = absurd h
  variable_safe b (Some (states.Member ts vs v)) h = absurd h
  variable_safe b None h = absurd h

  set_safe : (types : List ℕ) (o : Option Thing) → ThingFits world (SetVariable types) o → Safe {F = Wrong} (Suits world (SetOf types)) (answers.◌>>=◌ (found o) (λ thing. Gives (meant thing)))
  set_safe types (Some (states.SetOf ts vs)) h = h.1
  set_safe types (Some (states.Variable c v)) h = absurd h
  set_safe types (Some (EdgeRow r t)) h = absurd h
  set_safe types (Some (states.Member ts vs v)) h = absurd h
  set_safe types None h = absurd h

  alias_safe : (types : List ℕ) (o : Option Thing) → ThingFits world (Alias types) o → Safe {F = Wrong} (Suits world (AliasOf types)) (answers.◌>>=◌ (found o) (λ thing. Gives (meant thing)))
  alias_safe types (Some (states.Variable c (Vertex v))) h = h
  alias_safe types (Some (states.Variable c v)) h = absurd h
  alias_safe types (Some (states.SetOf ts vs)) h = absurd h
  alias_safe types (Some (EdgeRow r t)) h = absurd h
  alias_safe types (Some (states.Member ts vs v)) h = absurd h
  alias_safe types None h = absurd h

  edge_safe : (types : List ℕ) (o : Option Thing) → ThingFits world (EdgeAlias types) o → Safe {F = Wrong} (Suits world (EdgeOf types)) (answers.◌>>=◌ (found o) (λ thing. Gives (meant thing)))
  edge_safe types (Some (EdgeRow r t)) h = h
  edge_safe types (Some (states.Variable c v)) h = absurd h
  edge_safe types (Some (states.SetOf ts vs)) h = absurd h
  edge_safe types (Some (states.Member ts vs v)) h = absurd h
  edge_safe types None h = absurd h

  alias_at_is : (place : Place N) (x : N) (types : List ℕ) (ty : Typed) → alias_at s place x types ≡ Ok ty → AliasOf types ≡ ty
  alias_at_is (InTail selected) x types ty e = ok_inj (checked NotAllowedHere (s.setting.words.same selected x) _ ty e).1
  alias_at_is InLimit x types ty e = cc
  alias_at_is InStatement x types ty e = ok_inj e
  alias_at_is InBlock x types ty e = ok_inj e
  alias_at_is InPost x types ty e = ok_inj e
  alias_at_is InOpening x types ty e = ok_inj e
  alias_at_is (InSelection set) x types ty e = ok_inj e

  edge_at_is : (place : Place N) (types : List ℕ) (ty : Typed) → edge_at place types ≡ Ok ty → EdgeOf types ≡ ty
  edge_at_is InBlock types ty e = ok_inj e
  edge_at_is InStatement types ty e = ok_inj e
  edge_at_is (InSelection set) types ty e = ok_inj e
  edge_at_is place types ty e = cc

  set_at_is : (place : Place N) (x : N) (types : List ℕ) → is_plain place ≡ true → set_at s place x types ≡ SetOf types
  set_at_is (InSelection set) x types h = cc
  set_at_is (InTail selected) x types h = refl
  set_at_is InStatement x types h = refl
  set_at_is InBlock x types h = refl
  set_at_is InPost x types h = refl
  set_at_is InLimit x types h = refl
  set_at_is InOpening x types h = refl

  abbrev Named : Typed → Option Thing → Type 0
  Named ty o = Safe {F = Wrong} (Suits world ty) (answers.◌>>=◌ (found o) (λ thing. Gives (meant thing)))

  name_safe : (place : Place N) (x : N) (o : Option Thing) (e : Option Entry) (ty : Typed) → is_plain place ≡ true → ((d : Entry) → e ≡ Some d → ThingFits world d o) → name_at s place x e ≡ Ok ty → Named ty o
  name_safe place x o (Some (Variable b)) ty p h e = subst (λ ty. Named ty o) (ok_inj e) (variable_safe b o (h (Variable b) refl))
  name_safe place x o (Some (SetVariable types)) ty p h e = subst (λ ty. Named ty o) (sym (set_at_is place x types p) ∙ ok_inj e) (set_safe types o (h (SetVariable types) refl))
  name_safe place x o (Some (Alias types)) ty p h e = subst (λ ty. Named ty o) (alias_at_is place x types ty e) (alias_safe types o (h (Alias types) refl))
  name_safe place x o (Some (EdgeAlias types)) ty p h e = subst (λ ty. Named ty o) (edge_at_is place types ty e) (edge_safe types o (h (EdgeAlias types) refl))
  name_safe place x o (Some (Accumulator k attached)) ty p h e = cc
  name_safe place x o (Some TupleName) ty p h e = cc
  name_safe place x o None ty p h e = cc

  -- ---- accumulators

  pub declared_entry : (attached : Bool) (a : N) (k : Accum) → declared_kind s attached a ≡ Ok k → entry s a ≡ Some (Accumulator k attached)
  declared_entry attached a k e = go (entry s a) refl e
    where
      of_entry : Option Entry → Judged Accum
      of_entry (Some (Accumulator k flag)) = unless (unknown s a) (same_flag attached flag) >> Ok k
      of_entry _ = Err (unknown s a)

      flags : (p q : Bool) → same_flag p q ≡ true → q ≡ p
      flags true true h = refl
      flags false false h = refl
      flags p q h = cc

      go : (o : Option Entry) → entry s a ≡ o → of_entry o ≡ Ok k → entry s a ≡ Some (Accumulator k attached)
      go (Some (Accumulator j flag)) d h =
          let u = checked (unknown s a) (same_flag attached flag) _ k h in let f : flag ≡ attached = flags attached flag u.0 in let g : j ≡ k = ok_inj u.1 in
          d ∙ cc
      go (Some (Variable b)) d h = cc
      go (Some (SetVariable ts)) d h = cc
      go (Some (Alias ts)) d h = cc
      go (Some (EdgeAlias ts)) d h = cc
      go (Some TupleName) d h = cc
      go None d h = cc

  -- an accumulator that is there reads as its kind does
  slot_read : (slots : List (Slot N)) (a : N) (k : Accum) (attached : Bool) (v : ℕ) → v < places_of world attached → AccumFits world slots a k attached → Safe (Suits world (read_type k)) (read_slot world slots a v)
  slot_read slots a k attached v lt fits =
      let c = slice_get_of fits.slot.contents v (subst (λ n. v < n) (sym fits.fit.count) lt) in
      safe_found _ (slot_named world slots a) fits.slot _ fits.found (safe_found _ (slice_get fits.slot.contents v) c.0 _ c.1
      (subst (λ k. Suits world (read_type k) (read fits.slot.kind c.0)) fits.fit.kind (read_suits world fits.slot.kind c.0 (fits.fit.contents v c.0 c.1).values)))
    where
      slice_get_of : {A : Type 0} (xs : List A) (i : ℕ) → i < length xs → (x : A) × (slice_get xs i ≡ Some x)
      slice_get_of (x ∷ xs) zero h = (x, refl)
      slice_get_of (x ∷ xs) (suc i) h = slice_get_of xs i (omega (arith, h))
      slice_get_of [] i h = absurd (omega (arith, h))

  -- an existing vertex is below the number of all
  own_below : (v : ℕ) → is_target world.graph.sight.kinds world.graph.sorts.own_vertices v ≡ true → v < places_of world true
  own_below v h = let t = target_kind world.graph.sight.kinds world.graph.sorts.own_vertices v h in slice_get_within world.graph.sight.kinds v t.0 t.1

  -- ---- all together

  pub look_fits : (place : Place N) (names : List (N × Thing)) (slots before : List (Slot N)) → is_plain place ≡ true → NamesFit world s names slots → NamesFit world s names before → LookFits (names_at s place) (sight world names slots before)
  look_fits place names slots before p h b = record {
    world = h.store;
    setting = h.setting;
    field = refl;
    named = λ x ty e. name_safe place x (thing_named world names x) (entry s x) ty p (h.named x) e;
    global = λ a k e. let w = then_ok (declared_kind s false a) (global_at place) k e in
        slot_read slots a k false 0 (omega arith) (h.accum a k false (declared_entry false a k (subst (λ j. declared_kind s false a ≡ Ok j) (global_is place w.0 k w.2) w.1)));
    attached = λ a k v e o. slot_read slots a k true v (own_below v o) (h.accum a k true (declared_entry true a k e));
    before = λ a k v e o. let w = then_ok (declared_kind s true a) (before_at place) k e in
        slot_read before a k true v (own_below v o) (b.accum a k true (declared_entry true a k (subst (λ j. declared_kind s true a ≡ Ok j) (before_is place w.0 k w.2) w.1)));
  }
    where
      global_is : (place : Place N) (j k : Accum) → global_at place j ≡ Ok k → j ≡ k
      global_is InOpening j k e = cc
      global_is InStatement j k e = ok_inj e
      global_is InBlock j k e = ok_inj e
      global_is InPost j k e = ok_inj e
      global_is InLimit j k e = ok_inj e
      global_is (InSelection set) j k e = ok_inj e
      global_is (InTail selected) j k e = ok_inj e

      before_is : (place : Place N) (j k : Accum) → before_at place j ≡ Ok k → j ≡ k
      before_is InPost j k e = ok_inj e
      before_is place j k e = cc

pub look_law_by_name : LookLaw Bytes
look_law_by_name world s place names slots before p h b = look_fits world s place names slots before p h b
