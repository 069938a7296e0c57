-- SightLaws: the names that the parts of a SELECT see: its aliases before the names of its scope.
use Rattle.std.proofs.Common.{◌≡◌, ℕ, Bool, true, false, List, Option, Some, None, Ok, Err, refl, ap, sym, ◌∙◌, subst}
use Rattle.std.specs.Prelude.{if◌then◌else◌}
use Rattle.gq_value.specs.declared.value.Wrong.{Wrong}
use Rattle.gq_value.specs.Accums.{Accum}
use Rattle.gq_rules_typing.specs.Judging.{Typed, AliasOf, MemberOf, SetOf, Judged, ◌>>=◌, ◌>>◌, unless, NotAllowedHere, UnknownName}
use Rattle.gq_rules_typing.specs.ExpressionTypes.{Names}
use Rattle.gq_rules_typing.specs.Patterns.{is_alias}
use Rattle.gq_rules_typing.specs.Scopes.{Entry, Variable, SetVariable, Alias, EdgeAlias, Accumulator, TupleName, Place, InStatement, InBlock, InPost, InLimit, InOpening, InSelection, InTail, Scope, entry, unknown, with_entry, new_name, name_at, alias_at, declared_kind, global_at, before_at, names_at, same_flag}
use Rattle.gq_rules_typing.specs.SelectTypes.{with_alias}
use Rattle.gq_rules_meaning.specs.Answers.{Answer, Gives, found}
use Rattle.gq_rules_meaning.specs.Answers as answers
use Rattle.gq_rules_meaning.specs.Expressions.{World, setting}
use Rattle.gq_rules_meaning.specs.States.{Thing, Slot, State, a_vertex, thing_named, meant, sight}
use Rattle.gq_rules_meaning.specs.Sources.{named_as}
use Rattle.gq_rules_meaning.specs.Fitting.{Safe, Suits, is_vertex_of}
use Rattle.gq_rules_meaning.specs.StateFits.{ThingFits, NamesFit}
use Rattle.gq_rules_meaning.specs.Laws.{LookFits, is_plain}
use Rattle.gq_rules_meaning.proofs.AnswerLaws.{then_ok, after_ok, checked, ok_inj}
use Rattle.gq_rules_meaning.proofs.LookLaws.{look_fits, declared_entry}
use Rattle.gq_rules_safety.specs.Matching.{WordsFit, StateIs}
use Rattle.gq_rules_safety.proofs.NameLaws.{IsNamed, Grows, grows_same, grows_new, under_new, entry_new, new_is}
use Rattle.gq_rules_safety.proofs.LocalLaws.{new_none}

-- ---- scopes with aliases

abbrev pub adds : {N : Type 0} → Option N → Entry → Scope N → Scope N
adds None e s = s
adds (Some x) e s = with_entry x e s

-- an alias is a new name
abbrev pub IsNew : {N : Type 0} → Option N → Scope N → Type 0
IsNew None s = Unit {0}
IsNew (Some x) s = entry s x ≡ None

pub alias_known : {N : Type 0} (o : Option N) (e : Entry) (s t : Scope N) → with_alias o e s ≡ Ok t → (adds o e s ≡ t) × IsNew o s
alias_known None e s t h = (ok_inj h, tt)
alias_known (Some x) e s t h = let u = after_ok (new_name s x) (Ok (with_entry x e s)) t h in (ok_inj u.1, new_none s x u.0.0 u.0.1)

pub adds_setting : {N : Type 0} (o : Option N) (e : Entry) (s : Scope N) → (adds o e s).setting ≡ s.setting
adds_setting None e s = refl
adds_setting (Some x) e s = refl

-- the names of a state with its accumulators
abbrev pub state_of : {N : Type 0} → List (N × Thing) → List (Slot N) → State N
state_of names slots = record { names = names; slots = slots }

-- the names that may be used depend only on the setting and the entry
name_at_setting : {N : Type 0} (s t : Scope N) (place : Place N) (x : N) (o : Option Entry) → t.setting ≡ s.setting → name_at t place x o ≡ name_at s place x o
name_at_setting s t place x (Some (Variable b)) h = refl
name_at_setting s t (InSelection set) x (Some (SetVariable ts)) h = ap (λ z. Ok (if z.words.same set x then MemberOf ts else SetOf ts)) h
name_at_setting s t InStatement x (Some (SetVariable ts)) h = refl
name_at_setting s t InBlock x (Some (SetVariable ts)) h = refl
name_at_setting s t InPost x (Some (SetVariable ts)) h = refl
name_at_setting s t InLimit x (Some (SetVariable ts)) h = refl
name_at_setting s t InOpening x (Some (SetVariable ts)) h = refl
name_at_setting s t (InTail y) x (Some (SetVariable ts)) h = refl
name_at_setting s t (InTail y) x (Some (Alias ts)) h = ap (λ z. unless NotAllowedHere (z.words.same y x) >> Ok (AliasOf ts)) h
name_at_setting s t InStatement x (Some (Alias ts)) h = refl
name_at_setting s t InBlock x (Some (Alias ts)) h = refl
name_at_setting s t InPost x (Some (Alias ts)) h = refl
name_at_setting s t InLimit x (Some (Alias ts)) h = refl
name_at_setting s t InOpening x (Some (Alias ts)) h = refl
name_at_setting s t (InSelection y) x (Some (Alias ts)) h = refl
name_at_setting s t place x (Some (EdgeAlias ts)) h = refl
name_at_setting s t place x (Some (Accumulator k a)) h = ap (λ z. Err (UnknownName (z.words.said x))) h
name_at_setting s t place x (Some TupleName) h = ap (λ z. Err (UnknownName (z.words.said x))) h
name_at_setting s t place x None h = ap (λ z. Err (UnknownName (z.words.said x))) h

declared_from : {N : Type 0} (s : Scope N) (a : N) (k : Accum) (attached : Bool) → entry s a ≡ Some (Accumulator k attached) → declared_kind s attached a ≡ Ok k
declared_from s a k attached e = ap of_entry e ∙ flag attached
  where
    of_entry : Option Entry → Judged Accum
    of_entry (Some (Accumulator k flag)) = unless (unknown s a) (same_flag attached flag) >> Ok k
    of_entry _ = Err (unknown s a)

    flag : (b : Bool) → (unless (unknown s a) (same_flag b b) >> Ok k) ≡ Ok k
    flag true = refl
    flag false = refl

module _ {N : Type 0} (world : World N) (words : WordsFit world) where
  abbrev same : N → N → Bool
  same = world.words.same

  pub adds_grows : (o : Option N) (e : Entry) (s : Scope N) → s.setting ≡ setting world → IsNew o s → Grows s (adds o e s)
  adds_grows None e s z h = grows_same s
  adds_grows (Some x) e s z h = grows_new world words s x e (ap (λ z. z.words.same) z) h

  -- the thing that an alias denotes, if there is one
  abbrev pub StandsFor : Option N → Entry → Option Thing → Type 0
  StandsFor None e o = Unit {0}
  StandsFor (Some x) e o = ThingFits world e o

  abbrev pub IsAliased : Entry → Type 0
  IsAliased (Alias types) = Unit {0}
  IsAliased (EdgeAlias types) = Unit {0}
  IsAliased e = ⊥

  aliased_named : (e : Entry) → IsAliased e → IsNamed e
  aliased_named (Alias types) h = refl
  aliased_named (EdgeAlias types) h = refl
  aliased_named (Variable b) h = absurd h
  aliased_named (SetVariable ts) h = absurd h
  aliased_named (Accumulator k a) h = absurd h
  aliased_named TupleName h = absurd h

  nothing_fits : (e : Entry) → IsAliased e → ThingFits world e None → ⊥
  nothing_fits (Alias types) h f = f
  nothing_fits (EdgeAlias types) h f = f
  nothing_fits (Variable b) h f = h
  nothing_fits (SetVariable ts) h f = h
  nothing_fits (Accumulator k a) h f = h
  nothing_fits TupleName h f = h

  -- an alias comes into view
  pub alias_is : (o : Option N) (e : Entry) (thing : Option Thing) (s : Scope N) (names : List (N × Thing)) (slots : List (Slot N)) → IsAliased e → StateIs world s (state_of names slots) → StandsFor o e thing → StateIs world (adds o e s) (state_of (named_as o thing names) slots)
  alias_is None e thing s names slots a h f = h
  alias_is (Some x) e (Some thing) s names slots a h f = new_is world words s (state_of names slots) x e thing h (aliased_named e a) f
  alias_is (Some x) e None s names slots a h f = absurd (nothing_fits e a f)

  -- ---- entries under an alias

  -- apart from the alias itself all stays
  pub behind_alias : (o : Option N) (e : Entry) (s : Scope N) (x : N) → s.setting ≡ setting world → is_alias same o x ≡ false → entry (adds o e s) x ≡ entry s x
  behind_alias None e s x z h = refl
  behind_alias (Some y) e s x z h = entry_new world words s y x e (ap (λ z. z.words.same) z) false h

  pub at_alias : (o : Option N) (e : Entry) (s : Scope N) (x : N) → s.setting ≡ setting world → is_alias same o x ≡ true → entry (adds o e s) x ≡ Some e
  at_alias None e s x z h = cc
  at_alias (Some y) e s x z h = entry_new world words s y x e (ap (λ z. z.words.same) z) true h

  pub names_behind : (o : Option N) (thing : Option Thing) (names : List (N × Thing)) (x : N) → is_alias same o x ≡ false → thing_named world (named_as o thing names) x ≡ thing_named world names x
  names_behind None thing names x h = refl
  names_behind (Some y) (Some thing) names x h = under_new world words y x thing names false h
  names_behind (Some y) None names x h = refl

  pub names_at_alias : (o : Option N) (thing : Thing) (names : List (N × Thing)) (x : N) → is_alias same o x ≡ true → thing_named world (named_as o (Some thing) names) x ≡ Some thing
  names_at_alias None thing names x h = cc
  names_at_alias (Some y) thing names x h = under_new world words y x thing names true h

  -- ---- a SELECT's scope: its source, its edge and its target

  pub record Aliases : Type 0 where
    pub source : Option N
    pub sources : List ℕ
    pub edge : Option N
    pub edges : List ℕ
    pub target : Option N
    pub targets : List ℕ

  abbrev pub with_source : Scope N → Aliases → Scope N
  with_source s a = adds a.source (Alias a.sources) s

  abbrev pub with_edge : Scope N → Aliases → Scope N
  with_edge s a = adds a.edge (EdgeAlias a.edges) (with_source s a)

  abbrev pub with_target : Scope N → Aliases → Scope N
  with_target s a = adds a.target (Alias a.targets) (with_edge s a)

  -- all are new names
  pub record AreNew (s : Scope N) (a : Aliases) : Type 0 where
    pub source : IsNew a.source s
    pub edge : IsNew a.edge (with_source s a)
    pub target : IsNew a.target (with_edge s a)

  pub source_setting : (s : Scope N) (a : Aliases) → (with_source s a).setting ≡ s.setting
  source_setting s a = adds_setting a.source (Alias a.sources) s

  pub edge_setting : (s : Scope N) (a : Aliases) → (with_edge s a).setting ≡ s.setting
  edge_setting s a = adds_setting a.edge (EdgeAlias a.edges) (with_source s a) ∙ source_setting s a

  pub target_setting : (s : Scope N) (a : Aliases) → (with_target s a).setting ≡ s.setting
  target_setting s a = adds_setting a.target (Alias a.targets) (with_edge s a) ∙ edge_setting s a

  -- the meaning of a name in such a scope
  pub data SeenAs (s : Scope N) (a : Aliases) (x : N) : Type 0 where
    as_target : is_alias same a.target x ≡ true → entry (with_target s a) x ≡ Some (Alias a.targets) → SeenAs s a x
    as_edge : is_alias same a.edge x ≡ true → entry (with_target s a) x ≡ Some (EdgeAlias a.edges) → SeenAs s a x
    as_source : is_alias same a.target x ≡ false → is_alias same a.source x ≡ true → entry (with_target s a) x ≡ Some (Alias a.sources) → SeenAs s a x
    as_before : is_alias same a.target x ≡ false → is_alias same a.source x ≡ false → entry (with_target s a) x ≡ entry s x → SeenAs s a x

  pub seen_as : (s : Scope N) (a : Aliases) (x : N) → s.setting ≡ setting world → SeenAs s a x
  seen_as s a x z = go (is_alias same a.target x) refl (is_alias same a.edge x) refl (is_alias same a.source x) refl
    where
      go : (p : Bool) → is_alias same a.target x ≡ p → (q : Bool) → is_alias same a.edge x ≡ q → (r : Bool) → is_alias same a.source x ≡ r → SeenAs s a x
      go true e q f r g = as_target e (at_alias a.target (Alias a.targets) (with_edge s a) x (edge_setting s a ∙ z) e)
      go false e true f r g = as_edge f (behind_alias a.target (Alias a.targets) (with_edge s a) x (edge_setting s a ∙ z) e ∙ at_alias a.edge (EdgeAlias a.edges) (with_source s a) x (source_setting s a ∙ z) f)
      go false e false f true g =
          as_source e g (behind_alias a.target (Alias a.targets) (with_edge s a) x (edge_setting s a ∙ z) e ∙ behind_alias a.edge (EdgeAlias a.edges) (with_source s a) x (source_setting s a ∙ z) f ∙ at_alias a.source (Alias a.sources) s x z g)
      go false e false f false g =
          as_before e g (behind_alias a.target (Alias a.targets) (with_edge s a) x (edge_setting s a ∙ z) e ∙ behind_alias a.edge (EdgeAlias a.edges) (with_source s a) x (source_setting s a ∙ z) f ∙ behind_alias a.source (Alias a.sources) s x z g)

  -- accumulators are those from before
  pub accum_before : (s : Scope N) (a : Aliases) (x : N) (k : Accum) (attached : Bool) → s.setting ≡ setting world → declared_kind (with_target s a) attached x ≡ Ok k → declared_kind s attached x ≡ Ok k
  accum_before s a x k attached z e = go (seen_as s a x z) (declared_entry world (with_target s a) attached x k e)
    where
      go : SeenAs s a x → entry (with_target s a) x ≡ Some (Accumulator k attached) → declared_kind s attached x ≡ Ok k
      go (as_target p d) f = let u = sym d ∙ f in cc
      go (as_edge p d) f = let u = sym d ∙ f in cc
      go (as_source p q d) f = let u = sym d ∙ f in cc
      go (as_before p q d) f = declared_from s x k attached (sym d ∙ f)

  -- ---- the context with only one of the vertices

  -- names of the whole scope, but for some
  abbrev pub barring : (N → Bool) → Scope N → Place N → Names N
  barring bars s place = record {
    named = λ x. if bars x then Err (unknown s x) else name_at s place x (entry s x);
    global = λ a. declared_kind s false a >>= global_at place;
    attached = λ a. declared_kind s true a;
    before = λ a. declared_kind s true a >>= before_at place;
    setting = s.setting;
  }

  -- a name that may be used is the one alias, or is from before the SELECT
  pub data Covered (s : Scope N) (a : Aliases) (o : Option N) (types : List ℕ) (x : N) : Type 0 where
    the_alias : is_alias same o x ≡ true → entry (with_target s a) x ≡ Some (Alias types) → Covered s a o types x
    before_it : is_alias same o x ≡ false → entry (with_target s a) x ≡ entry s x → Covered s a o types x

  alias_type : (s : Scope N) (place : Place N) (x : N) (types : List ℕ) (ty : Typed) → alias_at s place x types ≡ Ok ty → AliasOf types ≡ ty
  alias_type s (InTail selected) x types ty e = ok_inj (checked NotAllowedHere (s.setting.words.same selected x) _ ty e).1
  alias_type s InLimit x types ty e = cc
  alias_type s InStatement x types ty e = ok_inj e
  alias_type s InBlock x types ty e = ok_inj e
  alias_type s InPost x types ty e = ok_inj e
  alias_type s InOpening x types ty e = ok_inj e
  alias_type s (InSelection set) x types ty e = ok_inj e

  pub one_vertex_fits : (s : Scope N) (a : Aliases) (place : Place N) (bars : N → Bool) (o : Option N) (types : List ℕ) (v : ℕ) (names : List (N × Thing)) (slots before : List (Slot N))
      → s.setting ≡ setting world → is_plain place ≡ true → NamesFit world s names slots → NamesFit world s names before → ((y : N) → o ≡ Some y → is_vertex_of world.graph types v ≡ true)
      → ((x : N) (ty : Typed) → bars x ≡ false → name_at (with_target s a) place x (entry (with_target s a) x) ≡ Ok ty → Covered s a o types x)
      → LookFits (barring bars (with_target s a) place) (sight world (named_as o (Some (a_vertex types v)) names) slots before)
  one_vertex_fits s a place bars o types v names slots before z p h b vertex covers = record {
    world = h.store;
    setting = target_setting s a ∙ z;
    field = refl;
    named = λ x ty e. go x ty (bars x) refl e;
    global = λ x k e. let j = then_ok (declared_kind (with_target s a) false x) (global_at place) k e in f.global x k (ap (λ r. r >>= global_at place) (accum_before s a x j.0 false z j.1) ∙ j.2);
    attached = λ x k u e t. f.attached x k u (accum_before s a x k true z e) t;
    before = λ x k u e t. let j = then_ok (declared_kind (with_target s a) true x) (before_at place) k e in f.before x k u (ap (λ r. r >>= before_at place) (accum_before s a x j.0 true z j.1) ∙ j.2) t;
  }
    where
      f : LookFits (names_at s place) (sight world names slots before)
      f = look_fits world s place names slots before p h b

      alias_is_some : (o : Option N) (x : N) → is_alias same o x ≡ true → (y : N) × (o ≡ Some y)
      alias_is_some None x e = cc
      alias_is_some (Some y) x e = (y, refl)

      by_cover : (x : N) (ty : Typed) → name_at (with_target s a) place x (entry (with_target s a) x) ≡ Ok ty → Covered s a o types x → Safe {F = Wrong} (Suits world ty) (answers.◌>>=◌ (found (thing_named world (named_as o (Some (a_vertex types v)) names) x)) (λ thing. Gives (meant thing)))
      by_cover x ty e (the_alias i d) =
          let t : AliasOf types ≡ ty = alias_type (with_target s a) place x types ty (sym (ap (name_at (with_target s a) place x) d) ∙ e) in
          let y = alias_is_some o x i in
          subst (λ ty. Safe {F = Wrong} (Suits world ty) (answers.◌>>=◌ (found (thing_named world (named_as o (Some (a_vertex types v)) names) x)) (λ thing. Gives (meant thing)))) t
          (subst (λ thing. Safe {F = Wrong} (Suits world (AliasOf types)) (answers.◌>>=◌ (found thing) (λ thing. Gives (meant thing)))) (sym (names_at_alias o (a_vertex types v) names x i)) (refl, vertex y.0 y.1))
      by_cover x ty e (before_it i d) =
          let r : name_at s place x (entry s x) ≡ Ok ty = sym (name_at_setting s (with_target s a) place x (entry s x) (target_setting s a)) ∙ sym (ap (name_at (with_target s a) place x) d) ∙ e in
          subst (λ thing. Safe {F = Wrong} (Suits world ty) (answers.◌>>=◌ (found thing) (λ thing. Gives (meant thing)))) (sym (names_behind o (Some (a_vertex types v)) names x i)) (f.named x ty r)

      go : (x : N) (ty : Typed) (q : Bool) → bars x ≡ q → (if q then Err (unknown (with_target s a) x) else name_at (with_target s a) place x (entry (with_target s a) x)) ≡ Ok ty
          → Safe {F = Wrong} (Suits world ty) (answers.◌>>=◌ (found (thing_named world (named_as o (Some (a_vertex types v)) names) x)) (λ thing. Gives (meant thing)))
      go x ty true q e = cc
      go x ty false q e = by_cover x ty e (covers x ty q e)
