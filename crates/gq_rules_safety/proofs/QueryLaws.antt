-- QueryLaws: a typed query is never stuck, over arguments of its parameters' types.
use Rattle.std.proofs.Common.{◌≡◌, ℕ, zero, suc, ◌+◌, Bool, true, false, List, [], ◌∷◌, ◌++◌, length, arith, Option, Some, None, Ok, refl, ap, sym, ◌∙◌, subst}
use Rattle.std.proofs.lemmas.Bool.Decides.{nat_tests}
use Rattle.std.proofs.lemmas.List.FromFn.{length-range_with_len}
use Rattle.std.specs.Prelude.{if◌then◌else◌, nat_lt, position, slice_get, filter}
use Rattle.std.specs.Option.{option_map}
use Rattle.std.specs.List.{position_or_len}
use Rattle.gq_tree.specs.Tree.{Tree}
use Rattle.gq_value.specs.declared.value.Wrong.{Wrong}
use Rattle.gq_value.specs.Val.{Val}
use Rattle.gq_value.specs.Accums.{Base, INT, UINT, BOOL, STRING, DATETIME, VERTEX, VERTEX_OF, TUPLE, Accum, SumAccum, MinAccum, MaxAccum, OrAccum, AndAccum, BitwiseOrAccum, BitwiseAndAccum, AvgAccum, SetAccum, BagAccum, ListAccum, MapAccum, GroupByAccum, HeapAccum}
use Rattle.gq_value.specs.declared.kind.Number.TheVariants as kinds
use Rattle.gq_accum_laws.specs.Holds.{Holds}
use Rattle.gq_accum_laws.specs.After.{fresh}
use Rattle.gq_accum_laws.specs.Fits.{fits}
use Rattle.gq_accum_laws.proofs.ProperLaws.{proper_fresh}
use Rattle.gq_rules_typing.specs.Statements.{Bytes, BaseTree, Ints, UInts, Bools, Strings, AnyVertex, VertexOf, Definition, TupleType, Accums, Parameter, QueryOver}
use Rattle.gq_rules_typing.specs.Sorts.{Fields}
use Rattle.gq_rules_typing.specs.Words.{Setting, under}
use Rattle.gq_rules_typing.specs.Judging.{Judged, ◌>>=◌, ◌>>◌, unless, or_fault, through_judged, Mismatch, TooMany, BadKind, UnknownName}
use Rattle.gq_rules_typing.specs.Kinds.{set_type}
use Rattle.gq_rules_typing.specs.ExpressionTypes.{converting}
use Rattle.gq_rules_typing.specs.Scopes.{Entry, Variable, Accumulator, TupleName, InOpening, Scope, entry, said, with_entry, new_name, names_at, base_written}
use Rattle.gq_rules_typing.specs.KindTypes.{own_name, fields_written}
use Rattle.gq_rules_typing.specs.QueryTypes.{good_default, typing_parameter, with_tuple, is_accum, typing_opening, typing_accum, first_name, typing_definition, typing_over}
use Rattle.gq_rules_meaning.specs.Answers.{Answer, Gives, Faults, Stuck, blaming, found, each, through}
use Rattle.gq_rules_meaning.specs.Answers as answers
use Rattle.gq_rules_meaning.specs.Graphs.{vertex_count}
use Rattle.gq_rules_meaning.specs.Expressions.{World, setting, value_as}
use Rattle.gq_rules_meaning.specs.States.{Thing, Slot, State, thing_named, slot_number, seen}
use Rattle.gq_rules_meaning.specs.States as states
use Rattle.gq_rules_meaning.specs.Outs.{Out}
use Rattle.gq_rules_meaning.specs.Statements.{Evaluation, base_of_tree}
use Rattle.gq_rules_meaning.specs.Runs.{Running, run_all}
use Rattle.gq_rules_meaning.specs.Queries.{opening, places, opened, Defining, judged, scope_of, with_tuples, defined, bound, start, run_over}
use Rattle.gq_rules_meaning.specs.Fitting.{Safe, is_value, WorldFits}
use Rattle.gq_rules_meaning.specs.StateFits.{ThingFits, ContentFits, places_of, SlotFits, AccumFits}
use Rattle.gq_rules_meaning.proofs.AnswerLaws.{safe_then, safe_found, safe_blaming, then_ok, after_ok, or_fault_ok, ok_inj, some_inj}
use Rattle.gq_rules_meaning.proofs.ValueLaws.{IsValue}
use Rattle.gq_rules_meaning.proofs.ContentLaws.{fresh_holds}
use Rattle.gq_rules_meaning.proofs.LookLaws.{look_fits}
use Rattle.gq_rules_safety.specs.Matching.{WordsFit, has_thing, StateIs}
use Rattle.gq_rules_safety.specs.Laws.{ArgumentsFit}
use Rattle.gq_rules_safety.proofs.NameLaws.{entry_new}
use Rattle.gq_rules_safety.proofs.LocalLaws.{new_none, IsWritten, written_base}
use Rattle.gq_rules_safety.proofs.ValueLaws.{InRange, set_fits, wanted_safe}
use Rattle.gq_rules_safety.proofs.SlotLaws.{numbered, named_by}
use Rattle.gq_rules_safety.proofs.MentionLaws.{then_same}
use Rattle.gq_rules_safety.proofs.SightLaws.{state_of}
use Rattle.gq_rules_safety.proofs.SelectLaws.{select_law}
use Rattle.gq_rules_safety.proofs.AssignLaws.{statement_law}

-- a kind that typing gives is the one of the run
abbrev pub KindsAgree : {N K : Type 0} → (Scope N → Bytes → K → Judged Accum) → (World N → K → Answer Wrong Accum) → Type 0
KindsAgree {N = N} {K = K} typed runs = (s : Scope N) (world : World N) (a : Bytes) (k : K) (kind : Accum) → s.setting ≡ setting world → typed s a k ≡ Ok kind → runs world k ≡ Gives kind

-- ---- places in lists

some_left : (n : ℕ) → nat_lt 0 (suc n) ≡ true
some_left n = grind (arith, nat_tests)

shifted : (n m : ℕ) (b : Bool) → nat_lt n m ≡ b → nat_lt (1 + n) (suc m) ≡ b
shifted n m true h = grind (arith, nat_tests)
shifted n m false h = grind (arith, nat_tests)

one_more : (n : ℕ) → 1 + n ≡ suc n
one_more n = omega arith

position_here : {A : Type 0} (p : A → Bool) (x : A) (xs : List A) → p x ≡ true → position p (x ∷ xs) ≡ Some 0
position_here p x xs e = let z = some_left (length xs) in cc

position_behind : {A : Type 0} (p : A → Bool) (x : A) (xs : List A) → p x ≡ false → position p (x ∷ xs) ≡ option_map suc (position p xs)
position_behind p x xs e = go (nat_lt (position_or_len p xs) (length xs)) refl
  where
    go : (b : Bool) → nat_lt (position_or_len p xs) (length xs) ≡ b → position p (x ∷ xs) ≡ option_map suc (position p xs)
    go true f = let z = shifted (position_or_len p xs) (length xs) true f in let w = one_more (position_or_len p xs) in cc
    go false f = let z = shifted (position_or_len p xs) (length xs) false f in cc

position_kept : {A : Type 0} (p : A → Bool) (xs : List A) (y : A) (n : ℕ) → position p xs ≡ Some n → position p (xs ++ y ∷ []) ≡ Some n
position_kept p [] y n e = cc
position_kept p (x ∷ xs) y n e = go (p x) refl (position p xs) refl (position_kept p xs y)
  where
    go : (b : Bool) → p x ≡ b → (o : Option ℕ) → position p xs ≡ o → ((n : ℕ) → position p xs ≡ Some n → position p (xs ++ y ∷ []) ≡ Some n) → position p (x ∷ (xs ++ y ∷ [])) ≡ Some n
    go true f o d rest = position_here p x (xs ++ y ∷ []) f ∙ sym (position_here p x xs f) ∙ e
    go false f (Some m) d rest = position_behind p x (xs ++ y ∷ []) f ∙ ap (option_map suc) (rest m d) ∙ sym (position_behind p x xs f ∙ ap (option_map suc) d) ∙ e
    go false f None d rest = let u = sym (position_behind p x xs f ∙ ap (option_map suc) d) ∙ e in absurd (cc u)

position_none : {A : Type 0} (p : A → Bool) (x : A) (xs : List A) → position p (x ∷ xs) ≡ None → (p x ≡ false) × (position p xs ≡ None)
position_none p x xs e = go (p x) refl (position p xs) refl
  where
    go : (b : Bool) → p x ≡ b → (o : Option ℕ) → position p xs ≡ o → (p x ≡ false) × (position p xs ≡ None)
    go true f o d = let u = sym (position_here p x xs f) ∙ e in absurd (cc u)
    go false f None d = (f, d)
    go false f (Some m) d = let u = sym (position_behind p x xs f ∙ ap (option_map suc) d) ∙ e in absurd (cc u)

position_last : {A : Type 0} (p : A → Bool) (xs : List A) (y : A) → position p xs ≡ None → p y ≡ true → position p (xs ++ y ∷ []) ≡ Some (length xs)
position_last p [] y e f = position_here p y [] f
position_last p (x ∷ xs) y e f = let w = position_none p x xs e in position_behind p x (xs ++ y ∷ []) w.0 ∙ ap (option_map suc) (position_last p xs y w.1 f) ∙ next (length xs)
  where
    next : (n : ℕ) → option_map suc (Some n) ≡ Some (suc n)
    next n = refl

position_nowhere : {A : Type 0} (p : A → Bool) (xs : List A) (y : A) → position p xs ≡ None → p y ≡ false → position p (xs ++ y ∷ []) ≡ None
position_nowhere p [] y e f = position_behind p y [] f ∙ ap (option_map suc) e
position_nowhere p (x ∷ xs) y e f = let w = position_none p x xs e in position_behind p x (xs ++ y ∷ []) w.0 ∙ ap (option_map suc) (position_nowhere p xs y w.1 f)

at_end : {A : Type 0} (xs : List A) (y : A) → slice_get (xs ++ y ∷ []) (length xs) ≡ Some y
at_end [] y = refl
at_end (x ∷ xs) y = at_end xs y

still_there : {A : Type 0} (xs ys : List A) (n : ℕ) (z : A) → slice_get xs n ≡ Some z → slice_get (xs ++ ys) n ≡ Some z
still_there [] ys n z e = cc
still_there (x ∷ xs) ys zero z e = e
still_there (x ∷ xs) ys (suc n) z e = still_there xs ys n z e

append_none : {A : Type 0} (xs : List A) → xs ++ [] ≡ xs
append_none [] = refl
append_none (x ∷ xs) = ap (λ l. x ∷ l) (append_none xs)

append_more : {A : Type 0} (xs : List A) (y : A) (zs : List A) → (xs ++ y ∷ []) ++ zs ≡ xs ++ (y ∷ zs)
append_more [] y zs = refl
append_more (x ∷ xs) y zs = ap (λ l. x ∷ l) (append_more xs y zs)

-- ---- openings

fresh_fits : (k : Accum) → fits k (fresh k) ≡ true
fresh_fits (SumAccum kinds.Int) = refl
fresh_fits (SumAccum kinds.UInt) = refl
fresh_fits AvgAccum = refl
fresh_fits (MinAccum n) = refl
fresh_fits (MaxAccum n) = refl
fresh_fits OrAccum = refl
fresh_fits AndAccum = refl
fresh_fits BitwiseOrAccum = refl
fresh_fits BitwiseAndAccum = refl
fresh_fits (SetAccum b) = refl
fresh_fits (BagAccum b) = refl
fresh_fits (ListAccum b) = refl
fresh_fits (MapAccum b k) = refl
fresh_fits (GroupByAccum keys ps) = refl
fresh_fits (HeapAccum b n by) = refl

-- ---- types as written depend only on the setting

pub base_same : {N : Type 0} (s t : Scope N) (b : BaseTree N) → s.setting ≡ t.setting → base_written s b ≡ base_written t b
base_same s t Ints h = refl
base_same s t UInts h = refl
base_same s t Bools h = refl
base_same s t Strings h = refl
base_same s t AnyVertex h = refl
base_same s t (VertexOf x) h = ap (λ z. or_fault (UnknownName (z.words.said x)) (z.words.vertex_type x) >>= λ n. Ok (VERTEX_OF n)) h

pub fields_same : {N : Type 0} (s t : Scope N) (most : ℕ) (names : List Bytes) (fs : List (BaseTree N × Bytes)) → s.setting ≡ t.setting → fields_written s most names fs ≡ fields_written t most names fs
fields_same s t most names [] h = refl
fields_same s t most names (f ∷ fs) h =
    then_same (base_written s f.0) (base_written t f.0) _ _ (base_same s t f.0 h)
    (λ b. then_same (own_name most names f.1) (own_name most names f.1) _ _ refl (λ more. then_same (fields_written s most more fs) (fields_written t most more fs) _ _ (fields_same s t most more fs h) (λ rest. refl)))

module _ {N : Type 0} (world : World N) (words : WordsFit world) (stores : (tuples : List (N × Fields)) → WorldFits (with_tuples tuples world)) where
  abbrev same : N → N → Bool
  same = world.words.same

  abbrev at : List (N × Fields) → World N
  at tuples = with_tuples tuples world

  words_at : (tuples : List (N × Fields)) → WordsFit (at tuples)
  words_at tuples = record { same = words.same; vertex_type = words.vertex_type; edge_type = words.edge_type }

  -- the declarations so far; values keep their types whatever tuple types are added
  pub record Declared (s : Scope N) (tuples : List (N × Fields)) (state : State N) : Type 0 where
    pub setting : s.setting ≡ setting (at tuples)
    pub named : (more : List (N × Fields)) (x : N) (e : Entry) → entry s x ≡ Some e → ThingFits (at more) e (thing_named world state.names x)
    pub accum : (more : List (N × Fields)) (a : N) (k : Accum) (attached : Bool) → entry s a ≡ Some (Accumulator k attached) → AccumFits (at more) state.slots a k attached
    pub alone : (x : N) → has_thing (entry s x) ≡ false → thing_named world state.names x ≡ None
    pub free : (a : N) → entry s a ≡ None → slot_number world state.slots a ≡ None

  pub state_is : (s : Scope N) (tuples : List (N × Fields)) (state : State N) → Declared s tuples state → StateIs (at tuples) s state
  state_is s tuples state h = record { fits = record { store = stores tuples; setting = h.setting; named = h.named tuples; accum = h.accum tuples }; alone = h.alone }

  same_words : (s : Scope N) (tuples : List (N × Fields)) (state : State N) → Declared s tuples state → s.setting.words.same ≡ same
  same_words s tuples state h = ap (λ z. z.words.same) h.setting

  -- ---- parameters

  under_apart : {A : Type 0} (x y : N) (a : A) (es : List (N × A)) → same x y ≡ false → under same y (es ++ (x, a) ∷ []) ≡ under same y es
  under_apart x y a [] h = ap (λ b. if b then Some a else None) h
  under_apart x y a (e ∷ es) h = ap (λ o. if same e.0 y then Some e.1 else o) (under_apart x y a es h)

  under_last : {A : Type 0} (x y : N) (a : A) (es : List (N × A)) → same x y ≡ true → under same y es ≡ None → under same y (es ++ (x, a) ∷ []) ≡ Some a
  under_last x y a [] h e = ap (λ b. if b then Some a else None) h
  under_last x y a (d ∷ es) h e = go (same d.0 y) refl e (under_last x y a es h)
    where
      go : (b : Bool) → same d.0 y ≡ b → (if b then Some d.1 else under same y es) ≡ None → (under same y es ≡ None → under same y (es ++ (x, a) ∷ []) ≡ Some a) → (if same d.0 y then Some d.1 else under same y (es ++ (x, a) ∷ [])) ≡ Some a
      go true f e rest = cc
      go false f e rest = ap (λ b. if b then Some d.1 else under same y (es ++ (x, a) ∷ [])) f ∙ rest e

  -- values of these types are no tuples
  written_value : (more : List (N × Fields)) (b : Base) (v : Val) → IsWritten b → is_value world b v ≡ true → is_value (at more) b v ≡ true
  written_value more INT v w h = go v h
    where
      go : (v : Val) → is_value world INT v ≡ true → is_value (at more) INT v ≡ true
      go v h = h
  written_value more UINT v w h = h
  written_value more BOOL v w h = h
  written_value more STRING v w h = h
  written_value more VERTEX v w h = h
  written_value more (VERTEX_OF t) v w h = h
  written_value more DATETIME v w h = absurd w
  written_value more (TUPLE n bs) v w h = absurd w

  parameter_is : (s : Scope N) (tuples : List (N × Fields)) (names : List (N × Thing)) (x : N) (b : Base) (v : Val) → Declared s tuples (state_of names []) → entry s x ≡ None → IsWritten b → is_value world b v ≡ true
      → Declared (with_entry x (Variable b) s) tuples (state_of (names ++ (x, states.Variable b v) ∷ []) [])
  parameter_is s tuples names x b v h n w val = record {
    setting = h.setting;
    named = λ more y e k. go_named more y e (same x y) refl k;
    accum = λ more a k attached e. go_accum more a k attached (same x a) refl e;
    alone = λ y k. go_alone y (same x y) refl k;
    free = λ a k. refl;
  }
    where
      f : s.setting.words.same ≡ same
      f = ap (λ z. z.words.same) h.setting

      nothing : (y : N) → same x y ≡ true → thing_named world names y ≡ None
      nothing y g = h.alone y (subst (λ z. has_thing (entry s z) ≡ false) (words.same x y g) (ap has_thing n))

      go_named : (more : List (N × Fields)) (y : N) (e : Entry) (q : Bool) → same x y ≡ q → entry (with_entry x (Variable b) s) y ≡ Some e → ThingFits (at more) e (thing_named world (names ++ (x, states.Variable b v) ∷ []) y)
      go_named more y e true g k =
          let u : Variable b ≡ e = some_inj (sym (entry_new world words s x y (Variable b) f true g) ∙ k) in
          subst (ThingFits (at more) e) (sym (under_last x y (states.Variable b v) names g (nothing y g))) (subst (λ e. ThingFits (at more) e (Some (states.Variable b v))) u (refl, written_value more b v w val))
      go_named more y e false g k = subst (ThingFits (at more) e) (sym (under_apart x y (states.Variable b v) names g)) (h.named more y e (sym (entry_new world words s x y (Variable b) f false g) ∙ k))

      go_accum : (more : List (N × Fields)) (a : N) (k : Accum) (attached : Bool) (q : Bool) → same x a ≡ q → entry (with_entry x (Variable b) s) a ≡ Some (Accumulator k attached) → AccumFits (at more) [] a k attached
      go_accum more a k attached true g e = let u = sym (entry_new world words s x a (Variable b) f true g) ∙ e in absurd (cc u)
      go_accum more a k attached false g e = h.accum more a k attached (sym (entry_new world words s x a (Variable b) f false g) ∙ e)

      go_alone : (y : N) (q : Bool) → same x y ≡ q → has_thing (entry (with_entry x (Variable b) s) y) ≡ false → thing_named world (names ++ (x, states.Variable b v) ∷ []) y ≡ None
      go_alone y true g k = let u : true ≡ false = sym (ap has_thing (entry_new world words s x y (Variable b) f true g)) ∙ k in absurd (cc u)
      go_alone y false g k = under_apart x y (states.Variable b v) names g ∙ h.alone y (sym (ap has_thing (entry_new world words s x y (Variable b) f false g)) ∙ k)

  base_at : (tuples : List (N × Fields)) (b : BaseTree N) → base_of_tree (at tuples) b ≡ base_of_tree world b
  base_at tuples Ints = refl
  base_at tuples UInts = refl
  base_at tuples Bools = refl
  base_at tuples Strings = refl
  base_at tuples AnyVertex = refl
  base_at tuples (VertexOf t) = refl

  bound_safe : (ps : List (Parameter N)) (vs : List Val) (s t : Scope N) (tuples : List (N × Fields)) (names : List (N × Thing)) → Declared s tuples (state_of names []) → through_judged typing_parameter s ps ≡ Ok t → ArgumentsFit world ps vs
      → Safe (λ rest. Declared t tuples (state_of (names ++ rest) [])) (bound world ps vs)
  bound_safe [] [] s t tuples names h e a = subst (λ l. Declared t tuples (state_of l [])) (sym (append_none names)) (subst (λ t. Declared t tuples (state_of names [])) (ok_inj e) h)
  bound_safe (p ∷ ps) (v ∷ vs) s t tuples names h e a =
      let u = then_ok (typing_parameter s p) _ t e in
      let b = then_ok (base_written s p.base) _ u.0 u.1 in
      let c = after_ok (new_name s p.name >> unless Mismatch (good_default b.0 p.default)) (Ok (with_entry p.name (Variable b.0) s)) u.0 b.2 in
      let d = after_ok (new_name s p.name) (unless Mismatch (good_default b.0 p.default)) c.0.0 c.0.1 in
      let w = written_base (at tuples) s p.base b.0 h.setting b.1 in
      let g : base_of_tree world p.base ≡ Gives b.0 = sym (base_at tuples p.base) ∙ w.0 in
      let one = parameter_is s tuples names p.name b.0 v h (new_none s p.name d.0.0 d.0.1) w.1 (a.0 b.0 g) in
      let two = subst (λ r. Declared r tuples (state_of (names ++ (p.name, states.Variable b.0 v) ∷ []) [])) (ok_inj c.1) one in
      subst (λ o. Safe (λ rest. Declared t tuples (state_of (names ++ rest) [])) (answers.◌>>=◌ o (λ b. answers.◌>>=◌ (bound world ps vs) (λ names. Gives ((p.name, states.Variable b v) ∷ names))))) (sym g)
      (safe_then (λ rest. Declared t tuples (state_of ((names ++ (p.name, states.Variable b.0 v) ∷ []) ++ rest) [])) (λ rest. Declared t tuples (state_of (names ++ rest) [])) (bound world ps vs) _
      (bound_safe ps vs u.0 t tuples (names ++ (p.name, states.Variable b.0 v) ∷ []) two u.2 a.1) (λ rest k. subst (λ l. Declared t tuples (state_of l [])) (append_more names (p.name, states.Variable b.0 v) rest) k))
  bound_safe [] (v ∷ vs) s t tuples names h e a = absurd a
  bound_safe (p ∷ ps) [] s t tuples names h e a = absurd a

  -- ---- tuple types

  tuple_is : (s : Scope N) (tuples : List (N × Fields)) (state : State N) (x : N) (fields : Fields) → Declared s tuples state → entry s x ≡ None → Declared (with_tuple x fields s) (tuples ++ (x, fields) ∷ []) state
  tuple_is s tuples state x fields h n = record {
    setting = ap {A = Setting N} (λ z. record z { tuples = z.tuples ++ (x, fields) ∷ [] }) h.setting;
    named = λ more y e k. go_named more y e (same x y) refl k;
    accum = λ more a k attached e. go_accum more a k attached (same x a) refl e;
    alone = λ y k. go_alone y (same x y) refl k;
    free = λ a k. go_free a (same x a) refl k;
  }
    where
      next : Scope N
      next = record s { setting = record (s.setting) { tuples = s.setting.tuples ++ (x, fields) ∷ [] } }

      f : next.setting.words.same ≡ same
      f = ap (λ z. z.words.same) h.setting

      go_named : (more : List (N × Fields)) (y : N) (e : Entry) (q : Bool) → same x y ≡ q → entry (with_entry x TupleName next) y ≡ Some e → ThingFits (at more) e (thing_named world state.names y)
      go_named more y e true g k = let u : TupleName ≡ e = some_inj (sym (entry_new world words next x y TupleName f true g) ∙ k) in subst (λ e. ThingFits (at more) e (thing_named world state.names y)) u tt
      go_named more y e false g k = h.named more y e (sym (entry_new world words next x y TupleName f false g) ∙ k)

      go_accum : (more : List (N × Fields)) (a : N) (k : Accum) (attached : Bool) (q : Bool) → same x a ≡ q → entry (with_entry x TupleName next) a ≡ Some (Accumulator k attached) → AccumFits (at more) state.slots a k attached
      go_accum more a k attached true g e = let u = sym (entry_new world words next x a TupleName f true g) ∙ e in absurd (cc u)
      go_accum more a k attached false g e = h.accum more a k attached (sym (entry_new world words next x a TupleName f false g) ∙ e)

      go_alone : (y : N) (q : Bool) → same x y ≡ q → has_thing (entry (with_entry x TupleName next) y) ≡ false → thing_named world state.names y ≡ None
      go_alone y true g k = h.alone y (subst (λ z. has_thing (entry s z) ≡ false) (words.same x y g) (ap has_thing n))
      go_alone y false g k = h.alone y (sym (ap has_thing (entry_new world words next x y TupleName f false g)) ∙ k)

      go_free : (a : N) (q : Bool) → same x a ≡ q → entry (with_entry x TupleName next) a ≡ None → slot_number world state.slots a ≡ None
      go_free a true g k = let u = sym (entry_new world words next x a TupleName f true g) ∙ k in absurd (cc u)
      go_free a false g k = h.free a (sym (entry_new world words next x a TupleName f false g) ∙ k)

  -- ---- accumulators

  abbrev Opens : (k : Accum) → Holds k → Type 0
  Opens k c = (more : List (N × Fields)) → ContentFits (at more) k c

  opening_safe : (s : Scope N) (tuples : List (N × Fields)) (state : State N) (name : Bytes) (k : Accum) (a : Option (Tree N)) (q : Bool) → Declared s tuples state → typing_opening s name k a ≡ Ok q → Safe (Opens k) (opening (seen (at tuples) state) k a)
  opening_safe s tuples state name k None q h e = λ more. record { values = fresh_holds (at more) k; fit = fresh_fits k; proper = proper_fresh k }
  opening_safe s tuples state name k (Some t) q h e =
      let b = then_ok (or_fault (BadKind name) (set_type k)) (λ b. converting (names_at s InOpening) b t) q e in
      let d = or_fault_ok (BadKind name) (set_type k) b.0 b.1 in
      let i = state_is s tuples state h in
      safe_found (Opens k) (set_type k) b.0 _ d
      (safe_then (λ v. IsValue (at tuples) b.0 v × InRange b.0 v) (Opens k) (value_as (seen (at tuples) state) b.0 t) _
      (wanted_safe (names_at s InOpening) (seen (at tuples) state) (look_fits (at tuples) s InOpening state.names state.slots state.slots refl i.fits i.fits) b.0 t q b.2) (λ v g. λ more. set_fits (at more) k b.0 v d g.1))

  opens_all : (k : Accum) (o : Answer Wrong (Holds k)) → Safe (Opens k) o → (vs : List ℕ) → Safe (λ cs. (length cs ≡ length vs) × ((i : ℕ) (c : Holds k) → slice_get cs i ≡ Some c → Opens k c)) (each (λ v. o) vs)
  opens_all k o h [] = (refl, λ i c e. cc)
  opens_all k o h (v ∷ vs) =
      safe_then (Opens k) (λ cs. (length cs ≡ length (v ∷ vs)) × ((i : ℕ) (c : Holds k) → slice_get cs i ≡ Some c → Opens k c)) o _ h
      (λ d g. safe_then (λ cs. (length cs ≡ length vs) × ((i : ℕ) (c : Holds k) → slice_get cs i ≡ Some c → Opens k c)) (λ cs. (length cs ≡ length (v ∷ vs)) × ((i : ℕ) (c : Holds k) → slice_get cs i ≡ Some c → Opens k c)) (each (λ v. o) vs) _ (opens_all k o h vs)
      (λ cs w. all d cs g w.0 w.1))
    where
      all : (d : Holds k) (cs : List (Holds k)) → Opens k d → length cs ≡ length vs → ((i : ℕ) (c : Holds k) → slice_get cs i ≡ Some c → Opens k c) → (length (d ∷ cs) ≡ length (v ∷ vs)) × ((i : ℕ) (c : Holds k) → slice_get (d ∷ cs) i ≡ Some c → Opens k c)
      all d cs g l w = (omega (arith, l), at_each)
        where
          at_each : (i : ℕ) (c : Holds k) → slice_get (d ∷ cs) i ≡ Some c → Opens k c
          at_each zero c e = subst (Opens k) (some_inj e) g
          at_each (suc i) c e = w i c e

  places_count : (tuples more : List (N × Fields)) (attached : Bool) → length (places (at tuples) attached) ≡ places_of (at more) attached
  places_count tuples more true = length-range_with_len 0 (vertex_count world.graph)
  places_count tuples more false = refl

  accum_is : (s : Scope N) (tuples : List (N × Fields)) (state : State N) (x : N) (k : Accum) (attached : Bool) (cs : List (Holds k)) → Declared s tuples state → entry s x ≡ None → length cs ≡ length (places (at tuples) attached) → ((i : ℕ) (c : Holds k) → slice_get cs i ≡ Some c → Opens k c)
      → Declared (with_entry x (Accumulator k attached) s) tuples (record state { slots = state.slots ++ record { name = x; attached = attached; kind = k; contents = cs } ∷ [] })
  accum_is s tuples state x k attached cs h n l w = record {
    setting = h.setting;
    named = λ more y e k. go_named more y e (same x y) refl k;
    accum = λ more a j flag e. go_accum more a j flag (same x a) refl e;
    alone = λ y k. go_alone y (same x y) refl k;
    free = λ a k. go_free a (same x a) refl k;
  }
    where
      new : Slot N
      new = record { name = x; attached = attached; kind = k; contents = cs }

      f : s.setting.words.same ≡ same
      f = ap (λ z. z.words.same) h.setting

      go_named : (more : List (N × Fields)) (y : N) (e : Entry) (q : Bool) → same x y ≡ q → entry (with_entry x (Accumulator k attached) s) y ≡ Some e → ThingFits (at more) e (thing_named world state.names y)
      go_named more y e true g r = let u : Accumulator k attached ≡ e = some_inj (sym (entry_new world words s x y (Accumulator k attached) f true g) ∙ r) in subst (λ e. ThingFits (at more) e (thing_named world state.names y)) u tt
      go_named more y e false g r = h.named more y e (sym (entry_new world words s x y (Accumulator k attached) f false g) ∙ r)

      fit : (more : List (N × Fields)) → SlotFits (at more) k attached new
      fit more = record { kind = refl; attaches = refl; count = l ∙ places_count tuples more attached; contents = λ i c e. w i c e more }

      found_new : (more : List (N × Fields)) (a : N) → same x a ≡ true → AccumFits (at more) (state.slots ++ new ∷ []) a k attached
      found_new more a g =
          let m : slot_number world state.slots a ≡ None = h.free a (subst (λ z. entry s z ≡ None) (words.same x a g) n) in
          record { slot = new; found = named_by (at more) (state.slots ++ new ∷ []) a (length state.slots) new (position_last (λ (s : Slot N). same s.name a) state.slots new m g) (at_end state.slots new); fit = fit more }

      found_old : (more : List (N × Fields)) (a : N) (j : Accum) (flag : Bool) → AccumFits (at more) state.slots a j flag → AccumFits (at more) (state.slots ++ new ∷ []) a j flag
      found_old more a j flag o =
          let m = numbered (at more) state.slots a o.slot o.found in
          record { slot = o.slot; found = named_by (at more) (state.slots ++ new ∷ []) a m.0 o.slot (position_kept (λ (s : Slot N). same s.name a) state.slots new m.0 m.1) (still_there state.slots (new ∷ []) m.0 o.slot m.2); fit = o.fit }

      go_accum : (more : List (N × Fields)) (a : N) (j : Accum) (flag : Bool) (q : Bool) → same x a ≡ q → entry (with_entry x (Accumulator k attached) s) a ≡ Some (Accumulator j flag) → AccumFits (at more) (state.slots ++ new ∷ []) a j flag
      go_accum more a j flag true g e =
          let u : Accumulator k attached ≡ Accumulator j flag = some_inj (sym (entry_new world words s x a (Accumulator k attached) f true g) ∙ e) in let v : k ≡ j = cc in let w : attached ≡ flag = cc in
          subst (λ j. AccumFits (at more) (state.slots ++ new ∷ []) a j flag) v (subst (λ flag. AccumFits (at more) (state.slots ++ new ∷ []) a k flag) w (found_new more a g))
      go_accum more a j flag false g e = found_old more a j flag (h.accum more a j flag (sym (entry_new world words s x a (Accumulator k attached) f false g) ∙ e))

      go_alone : (y : N) (q : Bool) → same x y ≡ q → has_thing (entry (with_entry x (Accumulator k attached) s) y) ≡ false → thing_named world state.names y ≡ None
      go_alone y true g r = h.alone y (subst (λ z. has_thing (entry s z) ≡ false) (words.same x y g) (ap has_thing n))
      go_alone y false g r = h.alone y (sym (ap has_thing (entry_new world words s x y (Accumulator k attached) f false g)) ∙ r)

      go_free : (a : N) (q : Bool) → same x a ≡ q → entry (with_entry x (Accumulator k attached) s) a ≡ None → slot_number world (state.slots ++ new ∷ []) a ≡ None
      go_free a true g r = let u = sym (entry_new world words s x a (Accumulator k attached) f true g) ∙ r in absurd (cc u)
      go_free a false g r = position_nowhere (λ (s : Slot N). same s.name a) state.slots new (h.free a (sym (entry_new world words s x a (Accumulator k attached) f false g) ∙ r)) g

  accums_safe : (k : Accum) (accums : List (Bool × N × Option (Tree N))) (s t : Scope N) (tuples : List (N × Fields)) (state : State N) → Declared s tuples state → through_judged (typing_accum k) s accums ≡ Ok t → Safe (Declared t tuples) (through (opened (at tuples) k) state accums)
  accums_safe k [] s t tuples state h e = subst (λ t. Declared t tuples state) (ok_inj e) h
  accums_safe k (a ∷ accums) s t tuples state h e =
      let u = then_ok (typing_accum k s a) _ t e in
      let c = after_ok (new_name s a.1 >> unless TooMany (nat_lt (length (filter is_accum s.names)) 256) >> typing_opening s (said s a.1) k a.2) (Ok (with_entry a.1 (Accumulator k a.0) s)) u.0 u.1 in
      let d = after_ok (new_name s a.1 >> unless TooMany (nat_lt (length (filter is_accum s.names)) 256)) (typing_opening s (said s a.1) k a.2) c.0.0 c.0.1 in
      let g = after_ok (new_name s a.1) (unless TooMany (nat_lt (length (filter is_accum s.names)) 256)) d.0.0 d.0.1 in
      safe_then (Declared u.0 tuples) (Declared t tuples) (opened (at tuples) k state a) _
      (safe_then (λ cs. (length cs ≡ length (places (at tuples) a.0)) × ((i : ℕ) (c : Holds k) → slice_get cs i ≡ Some c → Opens k c)) (Declared u.0 tuples) (each (λ v. opening (seen (at tuples) state) k a.2) (places (at tuples) a.0)) _
      (opens_all k (opening (seen (at tuples) state) k a.2) (opening_safe s tuples state (said s a.1) k a.2 c.0.0 h d.1) (places (at tuples) a.0))
      (λ cs w. subst (λ r. Declared r tuples (record state { slots = state.slots ++ record { name = a.1; attached = a.0; kind = k; contents = cs } ∷ [] })) (ok_inj c.1) (accum_is s tuples state a.1 k a.0 cs h (new_none s a.1 g.0.0 g.0.1) w.0 w.1)))
      (λ next i. accums_safe k accums u.0 t tuples next i u.2)

  -- ---- declarations

  module _ {K : Type 0} (typed : Scope N → Bytes → K → Judged Accum) (runs : World N → K → Answer Wrong Accum) (agree : KindsAgree typed runs) where
    abbrev Defined : Scope N → Defining N → Type 0
    Defined s d = Declared s d.tuples d.state

    definition_safe : (s t : Scope N) (d : Defining N) (def : Definition N K) → Defined s d → typing_definition typed s def ≡ Ok t → Safe (Defined t) (defined world runs d def)
    definition_safe s t d (TupleType fs x) h e =
        let fields = then_ok (fields_written s 16 [] fs) _ t e in
        let u = after_ok (new_name s x) (Ok (with_tuple x fields.0 s)) t fields.2 in
        let w : fields_written (scope_of (setting (at d.tuples))) 16 [] fs ≡ Ok fields.0 = fields_same (scope_of (setting (at d.tuples))) s 16 [] fs (sym h.setting) ∙ fields.1 in
        subst (λ j. Safe (Defined t) (answers.◌>>=◌ (judged {F = Wrong} j) (λ fields. Gives (record d { tuples = d.tuples ++ (x, fields) ∷ [] })))) (sym w)
        (subst (λ t. Declared t (d.tuples ++ (x, fields.0) ∷ []) d.state) (ok_inj u.1) (tuple_is s d.tuples d.state x fields.0 h (new_none s x u.0.0 u.0.1)))
    definition_safe s t d (Accums k accums) h e =
        let kind = then_ok (typed s (first_name s accums) k) _ t e in
        subst (λ o. Safe (Defined t) (answers.◌>>=◌ o (λ kind. answers.◌>>=◌ (through (opened (at d.tuples) kind) d.state accums) (λ s. Gives (record d { state = s }))))) (sym (agree s (at d.tuples) (first_name s accums) k kind.0 h.setting kind.1))
        (safe_then (Declared t d.tuples) (Defined t) (through (opened (at d.tuples) kind.0) d.state accums) _ (accums_safe kind.0 accums s t d.tuples d.state h kind.2) (λ next i. i))

    definitions_safe : (defs : List (Definition N K)) (s t : Scope N) (d : Defining N) → Defined s d → through_judged (typing_definition typed) s defs ≡ Ok t → Safe (Defined t) (through (defined world runs) d defs)
    definitions_safe [] s t d h e = subst (λ t. Defined t d) (ok_inj e) h
    definitions_safe (def ∷ defs) s t d h e =
        let u = then_ok (typing_definition typed s def) _ t e in
        safe_then (Defined u.0) (Defined t) (defined world runs d def) _ (definition_safe s u.0 d def h u.1) (λ next i. definitions_safe defs u.0 t next i u.2)

    nothing_yet : (paths : Bool) → Declared (record { setting = setting (at []); names = []; with_paths = paths }) [] (state_of [] [])
    nothing_yet paths = record { setting = refl; named = λ more x e k. absurd (cc k); accum = λ more a k attached e. absurd (cc e); alone = λ x k. refl; free = λ a k. refl }

    pub over_safe : (q : QueryOver N K) (t : Scope N) → typing_over typed (setting (at [])) q ≡ Ok t → (arguments : List Val) → ArgumentsFit world q.parameters arguments → (turns : ℕ) → Safe (λ (p : List (List (Bytes × Out))). Unit {0}) (run_over world runs q arguments turns)
    over_safe q t e arguments a turns =
        let s = then_ok (through_judged typing_parameter (record { setting = setting (at []); names = []; with_paths = q.with_paths }) q.parameters) _ t e in
        let s₁ = then_ok (through_judged (typing_definition typed) s.0 q.definitions) _ t s.2 in
        safe_then (Defined s₁.0) (λ (p : List (List (Bytes × Out))). Unit {0}) (blaming Evaluation (start world runs q arguments)) _
        (safe_blaming (Defined s₁.0) Evaluation (start world runs q arguments)
        (safe_then (λ rest. Declared s.0 [] (state_of rest [])) (Defined s₁.0) (bound world q.parameters arguments) _ (bound_safe q.parameters arguments _ s.0 [] [] (nothing_yet q.with_paths) s.1 a)
        (λ names i. definitions_safe q.definitions s.0 s₁.0 (record { tuples = []; state = record { names = names; slots = [] } }) i s₁.1)))
        (λ d i. safe_then (λ (after : Running N). StateIs (at d.tuples) t after.state) (λ (p : List (List (Bytes × Out))). Unit {0}) (run_all (at d.tuples) q.statements (record { state = d.state; turns = turns; printed = [] })) _
        (statement_law N (select_law N) (at d.tuples) (words_at d.tuples) s₁.0 t q.statements s₁.2 (record { state = d.state; turns = turns; printed = [] }) (state_is s₁.0 d.tuples d.state i)) (λ after k. tt))
