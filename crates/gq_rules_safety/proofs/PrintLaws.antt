-- PrintLaws: typed items of PRINT are never stuck.
use Rattle.std.proofs.Common.{◌≡◌, ℕ, zero, suc, Bool, true, false, List, [], ◌∷◌, Option, Some, None, Ok, Err, refl, ap, sym, ◌∙◌, subst}
use Rattle.std.specs.Prelude.{◌&&◌, if◌then◌else◌, slice_get}
use Rattle.std.specs.List.{list_all}
use Rattle.gq_tree.specs.declared.expr.AddSign.{AddSign}
use Rattle.gq_tree.specs.declared.expr.AddSign.TheVariants as sign
use Rattle.gq_tree.specs.Tree.{Tree, Trees, Parts, Factors, Terms, Number, Text, Truth, Global, Name, Call, Post, Neg, Mul, Sum, Cmp, Not, And, Or, no_tree, tree, no_part, part, no_factor, factor, no_term, term}
use Rattle.gq_value.specs.declared.value.Wrong.{Wrong}
use Rattle.gq_value.specs.Accums.{Base, STRING, BOOL, DATETIME, Accum, SumAccum, MinAccum, MaxAccum, OrAccum, AndAccum, BitwiseOrAccum, BitwiseAndAccum, AvgAccum}
use Rattle.gq_rules_typing.specs.Words.{Function, Makes, Abs, ToString, ToDatetime, EpochToDatetime, DatetimeToEpoch, DatetimeDiff, DatetimeAdd, PartOf, function_named, unit_named}
use Rattle.gq_rules_typing.specs.Sorts.{VertexSort}
use Rattle.gq_rules_typing.specs.Statements.{Bytes, Item, Printed, Whole, Selection}
use Rattle.gq_rules_typing.specs.Judging.{Typed, Of, Average, GroupRow, AliasOf, EdgeOf, SetOf, MemberOf, Judged, ◌>>=◌, ◌>>◌, unless, or_fault, each_judged, through_judged, Mismatch, NameTwice, UnknownName}
use Rattle.gq_rules_typing.specs.Judging as judging
use Rattle.gq_rules_typing.specs.Types.{as_base, is_number, is_bool, alone, calculated, added, comparable, printable, number_of_both, vertex_base}
use Rattle.gq_rules_typing.specs.Types as types
use Rattle.gq_rules_typing.specs.Kinds.{read_type}
use Rattle.gq_rules_typing.specs.CallTypes.{function_type, unit_known, has_text}
use Rattle.gq_rules_typing.specs.ExpressionTypes.{Names, typing, typing_all, typing_parts, typing_part, typing_factors, typing_terms, typing_bools, before_dot, operated, both_bool, a_bool, negated, summed}
use Rattle.gq_rules_typing.specs.Scopes.{Entry, Variable, SetVariable, Alias, EdgeAlias, Accumulator, TupleName, InStatement, InSelection, Scope, entry, unknown, name_at, names_at}
use Rattle.gq_rules_typing.specs.SetTypes.{here, set_types, is_set}
use Rattle.gq_rules_typing.specs.StatementTypes.{new_key, typing_whole, typing_item, typing_printed}
use Rattle.gq_rules_meaning.specs.Answers.{Answer, Gives, Faults, Stuck, found, each}
use Rattle.gq_rules_meaning.specs.Answers as answers
use Rattle.gq_rules_meaning.specs.Graphs.{sort_of_vertex}
use Rattle.gq_rules_meaning.specs.Meanings.{Meant, Is, IsAverage, IsContent, IsRow, IsEdge, IsSet, IsMember}
use Rattle.gq_rules_meaning.specs.Expressions.{World, Look, meaning}
use Rattle.gq_rules_meaning.specs.States.{Thing, Slot, State, Member, thing_named, meant, with_new, seen}
use Rattle.gq_rules_meaning.specs.States as states
use Rattle.gq_rules_meaning.specs.Outs.{Out}
use Rattle.gq_rules_meaning.specs.Printing.{out_vertex, out_whole_vertex, out_meant, out_item, out_member, selection, printed}
use Rattle.gq_rules_meaning.specs.Fitting.{Safe, Suits, is_vertex_of, WorldFits, VertexFits}
use Rattle.gq_rules_meaning.specs.StateFits.{ThingFits}
use Rattle.gq_rules_meaning.specs.Laws.{LookFits}
use Rattle.gq_rules_meaning.proofs.AnswerLaws.{safe_then, safe_found, then_ok, after_ok, checked, ok_inj, and_ok}
use Rattle.gq_rules_meaning.proofs.FieldLaws.{target_kind}
use Rattle.gq_rules_meaning.proofs.NeverStuck.{never_stuck}
use Rattle.gq_rules_safety.specs.Matching.{WordsFit, StateIs}
use Rattle.gq_rules_safety.proofs.NameLaws.{under_new}
use Rattle.gq_rules_safety.proofs.LocalLaws.{here_fits}

-- ---- a typed expression isn't an edge, nor a set alone

abbrev pub IsAlone : Typed → Type 0
IsAlone (EdgeOf types) = ⊥
IsAlone (SetOf types) = ⊥
IsAlone (MemberOf types) = ⊥
IsAlone ty = Unit {0}

alone_is : (x ty : Typed) → alone x ≡ Ok ty → IsAlone ty
alone_is (EdgeOf types) ty e = cc
alone_is (SetOf types) ty e = cc
alone_is (MemberOf types) ty e = cc
alone_is (Of b) ty e = subst IsAlone (ok_inj e) tt
alone_is Average ty e = subst IsAlone (ok_inj e) tt
alone_is (judging.Whole k) ty e = subst IsAlone (ok_inj e) tt
alone_is (GroupRow ps) ty e = subst IsAlone (ok_inj e) tt
alone_is (AliasOf types) ty e = subst IsAlone (ok_inj e) tt

read_alone : (k : Accum) → IsAlone (read_type k)
read_alone (SumAccum n) = tt
read_alone (MinAccum n) = tt
read_alone (MaxAccum n) = tt
read_alone OrAccum = tt
read_alone AndAccum = tt
read_alone BitwiseOrAccum = tt
read_alone BitwiseAndAccum = tt
read_alone AvgAccum = tt
read_alone k = tt

checked_alone : (e : _) (t : Bool) (b : Base) (ty : Typed) → (unless e t >> Ok (Of b)) ≡ Ok ty → IsAlone ty
checked_alone e t b ty h = subst IsAlone (ok_inj (checked e t (Ok (Of b)) ty h).1) tt

calculated_alone : (b c : Base) (ty : Typed) → calculated b c ≡ Ok ty → IsAlone ty
calculated_alone b c ty h = checked_alone Mismatch (is_number b && is_number c) (number_of_both b c) ty h

added_alone : (b c : Base) (ty : Typed) → added b c ≡ Ok ty → IsAlone ty
added_alone STRING STRING ty h = subst IsAlone (ok_inj h) tt
added_alone b c ty h = calculated_alone b c ty h

summed_alone : (s : AddSign) (b c : Base) (ty : Typed) → summed s b c ≡ Ok ty → IsAlone ty
summed_alone sign.Plus b c ty h = added_alone b c ty h
summed_alone sign.Minus b c ty h = calculated_alone b c ty h

negated_alone : (n : ℕ) (b : Base) (ty : Typed) → negated n b ≡ Ok ty → IsAlone ty
negated_alone zero b ty h = checked_alone Mismatch (is_number b) b ty h
negated_alone (suc n) b ty h = checked_alone Mismatch (is_number b) _ ty h

unit_alone : {N : Type 0} (ts : Trees N) (ty : Typed) → unit_known ts ≡ Ok ty → IsAlone ty
unit_alone (tree x (tree n (tree (Text u) no_tree))) ty h = subst IsAlone (ok_inj (after_ok (or_fault (UnknownName u) (unit_named u)) (Ok (Of DATETIME)) ty h).1) tt
unit_alone ts ty h = cc

function_alone : {N : Type 0} (f : Function) (ts : Trees N) (bs : List Base) (ty : Typed) → function_type f ts bs ≡ Ok ty → IsAlone ty
function_alone (Makes n fields) ts bs ty h = checked_alone Mismatch (types.convert_all bs fields) _ ty h
function_alone Abs ts (b ∷ []) ty h = checked_alone Mismatch (is_number b) b ty h
function_alone ToString ts (b ∷ []) ty h = checked_alone Mismatch (has_text b) STRING ty h
function_alone ToDatetime ts (STRING ∷ []) ty h = subst IsAlone (ok_inj h) tt
function_alone EpochToDatetime ts (b ∷ []) ty h = checked_alone Mismatch (is_number b) DATETIME ty h
function_alone DatetimeToEpoch ts (DATETIME ∷ []) ty h = subst IsAlone (ok_inj h) tt
function_alone DatetimeDiff ts (DATETIME ∷ DATETIME ∷ []) ty h = subst IsAlone (ok_inj h) tt
function_alone DatetimeAdd ts (DATETIME ∷ b ∷ STRING ∷ []) ty h = unit_alone ts ty (checked Mismatch (is_number b) (unit_known ts) ty h).1
function_alone (PartOf p) ts (DATETIME ∷ []) ty h = subst IsAlone (ok_inj h) tt
function_alone f ts bs ty h = cc

operated_alone : (rule : Base → Base → Judged Typed) (x y ty : Typed) → ((b c : Base) → rule b c ≡ Ok ty → IsAlone ty) → operated rule x y ≡ Ok ty → IsAlone ty
operated_alone rule x y ty f h = let b = then_ok (as_base x) _ ty h in let c = then_ok (as_base y) (rule b.0) ty b.2 in f b.0 c.0 c.2

bool_alone : (b : Base) (ty : Typed) → a_bool b ≡ Ok ty → IsAlone ty
bool_alone b ty h = checked_alone Mismatch (is_bool b) BOOL ty h

module _ {N : Type 0} (names : Names N) where
  bools_alone : (ts : Trees N) (x ty : Typed) → typing_bools names x ts ≡ Ok ty → IsAlone ty
  bools_alone no_tree x ty h = let b = then_ok (as_base x) a_bool ty h in bool_alone b.0 ty b.2
  bools_alone (tree t ts) x ty h = let y = then_ok (typing names t >>= operated both_bool x) _ ty h in bools_alone ts y.0 ty y.2

  parts_alone : (ps : Parts N) (x ty : Typed) → typing_parts names x ps ≡ Ok ty → IsAlone ty
  parts_alone no_part x ty h = alone_is x ty h
  parts_alone (part p ps) x ty h = let y = then_ok (typing_part names x p) _ ty h in parts_alone ps y.0 ty y.2

  factors_alone : (fs : Factors N) (x ty : Typed) → IsAlone x → typing_factors names x fs ≡ Ok ty → IsAlone ty
  factors_alone no_factor x ty a h = subst IsAlone (ok_inj h) a
  factors_alone (factor s t rest) x ty a h =
      let y = then_ok (typing names t >>= operated calculated x) _ ty h in let z = then_ok (typing names t) (operated calculated x) y.0 y.1 in
      factors_alone rest y.0 ty (operated_alone calculated x z.0 y.0 (λ b c. calculated_alone b c y.0) z.2) y.2

  terms_alone : (ts : Terms N) (x ty : Typed) → IsAlone x → typing_terms names x ts ≡ Ok ty → IsAlone ty
  terms_alone no_term x ty a h = subst IsAlone (ok_inj h) a
  terms_alone (term s t rest) x ty a h =
      let y = then_ok (typing names t >>= operated (summed s) x) _ ty h in let z = then_ok (typing names t) (operated (summed s) x) y.0 y.1 in
      terms_alone rest y.0 ty (operated_alone (summed s) x z.0 y.0 (λ b c. summed_alone s b c y.0) z.2) y.2

  pub typed_alone : (t : Tree N) (ty : Typed) → typing names t ≡ Ok ty → IsAlone ty
  typed_alone (Number n) ty h = subst IsAlone (ok_inj h) tt
  typed_alone (Text s) ty h = subst IsAlone (ok_inj h) tt
  typed_alone (Truth b) ty h = subst IsAlone (ok_inj h) tt
  typed_alone (Global a) ty h = let k = then_ok (names.global a) _ ty h in subst IsAlone (ok_inj k.2) (read_alone k.0)
  typed_alone (Name x) ty h = let y = then_ok (names.named x) alone ty h in alone_is y.0 ty y.2
  typed_alone (Call f ts) ty h =
      let xs = then_ok (typing_all names ts) _ ty h in let g = then_ok (or_fault (UnknownName (names.setting.words.said f)) (function_named names.setting f)) _ ty xs.2 in
      let bs = then_ok (each_judged as_base xs.0) (function_type g.0 ts) ty g.2 in function_alone g.0 ts bs.0 ty bs.2
  typed_alone (Post t ps) ty h = let x = then_ok (before_dot names t (typing names t)) _ ty h in parts_alone ps x.0 ty x.2
  typed_alone (Neg n t) ty h = let b = then_ok (typing names t >>= as_base) (negated n) ty h in negated_alone n b.0 ty b.2
  typed_alone (Mul t fs) ty h = let x = then_ok (typing names t) _ ty h in factors_alone fs x.0 ty (typed_alone t x.0 x.1) x.2
  typed_alone (Sum t ts) ty h = let x = then_ok (typing names t) _ ty h in terms_alone ts x.0 ty (typed_alone t x.0 x.1) x.2
  typed_alone (Cmp s c t) ty h = let x = then_ok (typing names s) _ ty h in let y = then_ok (typing names t) _ ty x.2 in checked_alone Mismatch (comparable c x.0 y.0) BOOL ty y.2
  typed_alone (Not n t) ty h = let b = then_ok (typing names t >>= as_base) a_bool ty h in bool_alone b.0 ty b.2
  typed_alone (And t ts) ty h = let x = then_ok (typing names t) _ ty h in bools_alone ts x.0 ty x.2
  typed_alone (Or t ts) ty h = let x = then_ok (typing names t) _ ty h in bools_alone ts x.0 ty x.2

-- a printed expression isn't a row either
abbrev pub IsPrintable : Typed → Type 0
IsPrintable (GroupRow ps) = ⊥
IsPrintable (EdgeOf types) = ⊥
IsPrintable (MemberOf types) = ⊥
IsPrintable ty = Unit {0}

pub printable_is : (x ty : Typed) → printable x ≡ Ok ty → IsAlone x → IsPrintable x
printable_is (GroupRow ps) ty e a = cc
printable_is (EdgeOf types) ty e a = absurd a
printable_is (MemberOf types) ty e a = absurd a
printable_is (SetOf types) ty e a = tt
printable_is (Of b) ty e a = tt
printable_is Average ty e a = tt
printable_is (judging.Whole k) ty e a = tt
printable_is (AliasOf types) ty e a = tt

module _ {N : Type 0} (world : World N) where
  abbrev Done : {A : Type 0} → A → Type 0
  Done a = Unit {0}

  -- ---- vertices

  pub sort_safe : {A : Type 0} (P : A → Type 0) (v t : ℕ) (f : _ → Answer Wrong A) → slice_get world.graph.sight.kinds v ≡ Some t → (fits : VertexFits world v t) → Safe P (f fits.sort) → Safe P (answers.◌>>=◌ (found (sort_of_vertex world.graph v)) f)
  sort_safe P v t f k fits h = safe_found P (sort_of_vertex world.graph v) fits.sort f (ap of_kind k ∙ fits.is_sort) h
    where
      of_kind : Option ℕ → Option VertexSort
      of_kind None = None
      of_kind (Some t) = slice_get world.graph.sorts.vertices t

  vertex_safe : WorldFits world → (types : List ℕ) (v : ℕ) (ms : List (Bytes × Out)) → is_vertex_of world.graph types v ≡ true → Safe {F = Wrong} (λ (o : Out). Unit {0}) (out_vertex world v ms)
  vertex_safe w types v ms h = let k = target_kind world.graph.sight.kinds types v (and_ok _ _ h).0 in sort_safe (λ (o : Out). Unit {0}) v k.0 _ k.1 (w.vertices v k.0 k.1) tt

  whole_safe : WorldFits world → (slots : List (Slot N)) (types : List ℕ) (v : ℕ) → is_vertex_of world.graph types v ≡ true → Safe {F = Wrong} (λ (o : Out). Unit {0}) (out_whole_vertex world slots v)
  whole_safe w slots types v h =
      let k = target_kind world.graph.sight.kinds types v (and_ok _ _ h).0 in let fits = w.vertices v k.0 k.1 in
      sort_safe (λ (o : Out). Unit {0}) v k.0 _ k.1 fits (safe_found (λ (o : Out). Unit {0}) (slice_get world.graph.vertex_values v) fits.values _ fits.are_values (vertex_safe w types v _ h))

  wholes_safe : WorldFits world → (slots : List (Slot N)) (types vs : List ℕ) → list_all (is_vertex_of world.graph types) vs ≡ true → Safe {F = Wrong} (λ (os : List Out). Unit {0}) (each (out_whole_vertex world slots) vs)
  wholes_safe w slots types [] h = tt
  wholes_safe w slots types (v ∷ vs) h =
      let u = and_ok (is_vertex_of world.graph types v) _ h in
      safe_then (λ (o : Out). Unit {0}) (λ (os : List Out). Unit {0}) (out_whole_vertex world slots v) _ (whole_safe w slots types v u.0)
      (λ o k. safe_then (λ (os : List Out). Unit {0}) (λ (os : List Out). Unit {0}) (each (out_whole_vertex world slots) vs) _ (wholes_safe w slots types vs u.1) (λ os k. tt))

  -- ---- items

  pub meant_safe : WorldFits world → (slots : List (Slot N)) (ty : Typed) (m : Meant) → IsPrintable ty → Suits world ty m → Safe (λ (o : Out). Unit {0}) (out_meant world slots m)
  meant_safe w slots ty (Is b v) p h = tt
  meant_safe w slots ty (IsAverage v) p h = tt
  meant_safe w slots ty (IsContent k c) p h = tt
  meant_safe w slots (SetOf types) (IsSet vs) p h = safe_then (λ (os : List Out). Unit {0}) (λ (o : Out). Unit {0}) (each (out_whole_vertex world slots) vs) _ (wholes_safe w slots types vs h) (λ os k. tt)
  meant_safe w slots (GroupRow ps) (IsRow qs cs) p h = absurd p
  meant_safe w slots (EdgeOf types) (IsEdge r t) p h = absurd p
  meant_safe w slots (MemberOf types) (IsMember vs c v) p h = absurd p
  meant_safe w slots ty m p h = absurd h

  pub item_safe : WorldFits world → (slots : List (Slot N)) (key : Bytes) (ty : Typed) (o : Answer Wrong Meant) → IsPrintable ty → Safe (Suits world ty) o → Safe (λ (m : Bytes × Out). Unit {0}) (answers.◌>>=◌ (answers.◌>>=◌ o (out_meant world slots)) (λ p. Gives (key, p)))
  item_safe w slots key ty o p h = safe_then (λ (o : Out). Unit {0}) (λ (m : Bytes × Out). Unit {0}) (answers.◌>>=◌ o (out_meant world slots)) _ (safe_then (Suits world ty) (λ (o : Out). Unit {0}) o (out_meant world slots) h (λ m k. meant_safe w slots ty m p k)) (λ q k. tt)

module _ {N : Type 0} (world : World N) (words : WordsFit world) where
  -- ---- the context of an item of `S[..]`

  member_named : (s : Scope N) (state : State N) (x : N) (types vs : List ℕ) (v : ℕ) → StateIs world s state → entry s x ≡ Some (SetVariable types) → is_vertex_of world.graph types v ≡ true
      → (y : N) (ty : Typed) → name_at s (InSelection x) y (entry s y) ≡ Ok ty → Safe {F = Wrong} (Suits world ty) (answers.◌>>=◌ (found (thing_named world ((x, Member types vs v) ∷ state.names) y)) (λ thing. Gives (meant thing)))
  member_named s state x types vs v h e k y ty r = go (world.words.same x y) refl
    where
      same : s.setting.words.same x y ≡ world.words.same x y
      same = ap (λ z. z.words.same x y) h.fits.setting

      -- elsewhere a selection is as a statement
      elsewhere : s.setting.words.same x y ≡ false → (o : Option Entry) → name_at s (InSelection x) y o ≡ name_at s InStatement y o
      elsewhere f (Some (Variable b)) = refl
      elsewhere f (Some (SetVariable ts)) = ap (λ b. Ok (if b then MemberOf ts else SetOf ts)) f
      elsewhere f (Some (Alias ts)) = refl
      elsewhere f (Some (EdgeAlias ts)) = refl
      elsewhere f (Some (Accumulator j attached)) = refl
      elsewhere f (Some TupleName) = refl
      elsewhere f None = refl

      go : (q : Bool) → world.words.same x y ≡ q → Safe {F = Wrong} (Suits world ty) (answers.◌>>=◌ (found (thing_named world ((x, Member types vs v) ∷ state.names) y)) (λ thing. Gives (meant thing)))
      go true f =
          let u = words.same x y f in
          let d : entry s y ≡ Some (SetVariable types) = subst (λ z. entry s z ≡ Some (SetVariable types)) u e in
          let t : MemberOf types ≡ ty = ok_inj (sym (ap (λ o. name_at s (InSelection x) y o) d ∙ ap (λ b. Ok (if b then MemberOf types else SetOf types)) (same ∙ f)) ∙ r) in
          subst (λ ty. Safe {F = Wrong} (Suits world ty) (answers.◌>>=◌ (found (thing_named world ((x, Member types vs v) ∷ state.names) y)) (λ thing. Gives (meant thing)))) t
          (subst (λ o. Safe {F = Wrong} (Suits world (MemberOf types)) (answers.◌>>=◌ (found o) (λ thing. Gives (meant thing)))) (sym (under_new world words x y (Member types vs v) state.names true f)) (refl, k))
      go false f =
          subst (λ o. Safe {F = Wrong} (Suits world ty) (answers.◌>>=◌ (found o) (λ thing. Gives (meant thing)))) (sym (under_new world words x y (Member types vs v) state.names false f))
          ((here_fits world words s state h).named y ty (sym (elsewhere (same ∙ f) (entry s y)) ∙ r))

  member_fits : (s : Scope N) (state : State N) (x : N) (types vs : List ℕ) (v : ℕ) → StateIs world s state → entry s x ≡ Some (SetVariable types) → is_vertex_of world.graph types v ≡ true → LookFits (names_at s (InSelection x)) (seen world (with_new x (Member types vs v) state))
  member_fits s state x types vs v h e k = record {
    world = h.fits.store;
    setting = h.fits.setting;
    field = refl;
    named = member_named s state x types vs v h e k;
    global = λ a j r. f.global a j r;
    attached = λ a j u r o. f.attached a j u r o;
    before = λ a j u r o. f.before a j u r o;
  }
    where
      f : LookFits (here s) (seen world state)
      f = here_fits world words s state h

  items_safe : (s : Scope N) (x : N) (look : Look N) (slots : List (Slot N)) → look.world ≡ world → WorldFits world → ((t : Tree N) (ty : Typed) → typing (names_at s (InSelection x)) t ≡ Ok ty → Safe (Suits world ty) (meaning look t))
      → (items : List (Item N)) (known keys : List Bytes) → through_judged (typing_item (names_at s (InSelection x))) known items ≡ Ok keys → Safe (λ (ms : List (Bytes × Out)). Unit {0}) (each (out_item world look slots) items)
  items_safe s x look slots l w f [] known keys e = tt
  items_safe s x look slots l w f (i ∷ items) known keys e =
      let u = then_ok (typing_item (names_at s (InSelection x)) known i) _ keys e in
      let v = after_ok (typing (names_at s (InSelection x)) i.tree >>= printable) (new_key known i.key) u.0 u.1 in
      let ty = then_ok (typing (names_at s (InSelection x)) i.tree) printable v.0.0 v.0.1 in
      let p = printable_is ty.0 v.0.0 ty.2 (typed_alone (names_at s (InSelection x)) i.tree ty.0 ty.1) in
      safe_then (λ (m : Bytes × Out). Unit {0}) (λ (ms : List (Bytes × Out)). Unit {0}) (out_item world look slots i) _
      (item_safe world w slots i.key ty.0 (meaning look i.tree) p (f i.tree ty.0 ty.1))
      (λ m k. safe_then (λ (ms : List (Bytes × Out)). Unit {0}) (λ (ms : List (Bytes × Out)). Unit {0}) (each (out_item world look slots) items) _ (items_safe s x look slots l w f items u.0 keys u.2) (λ ms k. tt))

  members_safe : (s : Scope N) (state : State N) (x : N) (types all : List ℕ) (items : List (Item N)) (keys : List Bytes) → StateIs world s state → entry s x ≡ Some (SetVariable types) → through_judged (typing_item (names_at s (InSelection x))) [] items ≡ Ok keys
      → (vs : List ℕ) → list_all (is_vertex_of world.graph types) vs ≡ true → Safe (λ (os : List Out). Unit {0}) (each (out_member world state x types items all) vs)
  members_safe s state x types all items keys h e r [] k = tt
  members_safe s state x types all items keys h e r (v ∷ vs) k =
      let u = and_ok (is_vertex_of world.graph types v) _ k in
      let look = seen world (with_new x (Member types all v) state) in
      let fits = member_fits s state x types all v h e u.0 in
      safe_then (λ (o : Out). Unit {0}) (λ (os : List Out). Unit {0}) (out_member world state x types items all v) _
      (safe_then (λ (ms : List (Bytes × Out)). Unit {0}) (λ (o : Out). Unit {0}) (each (out_item world look state.slots) items) _
      (items_safe s x look state.slots refl h.fits.store (λ t ty q. never_stuck (names_at s (InSelection x)) look fits t ty q) items [] keys r) (λ ms k. vertex_safe world h.fits.store types v ms u.0))
      (λ o k. safe_then (λ (os : List Out). Unit {0}) (λ (os : List Out). Unit {0}) (each (out_member world state x types items all) vs) _ (members_safe s state x types all items keys h e r vs u.1) (λ os k. tt))

  -- a visible set variable
  pub set_entry : (s : Scope N) (x : N) (types : List ℕ) → set_types s x ≡ Ok types → entry s x ≡ Some (SetVariable types)
  set_entry s x types e = go (entry s x) refl e
    where
      of_entry : Option Entry → Judged (List ℕ)
      of_entry (Some (SetVariable types)) = Ok types
      of_entry (Some TupleName) = Err (unknown s x)
      of_entry None = Err (unknown s x)
      of_entry (Some e) = Err Mismatch

      go : (o : Option Entry) → entry s x ≡ o → of_entry o ≡ Ok types → entry s x ≡ Some (SetVariable types)
      go (Some (SetVariable ts)) d h = let u : ts ≡ types = ok_inj h in d ∙ ap (λ ts. Some (SetVariable ts)) u
      go (Some TupleName) d h = cc
      go None d h = cc
      go (Some (Variable b)) d h = cc
      go (Some (Alias ts)) d h = cc
      go (Some (EdgeAlias ts)) d h = cc
      go (Some (Accumulator k attached)) d h = cc

  selection_safe : (s : Scope N) (state : State N) (x : N) (types : List ℕ) (items : List (Item N)) (keys : List Bytes) → StateIs world s state → entry s x ≡ Some (SetVariable types) → through_judged (typing_item (names_at s (InSelection x))) [] items ≡ Ok keys
      → (o : Option Thing) → ThingFits world (SetVariable types) o → Safe (λ (o : Out). Unit {0}) (answers.◌>>=◌ (found o) (selection world state x items))
  selection_safe s state x types items keys h e r (Some (states.SetOf ts vs)) f =
      subst (λ ts. Safe (λ (o : Out). Unit {0}) (selection world state x items (states.SetOf ts vs))) (sym f.0)
      (safe_then (λ (os : List Out). Unit {0}) (λ (o : Out). Unit {0}) (each (out_member world state x types items vs) vs) _ (members_safe s state x types vs items keys h e r vs f.1) (λ os k. tt))
  selection_safe s state x types items keys h e r (Some (states.Variable c v)) f = absurd f
  selection_safe s state x types items keys h e r (Some (states.EdgeRow p t)) f = absurd f
  selection_safe s state x types items keys h e r (Some (Member ts vs v)) f = absurd f
  selection_safe s state x types items keys h e r None f = absurd f

  -- ---- whole items

  out_of : (s : Scope N) (state : State N) (i : Item N) (ty : Typed) → StateIs world s state → Safe (Suits world ty) (meaning (seen world state) i.tree) → IsPrintable ty → Safe (λ (m : Bytes × Out). Unit {0}) (printed world state (Whole i))
  out_of s state i ty h k p = item_safe world h.fits.store state.slots i.key ty (meaning (seen world state) i.tree) p k

  typed_out : (s : Scope N) (state : State N) (i : Item N) (x ty : Typed) → StateIs world s state → typing (here s) i.tree ≡ Ok x → printable x ≡ Ok ty → Safe (λ (m : Bytes × Out). Unit {0}) (printed world state (Whole i))
  typed_out s state i x ty h e p =
      out_of s state i x h (never_stuck (here s) (seen world state) (here_fits world words s state h) i.tree x e) (printable_is x ty p (typed_alone (here s) i.tree x e))

  -- a name is printed as its value, also a set
  name_out : (s : Scope N) (state : State N) (x : N) (key : Bytes) (ty : Typed) → StateIs world s state → typing_whole s (Name x) ≡ Ok ty → Safe (λ (m : Bytes × Out). Unit {0}) (printed world state (Whole (record { tree = Name x; key = key })))
  name_out s state x key ty h e = go (entry s x) refl e
    where
      fits : LookFits (here s) (seen world state)
      fits = here_fits world words s state h

      typed : (y : Typed) → name_at s InStatement x (entry s x) ≡ Ok y → IsPrintable y → Safe (λ (m : Bytes × Out). Unit {0}) (printed world state (Whole (record { tree = Name x; key = key })))
      typed y r p = out_of s state (record { tree = Name x; key = key }) y h (fits.named x y r) p

      go : (o : Option Entry) → entry s x ≡ o → (if is_set o then Ok (SetOf []) else (name_at s InStatement x o >>= alone)) ≡ Ok ty → Safe (λ (m : Bytes × Out). Unit {0}) (printed world state (Whole (record { tree = Name x; key = key })))
      go (Some (SetVariable ts)) d r = typed (SetOf ts) (ap (name_at s InStatement x) d) tt
      go (Some (Variable b)) d r = typed (Of b) (ap (name_at s InStatement x) d) tt
      go (Some (Alias ts)) d r = typed (AliasOf ts) (ap (name_at s InStatement x) d) tt
      go (Some (EdgeAlias ts)) d r = cc
      go (Some (Accumulator k attached)) d r = cc
      go (Some TupleName) d r = cc
      go None d r = cc

  whole_out : (s : Scope N) (state : State N) (t : Tree N) (key : Bytes) (ty : Typed) → StateIs world s state → typing_whole s t ≡ Ok ty → Safe (λ (m : Bytes × Out). Unit {0}) (printed world state (Whole (record { tree = t; key = key })))
  whole_out s state (Name x) key ty h e = name_out s state x key ty h e
  whole_out s state t key ty h e = let u = then_ok (typing (here s) t) printable ty e in typed_out s state (record { tree = t; key = key }) u.0 ty h u.1 u.2

  pub print_safe : (s : Scope N) (state : State N) (known keys : List Bytes) (p : Printed N) → StateIs world s state → typing_printed s known p ≡ Ok keys → Safe (λ (m : Bytes × Out). Unit {0}) (printed world state p)
  print_safe s state known keys (Whole i) h e = let u = after_ok (typing_whole s i.tree) (new_key known i.key) keys e in whole_out s state i.tree i.key u.0.0 h u.0.1
  print_safe s state known keys (Selection x items key) h e =
      let u = after_ok (set_types s x >> through_judged (typing_item (names_at s (InSelection x))) [] items) (new_key known key) keys e in
      let v = after_ok (set_types s x) (through_judged (typing_item (names_at s (InSelection x))) [] items) u.0.0 u.0.1 in
      let d = set_entry s x v.0.0 v.0.1 in
      let g : ThingFits world (SetVariable v.0.0) (thing_named world state.names x) = h.fits.named x (SetVariable v.0.0) d in
      go (answers.◌>>=◌ (found (thing_named world state.names x)) (selection world state x items)) (selection_safe s state x v.0.0 items u.0.0 h d v.1 (thing_named world state.names x) g)
    where
      go : (o : Answer Wrong Out) → Safe (λ (o : Out). Unit {0}) o → Safe (λ (m : Bytes × Out). Unit {0}) (answers.◌>>=◌ o (λ o. Gives (key, o)))
      go (Gives o) h = tt
      go (Faults e) h = tt
      go Stuck h = h
