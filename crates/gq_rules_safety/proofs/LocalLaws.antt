-- LocalLaws: locals, changes of global accumulators, and the values of FOREACH.
use Rattle.std.proofs.Common.{◌≡◌, ℕ, zero, suc, Bool, true, false, List, [], ◌∷◌, Option, Some, None, Ok, refl, ap, sym, ◌∙◌, subst}
use Rattle.std.specs.Prelude.{not, is_some, ℤ, pos, ◌+ℤ◌, ◌-ℤ◌, int_le, nat_abs}
use Rattle.std.specs.List.{list_all}
use Rattle.gq_tree.specs.Tree.{Tree}
use Rattle.gq_value.specs.declared.value.Wrong.{Wrong}
use Rattle.gq_value.specs.declared.kind.Number as numbers
use Rattle.gq_value.specs.declared.kind.Number.TheVariants as number
use Rattle.gq_value.specs.Val.{Val}
use Rattle.gq_value.specs.Typed.{number_type}
use Rattle.gq_value.specs.Arithmetic.{in_type, as_type, type_of_both}
use Rattle.gq_value.specs.Accums.{Base, INT, UINT, BOOL, STRING, DATETIME, VERTEX, VERTEX_OF, TUPLE, Accum, SetAccum, BagAccum, ListAccum, HeapAccum}
use Rattle.gq_accum_laws.specs.Holds.{Holds}
use Rattle.gq_rules_typing.specs.Statements.{BaseTree, Ints, UInts, Bools, Strings, AnyVertex, VertexOf, Over, Elements, Range}
use Rattle.gq_rules_typing.specs.Judging.{Typed, Whole, ◌>>◌, unless, or_fault, through_judged, NotAllowedHere, NameTwice, Mismatch}
use Rattle.gq_rules_typing.specs.Types.{is_number, number_of_both}
use Rattle.gq_rules_typing.specs.Kinds.{element_type}
use Rattle.gq_rules_typing.specs.ExpressionTypes.{typing, converting, number}
use Rattle.gq_rules_typing.specs.Scopes.{Entry, Scope, entry, unknown, said, with_entry, new_name, declared_kind, base_written, InStatement, names_at}
use Rattle.gq_rules_typing.specs.Scopes as scopes
use Rattle.gq_rules_typing.specs.SelectTypes.{optional}
use Rattle.gq_rules_typing.specs.SetTypes.{here}
use Rattle.gq_rules_typing.specs.StatementTypes.{may_lack_value, typing_local, element_of, variable_type}
use Rattle.gq_rules_meaning.specs.Answers.{Answer, Gives, Faults, Stuck, found, of_result, through}
use Rattle.gq_rules_meaning.specs.Answers as answers
use Rattle.gq_rules_meaning.specs.Meanings.{Meant, IsContent, as_number}
use Rattle.gq_rules_meaning.specs.Expressions.{World, setting}
use Rattle.gq_rules_meaning.specs.States.{Variable, State, seen}
use Rattle.gq_rules_meaning.specs.Statements.{base_of_tree, default_of, local_value, with_local, with_base, elements_of, numbers_from, numbers_between, end_of, between, gone_over}
use Rattle.gq_rules_meaning.specs.Fitting.{Safe, Suits, is_value, HoldsValues}
use Rattle.gq_rules_meaning.specs.StateFits.{AllOf}
use Rattle.gq_rules_meaning.specs.Laws.{LookFits}
use Rattle.gq_rules_meaning.proofs.AnswerLaws.{safe_then, safe_with, then_ok, after_ok, checked, unless_ok, or_fault_ok, ok_inj, some_inj, and_ok, both_ok}
use Rattle.gq_rules_meaning.proofs.ValueLaws.{IsValue, number_safe, both_type, in_type_safe}
use Rattle.gq_rules_meaning.proofs.NeverStuck.{never_stuck}
use Rattle.gq_rules_meaning.proofs.LookLaws.{look_fits}
use Rattle.gq_rules_meaning.proofs.InputLaws.{value_as_safe}
use Rattle.gq_rules_safety.specs.Matching.{WordsFit, StateIs}
use Rattle.gq_rules_safety.proofs.NameLaws.{Grows, grows_same, grows_then, grows_new, Behind, behind_same, behind_then, new_behind}
use Rattle.gq_rules_safety.proofs.ValueLaws.{number_value, number_known}

-- a new name isn't visible
pub new_none : {N : Type 0} (s : Scope N) (x : N) (q : Bool) → new_name s x ≡ Ok q → entry s x ≡ None
new_none s x q e = go (entry s x) refl (unless_ok (NameTwice (said s x)) (not (is_some (entry s x))) q e)
  where
    go : (o : Option Entry) → entry s x ≡ o → not (is_some o) ≡ true → entry s x ≡ None
    go None d h = d
    go (Some e) d h = cc

-- ---- types as written

-- a type that a local may have
abbrev pub IsWritten : Base → Type 0
IsWritten DATETIME = ⊥
IsWritten (TUPLE n bs) = ⊥
IsWritten b = Unit {0}

module _ {N : Type 0} (world : World N) where
  pub written_base : (s : Scope N) (base : BaseTree N) (b : Base) → s.setting ≡ setting world → base_written s base ≡ Ok b → (base_of_tree world base ≡ Gives b) × IsWritten b
  written_base s Ints b h e = let u = ok_inj e in (ap Gives u, subst IsWritten u tt)
  written_base s UInts b h e = let u = ok_inj e in (ap Gives u, subst IsWritten u tt)
  written_base s Bools b h e = let u = ok_inj e in (ap Gives u, subst IsWritten u tt)
  written_base s Strings b h e = let u = ok_inj e in (ap Gives u, subst IsWritten u tt)
  written_base s AnyVertex b h e = let u = ok_inj e in (ap Gives u, subst IsWritten u tt)
  written_base s (VertexOf t) b h e =
      let n = then_ok (or_fault (unknown s t) (s.setting.words.vertex_type t)) _ b e in let k = or_fault_ok (unknown s t) (s.setting.words.vertex_type t) n.0 n.1 in let u = ok_inj n.2 in
      let w : world.words.vertex_type t ≡ Some n.0 = subst (λ z. z.words.vertex_type t ≡ Some n.0) h k in
      (ap (λ o. answers.◌>>=◌ (found o) (λ n. Gives (VERTEX_OF n))) w ∙ ap Gives u, subst IsWritten u tt)

  default_safe : (b : Base) → IsWritten b → may_lack_value b false ≡ true → Safe (IsValue world b) (default_of b)
  default_safe INT w h = refl
  default_safe UINT w h = refl
  default_safe BOOL w h = refl
  default_safe STRING w h = refl
  default_safe DATETIME w h = absurd w
  default_safe VERTEX w h = cc
  default_safe (VERTEX_OF t) w h = cc
  default_safe (TUPLE n bs) w h = absurd w

module _ {N : Type 0} (world : World N) (words : WordsFit world) where
  pub here_fits : (s : Scope N) (state : State N) → StateIs world s state → LookFits (here s) (seen world state)
  here_fits s state h = look_fits world s InStatement state.names state.slots state.slots refl h.fits h.fits

  -- ---- locals

  abbrev pub Goes : Scope N → Scope N → State N → Answer Wrong (State N) → Type 0
  Goes s t state o = Grows s t × Safe (Behind world words s t state) o

  local_is : (s : Scope N) (state : State N) (b : Base) (x : Option (Tree N)) (q : Bool) → StateIs world s state → IsWritten b → may_lack_value b (is_some x) ≡ true → optional (converting (here s) b) x ≡ Ok q → Safe (IsValue world b) (local_value (seen world state) b x)
  local_is s state b None q h w m e = default_safe world b w m
  local_is s state b (Some t) q h w m e = let u = after_ok (converting (here s) b t) (Ok true) q e in value_as_safe (here s) (seen world state) (here_fits s state h) b t u.0.0 u.0.1

  local_safe : (b : Base) → IsWritten b → (s t : Scope N) (state : State N) (x : N × Option (Tree N)) → StateIs world s state → typing_local b s x ≡ Ok t → Goes s t state (with_local world b state x)
  local_safe b w s t state x h e =
      let u = after_ok (unless NotAllowedHere (may_lack_value b (is_some x.1)) >> new_name s x.0 >> optional (converting (here s) b) x.1) _ t e in
      let v = after_ok (unless NotAllowedHere (may_lack_value b (is_some x.1)) >> new_name s x.0) (optional (converting (here s) b) x.1) u.0.0 u.0.1 in
      let m = checked NotAllowedHere (may_lack_value b (is_some x.1)) (new_name s x.0) v.0.0 v.0.1 in
      let k = new_none s x.0 v.0.0 m.1 in
      subst (λ t. Goes s t state (with_local world b state x)) (ok_inj u.1) (
        grows_new world words s x.0 (scopes.Variable b) (ap (λ z. z.words.same) h.fits.setting) k,
        safe_then (IsValue world b) (Behind world words s (with_entry x.0 (scopes.Variable b) s) state) (local_value (seen world state) b x.1) _ (local_is s state b x.1 u.0.0 h w m.0 v.1)
            (λ z f. new_behind world words s state x.0 (scopes.Variable b) (Variable b z) h k refl (refl, f)),
      )

  behind_safe : {F : Type 0} (s t u : Scope N) (a b : State N) (o : Answer F (State N)) → Grows s t → Behind world words s t a b → Safe (Behind world words t u b) o → Safe (Behind world words s u a) o
  behind_safe s t u a b o g h k = safe_with (Behind world words t u b) (Behind world words s u a) o k (λ c l. behind_then world words s t u a b c g h l)

  pub locals_safe : (b : Base) → IsWritten b → (xs : List (N × Option (Tree N))) (s t : Scope N) (state : State N) → s.setting ≡ setting world → through_judged (typing_local b) s xs ≡ Ok t → (StateIs world s state → Safe (Behind world words s t state) (through (with_local world b) state xs))
  locals_safe b w [] s t state z e h = subst (λ t. Behind world words s t state state) (ok_inj e) (behind_same world words s state h)
  locals_safe b w (x ∷ xs) s t state z e h =
      let u = then_ok (typing_local b s x) _ t e in let l = local_safe b w s u.0 state x h u.1 in
      safe_then (Behind world words s u.0 state) (Behind world words s t state) (with_local world b state x) _ l.1
      (λ c k. behind_safe s u.0 t state c (through (with_local world b) c xs) l.0 k (locals_safe b w xs u.0 t c (k.is.fits.setting) u.2 k.is))

  pub locals_grow : (b : Base) (xs : List (N × Option (Tree N))) (s t : Scope N) → s.setting ≡ setting world → through_judged (typing_local b) s xs ≡ Ok t → Grows s t
  locals_grow b [] s t z e = subst (Grows s) (ok_inj e) (grows_same s)
  locals_grow b (x ∷ xs) s t z e =
      let w = then_ok (typing_local b s x) _ t e in
      let u = after_ok (unless NotAllowedHere (may_lack_value b (is_some x.1)) >> new_name s x.0 >> optional (converting (here s) b) x.1) _ w.0 w.1 in
      let v = after_ok (unless NotAllowedHere (may_lack_value b (is_some x.1)) >> new_name s x.0) (optional (converting (here s) b) x.1) u.0.0 u.0.1 in
      let m = checked NotAllowedHere (may_lack_value b (is_some x.1)) (new_name s x.0) v.0.0 v.0.1 in
      let g = subst (Grows s) (ok_inj u.1) (grows_new world words s x.0 (scopes.Variable b) (ap (λ z. z.words.same) z) (new_none s x.0 v.0.0 m.1)) in
      grows_then s w.0 t g (locals_grow b xs w.0 t (g.setting ∙ z) w.2)

  -- ---- FOREACH

  abbrev pub IsOf : Base → Base × Val → Type 0
  IsOf b v = (v.0 ≡ b) × (is_value world b v.1 ≡ true)

  based : (b : Base) (vs : List Val) → list_all (is_value world b) vs ≡ true → AllOf (IsOf b) (with_base b vs)
  based b [] h = tt
  based b (v ∷ vs) h = let w = and_ok (is_value world b v) _ h in ((refl, w.0), based b vs w.1)

  elements_safe : (k : Accum) (c : Holds k) (b : Base) → element_type k ≡ Some b → HoldsValues world k c → Safe (AllOf (IsOf b)) (elements_of (IsContent k c))
  elements_safe (SetAccum d) c b e h = subst (λ b. AllOf (IsOf b) (with_base d c)) (some_inj e) (based d c h)
  elements_safe (BagAccum d) c b e h = subst (λ b. AllOf (IsOf b) (with_base d c)) (some_inj e) (based d c h)
  elements_safe (ListAccum d) c b e h = subst (λ b. AllOf (IsOf b) (with_base d c)) (some_inj e) (based d c h)
  elements_safe (HeapAccum d n by) c b e h = subst (λ b. AllOf (IsOf b) (with_base d c)) (some_inj e) (based d c h)
  elements_safe k c b e h = cc

  elements_meant : (x : Typed) (m : Meant) (b : Base) → element_of x ≡ Ok b → Suits world x m → Safe (AllOf (IsOf b)) (elements_of m)
  elements_meant (Whole k) (IsContent j c) b e h = elements_safe j c b (subst (λ k. element_type k ≡ Some b) (sym h.0) (or_fault_ok Mismatch (element_type k) b e)) h.2
  elements_meant (Whole k) m b e h = absurd h
  elements_meant x m b e h = cc

  typed_number : (n : numbers.Number) (x : ℤ) → is_value world (number_type n) (as_type n x) ≡ true
  typed_number number.Int x = refl
  typed_number number.UInt x = refl

  numbers_are : (n : numbers.Number) (k : ℕ) (x : ℤ) → list_all (is_value world (number_type n)) (numbers_from n k x) ≡ true
  numbers_are n zero x = refl
  numbers_are n (suc k) x = both_ok (is_value world (number_type n) (as_type n x)) (list_all (is_value world (number_type n)) (numbers_from n k (x +ℤ pos 1))) (typed_number n x) (numbers_are n k (x +ℤ pos 1))

  between_are : (n : numbers.Number) (x y : ℤ) → list_all (is_value world (number_type n)) (numbers_between n x y) ≡ true
  between_are n x y = go (int_le x y)
    where
      go : (t : Bool) → list_all (is_value world (number_type n)) (elim t [ true ↦ numbers_from n (suc (nat_abs (y -ℤ x))) x | false ↦ [] ]) ≡ true
      go true = numbers_are n (suc (nat_abs (y -ℤ x))) x
      go false = refl

  end_safe : (n : numbers.Number) (b : Base) (v : Val) → is_number b ≡ true → IsValue world b v → Safe (λ (x : ℤ). Unit {0}) (end_of n v)
  end_safe n b v k h =
      safe_then _ _ (as_number v) _ (number_safe world b v k h)
      (λ x u. safe_then (IsValue world (number_type n)) _ (of_result (in_type n x)) as_number (safe_with _ _ (of_result (in_type n x)) (in_type_safe world n x) (λ w g. g.1)) (λ w g. number_safe world (number_type n) w (number_typed n) g))
    where
      number_typed : (n : numbers.Number) → is_number (number_type n) ≡ true
      number_typed number.Int = refl
      number_typed number.UInt = refl

  between_safe : (b c : Base) (v w : Val) → is_number b ≡ true → is_number c ≡ true → IsValue world b v → IsValue world c w → Safe (AllOf (IsOf (number_of_both b c))) (between v w)
  between_safe b c v w h k f g =
      let n = type_of_both v w in
      safe_then _ _ (end_of n v) _ (end_safe n b v h f) (λ x u. safe_then _ _ (end_of n w) _ (end_safe n c w k g) (λ y u.
      subst (λ d. AllOf (IsOf d) (with_base (number_type n) (numbers_between n x y))) (both_type world b c v w h k f g) (based (number_type n) (numbers_between n x y) (between_are n x y))))

  pub gone_safe : (s : Scope N) (state : State N) (over : Over N) (b : Base) → StateIs world s state → variable_type (here s) over ≡ Ok b → Safe (AllOf (IsOf b)) (gone_over (seen world state) over)
  gone_safe s state (Elements t) b h e =
      let x = then_ok (typing (here s) t) element_of b e in
      safe_then (Suits world x.0) _ _ elements_of (never_stuck (here s) (seen world state) (here_fits s state h) t x.0 x.1) (λ m f. elements_meant x.0 m b x.2 f)
  gone_safe s state (Range l r) b h e =
      let c = then_ok (number (here s) l) _ b e in let d = then_ok (number (here s) r) _ b c.2 in let look = seen world state in let fit = here_fits s state h in
      subst (λ b. Safe (AllOf (IsOf b)) (gone_over look (Range l r))) (ok_inj d.2)
      (safe_then (IsValue world c.0) _ _ _ (number_value (here s) look fit l c.0 c.1) (λ v f. safe_then (IsValue world d.0) _ _ (between v) (number_value (here s) look fit r d.0 d.1) (λ w g.
      between_safe c.0 d.0 v w (number_known (here s) look fit l c.0 c.1).1 (number_known (here s) look fit r d.0 d.1).1 f g)))
