-- ContainLemmas: values of one type are equal if they are the same.
use Rattle.std.proofs.Common.{◌≡◌, Bool, true, false, List, [], ◌∷◌, Some, refl, sym, ap, ap₂, subst, ◌∙◌}
use Rattle.std.specs.Prelude.{◌&&◌, ◌||◌}
use Rattle.std.specs.List.{list_all}
use Rattle.std.specs.Ordering.{is_eq}
use Rattle.gq_value.specs.Val.{Val, Vals, Int, UInt, Truth, Text, Vertex, Tuple, none, more}
use Rattle.gq_value.specs.Order.{place, Alike, AlikeRows}
use Rattle.gq_value.specs.Accums.{Base, INT, UINT, BOOL, STRING, DATETIME, VERTEX, VERTEX_OF, TUPLE, Bases, no_base, base_and, Accum, SetAccum, BagAccum, ListAccum}
use Rattle.gq_value.proofs.AgreeLemmas.{orders_agree}
use Rattle.gq_accum_laws.specs.Gather.{among}
use Rattle.gq_accum_laws.specs.Holds.{Holds}
use Rattle.gq_rules_typing.specs.Kinds.{contained_type}
use Rattle.gq_nest.specs.declared.content.Content.{Content, out-Content}
use Rattle.gq_nest.specs.Forms.{view}
use Rattle.gq_nest.specs.Tells.{Tells, has_value, elements_of}
use Rattle.gq_rules_meaning.specs.Collections.{has_element}
use Rattle.gq_eval_operand.specs.Sound.{has_form, have_form, HoldsForms, IsSound}
use Rattle.gq_eval_builtins.specs.Elements.{has_equal, has_in}

apart : {P : Type 0} → false ≡ true → P
apart h = absurd (cc h)

both : (a b : Bool) → (a && b) ≡ true → (a ≡ true) × (b ≡ true)
both true true h = (refl, refl)
both true false h = cc
both false b h = cc

mutual
  alike : (b : Base) (v w : Val) → has_form b v ≡ true → has_form b w ≡ true → Alike v w
  alike INT (Int x) (Int y) h g = (refl, refl)
  alike UINT (UInt x) (UInt y) h g = (refl, refl)
  alike BOOL (Truth x) (Truth y) h g = (refl, refl)
  alike STRING (Text x) (Text y) h g = (refl, refl)
  alike DATETIME (Int x) (Int y) h g = (refl, refl)
  alike VERTEX (Vertex x) (Vertex y) h g = (refl, refl)
  alike (VERTEX_OF t) (Vertex x) (Vertex y) h g = (refl, refl)
  alike (TUPLE n bs) (Tuple vs) (Tuple ws) h g = alikes bs vs ws h g
  alike INT (Int x) w h g = apart g
  alike UINT (UInt x) w h g = apart g
  alike BOOL (Truth x) w h g = apart g
  alike STRING (Text x) w h g = apart g
  alike DATETIME (Int x) w h g = apart g
  alike VERTEX (Vertex x) w h g = apart g
  alike (VERTEX_OF t) (Vertex x) w h g = apart g
  alike (TUPLE n bs) (Tuple vs) w h g = apart g
  alike b v w h g = apart h

  alikes : (bs : Bases) (vs ws : Vals) → have_form bs vs ≡ true → have_form bs ws ≡ true → AlikeRows vs ws
  alikes no_base none none h g = tt
  alikes (base_and b bs) (more v vs) (more w ws) h g = let p = both (has_form b v) (have_form bs vs) h in let q = both (has_form b w) (have_form bs ws) g in (alike b v w p.0 q.0, alikes bs vs ws p.1 q.1)
  alikes no_base none (more w ws) h g = apart g
  alikes no_base (more v vs) ws h g = apart h
  alikes (base_and b bs) none ws h g = apart h
  alikes (base_and b bs) (more v vs) none h g = apart g

among_is : (b : Base) (v : Val) (ws : List Val) → has_form b v ≡ true → list_all (has_form b) ws ≡ true → among place v ws ≡ has_equal ws v
among_is b v [] h g = refl
among_is b v (w ∷ ws) h g = let p = both (has_form b w) (list_all (has_form b) ws) g in
    ap₂ ◌||◌ (ap is_eq (orders_agree v w (alike b v w h p.0))) (among_is b v ws h p.1)

some_inj : {A : Type 0} {a b : A} → Some a ≡ Some b → a ≡ b
some_inj h = cc

-- ---- as the code asks

fast : (k : Accum) (b : Base) (h : Holds k) (v : Val) → contained_type k ≡ Some b → has_form b v ≡ true → HoldsForms k h → has_element k h v ≡ Some (has_value v k h)
fast (SetAccum c) b h v e f g = ap Some (sym (among_is c v h (subst (λ c. has_form c v ≡ true) (sym (some_inj e)) f) g))
fast (BagAccum c) b h v e f g = ap Some (sym (among_is c v h (subst (λ c. has_form c v ≡ true) (sym (some_inj e)) f) g))
fast (ListAccum c) b h v e f g = ap Some (sym (among_is c v h (subst (λ c. has_form c v ≡ true) (sym (some_inj e)) f) g))
fast k b h v e f g = absurd (cc)

slow : (k : Accum) (b : Base) (h : Holds k) (v : Val) → contained_type k ≡ Some b → has_element k h v ≡ Some (has_equal (elements_of k h) v)
slow (SetAccum c) b h v e = refl
slow (BagAccum c) b h v e = refl
slow (ListAccum c) b h v e = refl
slow k b h v e = absurd (cc)

pub plain_found : (k : Accum) (c : Content) (b : Base) (v : Val) (f : Bool) → IsSound k c → contained_type k ≡ Some b → has_form b v ≡ true → Tells c f (has_value v) → has_in k c v ≡ Some f
plain_found k c b v f s e h t = fast k b (view k (out-Content c)) v e h s.forms ∙ ap Some (sym (t.each k (view k (out-Content c)) s.shows))

pub equal_found : (k : Accum) (c : Content) (b : Base) (v : Val) (ws : List Val) (f : Bool) → IsSound k c → contained_type k ≡ Some b → Tells c ws elements_of → f ≡ has_equal ws v → has_in k c v ≡ Some f
equal_found k c b v ws f s e t is = slow k b (view k (out-Content c)) v e ∙ ap (λ ws. Some (has_equal ws v)) (sym (t.each k (view k (out-Content c)) s.shows)) ∙ ap Some (sym is)

pub ruleset contain_laws = (plain_found, equal_found)
