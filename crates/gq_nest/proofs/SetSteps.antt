-- SetSteps: one key more, and one item more.
use Rattle.std.proofs.Common.{◌≡◌, Bool, true, false, ◌||◌, List, [], ◌∷◌, map, Ordering, Less, Equal, Greater, refl, sym, ap, ◌∙◌, subst}
use Rattle.std.specs.Ordering.{is_eq, on, match_ordering}
use Rattle.std.specs.List.{list_any}
use Rattle.std.specs.BTreeSet.{insert_key}
use Rattle.gq_value.specs.declared.value.Value.{Value}
use Rattle.gq_value.specs.Val.{Val}
use Rattle.gq_value.specs.Views.{val}
use Rattle.gq_value.specs.Order.{place}
use Rattle.gq_value.specs.OrderLaws.{place_same}
use Rattle.gq_accum_laws.specs.Gather.{into, put, choose, distinct}
use Rattle.gq_accum_laws.proofs.Shuffles.{past}
use Rattle.gq_accum_laws.proofs.GatherLaws.{put_commutes, put_into, again}
use Rattle.gq_accum_laws.proofs.RowLaws.{place_linear}

eq_is : (o : Ordering) → is_eq o ≡ true → o ≡ Equal
eq_is Less h = absurd (cc h)
eq_is Equal h = refl
eq_is Greater h = absurd (cc h)

insert_key_is : (ks : List Value) (key : Value) → map val (insert_key (on val place) ks key) ≡ put place false (val key) (map val ks)
insert_key_is [] key = refl
insert_key_is (k ∷ ks) key = by (place (val key) (val k)) (insert_key_is ks key)
  where
    by : (o : Ordering) → map val (insert_key (on val place) ks key) ≡ put place false (val key) (map val ks)
        → map val (match_ordering o (key ∷ k ∷ ks) (k ∷ ks) (k ∷ insert_key (on val place) ks key)) ≡ choose o (val key ∷ val k ∷ map val ks) (val k ∷ map val ks) (val k ∷ put place false (val key) (map val ks))
    by Less h = refl
    by Equal h = refl
    by Greater h = ap (λ l. val k ∷ l) h

pub key_put : (ks : List Value) (key : Value) → distinct place (map val (insert_key (on val place) ks key)) ≡ put place false (val key) (distinct place (map val ks))
key_put ks key = ap (distinct place) (insert_key_is ks key) ∙ put_into place place_linear false (val key) (map val ks) []

-- a key that is there changes nothing
pub key_there : (ks : List Value) (v : Val) → list_any (λ k. is_eq (place v (val k))) ks ≡ true → put place false v (distinct place (map val ks)) ≡ distinct place (map val ks)
key_there [] v h = absurd (cc h)
key_there (k ∷ ks) v h = by (is_eq (place v (val k))) refl h (key_there ks v)
  where
    rest : List Val
    rest = distinct place (map val ks)

    by : (b : Bool) → is_eq (place v (val k)) ≡ b → (b || list_any (λ k. is_eq (place v (val k))) ks) ≡ true → (list_any (λ k. is_eq (place v (val k))) ks ≡ true → put place false v rest ≡ rest)
        → put place false v (put place false (val k) rest) ≡ put place false (val k) rest
    by true g s r = subst (λ u. put place false u (put place false (val k) rest) ≡ put place false (val k) rest) (sym (place_same v (val k) (eq_is (place v (val k)) g))) (again place place_linear false false refl refl (val k) rest)
    by false g s r = put_commutes place place_linear false v (val k) rest ∙ ap (put place false (val k)) (r s)

pub key_stays : (ks : List Value) (v : Val) → true ≡ list_any (λ k. is_eq (place v (val k))) ks → distinct place (map val ks) ≡ put place false v (distinct place (map val ks))
key_stays ks v h = sym (key_there ks v (sym h))

pub ruleset set_steps = (key_put, key_stays)

-- one key of what is left goes in
pub keys_step : (s t now now' : List Value) (k : Value) (z : List Val) → s ≡ k ∷ t → distinct place (map val now') ≡ put place false (val k) (distinct place (map val now))
    → into (put place false) (map val s) (distinct place (map val now)) ≡ z → into (put place false) (map val t) (distinct place (map val now')) ≡ z
keys_step s t now now' k z e d h = ap (into (put place false) (map val t)) d ∙ past (put place false) (put_commutes place place_linear false) (val k) (map val t) (distinct place (map val now))
    ∙ ap (λ l. into (put place false) (map val l) (distinct place (map val now))) (sym e) ∙ h

pub keys_end : (s now : List Value) (z : List Val) → s ≡ [] → into (put place false) (map val s) (distinct place (map val now)) ≡ z → distinct place (map val now) ≡ z
keys_end s now z e h = ap (λ l. into (put place false) (map val l) (distinct place (map val now))) (sym e) ∙ h
