-- ElementLemmas: the elements of collections, with their type.
use Rattle.std.proofs.Common.{◌≡◌, List, [], map, Option, Result, refl, sym, ap, subst, ◌∙◌}
use Rattle.std.specs.Borrow.{Bor}
use Rattle.gq_value.specs.declared.kind.Kind.{Kind}
use Rattle.gq_value.specs.declared.value.Value.{Value}
use Rattle.gq_value.specs.Accums.{Accum, SumAccum, MinAccum, MaxAccum, OrAccum, AndAccum, BitwiseOrAccum, BitwiseAndAccum, AvgAccum, SetAccum, BagAccum, ListAccum, MapAccum, GroupByAccum, HeapAccum}
use Rattle.gq_value.specs.AccumViews.{accum_of}
use Rattle.gq_value.specs.Val.{Val}
use Rattle.gq_value.specs.Views.{val}
use Rattle.gq_accum_laws.specs.Holds.{Holds}
use Rattle.gq_accum_laws.specs.After.{fresh}
use Rattle.gq_nest.specs.declared.content.Content.{Content, out-Content}
use Rattle.gq_nest.specs.Forms.{view}
use Rattle.gq_nest.specs.Tells as nest
use Rattle.gq_rules_typing.specs.Kinds.{element_type}
use Rattle.gq_rules_meaning.specs.Answers.{Gives, ◌>>=◌}
use Rattle.gq_rules_meaning.specs.Meanings.{Meant, IsContent, Outcome}
use Rattle.gq_rules_meaning.specs.Statements.{elements_of}
use Rattle.gq_eval_operand.specs.declared.halt.Halt.{Halt}
use Rattle.gq_eval_operand.specs.declared.seen.Seen.{Seen}
use Rattle.gq_eval_operand.specs.declared.seen.Seen.TheVariants as seen_is
use Rattle.gq_eval_operand.specs.Meant.{Halts, Tells, meant}
use Rattle.gq_eval_operand.specs.Sound.{IsSound, Sound}
use Rattle.gq_exec_control.specs.declared.running.Rounds.{Rounds}
use Rattle.gq_exec_control.proofs.Steps.{halts_bind, tells_same}
use Rattle.gq_exec_control.specs.Rounds.{all_elements, typed_elements}
use Rattle.gq_exec_control.specs.Values.{rounds_in}

-- ---- the value of an expression

pub elements_stop : (o : Outcome) (h : Halt) → Halts o h → Halts (all_elements o) h
elements_stop o h e = halts_bind o elements_of h e

pub elements_go : (o : Outcome) (m : Meant) (r : Result Rounds Halt) → o ≡ Gives m → Tells rounds_in (elements_of m) r → Tells rounds_in (all_elements o) r
elements_go o m r e t = subst (λ p. Tells rounds_in p r) (sym (ap all_elements e)) t

pub ruleset element_laws = (elements_stop, elements_go)

-- ---- the elements

are_typed : (k : Accum) (h : Holds k) → elements_of (IsContent k h) ≡ typed_elements (element_type k) (nest.elements_of k h)
are_typed (SetAccum b) h = refl
are_typed (BagAccum b) h = refl
are_typed (ListAccum b) h = refl
are_typed (HeapAccum b n by) h = refl
are_typed (SumAccum n) h = refl
are_typed (MinAccum n) h = refl
are_typed (MaxAccum n) h = refl
are_typed OrAccum h = refl
are_typed AndAccum h = refl
are_typed BitwiseOrAccum h = refl
are_typed BitwiseAndAccum h = refl
are_typed AvgAccum h = refl
are_typed (MapAccum b k) h = refl
are_typed (GroupByAccum keys ps) h = refl

none_yet : (k : Accum) → typed_elements (element_type k) (nest.elements_of k (fresh k)) ≡ typed_elements (element_type k) []
none_yet (SetAccum b) = refl
none_yet (BagAccum b) = refl
none_yet (ListAccum b) = refl
none_yet (HeapAccum b n by) = refl
none_yet (SumAccum n) = refl
none_yet (MinAccum n) = refl
none_yet (MaxAccum n) = refl
none_yet OrAccum = refl
none_yet AndAccum = refl
none_yet BitwiseOrAccum = refl
none_yet BitwiseAndAccum = refl
none_yet AvgAccum = refl
none_yet (MapAccum b k) = refl
none_yet (GroupByAccum keys ps) = refl

whole_told : (k : Accum) (c : Content) (vs : List Val) (r : Result Rounds Halt) → IsSound k c → nest.Tells c vs nest.elements_of → Tells rounds_in (typed_elements (element_type k) vs) r → Tells rounds_in (elements_of (IsContent k (view k (out-Content c)))) r
whole_told k c vs r s e t =
    tells_same rounds_in (elements_of (IsContent k (view k (out-Content c)))) (typed_elements (element_type k) vs) r
    (are_typed k (view k (out-Content c)) ∙ ap (typed_elements (element_type k)) (sym (e.each k (view k (out-Content c)) s.shows))) t

opening_told : (k : Accum) (vs : List Val) (r : Result Rounds Halt) → vs ≡ [] → Tells rounds_in (typed_elements (element_type k) vs) r → Tells rounds_in (elements_of (IsContent k (fresh k))) r
opening_told k vs r e t =
    tells_same rounds_in (elements_of (IsContent k (fresh k))) (typed_elements (element_type k) vs) r
    (are_typed k (fresh k) ∙ none_yet k ∙ ap (typed_elements (element_type k)) (sym e)) t

-- by what was read
module _ (seen : Seen) (row : List Value) (r : Result Rounds Halt) where
  pub whole_tells : (kind : Bor Kind) (content : Bor Content) → seen ≡ seen_is.Whole kind content → Sound seen → nest.Tells content.now (map val row) nest.elements_of
      → Tells rounds_in (typed_elements (element_type (accum_of kind.now)) (map val row)) r → Tells rounds_in (elements_of (meant seen)) r
  whole_tells kind content e sound told t =
      subst (λ x. Tells rounds_in (elements_of (meant x)) r) (sym e) (whole_told (accum_of kind.now) content.now (map val row) r (subst Sound e sound).0 told t)

  pub opening_tells : (kind : Bor Kind) → seen ≡ seen_is.Opening kind → row ≡ [] → Tells rounds_in (typed_elements (element_type (accum_of kind.now)) (map val row)) r → Tells rounds_in (elements_of (meant seen)) r
  opening_tells kind e none t =
      subst (λ x. Tells rounds_in (elements_of (meant x)) r) (sym e) (opening_told (accum_of kind.now) (map val row) r (ap (map val) none) t)

pub ruleset whole_laws = (whole_tells, opening_tells)
