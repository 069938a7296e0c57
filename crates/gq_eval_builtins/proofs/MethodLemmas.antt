-- MethodLemmas: the results of methods of sound contents.
use Rattle.std.proofs.Common.{◌≡◌, ℕ, Bool, false, Some, None, refl, sym, ap, ◌∙◌}
use Rattle.gq_value.specs.declared.value.Wrong.{Wrong}
use Rattle.gq_value.specs.Accums.{Base, Accum, SetAccum, BagAccum, ListAccum, MapAccum, GroupByAccum, HeapAccum}
use Rattle.gq_value.specs.Typed.{is_scalar}
use Rattle.gq_value.specs.Val.{Val}
use Rattle.gq_rules_typing.specs.Kinds.{contained_type}
use Rattle.gq_accum_laws.specs.Holds.{Holds}
use Rattle.gq_accum_laws.specs.After.{fresh}
use Rattle.gq_nest.specs.declared.content.Content.{Content, out-Content}
use Rattle.gq_nest.specs.Forms.{view}
use Rattle.gq_nest.specs.Tells as tells
use Rattle.gq_rules_meaning.specs.Answers.{Stuck, ◌>>=◌, found}
use Rattle.gq_rules_meaning.specs.Meanings.{IsContent, counted, truly}
use Rattle.gq_rules_meaning.specs.Collections.{size_of}
use Rattle.gq_eval_operand.specs.Sound.{IsSound}
use Rattle.gq_eval_builtins.specs.Elements.{size_meant, contains_meant, has_in}

sized : (k : Accum) (h : Holds k) → is_scalar k ≡ false → size_of k h ≡ Some (tells.size_of k h)
sized (SetAccum b) h e = refl
sized (BagAccum b) h e = refl
sized (ListAccum b) h e = refl
sized (MapAccum b k) h e = refl
sized (GroupByAccum ks ps) h e = refl
sized (HeapAccum b n by) h e = refl
sized k h e = absurd (cc)

pub content_size : (k : Accum) (c : Content) (n : ℕ) → IsSound k c → is_scalar k ≡ false → tells.Tells c n tells.size_of → size_meant (IsContent k (view k (out-Content c))) ≡ counted n
content_size k c n s e t = ap (λ o. found {F = Wrong} o >>= counted) (sized k (view k (out-Content c)) e ∙ ap Some (sym (t.each k (view k (out-Content c)) s.shows)))

none_yet : (k : Accum) → is_scalar k ≡ false → tells.size_of k (fresh k) ≡ 0
none_yet (SetAccum b) e = refl
none_yet (BagAccum b) e = refl
none_yet (ListAccum b) e = refl
none_yet (MapAccum b k) e = refl
none_yet (GroupByAccum ks ps) e = refl
none_yet (HeapAccum b n by) e = refl
none_yet k e = absurd (cc)

pub opening_size : (k : Accum) → is_scalar k ≡ false → size_meant (IsContent k (fresh k)) ≡ counted 0
opening_size k e = ap (λ o. found {F = Wrong} o >>= counted) (sized k (fresh k) e ∙ ap Some (none_yet k e))

pub ruleset size_laws = (content_size, opening_size)

-- ---- contains

pub content_has : (k : Accum) (c : Content) (v : Val) (f : Bool) → has_in k c v ≡ Some f → contains_meant (IsContent k (view k (out-Content c))) v ≡ truly f
content_has k c v f e = ap (λ o. found {F = Wrong} o >>= truly) e

pub contained_has : (k : Accum) (h : Holds k) (v : Val) → contained_type k ≡ None → contains_meant (IsContent k h) v ≡ Stuck
contained_has (SetAccum b) h v e = absurd (cc)
contained_has (BagAccum b) h v e = absurd (cc)
contained_has (ListAccum b) h v e = absurd (cc)
contained_has k h v e = refl

pub none_has : (k : Accum) (b : Base) (v : Val) → contained_type k ≡ Some b → contains_meant (IsContent k (fresh k)) v ≡ truly false
none_has (SetAccum c) b v e = refl
none_has (BagAccum c) b v e = refl
none_has (ListAccum c) b v e = refl
none_has k b v e = absurd (cc)

pub ruleset contains_laws = (content_has, contained_has, none_has)
