-- CompareLemmas: texts compare by their bytes.
use Rattle.std.proofs.Common.{◌≡◌, ◌⊎◌, inl, inr, ℕ, List, refl, ap, ◌∙◌}
use Rattle.std.specs.declared.cmp.Ordering.{Ordering}
use Rattle.std.specs.declared.cmp.Ordering.TheVariants.{Less, Equal, Greater}
use Rattle.std.specs.Ordering.{nat_cmp, ordering_then}
use Rattle.std.specs.Cmp.Lexicographic.{slice_cmp}
use Rattle.gq_plan_ir.specs.CmpSign.{CmpSign}
use Rattle.gq_value.specs.Val.{Val, Int, UInt, Truth, Text, Vertex, Tuple, Fraction}
use Rattle.gq_value.specs.Order.{compare}
use Rattle.gq_plan_ir.specs.Answers.{Stuck}
use Rattle.gq_plan_ir.specs.Meanings.{truly}
use Rattle.gq_plan_ir.specs.Expressions.{compared, related}
use Rattle.gq_eval_operand.specs.Meant.{IsText, IsNoText}

then_equal : (o : Ordering) → ordering_then (ordering_then o Equal) Equal ≡ o
then_equal Less = refl
then_equal Equal = refl
then_equal Greater = refl

pub texts_compare : (s t : List ℕ) → compare (Text s) (Text t) ≡ slice_cmp nat_cmp s t
texts_compare s t = then_equal (slice_cmp nat_cmp s t)

pub compared_texts : (sign : CmpSign) (s t : List ℕ) → compared sign (Text s) (Text t) ≡ truly (related sign (slice_cmp nat_cmp s t))
compared_texts sign s t = ap (λ o. truly (related sign o)) (texts_compare s t)

-- ---- as the code finds them

pub both_texts : (sign : CmpSign) (v w : Val) (s t : List ℕ) → v ≡ Text s → w ≡ Text t → compared sign v w ≡ truly (related sign (slice_cmp nat_cmp s t))
both_texts sign v w s t e f = ap (λ v. compared sign v w) e ∙ ap (λ w. compared sign (Text s) w) f ∙ compared_texts sign s t

no_text_left : (sign : CmpSign) (v : Val) (t : List ℕ) → IsNoText v → compared sign v (Text t) ≡ Stuck
no_text_left sign (Text s) t h = absurd h
no_text_left sign (Int x) t h = refl
no_text_left sign (UInt n) t h = refl
no_text_left sign (Truth b) t h = refl
no_text_left sign (Vertex n) t h = refl
no_text_left sign (Tuple vs) t h = refl
no_text_left sign (Fraction x n) t h = refl

no_text_right : (sign : CmpSign) (s : List ℕ) (w : Val) → IsNoText w → compared sign (Text s) w ≡ Stuck
no_text_right sign s (Text t) h = absurd h
no_text_right sign s (Int x) h = refl
no_text_right sign s (UInt n) h = refl
no_text_right sign s (Truth b) h = refl
no_text_right sign s (Vertex n) h = refl
no_text_right sign s (Tuple vs) h = refl
no_text_right sign s (Fraction x n) h = refl

is_text : (v : Val) → IsText v → (s : List ℕ) × (v ≡ Text s)
is_text (Text s) h = (s, refl)
is_text _ h = absurd h

not_both : (v : Val) → IsText v → IsNoText v → ⊥
not_both (Text s) h g = g
not_both _ h g = h

pub stuck_right : (sign : CmpSign) (v w : Val) (s : List ℕ) → v ≡ Text s → IsNoText w → compared sign v w ≡ Stuck
stuck_right sign v w s e h = ap (λ v. compared sign v w) e ∙ no_text_right sign s w h

pub stuck_left : (sign : CmpSign) (v w : Val) → IsText v ⊎ IsText w → IsNoText v → compared sign v w ≡ Stuck
stuck_left sign v w (inl t) h = absurd (not_both v t h)
stuck_left sign v w (inr t) h = let f = is_text w t in ap (λ w. compared sign v w) f.1 ∙ no_text_left sign v f.0 h

pub ruleset text_laws = (both_texts, stuck_right, stuck_left)
