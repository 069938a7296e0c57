-- TypedLemmas: a well typed expression is never stuck, and has its type.
use Rattle.std.proofs.Common.{◌≡◌, ℕ, List, refl, sym, subst, ◌∙◌}
use Rattle.gq_tree.specs.Tree.{Tree}
use Rattle.gq_value.specs.Accums.{Accum}
use Rattle.gq_value.specs.AccumViews.{accum_of}
use Rattle.gq_value.specs.declared.kind.Kind.{Kind}
use Rattle.gq_value.specs.declared.value.Wrong.{Wrong}
use Rattle.gq_value.specs.Val.{Val, Int, UInt, Truth, Text, Vertex, Tuple, Fraction}
use Rattle.gq_accum_laws.specs.Holds.{Holds}
use Rattle.gq_accum_laws.specs.After.{fresh}
use Rattle.gq_nest.specs.declared.content.Content.{Content, out-Content}
use Rattle.gq_nest.specs.Forms.{view}
use Rattle.gq_nest.specs.Shows.{Shows, ShowsTheSame}
use Rattle.gq_rules_typing.specs.Judging.{Typed, Of, Average, Whole, GroupRow, AliasOf, EdgeOf, SetOf, MemberOf}
use Rattle.gq_plan_ir.specs.Reference.{Reference}
use Rattle.gq_rules_meaning.specs.Answers.{Answer, Gives, Faults, Stuck, ◌>>=◌}
use Rattle.gq_rules_meaning.specs.Meanings.{Meant, Is, IsAverage, IsContent, IsRow, IsEdge, IsSet, IsMember, Outcome, value_of_meant}
use Rattle.gq_rules_meaning.specs.Expressions.{World, Look, meaning, value_of}
use Rattle.gq_rules_meaning.specs.Fitting.{Safe, Suits}
use Rattle.gq_rules_meaning.proofs.NeverStuck.{expression_law}
use Rattle.gq_value.specs.Accums as plain
use Rattle.gq_eval_operand.specs.Sound.{IsSound}
use Rattle.gq_eval.specs.Typed.{IsTyped, IsOfValues, HasType, IsContentOf, HoldsTyped, HasContent, whole_of_meant}
use Rattle.gq_eval_operand.specs.declared.halt.Halt.{Halt}
use Rattle.gq_eval_operand.specs.Meant.{Halts}
use Rattle.gq_eval_builtins.proofs.TimeLemmas.{stops}

gives_inj : {A : Type 0} {a b : A} → ◌≡◌ {A = Answer Wrong A} (Gives a) (Gives b) → a ≡ b
gives_inj e = cc

safe : (look : Look Reference) (t : Tree Reference) (known : IsTyped look t) → Safe (Suits look.world known.type) (meaning look t)
safe look t known = expression_law Reference known.names look known.fits t known.type known.typed

-- ---- values

module _ {N : Type 0} (world : World N) where
  alias_has : (types : List ℕ) (b : plain.Base) (u : Val) → Suits world (AliasOf types) (Is b u) → HasType world (AliasOf types) u
  alias_has types b (Vertex v) s = s.1
  alias_has types b (Int x) s = absurd s
  alias_has types b (UInt n) s = absurd s
  alias_has types b (Truth q) s = absurd s
  alias_has types b (Text bytes) s = absurd s
  alias_has types b (Tuple vs) s = absurd s
  alias_has types b (Fraction n d) s = absurd s

  average_has : (u : Val) → Suits world Average (IsAverage u) → HasType world Average u
  average_has (Fraction n d) s = tt
  average_has (Vertex v) s = absurd s
  average_has (Int x) s = absurd s
  average_has (UInt n) s = absurd s
  average_has (Truth q) s = absurd s
  average_has (Text bytes) s = absurd s
  average_has (Tuple vs) s = absurd s

  is_has : (ty : Typed) (b : plain.Base) (u : Val) → Suits world ty (Is b u) → HasType world ty u
  is_has (Of c) b u s = s.1
  is_has (AliasOf types) b u s = alias_has types b u s
  is_has Average b u s = absurd s
  is_has (Whole k) b u s = absurd s
  is_has (GroupRow ps) b u s = absurd s
  is_has (EdgeOf types) b u s = absurd s
  is_has (SetOf types) b u s = absurd s
  is_has (MemberOf types) b u s = absurd s

  is_average_has : (ty : Typed) (u : Val) → Suits world ty (IsAverage u) → HasType world ty u
  is_average_has Average u s = average_has u s
  is_average_has (Of c) u s = absurd s
  is_average_has (AliasOf types) u s = absurd s
  is_average_has (Whole k) u s = absurd s
  is_average_has (GroupRow ps) u s = absurd s
  is_average_has (EdgeOf types) u s = absurd s
  is_average_has (SetOf types) u s = absurd s
  is_average_has (MemberOf types) u s = absurd s

  meant_has : (ty : Typed) (m : Meant) (v : Val) → Suits world ty m → value_of_meant m ≡ Gives v → HasType world ty v
  meant_has ty (Is b u) v s e = subst (HasType world ty) (gives_inj e) (is_has ty b u s)
  meant_has ty (IsAverage u) v s e = subst (HasType world ty) (gives_inj e) (is_average_has ty u s)
  meant_has ty (IsContent k h) v s e = absurd (cc e)
  meant_has ty (IsRow ps cs) v s e = absurd (cc e)
  meant_has ty (IsEdge r t) v s e = absurd (cc e)
  meant_has ty (IsSet vs) v s e = absurd (cc e)
  meant_has ty (IsMember vs b x) v s e = absurd (cc e)

  has : (ty : Typed) (o : Outcome) (v : Val) → Safe (Suits world ty) o → (o >>= value_of_meant) ≡ Gives v → HasType world ty v
  has ty (Gives m) v s e = meant_has ty m v s e
  has ty (Faults w) v s e = absurd (cc e)
  has ty Stuck v s e = absurd s

  -- a meaning with a type of values has a value
  never : (ty : Typed) (m : Meant) → IsOfValues ty → Suits world ty m → value_of_meant m ≡ Stuck → ⊥
  never (Of c) m i s e = of_base m s e
    where
      of_base : (m : Meant) → Suits world (Of c) m → value_of_meant m ≡ Stuck → ⊥
      of_base (Is b u) s e = cc
      of_base (IsAverage u) s e = s
      of_base (IsContent k h) s e = s
      of_base (IsRow ps cs) s e = s
      of_base (IsEdge r t) s e = s
      of_base (IsSet vs) s e = s
      of_base (IsMember vs b x) s e = s
  never Average m i s e = of_average m s e
    where
      of_average : (m : Meant) → Suits world Average m → value_of_meant m ≡ Stuck → ⊥
      of_average (IsAverage u) s e = cc
      of_average (Is b u) s e = s
      of_average (IsContent k h) s e = s
      of_average (IsRow ps cs) s e = s
      of_average (IsEdge r t) s e = s
      of_average (IsSet vs) s e = s
      of_average (IsMember vs b x) s e = s
  never (AliasOf types) m i s e = of_alias m s e
    where
      of_alias : (m : Meant) → Suits world (AliasOf types) m → value_of_meant m ≡ Stuck → ⊥
      of_alias (Is b u) s e = cc
      of_alias (IsAverage u) s e = s
      of_alias (IsContent k h) s e = s
      of_alias (IsRow ps cs) s e = s
      of_alias (IsEdge r t) s e = s
      of_alias (IsSet vs) s e = s
      of_alias (IsMember vs b x) s e = s
  never (Whole k) m i s e = i
  never (GroupRow ps) m i s e = i
  never (EdgeOf types) m i s e = i
  never (SetOf types) m i s e = i
  never (MemberOf types) m i s e = i

  there : (ty : Typed) (o : Outcome) → IsOfValues ty → Safe (Suits world ty) o → (o >>= value_of_meant) ≡ Stuck → ⊥
  there ty (Gives m) i s e = never ty m i s e
  there ty (Faults w) i s e = cc
  there ty Stuck i s e = s

pub value_typed : (look : Look Reference) (t : Tree Reference) (v : Val) → value_of look t ≡ Gives v → (known : IsTyped look t) → HasType look.world known.type v
value_typed look t v e known = has look.world known.type (meaning look t) v (safe look t known) e

pub value_there : (look : Look Reference) (t : Tree Reference) (known : IsTyped look t) → IsOfValues known.type → value_of look t ≡ Stuck → ⊥
value_there look t known i e = there look.world known.type (meaning look t) i (safe look t known) e

-- ---- collections

module _ {N : Type 0} (world : World N) (c : Content) where
  content_has : (ty : Typed) (k : Accum) (h : Holds k) → Shows k c h → Suits world ty (IsContent k h) → HasContent world ty c
  content_has (Whole j) k h shows s = subst (λ k. HoldsTyped world k c) s.0 (record { holds = h; shows = shows; values = s.2 })
  content_has (Of b) k h shows s = absurd s
  content_has Average k h shows s = absurd s
  content_has (AliasOf types) k h shows s = absurd s
  content_has (GroupRow ps) k h shows s = absurd s
  content_has (EdgeOf types) k h shows s = absurd s
  content_has (SetOf types) k h shows s = absurd s
  content_has (MemberOf types) k h shows s = absurd s

not_stuck : (P : Meant → Type 0) (o : Outcome) → Safe P o → o ≡ Stuck → ⊥
not_stuck P (Gives m) s e = cc
not_stuck P (Faults w) s e = cc
not_stuck P Stuck s e = s

pub whole_there : (look : Look Reference) (t : Tree Reference) (k : Accum) (known : IsTyped look t) → known.type ≡ Whole k → meaning look t ≡ Stuck → ⊥
whole_there look t k known is e = not_stuck (Suits look.world known.type) (meaning look t) (safe look t known) e

pub content_told : (o : Outcome) (m : Meant) (c : Content) → o ≡ Gives m → IsContentOf (Gives m) c → IsContentOf o c
content_told o m c e h = record { kind = h.kind; holds = h.holds; meant = e ∙ h.meant; shows = h.shows }

pub content_typed : (look : Look Reference) (t : Tree Reference) (m : Meant) (c : Content) → meaning look t ≡ Gives m → IsContentOf (Gives m) c → (known : IsTyped look t) → HasContent look.world known.type c
content_typed look t m c e h known = content_has look.world c known.type h.kind h.holds h.shows (subst (Safe (Suits look.world known.type)) (e ∙ h.meant) (safe look t known))

pub whole_stops : (o : Outcome) (h : Halt) → Halts o h → Halts (o >>= whole_of_meant) h
whole_stops o h p = stops o whole_of_meant h p

pub whole_halts : (o : Outcome) (m : Meant) (h : Halt) → o ≡ Gives m → Halts (whole_of_meant m) h → Halts (o >>= whole_of_meant) h
whole_halts o m h e p = subst (λ o. Halts (o >>= whole_of_meant) h) (sym e) p

pub ruleset whole_laws = (content_told, content_typed, whole_stops, whole_halts)

pub whole_content : (k : Kind) (old new : Content) → IsSound (accum_of k) old → ShowsTheSame old new → IsContentOf (Gives (IsContent (accum_of k) (view (accum_of k) (out-Content old)))) new
whole_content k old new s same = record { kind = accum_of k; holds = view (accum_of k) (out-Content old); meant = refl; shows = same.each (accum_of k) (view (accum_of k) (out-Content old)) s.shows }

pub opening_content : (k : Kind) (c : Content) → Shows (accum_of k) c (fresh (accum_of k)) → IsContentOf (Gives (IsContent (accum_of k) (fresh (accum_of k)))) c
opening_content k c s = record { kind = accum_of k; holds = fresh (accum_of k); meant = refl; shows = s }

pub ruleset content_laws = (whole_content, opening_content)
