-- SeenLemmas: the printed form of expressions.
use Rattle.std.proofs.Common.{◌≡◌, ℕ, ◌+◌, ◌<◌, ◌≤◌, true, List, [], ◌∷◌, ◌++◌, length, get_or, refl, sym, ap, subst, ◌∙◌}
use Rattle.gq_value.specs.declared.value.Fraction as fraction
use Rattle.gq_value.specs.Val.{Val, Fraction}
use Rattle.gq_value.specs.declared.kind.Number.TheVariants as number
use Rattle.gq_value.specs.Accums.{Base, Accum, SumAccum, MinAccum, MaxAccum, OrAccum, AndAccum, BitwiseOrAccum, BitwiseAndAccum, AvgAccum, SetAccum, BagAccum, ListAccum, MapAccum, GroupByAccum, HeapAccum, Parts}
use Rattle.gq_accum_laws.specs.After.{fresh}
use Rattle.gq_accum_laws.specs.Holds.{HoldsEach}
use Rattle.gq_accum_laws.specs.Fits.{fits, IsProper}
use Rattle.gq_nest.specs.declared.content.Content.{Content, out-Content}
use Rattle.gq_nest.specs.Forms.{view}
use Rattle.gq_nest.specs.Shows.{Shows}
use Rattle.gq_json.specs.declared.out.Out as json
use Rattle.gq_json.specs.declared.out.Out.TheVariants as out
use Rattle.gq_rules_meaning.specs.Answers.{Gives, Stuck, ◌>>=◌, each}
use Rattle.gq_rules_meaning.specs.Built.{built}
use Rattle.gq_rules_meaning.specs.Expressions.{World}
use Rattle.gq_rules_meaning.specs.Meanings.{Meant, Is, IsAverage, IsContent, IsRow, IsEdge, IsSet, IsMember}
use Rattle.gq_rules_meaning.specs.Outs.{out_content}
use Rattle.gq_rules_meaning.specs.Printing.{out_whole_vertex}
use Rattle.gq_rules_meaning.specs.States.{Slot}
use Rattle.gq_plan_ir.specs.Reference.{Reference}
use Rattle.gq_eval_operand.specs.declared.halt.Halt.{Halt}
use Rattle.gq_eval_operand.specs.Meant.{Halts}
use Rattle.gq_output.specs.Printed.{IsShown, value_shown, content_shown, fresh_shown, meant_shown}
use Rattle.gq_output.specs.Vertices.{whole_shown}
use Rattle.gq_output.proofs.NamedLemmas.{at_get}
use Rattle.gq_output.proofs.ContentLemmas.{sound_shown}
use Rattle.gq_output.proofs.EachLemmas.{EachFrom, each_first, each_next, each_all}
use Rattle.gq_output.proofs.EachSteps.{each_stops, stops}
use Rattle.gq_output.proofs.ListLemmas.{list_value}

module _ (world : World Reference) (slots : List (Slot Reference)) (m : Meant) where
  pub value_meant : (b : Base) (v : Val) (o : json.Out) → m ≡ Is b v → o ≡ value_shown world b v → meant_shown world slots m ≡ Gives o
  value_meant b v o e h = ap (meant_shown world slots) e ∙ ap Gives (sym h)

  pub average_meant : (f : fraction.Fraction) → m ≡ IsAverage (Fraction f.sum f.count) → meant_shown world slots m ≡ Gives (out.Fraction f)
  average_meant f e = ap (meant_shown world slots) e

  pub whole_meant : (k : Accum) (c : Content) (o : json.Out) → m ≡ IsContent k (view k (out-Content c)) → o ≡ content_shown world k c → meant_shown world slots m ≡ Gives o
  whole_meant k c o e h = ap (meant_shown world slots) e ∙ ap Gives (sym h)

  pub opening_meant : (k : Accum) (o : json.Out) → m ≡ IsContent k (fresh k) → o ≡ fresh_shown world k → meant_shown world slots m ≡ Gives o
  opening_meant k o e h = ap (meant_shown world slots) e ∙ ap Gives (sym h)

  pub set_meant : (vs : List ℕ) (os : List json.Out) → m ≡ IsSet vs → each (whole_shown world slots) vs ≡ Gives os → meant_shown world slots m ≡ Gives (out.List os)
  set_meant vs os e h = ap (meant_shown world slots) e ∙ list_value (out_whole_vertex world slots) vs ∙ ap (λ p. p >>= λ qs. Gives (out.List qs)) h

  pub set_stops : (vs : List ℕ) (h : Halt) → m ≡ IsSet vs → Halts (each (whole_shown world slots) vs) h → Halts (meant_shown world slots m) h
  set_stops vs h e g = subst (λ o. Halts o h) (sym (ap (meant_shown world slots) e ∙ list_value (out_whole_vertex world slots) vs)) (stops (each (whole_shown world slots) vs) (λ qs. Gives (out.List qs)) h g)

  -- what isn't printed
  pub row_meant : (ps : Parts) (cs : HoldsEach ps) → m ≡ IsRow ps cs → meant_shown world slots m ≡ Stuck
  row_meant ps cs e = ap (meant_shown world slots) e

  pub edge_meant : (r t : ℕ) → m ≡ IsEdge r t → meant_shown world slots m ≡ Stuck
  edge_meant r t e = ap (meant_shown world slots) e

  pub member_meant : (vs : List ℕ) (b : Base) (v : ℕ) → m ≡ IsMember vs b v → meant_shown world slots m ≡ Stuck
  member_meant vs b v e = ap (meant_shown world slots) e

pub ruleset seen_laws = (value_meant, average_meant, whole_meant, opening_meant, set_meant, set_stops, row_meant, edge_meant, member_meant, sound_shown)

-- ---- collections before any input

fits_fresh : (k : Accum) → fits k (fresh k) ≡ true
fits_fresh (SumAccum number.Int) = refl
fits_fresh (SumAccum number.UInt) = refl
fits_fresh (MinAccum n) = refl
fits_fresh (MaxAccum n) = refl
fits_fresh OrAccum = refl
fits_fresh AndAccum = refl
fits_fresh BitwiseOrAccum = refl
fits_fresh BitwiseAndAccum = refl
fits_fresh AvgAccum = refl
fits_fresh (SetAccum b) = refl
fits_fresh (BagAccum b) = refl
fits_fresh (ListAccum b) = refl
fits_fresh (MapAccum b k) = refl
fits_fresh (GroupByAccum keys ps) = refl
fits_fresh (HeapAccum b n by) = refl

pub fresh_is : (k : Accum) (c : Content) → Shows k c (fresh k) → IsShown k c
fresh_is k c s = record { shows = record { of_kind = s.of_kind; holds = refl; proper = subst (IsProper k) (sym s.holds) s.proper }; within = ap (fits k) s.holds ∙ fits_fresh k }

pub fresh_told : (world : World Reference) (k : Accum) (c : Content) (o : json.Out) → Shows k c (fresh k) → o ≡ content_shown world k c → o ≡ fresh_shown world k
fresh_told world k c o s e = e ∙ ap (λ h. built (out_content world k h)) s.holds

pub ruleset opening_laws = (fresh_is, fresh_told)

-- ---- sets

module _ (world : World Reference) (slots : List (Slot Reference)) where
  pub set_first : (vs : List ℕ) → EachFrom (whole_shown world slots) vs 0 []
  set_first vs = each_first (whole_shown world slots) vs

  pub set_next : (vs : List ℕ) (i v : ℕ) (done new : List json.Out) (o : json.Out) → EachFrom (whole_shown world slots) vs i done → i < length vs → v ≡ get_or vs i v → whole_shown world slots v ≡ Gives o → new ≡ done ++ o ∷ [] → EachFrom (whole_shown world slots) vs (i + 1) new
  set_next vs i v done new o inv l e h is = each_next (whole_shown world slots) vs i v done new o inv (at_get vs i v l e) h is

  pub set_stopped : (vs : List ℕ) (i v : ℕ) (done : List json.Out) (h : Halt) → EachFrom (whole_shown world slots) vs i done → i < length vs → v ≡ get_or vs i v → Halts (whole_shown world slots v) h → Halts (each (whole_shown world slots) vs) h
  set_stopped vs i v done h inv l e g = each_stops (whole_shown world slots) vs i v done h inv (at_get vs i v l e) g

  pub set_all : (vs : List ℕ) (i : ℕ) (done : List json.Out) → EachFrom (whole_shown world slots) vs i done → length vs ≤ i → each (whole_shown world slots) vs ≡ Gives done
  set_all vs i done inv l = each_all (whole_shown world slots) vs i done inv l

pub ruleset set_laws = (set_first, set_next, set_stopped, set_all)
