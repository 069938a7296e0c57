-- RunLemmas: how the meaning of an expression continues from that of its first part.
use Rattle.std.proofs.Common.{◌≡◌, ℕ, zero, suc, ◌+◌, Bool, true, false, List, [], ◌∷◌, ◌++◌, drop, map, Option, Some, None, Result, refl, sym, ap, subst, ◌∙◌}
use Rattle.std.specs.List.{slice_get}
use Rattle.std.proofs.lemmas.List.{append_assoc, append-nil, drop_more}
use Rattle.std.proofs.lemmas.Option.{slice_get_within, get_or_from_slice_get}
use Rattle.gq_tree.specs.declared.expr.AddSign.{AddSign}
use Rattle.gq_tree.specs.declared.expr.MulSign.{MulSign}
use Rattle.gq_tree.specs.declared.expr.CmpSign.{CmpSign}
use Rattle.gq_tree.specs.Tree.{Tree, Behind, Trees, Parts, Factors, Terms, Post, Neg, Mul, Sum, Cmp, Not, And, Or, Attached, Before, no_tree, tree, part, factor, term}
use Rattle.gq_value.specs.declared.value.Wrong.{Wrong}
use Rattle.gq_value.specs.Val.{Val}
use Rattle.gq_value.specs.Accums.{Base}
use Rattle.gq_rules_meaning.specs.Answers.{Answer, Gives, Faults, Stuck, ◌>>=◌}
use Rattle.gq_rules_meaning.specs.Meanings.{Meant, Outcome, value_of_meant, vertex_of_meant, as_truth, converted_to, truly}
use Rattle.gq_rules_meaning.specs.Expressions.{Look, meaning, arguments, value_of, truth_of, meaning_parts, meaning_part, meaning_factors, meaning_terms, meaning_all, meaning_any, minus, nots, product, summed, compared}
use Rattle.gq_eval_operand.specs.declared.halt.Halt.{Halt}
use Rattle.gq_eval_operand.specs.Meant.{Halts, Tells}
use Rattle.gq_eval_builtins.proofs.TimeLemmas.{stops}
use Rattle.gq_eval_builtins.specs.Steps.{true_meant, times_meaning, plus_meaning}

-- ---- answers

pub goes : {A B C : Type 0} (view : C → B) (o : Answer Wrong A) (f : A → Answer Wrong B) (a : A) (r : Result C Halt) → o ≡ Gives a → Tells view (f a) r → Tells view (o >>= f) r
goes view o f a r e t = subst (λ o. Tells view (o >>= f) r) (sym e) t

joined : {A B C : Type 0} (o : Answer Wrong A) (f : A → Answer Wrong B) (g : B → Answer Wrong C) → (o >>= λ a. f a >>= g) ≡ ((o >>= f) >>= g)
joined (Gives a) f g = refl
joined (Faults w) f g = refl
joined Stuck f g = refl

module _ {N : Type 0} (look : Look N) where
  -- ---- one operand

  pub post_stops : (t : Tree N) (ps : Parts N) (h : Halt) → Halts (meaning look t) h → Halts (meaning look (Post t ps)) h
  post_stops t ps h s = stops (meaning look t) _ h s

  pub post_goes : {C : Type 0} (view : C → Meant) (t : Tree N) (ps : Parts N) (m : Meant) (r : Result C Halt) → meaning look t ≡ Gives m → Tells view (meaning_parts look m ps) r → Tells view (meaning look (Post t ps)) r
  post_goes view t ps m r e s = goes view (meaning look t) _ m r e s

  pub mul_stops : (t : Tree N) (fs : Factors N) (h : Halt) → Halts (meaning look t) h → Halts (meaning look (Mul t fs)) h
  mul_stops t fs h s = stops (meaning look t) _ h s

  pub mul_goes : {C : Type 0} (view : C → Meant) (t : Tree N) (fs : Factors N) (m : Meant) (r : Result C Halt) → meaning look t ≡ Gives m → Tells view (meaning_factors look m fs) r → Tells view (meaning look (Mul t fs)) r
  mul_goes view t fs m r e s = goes view (meaning look t) _ m r e s

  pub sum_stops : (t : Tree N) (ts : Terms N) (h : Halt) → Halts (meaning look t) h → Halts (meaning look (Sum t ts)) h
  sum_stops t ts h s = stops (meaning look t) _ h s

  pub sum_goes : {C : Type 0} (view : C → Meant) (t : Tree N) (ts : Terms N) (m : Meant) (r : Result C Halt) → meaning look t ≡ Gives m → Tells view (meaning_terms look m ts) r → Tells view (meaning look (Sum t ts)) r
  sum_goes view t ts m r e s = goes view (meaning look t) _ m r e s

  pub neg_stops : (n : ℕ) (t : Tree N) (h : Halt) → Halts (value_of look t) h → Halts (meaning look (Neg n t)) h
  neg_stops n t h s = stops (value_of look t) (minus n) h s

  pub neg_goes : {C : Type 0} (view : C → Meant) (n : ℕ) (t : Tree N) (v : Val) (r : Result C Halt) → value_of look t ≡ Gives v → Tells view (minus n v) r → Tells view (meaning look (Neg n t)) r
  neg_goes view n t v r e s = goes view (value_of look t) (minus n) v r e s

  pub not_stops : (n : ℕ) (t : Tree N) (h : Halt) → Halts (truth_of look t) h → Halts (meaning look (Not n t)) h
  not_stops n t h s = stops (truth_of look t) (λ b. truly (nots n b)) h s

  pub not_goes : {C : Type 0} (view : C → Meant) (n : ℕ) (t : Tree N) (b : Bool) (r : Result C Halt) → truth_of look t ≡ Gives b → Tells view (truly (nots n b)) r → Tells view (meaning look (Not n t)) r
  not_goes view n t b r e s = goes view (truth_of look t) (λ b. truly (nots n b)) b r e s

  pub value_stops : (t : Tree N) (h : Halt) → Halts (meaning look t) h → Halts (value_of look t) h
  value_stops t h s = stops (meaning look t) value_of_meant h s

  pub value_goes : {C : Type 0} (view : C → Val) (t : Tree N) (m : Meant) (r : Result C Halt) → meaning look t ≡ Gives m → Tells view (value_of_meant m) r → Tells view (value_of look t) r
  value_goes view t m r e s = goes view (meaning look t) value_of_meant m r e s

  pub truth_stops : (t : Tree N) (h : Halt) → Halts (value_of look t) h → Halts (truth_of look t) h
  truth_stops t h s = stops (value_of look t) as_truth h s

  pub truth_goes : {C : Type 0} (view : C → Bool) (t : Tree N) (v : Val) (r : Result C Halt) → value_of look t ≡ Gives v → Tells view (as_truth v) r → Tells view (truth_of look t) r
  truth_goes view t v r e s = goes view (value_of look t) as_truth v r e s

  -- ---- two operands

  pub cmp_first : (s : Tree N) (sign : CmpSign) (t : Tree N) (h : Halt) → Halts (value_of look s) h → Halts (meaning look (Cmp s sign t)) h
  cmp_first s sign t h p = stops (value_of look s) _ h p

  pub cmp_second : (s : Tree N) (sign : CmpSign) (t : Tree N) (v : Val) (h : Halt) → value_of look s ≡ Gives v → Halts (value_of look t) h → Halts (meaning look (Cmp s sign t)) h
  cmp_second s sign t v h e p = subst (λ o. Halts (o >>= λ v. value_of look t >>= compared sign v) h) (sym e) (stops (value_of look t) (compared sign v) h p)

  pub cmp_goes : {C : Type 0} (view : C → Meant) (s : Tree N) (sign : CmpSign) (t : Tree N) (v w : Val) (r : Result C Halt) → value_of look s ≡ Gives v → value_of look t ≡ Gives w → Tells view (compared sign v w) r → Tells view (meaning look (Cmp s sign t)) r
  cmp_goes view s sign t v w r e f p = goes view (value_of look s) _ v r e (goes view (value_of look t) (compared sign v) w r f p)

  pub times_first : (m : Meant) (sign : MulSign) (t : Tree N) (h : Halt) → Halts (value_of_meant m) h → Halts (times_meaning look m sign t) h
  times_first m sign t h p = stops (value_of_meant m) _ h p

  pub times_second : (m : Meant) (sign : MulSign) (t : Tree N) (v : Val) (h : Halt) → value_of_meant m ≡ Gives v → Halts (value_of look t) h → Halts (times_meaning look m sign t) h
  times_second m sign t v h e p = subst (λ o. Halts (o >>= λ v. value_of look t >>= product sign v) h) (sym e) (stops (value_of look t) (product sign v) h p)

  pub times_goes : {C : Type 0} (view : C → Meant) (m : Meant) (sign : MulSign) (t : Tree N) (v w : Val) (r : Result C Halt) → value_of_meant m ≡ Gives v → value_of look t ≡ Gives w → Tells view (product sign v w) r → Tells view (times_meaning look m sign t) r
  times_goes view m sign t v w r e f p = goes view (value_of_meant m) _ v r e (goes view (value_of look t) (product sign v) w r f p)

  pub plus_first : (m : Meant) (sign : AddSign) (t : Tree N) (h : Halt) → Halts (value_of_meant m) h → Halts (plus_meaning look m sign t) h
  plus_first m sign t h p = stops (value_of_meant m) _ h p

  pub plus_second : (m : Meant) (sign : AddSign) (t : Tree N) (v : Val) (h : Halt) → value_of_meant m ≡ Gives v → Halts (value_of look t) h → Halts (plus_meaning look m sign t) h
  plus_second m sign t v h e p = subst (λ o. Halts (o >>= λ v. value_of look t >>= summed sign v) h) (sym e) (stops (value_of look t) (summed sign v) h p)

  pub plus_goes : {C : Type 0} (view : C → Meant) (m : Meant) (sign : AddSign) (t : Tree N) (v w : Val) (r : Result C Halt) → value_of_meant m ≡ Gives v → value_of look t ≡ Gives w → Tells view (summed sign v w) r → Tells view (plus_meaning look m sign t) r
  plus_goes view m sign t v w r e f p = goes view (value_of_meant m) _ v r e (goes view (value_of look t) (summed sign v) w r f p)

  -- ---- chains

  pub factor_stops : (m : Meant) (sign : MulSign) (t : Tree N) (fs : Factors N) (h : Halt) → Halts (times_meaning look m sign t) h → Halts (meaning_factors look m (factor sign t fs)) h
  factor_stops m sign t fs h p = subst (λ o. Halts o h) (sym (joined (value_of_meant m) (λ v. value_of look t >>= product sign v) (λ n. meaning_factors look n fs))) (stops (times_meaning look m sign t) (λ n. meaning_factors look n fs) h p)

  pub factor_goes : (m : Meant) (sign : MulSign) (t : Tree N) (fs : Factors N) (n : Meant) → times_meaning look m sign t ≡ Gives n → meaning_factors look m (factor sign t fs) ≡ meaning_factors look n fs
  factor_goes m sign t fs n e = joined (value_of_meant m) (λ v. value_of look t >>= product sign v) (λ n. meaning_factors look n fs) ∙ ap (λ o. o >>= λ n. meaning_factors look n fs) e

  pub term_stops : (m : Meant) (sign : AddSign) (t : Tree N) (ts : Terms N) (h : Halt) → Halts (plus_meaning look m sign t) h → Halts (meaning_terms look m (term sign t ts)) h
  term_stops m sign t ts h p = subst (λ o. Halts o h) (sym (joined (value_of_meant m) (λ v. value_of look t >>= summed sign v) (λ n. meaning_terms look n ts))) (stops (plus_meaning look m sign t) (λ n. meaning_terms look n ts) h p)

  pub term_goes : (m : Meant) (sign : AddSign) (t : Tree N) (ts : Terms N) (n : Meant) → plus_meaning look m sign t ≡ Gives n → meaning_terms look m (term sign t ts) ≡ meaning_terms look n ts
  term_goes m sign t ts n e = joined (value_of_meant m) (λ v. value_of look t >>= summed sign v) (λ n. meaning_terms look n ts) ∙ ap (λ o. o >>= λ n. meaning_terms look n ts) e

  pub part_stops : (m : Meant) (p : Behind N) (ps : Parts N) (h : Halt) → Halts (meaning_part look m p) h → Halts (meaning_parts look m (part p ps)) h
  part_stops m p ps h s = stops (meaning_part look m p) _ h s

  pub part_goes : (m : Meant) (p : Behind N) (ps : Parts N) (n : Meant) → meaning_part look m p ≡ Gives n → meaning_parts look m (part p ps) ≡ meaning_parts look n ps
  part_goes m p ps n e = ap (λ o. o >>= λ n. meaning_parts look n ps) e

  -- ---- AND and OR

  all_first : (m : Meant) (b : Bool) (ts : Trees N) → (value_of_meant m >>= as_truth) ≡ Gives b → meaning_all look m ts ≡ meaning_all look (true_meant b) ts
  all_first m b no_tree e = ap (λ o. o >>= truly) e
  all_first m b (tree t ts) e = ap (λ o. o >>= elim [ true ↦ meaning look t >>= λ n. meaning_all look n ts | false ↦ truly false ]) e

  any_first : (m : Meant) (b : Bool) (ts : Trees N) → (value_of_meant m >>= as_truth) ≡ Gives b → meaning_any look m ts ≡ meaning_any look (true_meant b) ts
  any_first m b no_tree e = ap (λ o. o >>= truly) e
  any_first m b (tree t ts) e = ap (λ o. o >>= elim [ true ↦ truly true | false ↦ meaning look t >>= λ n. meaning_any look n ts ]) e

  all_from : (o : Outcome) (b : Bool) (ts : Trees N) → (o >>= value_of_meant >>= as_truth) ≡ Gives b → (o >>= λ m. meaning_all look m ts) ≡ meaning_all look (true_meant b) ts
  all_from (Gives m) b ts e = all_first m b ts e
  all_from (Faults w) b ts e = absurd (cc)
  all_from Stuck b ts e = absurd (cc)

  any_from : (o : Outcome) (b : Bool) (ts : Trees N) → (o >>= value_of_meant >>= as_truth) ≡ Gives b → (o >>= λ m. meaning_any look m ts) ≡ meaning_any look (true_meant b) ts
  any_from (Gives m) b ts e = any_first m b ts e
  any_from (Faults w) b ts e = absurd (cc)
  any_from Stuck b ts e = absurd (cc)

  all_halts : (m : Meant) (ts : Trees N) (h : Halt) → Halts (value_of_meant m >>= as_truth) h → Halts (meaning_all look m ts) h
  all_halts m no_tree h p = stops (value_of_meant m >>= as_truth) _ h p
  all_halts m (tree t ts) h p = stops (value_of_meant m >>= as_truth) _ h p

  any_halts : (m : Meant) (ts : Trees N) (h : Halt) → Halts (value_of_meant m >>= as_truth) h → Halts (meaning_any look m ts) h
  any_halts m no_tree h p = stops (value_of_meant m >>= as_truth) _ h p
  any_halts m (tree t ts) h p = stops (value_of_meant m >>= as_truth) _ h p

  outcome_halts : {A : Type 0} (o : Outcome) (f : Meant → Answer Wrong Bool) (g : Meant → Answer Wrong A) (h : Halt) → ((m : Meant) → Halts (f m) h → Halts (g m) h) → Halts (o >>= f) h → Halts (o >>= g) h
  outcome_halts (Gives m) f g h each p = each m p
  outcome_halts (Faults w) f g h each p = stops {A = Bool} (Faults w) (λ b. Stuck) h p
  outcome_halts Stuck f g h each p = stops {A = Bool} Stuck (λ b. Stuck) h p

  bool_joined : (t : Tree N) → truth_of look t ≡ (meaning look t >>= λ m. value_of_meant m >>= as_truth)
  bool_joined t = sym (joined (meaning look t) value_of_meant as_truth)

  pub and_stops : (t : Tree N) (ts : Trees N) (h : Halt) → Halts (truth_of look t) h → Halts (meaning look (And t ts)) h
  and_stops t ts h p = outcome_halts (meaning look t) _ _ h (λ m q. all_halts m ts h q) (subst (λ o. Halts o h) (bool_joined t) p)

  pub or_stops : (t : Tree N) (ts : Trees N) (h : Halt) → Halts (truth_of look t) h → Halts (meaning look (Or t ts)) h
  or_stops t ts h p = outcome_halts (meaning look t) _ _ h (λ m q. any_halts m ts h q) (subst (λ o. Halts o h) (bool_joined t) p)

  pub and_goes : {C : Type 0} (view : C → Meant) (t : Tree N) (ts : Trees N) (b : Bool) (r : Result C Halt) → truth_of look t ≡ Gives b → Tells view (meaning_all look (true_meant b) ts) r → Tells view (meaning look (And t ts)) r
  and_goes view t ts b r e p = subst (λ o. Tells view o r) (sym (all_from (meaning look t) b ts e)) p

  pub or_goes : {C : Type 0} (view : C → Meant) (t : Tree N) (ts : Trees N) (b : Bool) (r : Result C Halt) → truth_of look t ≡ Gives b → Tells view (meaning_any look (true_meant b) ts) r → Tells view (meaning look (Or t ts)) r
  or_goes view t ts b r e p = subst (λ o. Tells view o r) (sym (any_from (meaning look t) b ts e)) p

  pub all_next_stops : (t : Tree N) (ts : Trees N) (h : Halt) → Halts (truth_of look t) h → Halts (meaning_all look (true_meant true) (tree t ts)) h
  all_next_stops t ts h p = and_stops t ts h p

  pub any_next_stops : (t : Tree N) (ts : Trees N) (h : Halt) → Halts (truth_of look t) h → Halts (meaning_any look (true_meant false) (tree t ts)) h
  any_next_stops t ts h p = or_stops t ts h p

  pub all_next : (t : Tree N) (ts : Trees N) (b : Bool) → truth_of look t ≡ Gives b → meaning_all look (true_meant true) (tree t ts) ≡ meaning_all look (true_meant b) ts
  all_next t ts b e = all_from (meaning look t) b ts e

  pub any_next : (t : Tree N) (ts : Trees N) (b : Bool) → truth_of look t ≡ Gives b → meaning_any look (true_meant false) (tree t ts) ≡ meaning_any look (true_meant b) ts
  any_next t ts b e = any_from (meaning look t) b ts e

  -- ---- vertices

  pub attached_stops : (m : Meant) (a : N) (h : Halt) → Halts (vertex_of_meant m) h → Halts (meaning_part look m (Attached a)) h
  attached_stops m a h p = stops (vertex_of_meant m) _ h p

  pub attached_goes : {C : Type 0} (view : C → Meant) (m : Meant) (a : N) (v : ℕ) (r : Result C Halt) → vertex_of_meant m ≡ Gives v → Tells view (look.attached a v) r → Tells view (meaning_part look m (Attached a)) r
  attached_goes view m a v r e p = goes view (vertex_of_meant m) (look.attached a) v r e p

  pub before_stops : (m : Meant) (a : N) (h : Halt) → Halts (vertex_of_meant m) h → Halts (meaning_part look m (Before a)) h
  before_stops m a h p = stops (vertex_of_meant m) _ h p

  pub before_goes : {C : Type 0} (view : C → Meant) (m : Meant) (a : N) (v : ℕ) (r : Result C Halt) → vertex_of_meant m ≡ Gives v → Tells view (look.before a v) r → Tells view (meaning_part look m (Before a)) r
  before_goes view m a v r e p = goes view (vertex_of_meant m) (look.before a) v r e p

  -- ---- rows of arguments

  -- the results so far, with the remaining ones
  abbrev pub after : List Val → Answer Wrong (List Val) → Answer Wrong (List Val)
  after done o = o >>= λ rest. Gives (done ++ rest)

  pub after_none : (o : Answer Wrong (List Val)) → o ≡ after [] o
  after_none (Gives vs) = refl
  after_none (Faults w) = refl
  after_none Stuck = refl

  after_one : (done : List Val) (v : Val) (o : Answer Wrong (List Val)) → after done (o >>= λ vs. Gives (v ∷ vs)) ≡ after (done ++ v ∷ []) o
  after_one done v (Gives vs) = ap Gives (sym (append_assoc done (v ∷ []) vs))
  after_one done v (Faults w) = refl
  after_one done v Stuck = refl

  no_more : (ws : List Base) (i : ℕ) → slice_get ws i ≡ None → drop i ws ≡ []
  no_more [] zero e = refl
  no_more [] (suc i) e = refl
  no_more (w ∷ ws) zero e = absurd (cc)
  no_more (w ∷ ws) (suc i) e = no_more ws i e

  one_more : (ws : List Base) (i : ℕ) (b : Base) → slice_get ws i ≡ Some b → drop i ws ≡ b ∷ drop (i + 1) ws
  one_more ws i b e = drop_more ws i b (slice_get_within ws i b e) ∙ ap (λ x. x ∷ drop (i + 1) ws) (get_or_from_slice_get ws i b b e)

  pub after_all : (done : List Val) (ws : List (Option Base)) → after done (arguments look ws no_tree) ≡ Gives done
  after_all done ws = ap Gives (append-nil done)

  pub row_stuck : (ws : List Base) (i : ℕ) (t : Tree N) (ts : Trees N) (done : List Val) → slice_get ws i ≡ None → after done (arguments look (map Some (drop i ws)) (tree t ts)) ≡ Stuck
  row_stuck ws i t ts done e = ap (λ ws. after done (arguments look (map Some ws) (tree t ts))) (no_more ws i e)

  next_is : (ws : List Base) (i : ℕ) (b : Base) (t : Tree N) (ts : Trees N) (done : List Val) → slice_get ws i ≡ Some b
      → after done (arguments look (map Some (drop i ws)) (tree t ts)) ≡ after done (value_of look t >>= λ v. converted_to b v >>= λ u. arguments look (map Some (drop (i + 1) ws)) ts >>= λ vs. Gives (u ∷ vs))
  next_is ws i b t ts done e = ap (λ ws. after done (arguments look (map Some ws) (tree t ts))) (one_more ws i b e)
      ∙ ap (after done) (sym (joined (value_of look t) (converted_to b) (λ u. arguments look (map Some (drop (i + 1) ws)) ts >>= λ vs. Gives (u ∷ vs))))

  pub row_value_stops : (ws : List Base) (i : ℕ) (b : Base) (t : Tree N) (ts : Trees N) (done : List Val) (h : Halt) → slice_get ws i ≡ Some b → Halts (value_of look t) h → Halts (after done (arguments look (map Some (drop i ws)) (tree t ts))) h
  row_value_stops ws i b t ts done h e p = subst (λ o. Halts o h) (sym (next_is ws i b t ts done e)) (stops _ _ h (stops (value_of look t) _ h p))

  pub row_converted_stops : (ws : List Base) (i : ℕ) (b : Base) (t : Tree N) (ts : Trees N) (done : List Val) (v : Val) (h : Halt) → slice_get ws i ≡ Some b → value_of look t ≡ Gives v → Halts (converted_to b v) h
      → Halts (after done (arguments look (map Some (drop i ws)) (tree t ts))) h
  row_converted_stops ws i b t ts done v h e f p = subst (λ o. Halts o h) (sym (next_is ws i b t ts done e))
      (subst (λ o. Halts (after done (o >>= λ v. converted_to b v >>= λ u. arguments look (map Some (drop (i + 1) ws)) ts >>= λ vs. Gives (u ∷ vs))) h) (sym f) (stops _ _ h (stops (converted_to b v) _ h p)))

  pub row_next : (ws : List Base) (i : ℕ) (b : Base) (t : Tree N) (ts : Trees N) (done : List Val) (v u : Val) → slice_get ws i ≡ Some b → value_of look t ≡ Gives v → converted_to b v ≡ Gives u
      → after done (arguments look (map Some (drop i ws)) (tree t ts)) ≡ after (done ++ u ∷ []) (arguments look (map Some (drop (i + 1) ws)) ts)
  row_next ws i b t ts done v u e f g = next_is ws i b t ts done e
      ∙ ap (λ o. after done (o >>= λ v. converted_to b v >>= λ u. arguments look (map Some (drop (i + 1) ws)) ts >>= λ vs. Gives (u ∷ vs))) f
      ∙ ap (λ o. after done (o >>= λ u. arguments look (map Some (drop (i + 1) ws)) ts >>= λ vs. Gives (u ∷ vs))) g
      ∙ after_one done u (arguments look (map Some (drop (i + 1) ws)) ts)

pub ruleset run_laws = (post_stops, post_goes, mul_stops, mul_goes, sum_stops, sum_goes, neg_stops, neg_goes, not_stops, not_goes, and_stops, and_goes, or_stops, or_goes, value_stops, value_goes, truth_stops, truth_goes)

pub ruleset cmp_laws = (cmp_first, cmp_second, cmp_goes)

pub ruleset step_laws = (times_first, times_second, times_goes, plus_first, plus_second, plus_goes)

pub ruleset chain_laws = (factor_stops, factor_goes, term_stops, term_goes, part_stops, part_goes)

pub ruleset truth_laws = (all_next_stops, any_next_stops, all_next, any_next)

pub ruleset part_laws = (attached_stops, attached_goes, before_stops, before_goes)

pub ruleset row_laws = (after_none, after_all, row_stuck, row_value_stops, row_converted_stops, row_next)
