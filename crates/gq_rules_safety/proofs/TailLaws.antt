-- TailLaws: HAVING, ORDER BY and LIMIT of a typed SELECT are never stuck, and leave vertices out of those that are matched, each once.
use Rattle.std.proofs.Common.{◌≡◌, ℕ, zero, suc, Bool, true, false, List, [], ◌∷◌, map, take, arith, Option, Some, None, Ok, refl, ap, sym, ◌∙◌, subst}
use Rattle.std.proofs.lemmas.Bool.Decides.{nat_tests}
use Rattle.std.specs.Prelude.{not, ◌||◌, ◌==◌, if◌then◌else◌, ℤ, pos, negsuc}
use Rattle.std.specs.List.{list_all}
use Rattle.std.specs.declared.cmp.Ordering.{Ordering}
use Rattle.std.specs.declared.cmp.Ordering.TheVariants.{Less, Equal, Greater}
use Rattle.gq_tree.specs.Tree.{Tree}
use Rattle.gq_value.specs.Val.{Val}
use Rattle.gq_graph.specs.Candidates.{among}
use Rattle.gq_accum_laws.specs.Gather.{choose, twice, put, sorted}
use Rattle.gq_rules_typing.specs.Selecting.{Select}
use Rattle.gq_rules_typing.specs.Judging.{Typed, Of, Average, each_judged, Mismatch}
use Rattle.gq_rules_typing.specs.ExpressionTypes.{Names, typing, condition, number}
use Rattle.gq_rules_typing.specs.SelectTypes.{optional, is_sortable, sort_key}
use Rattle.gq_rules_meaning.specs.Answers.{Answer, Gives, Faults, blaming, each}
use Rattle.gq_rules_meaning.specs.Answers as answers
use Rattle.gq_rules_meaning.specs.Graphs.{vertex_count}
use Rattle.gq_rules_meaning.specs.Meanings.{Meant, Is, IsAverage, value_of_meant}
use Rattle.gq_rules_meaning.specs.Expressions.{World, Look, meaning, value_of, number_of}
use Rattle.gq_rules_meaning.specs.Blocks.{AtPlace, passes}
use Rattle.gq_rules_meaning.specs.Tails.{Ranked, passing, ranked, in_order, at_most, cut}
use Rattle.gq_rules_meaning.specs.Fitting.{Safe, Suits}
use Rattle.gq_rules_meaning.specs.StateFits.{no_repeats}
use Rattle.gq_rules_meaning.specs.Laws.{LookFits}
use Rattle.gq_rules_meaning.proofs.AnswerLaws.{safe_then, safe_with, safe_blaming, then_ok, after_ok, unless_ok, and_ok, both_ok}
use Rattle.gq_rules_meaning.proofs.NeverStuck.{never_stuck}
use Rattle.gq_rules_safety.proofs.ValueLaws.{condition_safe, number_of_safe}

-- ---- lists that leave something out

or_first : (p q : Bool) → (p || q) ≡ false → (p ≡ false) × (q ≡ false)
or_first true q h = absurd (cc h)
or_first false q h = (refl, h)

or_both : (p q : Bool) → p ≡ false → q ≡ false → (p || q) ≡ false
or_both p q h g = cc

-- an element that isn't in the one list isn't in the other, and a property of all elements of the one holds of the
-- other
record Leaves (p : ℕ → Bool) (xs ys : List ℕ) : Type 0 where
  all : list_all p xs ≡ true → list_all p ys ≡ true
  missing : (t : ℕ) → among xs t ≡ false → among ys t ≡ false
  once : no_repeats xs ≡ true → no_repeats ys ≡ true

leaves_then : (p : ℕ → Bool) (xs ys zs : List ℕ) → Leaves p xs ys → Leaves p ys zs → Leaves p xs zs
leaves_then p xs ys zs h g = record { all = λ a. g.all (h.all a); missing = λ t m. g.missing t (h.missing t m); once = λ o. g.once (h.once o) }

leaves_same : (p : ℕ → Bool) (xs : List ℕ) → Leaves p xs xs
leaves_same p xs = record { all = λ a. a; missing = λ t m. m; once = λ o. o }

untrue : (b : Bool) → not b ≡ true → b ≡ false
untrue true h = cc
untrue false h = refl

leaves_first : (p : ℕ → Bool) (x : ℕ) (xs ys : List ℕ) → Leaves p xs ys → Leaves p (x ∷ xs) (x ∷ ys)
leaves_first p x xs ys h = record {
  all = λ a. let w = and_ok (p x) _ a in both_ok (p x) (list_all p ys) w.0 (h.all w.1);
  missing = λ t m. let w = or_first (x == t) _ m in or_both (x == t) _ w.0 (h.missing t w.1);
  once = λ o. let w = and_ok (not (among xs x)) _ o in both_ok (not (among ys x)) (no_repeats ys) (ap not (h.missing x (untrue (among xs x) w.0))) (h.once w.1);
}

leaves_out : (p : ℕ → Bool) (x : ℕ) (xs ys : List ℕ) → Leaves p xs ys → Leaves p (x ∷ xs) ys
leaves_out p x xs ys h = record {
  all = λ a. h.all (and_ok (p x) _ a).1;
  missing = λ t m. h.missing t (or_first (x == t) _ m).1;
  once = λ o. h.once (and_ok (not (among xs x)) _ o).1;
}

leaves_swap : (p : ℕ → Bool) (x y : ℕ) (xs ys : List ℕ) → Leaves p (x ∷ xs) ys → Leaves p (x ∷ y ∷ xs) (y ∷ ys)
leaves_swap p x y xs ys h = record {
  all = λ a. let w = and_ok (p x) _ a in let u = and_ok (p y) _ w.1 in both_ok (p y) (list_all p ys) u.0 (h.all (both_ok (p x) (list_all p xs) w.0 u.1));
  missing = λ t m. let w = or_first (x == t) _ m in let u = or_first (y == t) _ w.1 in or_both (y == t) _ u.0 (h.missing t (or_both (x == t) _ w.0 u.1));
  once = λ o.
      let w = and_ok (not (among (y ∷ xs) x)) _ o in let u = and_ok (not (among xs y)) _ w.1 in let a = or_first (y == x) _ (untrue (among (y ∷ xs) x) w.0) in
      both_ok (not (among ys y)) (no_repeats ys) (ap not (h.missing y (or_both (x == y) _ (turned y x a.0) (untrue (among xs y) u.0)))) (h.once (both_ok (not (among xs x)) (no_repeats xs) (ap not a.1) u.1));
}
  where
    turned : (m n : ℕ) → (m == n) ≡ false → (n == m) ≡ false
    turned m n h = grind (arith, nat_tests)

takes_leave : (p : ℕ → Bool) (n : ℕ) (xs : List ℕ) → Leaves p xs (take n xs)
takes_leave p zero [] = leaves_same p []
takes_leave p zero (x ∷ xs) = leaves_out p x xs [] (takes_leave p zero xs)
takes_leave p (suc n) [] = leaves_same p []
takes_leave p (suc n) (x ∷ xs) = leaves_first p x xs (take n xs) (takes_leave p n xs)

nothing_left : (p : ℕ → Bool) (xs : List ℕ) → Leaves p xs []
nothing_left p [] = leaves_same p []
nothing_left p (x ∷ xs) = leaves_out p x xs [] (nothing_left p xs)

at_most_leaves : (p : ℕ → Bool) (n : ℤ) (xs : List ℕ) → Leaves p xs (at_most n xs)
at_most_leaves p (pos n) xs = takes_leave p n xs
at_most_leaves p (negsuc n) xs = nothing_left p xs

abbrev vertices : List Ranked → List ℕ
vertices rs = map (λ (r : Ranked). r.vertex) rs

put_leaves : (p : ℕ → Bool) (cmp : Ranked → Ranked → Ordering) (r : Ranked) (rs : List Ranked) → Leaves p (r.vertex ∷ vertices rs) (vertices (put cmp true r rs))
put_leaves p cmp r [] = leaves_same p (r.vertex ∷ [])
put_leaves p cmp r (q ∷ rs) = go (cmp r q) (put_leaves p cmp r rs)
  where
    go : (o : Ordering) → Leaves p (r.vertex ∷ vertices rs) (vertices (put cmp true r rs)) → Leaves p (r.vertex ∷ q.vertex ∷ vertices rs) (vertices (choose o (r ∷ q ∷ rs) (twice true r (q ∷ rs)) (q ∷ put cmp true r rs)))
    go Less h = leaves_same p (r.vertex ∷ q.vertex ∷ vertices rs)
    go Equal h = leaves_same p (r.vertex ∷ q.vertex ∷ vertices rs)
    go Greater h = leaves_swap p r.vertex q.vertex (vertices rs) (vertices (put cmp true r rs)) h

sorted_leaves : (p : ℕ → Bool) (cmp : Ranked → Ranked → Ordering) (rs : List Ranked) → Leaves p (vertices rs) (vertices (sorted cmp rs))
sorted_leaves p cmp [] = leaves_same p []
sorted_leaves p cmp (r ∷ rs) = leaves_then p (r.vertex ∷ vertices rs) (r.vertex ∷ vertices (sorted cmp rs)) (vertices (put cmp true r (sorted cmp rs))) (leaves_first p r.vertex (vertices rs) (vertices (sorted cmp rs)) (sorted_leaves p cmp rs)) (put_leaves p cmp r (sorted cmp rs))

module _ {N : Type 0} (world : World N) (p : ℕ → Bool) where
  -- ---- keys

  sortable_value : (ty : Typed) (m : Meant) → is_sortable ty ≡ true → Suits world ty m → Safe (λ (v : Val). Unit {0}) (value_of_meant m)
  sortable_value ty (Is b v) e h = tt
  sortable_value ty (IsAverage v) e h = tt
  sortable_value (Of b) m e h = absurd h
  sortable_value Average m e h = absurd h
  sortable_value ty m e h = cc

module _ {N : Type 0} (world : World N) (p : ℕ → Bool) (names limits : Names N) (look : ℕ → Look N) where
  -- an expression of a vertex that passes
  abbrev Sees : Type 0
  Sees = (v : ℕ) → p v ≡ true → LookFits names (look v)

  keys_safe : Sees → (v : ℕ) → p v ≡ true → (order : List (Tree N × Bool)) (qs : List Bool) → each_judged (sort_key names) order ≡ Ok qs → Safe (λ (ks : List Val). Unit {0}) (each (λ key. value_of (look v) key.0) order)
  keys_safe sees v h [] qs e = tt
  keys_safe sees v h (key ∷ order) qs e =
      let u = then_ok (sort_key names key) _ qs e in let ty = then_ok (typing names key.0) _ u.0 u.1 in let r = then_ok (each_judged (sort_key names) order) _ qs u.2 in
      safe_then (λ (v : Val). Unit {0}) (λ (ks : List Val). Unit {0}) (value_of (look v) key.0) _
      (safe_then (Suits (look v).world ty.0) (λ (v : Val). Unit {0}) (meaning (look v) key.0) value_of_meant (never_stuck names (look v) (sees v h) key.0 ty.0 ty.1) (λ m k. sortable_value (look v).world p ty.0 m (unless_ok Mismatch (is_sortable ty.0) u.0 ty.2) k))
      (λ k w. safe_then (λ (ks : List Val). Unit {0}) (λ (ks : List Val). Unit {0}) (each (λ key. value_of (look v) key.0) order) _ (keys_safe sees v h order r.0 r.1) (λ ks w. tt))

  ranks_safe : Sees → (order : List (Tree N × Bool)) (qs : List Bool) → each_judged (sort_key names) order ≡ Ok qs → (vs : List ℕ) → list_all p vs ≡ true → Safe (λ rs. vertices rs ≡ vs) (each (ranked look order) vs)
  ranks_safe sees order qs e [] h = refl
  ranks_safe sees order qs e (v ∷ vs) h =
      let w = and_ok (p v) _ h in
      safe_then (λ (r : Ranked). r.vertex ≡ v) (λ rs. vertices rs ≡ v ∷ vs) (ranked look order v) _
      (safe_then (λ (ks : List Val). Unit {0}) (λ (r : Ranked). r.vertex ≡ v) (blaming (AtPlace v) (each (λ key. value_of (look v) key.0) order)) _
      (safe_blaming (λ (ks : List Val). Unit {0}) (AtPlace v) (each (λ key. value_of (look v) key.0) order) (keys_safe sees v w.0 order qs e)) (λ ks k. refl))
      (λ r k. safe_then (λ rs. vertices rs ≡ vs) (λ rs. vertices rs ≡ v ∷ vs) (each (ranked look order) vs) _ (ranks_safe sees order qs e vs w.1) (λ rs g. ap (λ x. x ∷ vertices rs) k ∙ ap (λ l. v ∷ l) g))

  -- ---- HAVING

  having_safe : Sees → (t : Option (Tree N)) (q : Bool) → optional (condition names) t ≡ Ok q → (v : ℕ) → p v ≡ true → Safe (λ (b : Bool). Unit {0}) (passes (look v) t)
  having_safe sees None q e v h = tt
  having_safe sees (Some t) q e v h = let u = after_ok (condition names t) (Ok true) q e in condition_safe names (look v) (sees v h) t u.0.0 u.0.1

  passing_safe : Sees → (t : Option (Tree N)) (q : Bool) → optional (condition names) t ≡ Ok q → (vs : List ℕ) → list_all p vs ≡ true → Safe (λ ws. Leaves p vs ws) (passing look t vs)
  passing_safe sees t q e [] h = leaves_same p []
  passing_safe sees t q e (v ∷ vs) h =
      let w = and_ok (p v) _ h in
      safe_then (λ (b : Bool). Unit {0}) (λ ws. Leaves p (v ∷ vs) ws) (blaming (AtPlace v) (passes (look v) t)) _ (safe_blaming (λ (b : Bool). Unit {0}) (AtPlace v) (passes (look v) t) (having_safe sees t q e v w.0))
      (λ b k. safe_then (λ ws. Leaves p vs ws) (λ ws. Leaves p (v ∷ vs) ws) (passing look t vs) _ (passing_safe sees t q e vs w.1) (λ rest g. kept b rest g))
    where
      kept : (b : Bool) (rest : List ℕ) → Leaves p vs rest → Leaves p (v ∷ vs) (if b then v ∷ rest else rest)
      kept true rest g = leaves_first p v vs rest g
      kept false rest g = leaves_out p v vs rest g

  -- ---- LIMIT

  cut_safe : (here : Look N) → LookFits limits here → (t : Option (Tree N)) (q : Bool) → optional (number limits) t ≡ Ok q → (vs : List ℕ) → Safe (λ ws. Leaves p vs ws) (cut world here t vs)
  cut_safe here fits None q e vs = leaves_same p vs
  cut_safe here fits (Some t) q e vs =
      let u = after_ok (number limits t) (Ok true) q e in
      safe_then (λ (n : ℤ). Unit {0}) (λ ws. Leaves p vs ws) (blaming (AtPlace (vertex_count world.graph)) (number_of here t)) _
      (safe_blaming (λ (n : ℤ). Unit {0}) (AtPlace (vertex_count world.graph)) (number_of here t) (number_of_safe limits here fits t u.0.0 u.0.1)) (λ n k. at_most_leaves p n vs)

  -- ---- all

  abbrev pub Left : List ℕ → Type 0
  Left ws = (list_all p ws ≡ true) × (no_repeats ws ≡ true)

  pub tail_safe : Sees → (here : Look N) → LookFits limits here → (q : Select N) (a : Bool) (b : List Bool) (c : Bool) → optional (condition names) q.having ≡ Ok a → each_judged (sort_key names) q.order ≡ Ok b → optional (number limits) q.limit ≡ Ok c → (vs : List ℕ) → list_all p vs ≡ true → no_repeats vs ≡ true
      → Safe Left (answers.◌>>=◌ (passing look q.having vs) (λ vs. answers.◌>>=◌ (each (ranked look q.order) vs) (λ rs. cut world here q.limit (map (λ (r : Ranked). r.vertex) (sorted (in_order q.order) rs)))))
  tail_safe sees here fits q a b c e f g vs h o =
      safe_then (λ ws. Leaves p vs ws) Left (passing look q.having vs) _ (passing_safe sees q.having a e vs h)
      (λ ws k. safe_then (λ rs. vertices rs ≡ ws) Left (each (ranked look q.order) ws) _ (ranks_safe sees q.order b f ws (k.all h))
      (λ rs l. let m = sorted_leaves p (in_order q.order) rs in
      safe_with (λ us. Leaves p (vertices (sorted (in_order q.order) rs)) us) Left (cut world here q.limit (vertices (sorted (in_order q.order) rs))) (cut_safe here fits q.limit c g (vertices (sorted (in_order q.order) rs)))
      (λ us n. left us (n.all (m.all (subst (λ l. list_all p l ≡ true) (sym l) (k.all h)))) (n.once (m.once (subst (λ l. no_repeats l ≡ true) (sym l) (k.once o)))))))
    where
      left : (us : List ℕ) → list_all p us ≡ true → no_repeats us ≡ true → Left us
      left us x y = (x, y)
