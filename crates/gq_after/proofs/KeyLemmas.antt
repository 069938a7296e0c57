-- KeyLemmas: the keys of ORDER BY, one after the other, and vertices with their keys.
use Rattle.std.proofs.Common.{◌≡◌, ℕ, zero, suc, ◌+◌, ◌<◌, ◌≤◌, Bool, List, [], ◌∷◌, ◌++◌, drop, map, length, get_or, refl, sym, ap, subst, ◌∙◌, arith}
use Rattle.gq_tree.specs.Tree.{Tree}
use Rattle.gq_value.specs.declared.value.Value.{Value}
use Rattle.gq_value.specs.declared.value.Wrong.{Wrong}
use Rattle.gq_value.specs.Val.{Val}
use Rattle.gq_value.specs.Views.{val}
use Rattle.gq_rules_meaning.specs.Answers.{Answer, Gives, Faults, Stuck, ◌>>=◌, blaming, each}
use Rattle.gq_rules_meaning.specs.Blocks.{BlockFault, AtPlace}
use Rattle.gq_rules_meaning.specs.Expressions.{Look, value_of}
use Rattle.gq_rules_meaning.specs.Tails as plain
use Rattle.gq_plan_ir.specs.declared.expr.Expr.{Expr}
use Rattle.gq_plan_ir.specs.ExprView.{view}
use Rattle.gq_plan_ir.specs.Reference.{Reference}
use Rattle.gq_eval_operand.specs.declared.halt.Halt.{Halt}
use Rattle.gq_eval_operand.specs.Meant.{Halts}
use Rattle.gq_eval_context.specs.Answered.{EndsAs}
use Rattle.gq_after.specs.declared.rows.Ranked.{Ranked}
use Rattle.gq_after.specs.Ranks.{order_of, ranked}
use Rattle.gq_eval_context.specs.Faults.{fault_at}
use Rattle.gq_eval_context.proofs.FaultLemmas.{stops_at}
use Rattle.gq_after.proofs.EachSteps.{and_more, none_before, nothing_left, stops, each_next, each_begins, each_mapped}

mapped_more : {A B : Type 0} (f : A → B) (xs : List A) (x : A) → map f (xs ++ x ∷ []) ≡ map f xs ++ f x ∷ []
mapped_more f [] x = refl
mapped_more f (y ∷ ys) x = ap (λ zs. f y ∷ zs) (mapped_more f ys x)

-- ---- the keys of one vertex

module _ (look : Look Reference) where
  abbrev pub key_of : Expr × Bool → Answer Wrong Val
  key_of key = value_of look (view key.0)

  pub key_first : (order : List (Expr × Bool)) → each (λ key. value_of look (view key.0)) order ≡ and_more [] (each (λ key. value_of look (view key.0)) order)
  key_first order = none_before (each key_of order)

  pub key_stops : (order : List (Expr × Bool)) (i : ℕ) (key : Expr × Bool) (done : List Val) (h : Halt) → each (λ key. value_of look (view key.0)) order ≡ and_more done (each (λ key. value_of look (view key.0)) (drop i order))
      → i < length order → key ≡ get_or order i key → Halts (value_of look (view key.0)) h → Halts (each (λ key. value_of look (view key.0)) order) h
  key_stops order i key done h inv n is e = subst (λ o. Halts o h) (sym (each_begins key_of order i key done inv n is)) (stops (key_of key) _ h e)

  pub key_next : (order : List (Expr × Bool)) (i : ℕ) (key : Expr × Bool) (row new : List Value) (x : Value) (v : Val) → each (λ key. value_of look (view key.0)) order ≡ and_more (map val row) (each (λ key. value_of look (view key.0)) (drop i order))
      → i < length order → key ≡ get_or order i key → value_of look (view key.0) ≡ Gives v → val x ≡ v → new ≡ row ++ x ∷ []
      → each (λ key. value_of look (view key.0)) order ≡ and_more (map val new) (each (λ key. value_of look (view key.0)) (drop (i + 1) order))
  key_next order i key row new x v inv n is e same w =
      each_next key_of order i key (map val row) v inv n is e
      ∙ ap (λ vs. and_more vs (each key_of (drop (i + 1) order))) (sym (ap (map val) w ∙ mapped_more val row x ∙ ap (λ u. map val row ++ u ∷ []) same))

  pub key_all : (order : List (Expr × Bool)) (i : ℕ) (done : List Val) → each (λ key. value_of look (view key.0)) order ≡ and_more done (each (λ key. value_of look (view key.0)) (drop i order)) → length order ≤ i
      → each (λ key. value_of look (view key.0)) order ≡ Gives done
  key_all order i done inv l = nothing_left (each key_of) order i done refl inv l

pub ruleset key_laws = (key_first, key_stops, key_next, key_all)

-- ---- vertices with their keys

pub at_default : (vs : List ℕ) (i v : ℕ) → i < length vs → v ≡ get_or vs i 0 → v ≡ get_or vs i v
at_default [] i v n is = let no : ⊥ = omega arith in absurd no
at_default (x ∷ xs) zero v n is = is
at_default (x ∷ xs) (suc i) v n is = at_default xs i v (omega arith) is

module _ (look : ℕ → Look Reference) (order : List (Expr × Bool)) where
  abbrev row_of : ℕ → Answer BlockFault plain.Ranked
  row_of = plain.ranked look (order_of order)

  keys_are : (v : ℕ) → each (λ (key : Tree Reference × Bool). value_of (look v) key.0) (order_of order) ≡ each (λ key. value_of (look v) (view key.0)) order
  keys_are v = each_mapped (λ (key : Tree Reference × Bool). value_of (look v) key.0) (λ (key : Expr × Bool). (view key.0, key.1)) order

  row_is : (v : ℕ) → row_of v ≡ (blaming (AtPlace v) (each (λ key. value_of (look v) (view key.0)) order) >>= λ ks. Gives (record { vertex = v; keys = ks }))
  row_is v = ap (λ o. blaming (AtPlace v) o >>= λ ks. Gives (record { vertex = v; keys = ks })) (keys_are v)

  pub row_first : (vs : List ℕ) → each (plain.ranked look (order_of order)) vs ≡ and_more [] (each (plain.ranked look (order_of order)) vs)
  row_first vs = none_before (each row_of vs)

  pub row_stops : (vs : List ℕ) (i v : ℕ) (done : List plain.Ranked) (h : Halt) → each (plain.ranked look (order_of order)) vs ≡ and_more done (each (plain.ranked look (order_of order)) (drop i vs))
      → i < length vs → v ≡ get_or vs i 0 → Halts (each (λ key. value_of (look v) (view key.0)) order) h → EndsAs (each (plain.ranked look (order_of order)) vs) (fault_at v h)
  row_stops vs i v done h inv n is e =
      subst (λ o. EndsAs o (fault_at v h)) (sym (each_begins row_of vs i v done inv n (at_default vs i v n is) ∙ ap (λ o. o >>= λ b. and_more done (each row_of (drop (i + 1) vs) >>= λ bs. Gives (b ∷ bs))) (row_is v)))
      (twice (each (λ key. value_of (look v) (view key.0)) order) _ e)
    where
      twice : (o : Answer Wrong (List Val)) (f : plain.Ranked → Answer BlockFault (List plain.Ranked)) → Halts o h → EndsAs (blaming (AtPlace v) o >>= (λ ks. Gives (record { vertex = v; keys = ks })) >>= f) (fault_at v h)
      twice o f p = subst (λ q. EndsAs q (fault_at v h)) (sym (assoc o f)) (stops_at o (λ ks. f (record { vertex = v; keys = ks })) v h p)
        where
          assoc : (o : Answer Wrong (List Val)) (f : plain.Ranked → Answer BlockFault (List plain.Ranked)) → (blaming (AtPlace v) o >>= (λ ks. Gives (record { vertex = v; keys = ks })) >>= f) ≡ (blaming (AtPlace v) o >>= λ ks. f (record { vertex = v; keys = ks }))
          assoc (Gives a) f = refl
          assoc (Faults w) f = refl
          assoc Stuck f = refl

  pub row_next : (vs : List ℕ) (i v : ℕ) (rows new : List Ranked) (keys : List Value) → each (plain.ranked look (order_of order)) vs ≡ and_more (map ranked rows) (each (plain.ranked look (order_of order)) (drop i vs))
      → i < length vs → v ≡ get_or vs i 0 → each (λ key. value_of (look v) (view key.0)) order ≡ Gives (map val keys) → new ≡ rows ++ record { vertex = v; keys = keys } ∷ []
      → each (plain.ranked look (order_of order)) vs ≡ and_more (map ranked new) (each (plain.ranked look (order_of order)) (drop (i + 1) vs))
  row_next vs i v rows new keys inv n is e w =
      let row : Ranked = record { vertex = v; keys = keys } in
      each_next row_of vs i v (map ranked rows) (ranked row) inv n (at_default vs i v n is) (row_is v ∙ ap (λ o. blaming (AtPlace v) o >>= λ ks. Gives (record { vertex = v; keys = ks })) e)
      ∙ ap (λ rs. and_more rs (each row_of (drop (i + 1) vs))) (sym (ap (map ranked) w ∙ mapped_more ranked rows row))

  pub row_all : (vs : List ℕ) (i : ℕ) (done : List plain.Ranked) → each (plain.ranked look (order_of order)) vs ≡ and_more done (each (plain.ranked look (order_of order)) (drop i vs)) → length vs ≤ i
      → each (plain.ranked look (order_of order)) vs ≡ Gives done
  row_all vs i done inv l = nothing_left (each row_of) vs i done refl inv l

pub ruleset row_laws = (row_first, row_stops, row_next, row_all)
