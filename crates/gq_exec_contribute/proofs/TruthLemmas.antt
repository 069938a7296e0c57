-- TruthLemmas: comparisons, NOT, AND and OR, from their operands.
use Rattle.std.proofs.Common.{◌≡◌, ◌⊎◌, inl, inr, ℕ, ◌+◌, ◌<◌, ◌≤◌, Bool, true, false, List, [], ◌∷◌, drop, length, get_or, Option, Some, None, nat_cmp, int_cmp, refl, sym, ap, subst, ◌∙◌}
use Rattle.std.specs.Prelude.{ℤ, IfSome}
use Rattle.std.specs.declared.cmp.Ordering.{Ordering}
use Rattle.std.specs.declared.cmp.Ordering.TheVariants.{Less, Equal, Greater}
use Rattle.std.specs.Ordering.{ordering_then}
use Rattle.std.proofs.lemmas.List.{drop_all}
use Rattle.gq_tree.specs.Tree as tree
use Rattle.gq_tree.specs.Tree.{Tree, Trees}
use Rattle.gq_tree.specs.declared.expr.CmpSign.{CmpSign}
use Rattle.gq_tree.specs.declared.expr.CmpSign.TheVariants as cmp
use Rattle.gq_value.specs.Val.{Int, Vertex}
use Rattle.gq_value.specs.Order.{compare}
use Rattle.gq_value.proofs.PairLemmas.{int_int}
use Rattle.gq_graph.specs.declared.rows.Candidate.{Candidate}
use Rattle.gq_frame.specs.Names.{AVertex}
use Rattle.gq_rules_meaning.specs.Answers.{Gives, ◌>>=◌}
use Rattle.gq_rules_meaning.specs.Calendars.{Calendar}
use Rattle.gq_rules_meaning.specs.Expressions.{Look, value_of, compared, related, nots, meaning_all, meaning_any, meaning}
use Rattle.gq_rules_meaning.specs.Meanings.{truly, value_of_meant, as_truth}
use Rattle.gq_plan_ir.specs.declared.expr.Expr.{Expr}
use Rattle.gq_plan_ir.specs.ExprView.{view, views}
use Rattle.gq_plan_ir.specs.Reference.{Reference, Place}
use Rattle.gq_eval_builtins.specs.Steps.{true_meant}
use Rattle.gq_eval_builtins.proofs.RunLemmas.{and_goes, or_goes}
use Rattle.gq_eval_builtins.proofs.ListSteps.{all_goes_at, any_goes_at}
use Rattle.gq_eval_context.specs.Viewed.{Over}
use Rattle.gq_frame.specs.declared.accums.Accums.{Accums}
use Rattle.gq_exec_contribute.specs.declared.leaves.Leaves.{Leaves}
use Rattle.gq_exec_contribute.specs.Prepared.{IsInt, IsTruth, IsVertex, sees_in}
use Rattle.gq_exec_contribute.proofs.NameLemmas.{named}
use Rattle.gq_exec_contribute.proofs.ReadLemmas.{global_truth}
use Rattle.std.specs.Prelude.{Ok}

-- ---- comparisons

then_equal : (o : Ordering) → ordering_then o Equal ≡ o
then_equal Less = refl
then_equal Equal = refl
then_equal Greater = refl

ints_compare : (x y : ℤ) → compare (Int x) (Int y) ≡ int_cmp x y
ints_compare x y = ap (λ o. ordering_then o Equal) (int_int false x y) ∙ then_equal (int_cmp x y)

pub ints_related : (s : CmpSign) (x y : ℤ) (o : Ordering) (b : Bool) → o ≡ int_cmp x y → b ≡ related s o → compared s (Int x) (Int y) ≡ truly b
ints_related s x y o b e f = ap (λ o. truly (related s o)) (ints_compare x y ∙ sym e) ∙ ap truly (sym f)

vertices_compare : (v w : ℕ) → compare (Vertex v) (Vertex w) ≡ nat_cmp v w
vertices_compare v w = go (nat_cmp v w)
  where
    go : (o : Ordering) → ordering_then (ordering_then o Equal) Equal ≡ o
    go Less = refl
    go Equal = refl
    go Greater = refl

pub same_vertex : (s : CmpSign) (v w : ℕ) (o : Ordering) (b : Bool) → (s ≡ cmp.Equal) ⊎ (s ≡ cmp.NotEqual) → o ≡ nat_cmp v w → b ≡ related s o → compared s (Vertex v) (Vertex w) ≡ truly b
same_vertex s v w o b which e f = go which ∙ ap (λ o. truly (related s o)) (vertices_compare v w ∙ sym e) ∙ ap truly (sym f)
  where
    go : (s ≡ cmp.Equal) ⊎ (s ≡ cmp.NotEqual) → compared s (Vertex v) (Vertex w) ≡ truly (related s (compare (Vertex v) (Vertex w)))
    go (inl e) = subst (λ (s : CmpSign). compared s (Vertex v) (Vertex w) ≡ truly (related s (compare (Vertex v) (Vertex w)))) (sym e) refl
    go (inr e) = subst (λ (s : CmpSign). compared s (Vertex v) (Vertex w) ≡ truly (related s (compare (Vertex v) (Vertex w)))) (sym e) refl

pub ruleset same_laws = (same_vertex)

pub both_ints : (look : Look Reference) (s : CmpSign) (t u : Tree Reference) (x y : ℤ) (b : Bool) → IsInt look t x → IsInt look u y → compared s (Int x) (Int y) ≡ truly b → IsTruth look (tree.Cmp t s u) b
both_ints look s t u x y b e f g = ap (λ o. (o >>= λ v. meaning look u >>= value_of_meant >>= compared s v) >>= value_of_meant >>= as_truth) e ∙ ap (λ o. (o >>= compared s (Int x)) >>= value_of_meant >>= as_truth) f ∙ ap (λ o. o >>= value_of_meant >>= as_truth) g

pub both_vertices : (look : Look Reference) (s : CmpSign) (t u : Tree Reference) (v w : ℕ) (r : Option Bool) → value_of look t ≡ Gives (Vertex v) → value_of look u ≡ Gives (Vertex w) → IfSome r (λ b. compared s (Vertex v) (Vertex w) ≡ truly b) → IfSome r (IsTruth look (tree.Cmp t s u))
both_vertices look s t u v w None e f g = tt
both_vertices look s t u v w (Some b) e f g = ap (λ o. (o >>= λ v. meaning look u >>= value_of_meant >>= compared s v) >>= value_of_meant >>= as_truth) e ∙ ap (λ o. (o >>= compared s (Vertex v)) >>= value_of_meant >>= as_truth) f ∙ ap (λ o. o >>= value_of_meant >>= as_truth) g

pub ruleset compared_laws = (both_ints, both_vertices)

pub vertex_value : (clock : Calendar) (o : Over) (l : Leaves) (accums : Accums) (c : Candidate) (p : ℕ) (r : Option ℕ) → IfSome r (IsVertex l c p) → IfSome r (λ v. value_of (sees_in clock o l accums c) (tree.Name (Place p)) ≡ Gives (Vertex v))
vertex_value clock o l accums c p None h = tt
vertex_value clock o l accums c p (Some v) h = ap (λ o. o >>= value_of_meant) (named clock o l accums c p (AVertex h.0 v) h.1)

pub ruleset vertex_laws = (vertex_value)

pub ruleset int_laws = (ints_related)

-- ---- truths

pub literal_truth : (look : Look Reference) (b : Bool) → IsTruth look (tree.Truth b) b
literal_truth look b = refl

pub ruleset truth_laws = (literal_truth, global_truth)

pub not_truth : (look : Look Reference) (n : ℕ) (t : Tree Reference) (b d : Bool) → IsTruth look t b → d ≡ nots n b → IsTruth look (tree.Not n t) d
not_truth look n t b d e f = ap (λ o. (o >>= λ b. truly (nots n b)) >>= value_of_meant >>= as_truth) e ∙ ap Gives (sym f)

pub and_truth : (look : Look Reference) (t : Tree Reference) (ts : Trees Reference) (b : Bool) (r : Option Bool) → IsTruth look t b → IfSome r (λ d. meaning_all look (true_meant b) ts ≡ Gives (true_meant d)) → IfSome r (IsTruth look (tree.And t ts))
and_truth look t ts b None e h = tt
and_truth look t ts b (Some d) e h = ap (λ o. o >>= value_of_meant >>= as_truth) (and_goes look true_meant t ts b (Ok d) e h)

pub or_truth : (look : Look Reference) (t : Tree Reference) (ts : Trees Reference) (b : Bool) (r : Option Bool) → IsTruth look t b → IfSome r (λ d. meaning_any look (true_meant b) ts ≡ Gives (true_meant d)) → IfSome r (IsTruth look (tree.Or t ts))
or_truth look t ts b None e h = tt
or_truth look t ts b (Some d) e h = ap (λ o. o >>= value_of_meant >>= as_truth) (or_goes look true_meant t ts b (Ok d) e h)

pub ruleset joined_laws = (not_truth, and_truth, or_truth)

-- ---- operands in order

-- the truth so far, followed by the remaining operands
pub record AllTo (look : Look Reference) (b : Bool) (es : List Expr) (i : ℕ) (d : Bool) : Type 0 where
  pub goes : meaning_all look (true_meant b) (views es) ≡ meaning_all look (true_meant d) (views (drop i es))

pub record AnyTo (look : Look Reference) (b : Bool) (es : List Expr) (i : ℕ) (d : Bool) : Type 0 where
  pub goes : meaning_any look (true_meant b) (views es) ≡ meaning_any look (true_meant d) (views (drop i es))

pub all_first : (look : Look Reference) (b : Bool) (es : List Expr) → AllTo look b es 0 b
all_first look b es = record { goes = ap (λ l. meaning_all look (true_meant b) (views l)) (whole es) }
  where
    whole : (es : List Expr) → es ≡ drop 0 es
    whole [] = refl
    whole (e ∷ es) = refl

pub any_first : (look : Look Reference) (b : Bool) (es : List Expr) → AnyTo look b es 0 b
any_first look b es = record { goes = ap (λ l. meaning_any look (true_meant b) (views l)) (whole es) }
  where
    whole : (es : List Expr) → es ≡ drop 0 es
    whole [] = refl
    whole (e ∷ es) = refl

pub all_next : (look : Look Reference) (b d f : Bool) (es : List Expr) (i : ℕ) (e : Expr) → AllTo look b es i d → d ≡ true → i < length es → e ≡ get_or es i e → IsTruth look (view e) f → AllTo look b es (i + 1) f
all_next look b d f es i e so t n is p = record { goes = all_goes_at look b d f es i e so.goes t n is p }

pub any_next : (look : Look Reference) (b d f : Bool) (es : List Expr) (i : ℕ) (e : Expr) → AnyTo look b es i d → d ≡ false → i < length es → e ≡ get_or es i e → IsTruth look (view e) f → AnyTo look b es (i + 1) f
any_next look b d f es i e so t n is p = record { goes = any_goes_at look b d f es i e so.goes t n is p }

pub all_decides : (look : Look Reference) (b d : Bool) (es : List Expr) (i : ℕ) → AllTo look b es i d → d ≡ false → meaning_all look (true_meant b) (views es) ≡ Gives (true_meant false)
all_decides look b d es i so e = so.goes ∙ ap (λ d. meaning_all look (true_meant d) (views (drop i es))) e ∙ go (views (drop i es))
  where
    go : (ts : Trees Reference) → meaning_all look (true_meant false) ts ≡ Gives (true_meant false)
    go tree.no_tree = refl
    go (tree.tree t ts) = refl

pub any_decides : (look : Look Reference) (b d : Bool) (es : List Expr) (i : ℕ) → AnyTo look b es i d → d ≡ true → meaning_any look (true_meant b) (views es) ≡ Gives (true_meant true)
any_decides look b d es i so e = so.goes ∙ ap (λ d. meaning_any look (true_meant d) (views (drop i es))) e ∙ go (views (drop i es))
  where
    go : (ts : Trees Reference) → meaning_any look (true_meant true) ts ≡ Gives (true_meant true)
    go tree.no_tree = refl
    go (tree.tree t ts) = refl

pub all_end : (look : Look Reference) (b d : Bool) (es : List Expr) (i : ℕ) → AllTo look b es i d → length es ≤ i → meaning_all look (true_meant b) (views es) ≡ Gives (true_meant d)
all_end look b d es i so l = so.goes ∙ ap (λ l. meaning_all look (true_meant d) (views l)) (drop_all i es l)

pub any_end : (look : Look Reference) (b d : Bool) (es : List Expr) (i : ℕ) → AnyTo look b es i d → length es ≤ i → meaning_any look (true_meant b) (views es) ≡ Gives (true_meant d)
any_end look b d es i so l = so.goes ∙ ap (λ l. meaning_any look (true_meant d) (views l)) (drop_all i es l)

pub ruleset list_laws = (all_first, any_first, all_next, any_next, all_decides, any_decides, all_end, any_end)
