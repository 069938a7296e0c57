-- MethodSteps: the results of methods, from the value before the dot and from their arguments.
use Rattle.std.proofs.Common.{◌≡◌, ℕ, ℤ, pos, List, [], ◌∷◌, map, Option, Some, None, Result, refl, sym, ap, subst, ◌∙◌}
use Rattle.std.specs.Option.{option_map}
use Rattle.gq_tree.specs.Tree.{Tree, Trees, Method, no_tree, tree}
use Rattle.gq_value.specs.declared.value.Wrong.{Wrong}
use Rattle.gq_value.specs.Val.{Val, Int}
use Rattle.gq_value.specs.Accums.{Accum, Base, INT}
use Rattle.gq_accum_laws.specs.Holds.{Holds}
use Rattle.gq_rules_typing.specs.Kinds.{contained_type}
use Rattle.gq_rules_typing.specs.Words as words
use Rattle.gq_rules_typing.specs.Words.{Size, Contains, ContainsKey, Get, Outdegree, edge_quoted}
use Rattle.gq_plan_ir.specs.Reference.{Reference, Does}
use Rattle.gq_plan_ir.specs.ExprView.{quoted}
use Rattle.gq_rules_meaning.specs.Answers.{Answer, Gives, Faults, Stuck, ◌>>=◌, found}
use Rattle.gq_rules_meaning.specs.Graphs.{Graph}
use Rattle.gq_rules_meaning.specs.Meanings.{Meant, Is, IsAverage, IsContent, IsRow, IsEdge, IsSet, IsMember, Outcome, vertex_of_meant, converted_to, counted}
use Rattle.gq_rules_meaning.specs.Calls.{one_wanted, method_wants, method_of, sum, degree_of}
use Rattle.gq_rules_meaning.specs.Expressions.{Look, arguments, value_of, meaning_part}
use Rattle.gq_eval_operand.specs.declared.seen.Seen.{Seen}
use Rattle.gq_eval_operand.specs.declared.halt.Halt.{Halt}
use Rattle.gq_eval_operand.specs.Meant.{meant, Halts, Tells}
use Rattle.gq_eval_builtins.specs.Elements.{size_meant, contains_meant, contains_key_meant, get_meant, contained_in, keys_in}
use Rattle.gq_eval_builtins.proofs.TimeLemmas.{stops}

pub method_is : (look : Look Reference) (f : words.Method) (m : Meant) (ts : Trees Reference) → look.world.words.method (Does f) ≡ Some f
    → meaning_part look m (Method (Does f) ts) ≡ (arguments look (method_wants f m) ts >>= method_of look.world.graph f m)
method_is look f m ts e = ap (λ o. found {F = Wrong} o >>= λ f. arguments look (method_wants f m) ts >>= method_of look.world.graph f m) e

-- ---- size

size_same : (g : Graph) (m : Meant) → method_of g Size m [] ≡ size_meant m
size_same g (Is b v) = refl
size_same g (IsAverage v) = refl
size_same g (IsContent k c) = refl
size_same g (IsRow ps cs) = refl
size_same g (IsEdge r t) = refl
size_same g (IsSet vs) = refl
size_same g (IsMember vs b v) = refl

pub size_goes : (look : Look Reference) (m : Meant) (r : Result Seen Halt) → look.world.words.method (Does Size) ≡ Some Size → Tells meant (size_meant m) r → Tells meant (meaning_part look m (Method (Does Size) no_tree)) r
size_goes look m r e p = subst (λ o. Tells meant o r) (sym (method_is look Size m no_tree e ∙ size_same look.world.graph m)) p

pub size_stuck : (look : Look Reference) (m : Meant) (t : Tree Reference) (ts : Trees Reference) → look.world.words.method (Does Size) ≡ Some Size → meaning_part look m (Method (Does Size) (tree t ts)) ≡ Stuck
size_stuck look m t ts e = method_is look Size m (tree t ts) e

pub ruleset size_laws = (size_goes, size_stuck)

-- ---- contains

wants_none : (k : Accum) (c : Holds k) → contained_type k ≡ None → method_wants Contains (IsContent k c) ≡ []
wants_none k c e = ap one_wanted e

no_contains : (look : Look Reference) (m : Meant) (ts : Trees Reference) → contained_in m ≡ None → (arguments look (method_wants Contains m) ts >>= method_of look.world.graph Contains m) ≡ Stuck
no_contains look (IsContent k c) no_tree e = refl
no_contains look (IsContent k c) (tree t ts) e = ap (λ ws. arguments look ws (tree t ts) >>= method_of look.world.graph Contains (IsContent k c)) (wants_none k c e)
no_contains look (Is b v) no_tree e = refl
no_contains look (Is b v) (tree t ts) e = refl
no_contains look (IsAverage v) no_tree e = refl
no_contains look (IsAverage v) (tree t ts) e = refl
no_contains look (IsRow ps cs) no_tree e = refl
no_contains look (IsRow ps cs) (tree t ts) e = refl
no_contains look (IsEdge r t') no_tree e = refl
no_contains look (IsEdge r t') (tree t ts) e = refl
no_contains look (IsSet vs) no_tree e = refl
no_contains look (IsSet vs) (tree t ts) e = refl
no_contains look (IsMember vs b v) no_tree e = refl
no_contains look (IsMember vs b v) (tree t ts) e = refl

pub contains_stuck : (look : Look Reference) (m : Meant) (ts : Trees Reference) → look.world.words.method (Does Contains) ≡ Some Contains → contained_in m ≡ None → meaning_part look m (Method (Does Contains) ts) ≡ Stuck
contains_stuck look m ts e n = method_is look Contains m ts e ∙ no_contains look m ts n

-- one argument, converted
one_is : (look : Look Reference) (b : Base) (t : Tree Reference) (f : List Val → Outcome) → (arguments look (Some b ∷ []) (tree t no_tree) >>= f) ≡ (value_of look t >>= λ v. converted_to b v >>= λ u. f (u ∷ []))
one_is look b t f = go (value_of look t)
  where
    go : (o : Answer Wrong Val) → ((o >>= converted_to b >>= λ u. Gives (u ∷ [])) >>= f) ≡ (o >>= λ v. converted_to b v >>= λ u. f (u ∷ []))
    go (Gives v) = next (converted_to b v)
      where
        next : (o : Answer Wrong Val) → ((o >>= λ u. Gives (u ∷ [])) >>= f) ≡ (o >>= λ u. f (u ∷ []))
        next (Gives u) = refl
        next (Faults w) = refl
        next Stuck = refl
    go (Faults w) = refl
    go Stuck = refl

asked : (look : Look Reference) (m : Meant) (b : Base) (t : Tree Reference) → contained_in m ≡ Some b
    → (arguments look (method_wants Contains m) (tree t no_tree) >>= method_of look.world.graph Contains m) ≡ (value_of look t >>= λ v. converted_to b v >>= contains_meant m)
asked look (IsContent k c) b t e = ap (λ o. arguments look (one_wanted o) (tree t no_tree) >>= method_of look.world.graph Contains (IsContent k c)) e ∙ one_is look b t (method_of look.world.graph Contains (IsContent k c))
asked look (Is d v) b t e = absurd (cc)
asked look (IsAverage v) b t e = absurd (cc)
asked look (IsRow ps cs) b t e = absurd (cc)
asked look (IsEdge r s) b t e = absurd (cc)
asked look (IsSet vs) b t e = absurd (cc)
asked look (IsMember vs d v) b t e = absurd (cc)

contains_is : (look : Look Reference) (m : Meant) (b : Base) (t : Tree Reference) → look.world.words.method (Does Contains) ≡ Some Contains → contained_in m ≡ Some b
    → meaning_part look m (Method (Does Contains) (tree t no_tree)) ≡ (value_of look t >>= λ v. converted_to b v >>= contains_meant m)
contains_is look m b t e n = method_is look Contains m (tree t no_tree) e ∙ asked look m b t n

pub contains_first : (look : Look Reference) (m : Meant) (b : Base) (t : Tree Reference) (h : Halt) → look.world.words.method (Does Contains) ≡ Some Contains → contained_in m ≡ Some b → Halts (value_of look t) h
    → Halts (meaning_part look m (Method (Does Contains) (tree t no_tree))) h
contains_first look m b t h e n p = subst (λ o. Halts o h) (sym (contains_is look m b t e n)) (stops (value_of look t) _ h p)

pub contains_second : (look : Look Reference) (m : Meant) (b : Base) (t : Tree Reference) (v : Val) (h : Halt) → look.world.words.method (Does Contains) ≡ Some Contains → contained_in m ≡ Some b → value_of look t ≡ Gives v → Halts (converted_to b v) h
    → Halts (meaning_part look m (Method (Does Contains) (tree t no_tree))) h
contains_second look m b t v h e n a p = subst (λ o. Halts o h) (sym (contains_is look m b t e n ∙ ap (λ o. o >>= λ v. converted_to b v >>= contains_meant m) a)) (stops (converted_to b v) _ h p)

pub contains_goes : (look : Look Reference) (m : Meant) (b : Base) (t : Tree Reference) (v u : Val) (r : Result Seen Halt) → look.world.words.method (Does Contains) ≡ Some Contains → contained_in m ≡ Some b → value_of look t ≡ Gives v → converted_to b v ≡ Gives u
    → Tells meant (contains_meant m u) r → Tells meant (meaning_part look m (Method (Does Contains) (tree t no_tree))) r
contains_goes look m b t v u r e n a d p = subst (λ o. Tells meant o r) (sym (contains_is look m b t e n ∙ ap (λ o. o >>= λ v. converted_to b v >>= contains_meant m) a ∙ ap (λ o. o >>= contains_meant m) d)) p

pub ruleset contains_laws = (contains_stuck, contains_first, contains_second, contains_goes)

-- ---- keys

key_wants_are : (m : Meant) → method_wants ContainsKey m ≡ map Some (keys_in m)
key_wants_are (Is b v) = refl
key_wants_are (IsAverage v) = refl
key_wants_are (IsContent k c) = refl
key_wants_are (IsRow ps cs) = refl
key_wants_are (IsEdge r t) = refl
key_wants_are (IsSet vs) = refl
key_wants_are (IsMember vs b v) = refl

get_wants_are : (m : Meant) → method_wants Get m ≡ map Some (keys_in m)
get_wants_are (Is b v) = refl
get_wants_are (IsAverage v) = refl
get_wants_are (IsContent k c) = refl
get_wants_are (IsRow ps cs) = refl
get_wants_are (IsEdge r t) = refl
get_wants_are (IsSet vs) = refl
get_wants_are (IsMember vs b v) = refl

key_same : (g : Graph) (m : Meant) (row : List Val) → method_of g ContainsKey m row ≡ contains_key_meant m row
key_same g (Is b v) row = refl
key_same g (IsAverage v) row = refl
key_same g (IsContent k c) row = refl
key_same g (IsRow ps cs) row = refl
key_same g (IsEdge r t) row = refl
key_same g (IsSet vs) row = refl
key_same g (IsMember vs b v) row = refl

get_same : (g : Graph) (m : Meant) (row : List Val) → method_of g Get m row ≡ get_meant m row
get_same g (Is b v) row = refl
get_same g (IsAverage v) row = refl
get_same g (IsContent k c) row = refl
get_same g (IsRow ps cs) row = refl
get_same g (IsEdge r t) row = refl
get_same g (IsSet vs) row = refl
get_same g (IsMember vs b v) row = refl

pub key_stops : (look : Look Reference) (m : Meant) (ws : List Base) (ts : Trees Reference) (h : Halt) → look.world.words.method (Does ContainsKey) ≡ Some ContainsKey → ws ≡ keys_in m → Halts (arguments look (map Some ws) ts) h
    → Halts (meaning_part look m (Method (Does ContainsKey) ts)) h
key_stops look m ws ts h e w p = subst (λ o. Halts o h) (sym (method_is look ContainsKey m ts e)) (stops (arguments look (method_wants ContainsKey m) ts) _ h (subst (λ ws. Halts (arguments look ws ts) h) (ap (map Some) w ∙ sym (key_wants_are m)) p))

pub key_goes : (look : Look Reference) (m : Meant) (ws : List Base) (ts : Trees Reference) (row : List Val) (r : Result Seen Halt) → look.world.words.method (Does ContainsKey) ≡ Some ContainsKey → ws ≡ keys_in m → arguments look (map Some ws) ts ≡ Gives row
    → Tells meant (contains_key_meant m row) r → Tells meant (meaning_part look m (Method (Does ContainsKey) ts)) r
key_goes look m ws ts row r e w a p = subst (λ o. Tells meant o r) (sym (method_is look ContainsKey m ts e
    ∙ ap (λ o. o >>= method_of look.world.graph ContainsKey m) (ap (λ ws. arguments look ws ts) (key_wants_are m ∙ ap (map Some) (sym w)) ∙ a) ∙ key_same look.world.graph m row)) p

pub get_stops : (look : Look Reference) (m : Meant) (ws : List Base) (ts : Trees Reference) (h : Halt) → look.world.words.method (Does Get) ≡ Some Get → ws ≡ keys_in m → Halts (arguments look (map Some ws) ts) h
    → Halts (meaning_part look m (Method (Does Get) ts)) h
get_stops look m ws ts h e w p = subst (λ o. Halts o h) (sym (method_is look Get m ts e)) (stops (arguments look (method_wants Get m) ts) _ h (subst (λ ws. Halts (arguments look ws ts) h) (ap (map Some) w ∙ sym (get_wants_are m)) p))

pub get_goes : (look : Look Reference) (m : Meant) (ws : List Base) (ts : Trees Reference) (row : List Val) (r : Result Seen Halt) → look.world.words.method (Does Get) ≡ Some Get → ws ≡ keys_in m → arguments look (map Some ws) ts ≡ Gives row
    → Tells meant (get_meant m row) r → Tells meant (meaning_part look m (Method (Does Get) ts)) r
get_goes look m ws ts row r e w a p = subst (λ o. Tells meant o r) (sym (method_is look Get m ts e
    ∙ ap (λ o. o >>= method_of look.world.graph Get m) (ap (λ ws. arguments look ws ts) (get_wants_are m ∙ ap (map Some) (sym w)) ∙ a) ∙ get_same look.world.graph m row)) p

pub ruleset key_laws = (key_stops, key_goes, get_stops, get_goes)

-- ---- degrees

none_is : (look : Look Reference) (m : Meant) → look.world.words.method (Does Outdegree) ≡ Some Outdegree
    → meaning_part look m (Method (Does Outdegree) (quoted None)) ≡ (vertex_of_meant m >>= λ v. counted (sum (map (degree_of look.world.graph v) look.world.graph.sorts.own_edges)))
none_is look m e = method_is look Outdegree m no_tree e

some_is : (look : Look Reference) (m : Meant) (s : List ℕ) → look.world.words.method (Does Outdegree) ≡ Some Outdegree
    → meaning_part look m (Method (Does Outdegree) (quoted (Some s))) ≡ (vertex_of_meant m >>= λ v. found (edge_quoted look.world.graph.sorts s) >>= λ t. counted (degree_of look.world.graph v t))
some_is look m s e = method_is look Outdegree m (quoted (Some s)) e

pub degree_stops : (look : Look Reference) (m : Meant) (s : Option (List ℕ)) (h : Halt) → look.world.words.method (Does Outdegree) ≡ Some Outdegree → Halts (vertex_of_meant m) h → Halts (meaning_part look m (Method (Does Outdegree) (quoted s))) h
degree_stops look m None h e p = subst (λ o. Halts o h) (sym (none_is look m e)) (stops (vertex_of_meant m) _ h p)
degree_stops look m (Some s) h e p = subst (λ o. Halts o h) (sym (some_is look m s e)) (stops (vertex_of_meant m) _ h p)

pub degree_all : (look : Look Reference) (m : Meant) (v : ℕ) (n : ℤ) → look.world.words.method (Does Outdegree) ≡ Some Outdegree → vertex_of_meant m ≡ Gives v → n ≡ pos (sum (map (degree_of look.world.graph v) look.world.graph.sorts.own_edges))
    → meaning_part look m (Method (Does Outdegree) no_tree) ≡ Gives (Is INT (Int n))
degree_all look m v n e a c = none_is look m e ∙ ap (λ o. o >>= λ v. counted (sum (map (degree_of look.world.graph v) look.world.graph.sorts.own_edges))) a ∙ ap (λ n. Gives (Is INT (Int n))) (sym c)

pub degree_one : (look : Look Reference) (m : Meant) (s : List ℕ) (v : ℕ) (n : ℤ) → look.world.words.method (Does Outdegree) ≡ Some Outdegree → vertex_of_meant m ≡ Gives v
    → option_map pos (option_map (degree_of look.world.graph v) (edge_quoted look.world.graph.sorts s)) ≡ Some n → meaning_part look m (Method (Does Outdegree) (quoted (Some s))) ≡ Gives (Is INT (Int n))
degree_one look m s v n e a c = some_is look m s e ∙ ap (λ o. o >>= λ v. found (edge_quoted look.world.graph.sorts s) >>= λ t. counted (degree_of look.world.graph v t)) a ∙ go (edge_quoted look.world.graph.sorts s) c
  where
    go : (o : Option ℕ) → option_map pos (option_map (degree_of look.world.graph v) o) ≡ Some n → (found {F = Wrong} o >>= λ t. counted (degree_of look.world.graph v t)) ≡ Gives (Is INT (Int n))
    go (Some t) c = ap (λ n. Gives (Is INT (Int n))) (let d : pos (degree_of look.world.graph v t) ≡ n = cc in d)
    go None c = absurd (cc)

pub degree_none : (look : Look Reference) (m : Meant) (s : List ℕ) (v : ℕ) → look.world.words.method (Does Outdegree) ≡ Some Outdegree → vertex_of_meant m ≡ Gives v
    → option_map pos (option_map (degree_of look.world.graph v) (edge_quoted look.world.graph.sorts s)) ≡ None → meaning_part look m (Method (Does Outdegree) (quoted (Some s))) ≡ Stuck
degree_none look m s v e a c = some_is look m s e ∙ ap (λ o. o >>= λ v. found (edge_quoted look.world.graph.sorts s) >>= λ t. counted (degree_of look.world.graph v t)) a ∙ go (edge_quoted look.world.graph.sorts s) c
  where
    go : (o : Option ℕ) → option_map pos (option_map (degree_of look.world.graph v) o) ≡ None → (found {F = Wrong} o >>= λ t. counted (degree_of look.world.graph v t)) ≡ Stuck
    go (Some t) c = absurd (cc)
    go None c = refl

pub ruleset degree_laws = (degree_stops, degree_all, degree_one, degree_none)
