-- SortLemmas: edge types by number, and where they lead.
use Rattle.std.proofs.Common.{ℕ, zero, suc, ◌+◌, ◌-◌, ◌<◌, ◌≤◌, ◌≡◌, Bool, true, false, List, [], ◌∷◌, ◌++◌, length, get_or, map, Option, Some, None, refl, ap, sym, ◌∙◌, arith}
use Rattle.std.specs.List.{slice_get, filter_map, flat_map, cons_option}
use Rattle.std.specs.Option.{option_map, option_to_list}
use Rattle.std.proofs.lemmas.List.{append-nil, append_assoc}
use Rattle.gq_tree.specs.declared.select.Way.{Way}
use Rattle.gq_tree.specs.declared.select.Way.TheVariants as way
use Rattle.gq_tree.specs.declared.select.StepTree.{StepTree}
use Rattle.gq_graph.specs.Catalog.{Schema}
use Rattle.gq_rules_typing.specs.Statements.{Bytes}
use Rattle.gq_rules_typing.specs.Sorts.{EdgeSort, Sorts, sorts_of}
use Rattle.gq_rules_typing.specs.Words.{Setting}
use Rattle.gq_rules_typing.specs.Patterns.{ends_of, own_way, way_of, last_step}
use Rattle.gq_rules_typing.specs.SelectViews.{view_step}
use Rattle.gq_scope.specs.Held.{Held, sorts_in, setting_in}
use Rattle.gq_check_from.specs.Walks.{own_ways}

-- ---- edge types by number

pub slice_get_map : {A B : Type 0} (f : A → B) (xs : List A) (n : ℕ) → slice_get (map f xs) n ≡ option_map f (slice_get xs n)
slice_get_map f [] n = refl
slice_get_map f (x ∷ xs) zero = refl
slice_get_map f (x ∷ xs) (suc n) = slice_get_map f xs n

-- ---- a scope sees all edge types of its catalog, not only those of the graph

edge_here_in : (h : Held) (t : ℕ) → slice_get (sorts_of h.schema None).edges t ≡ slice_get (setting_in h).sorts.edges t
unfolding setting_in sorts_in
edge_here_in h t = refl

pub edge_here : (h : Held) (schema : Schema) (t : ℕ) → schema ≡ h.schema → slice_get (sorts_of schema None).edges t ≡ slice_get (setting_in h).sorts.edges t
edge_here h schema t is = ap (λ (s : Schema). slice_get (sorts_of s None).edges t) is ∙ edge_here_in h t

ends_here_in : (h : Held) (d : Way × ℕ) → ends_of (sorts_of h.schema None) d ≡ ends_of (setting_in h).sorts d
unfolding setting_in sorts_in
ends_here_in h d = refl

pub ends_here : (h : Held) (schema : Schema) (d : Way × ℕ) → schema ≡ h.schema → ends_of (sorts_of schema None) d ≡ ends_of (setting_in h).sorts d
ends_here h schema d is = ap (λ (s : Schema). ends_of (sorts_of s None) d) is ∙ ends_here_in h d

far_here_in : (h : Held) (ts : List ℕ) → flat_map (ends_of (sorts_of h.schema None)) (own_ways (sorts_of h.schema None) ts) ≡ flat_map (ends_of (setting_in h).sorts) (own_ways (setting_in h).sorts ts)
unfolding setting_in sorts_in
far_here_in h ts = refl

pub far_here : (h : Held) (schema : Schema) (ts : List ℕ) → schema ≡ h.schema
    → flat_map (ends_of (sorts_of schema None)) (own_ways (sorts_of schema None) ts) ≡ flat_map (ends_of (setting_in h).sorts) (own_ways (setting_in h).sorts ts)
far_here h schema ts is = ap (λ (s : Schema). flat_map (ends_of (sorts_of s None)) (own_ways (sorts_of s None) ts)) is ∙ far_here_in h ts

pub setting_sorts : (h : Held) → (setting_in h).sorts ≡ sorts_in h
unfolding setting_in
setting_sorts h = refl

pub ruleset own_laws = (setting_sorts)

-- ---- ways

pub no_own_way : (sorts : Sorts) (t : ℕ) → None ≡ slice_get sorts.edges t → own_way sorts t ≡ way.Both
no_own_way sorts t e = rw (sym e) refl

pub directed_way : (sorts : Sorts) (t : ℕ) (s : EdgeSort) → Some s ≡ slice_get sorts.edges t → s.directed ≡ true → own_way sorts t ≡ way.Forward
directed_way sorts t s e is = rw (sym e) (rw is refl)

pub undirected_way : (sorts : Sorts) (t : ℕ) (s : EdgeSort) → Some s ≡ slice_get sorts.edges t → s.directed ≡ false → own_way sorts t ≡ way.Both
undirected_way sorts t s e is = rw (sym e) (rw is refl)

pub no_ends : (sorts : Sorts) (w : Way) (t : ℕ) → None ≡ slice_get sorts.edges t → ends_of sorts (w, t) ≡ []
no_ends sorts w t e = rw (sym e) refl

pub forward_ends : (sorts : Sorts) (t : ℕ) (s : EdgeSort) → Some s ≡ slice_get sorts.edges t → ends_of sorts (way.Forward, t) ≡ s.to ∷ []
forward_ends sorts t s e = rw (sym e) refl

pub backward_ends : (sorts : Sorts) (t : ℕ) (s : EdgeSort) → Some s ≡ slice_get sorts.edges t → ends_of sorts (way.Backward, t) ≡ s.from ∷ []
backward_ends sorts t s e = rw (sym e) refl

pub both_ends : (sorts : Sorts) (t : ℕ) (s : EdgeSort) → Some s ≡ slice_get sorts.edges t → ends_of sorts (way.Both, t) ≡ s.from ∷ s.to ∷ []
both_ends sorts t s e = rw (sym e) refl

pub ruleset way_laws = (no_own_way, directed_way, undirected_way, no_ends, forward_ends, backward_ends, both_ends)

-- ---- named ways

pub no_way : (setting : Setting Bytes) (w : Way) (n : Bytes) → setting.words.edge_type n ≡ None → way_of setting (w, n) ≡ None
no_way setting w n e = rw e refl

pub one_way : (setting : Setting Bytes) (w : Way) (n : Bytes) (t : ℕ) → setting.words.edge_type n ≡ Some t → way_of setting (w, n) ≡ Some (w, t)
one_way setting w n t e = rw e refl

pub ruleset named_way_laws = (no_way, one_way, append-nil)

-- one more name, which is that of a way or not
pub named_more : {A B : Type 0} (E : B → List ℕ) (W : A → Option B) (w : A) (ws : List A)
    → flat_map E (filter_map W (w ∷ ws)) ≡ flat_map E (option_to_list (W w)) ++ flat_map E (filter_map W ws)
named_more {B = B} E W w ws = step (W w)
  where
    step : (o : Option B) → flat_map E (cons_option o (filter_map W ws)) ≡ flat_map E (option_to_list o) ++ flat_map E (filter_map W ws)
    step None = refl
    step (Some b) = ap (λ l. l ++ flat_map E (filter_map W ws)) (sym (append-nil (E b)))

-- ---- the last step

pub last_is : (steps : List StepTree) → last_step (map view_step steps) ≡ option_map view_step (slice_get steps (length steps - 1))
last_is [] = refl
last_is (s ∷ []) = refl
last_is (s ∷ t ∷ rest) = last_is (t ∷ rest) ∙ ap (λ n. option_map view_step (slice_get (s ∷ t ∷ rest) n)) (let e : suc (length (t ∷ rest) - 1) ≡ length (s ∷ t ∷ rest) - 1 = omega arith in e)
