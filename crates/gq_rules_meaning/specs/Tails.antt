-- Tails: HAVING, ORDER BY and LIMIT, and a whole SELECT.
-- Here all vertices are judged, then all keys are taken, then the list is sorted and cut.
use Rattle.std.specs.Prelude.{ℕ, Bool, if◌then◌else◌, List, [], ◌∷◌, map, take, ℤ, pos, negsuc, Option, Some, None}
use Rattle.std.specs.declared.cmp.Ordering.{Ordering}
use Rattle.std.specs.declared.cmp.Ordering.TheVariants.{Equal}
use Rattle.std.specs.Ordering.{nat_cmp, ordering_then, ordering_reverse}
use Rattle.gq_rules_typing.specs.Tree.{Tree}
use Rattle.gq_value.specs.Val.{Val}
use Rattle.gq_value.specs.Order.{compare}
use Rattle.gq_rules_typing.specs.Gather.{sorted}
use Rattle.gq_rules_typing.specs.Selecting.{Select}
use Rattle.gq_rules_meaning.specs.Answers.{Answer, Gives, ◌>>=◌, blaming, each}
use Rattle.gq_rules_meaning.specs.Graphs.{vertex_count}
use Rattle.gq_rules_meaning.specs.Expressions.{World, Look, value_of, number_of}
use Rattle.gq_rules_meaning.specs.States.{Slot, State, sight}
use Rattle.gq_rules_meaning.specs.Sources.{from, selects_target, with_vertex}
use Rattle.gq_rules_meaning.specs.Blocks.{BlockFault, AtPlace, After, passes, accumulated}
use Rattle.gq_rules_meaning.specs.Posts.{matched, posted}

-- a vertex with its ORDER BY keys
pub record Ranked : Type 0 where
  pub vertex : ℕ
  pub keys : List Val

-- the selected vertex under its alias
abbrev pub selected_look : {N : Type 0} → World N → State N → Select N → List (Slot N) → ℕ → Look N
selected_look world s q slots v = sight world (with_vertex (from world s.names q) (selects_target world q) v s.names) slots slots

-- those that pass HAVING
abbrev pub passing : {N : Type 0} → (ℕ → Look N) → Option (Tree N) → List ℕ → Answer BlockFault (List ℕ)
passing look t [] = Gives []
passing look t (v ∷ vs) = blaming (AtPlace v) (passes (look v) t) >>= λ b. passing look t vs >>= λ rest. Gives (if b then v ∷ rest else rest)

abbrev pub ranked : {N : Type 0} → (ℕ → Look N) → List (Tree N × Bool) → ℕ → Answer BlockFault Ranked
ranked look order v = blaming (AtPlace v) (each (λ key. value_of (look v) key.0) order) >>= λ ks. Gives (record { vertex = v; keys = ks })

-- key by key; true descends
abbrev pub by_keys : {N : Type 0} → List (Tree N × Bool) → List Val → List Val → Ordering
by_keys (key ∷ order) (v ∷ vs) (w ∷ ws) = ordering_then (if key.1 then ordering_reverse (compare v w) else compare v w) (by_keys order vs ws)
by_keys _ _ _ = Equal

-- ties are broken by vertex number
abbrev pub in_order : {N : Type 0} → List (Tree N × Bool) → Ranked → Ranked → Ordering
in_order order a b = ordering_then (by_keys order a.keys b.keys) (nat_cmp a.vertex b.vertex)

-- none if the number is negative
abbrev pub at_most : {A : Type 0} → ℤ → List A → List A
at_most (pos n) xs = take n xs
at_most (negsuc n) xs = []

-- LIMIT; its fault has the number of vertices as its place
abbrev pub cut : {N : Type 0} → World N → Look N → Option (Tree N) → List ℕ → Answer BlockFault (List ℕ)
cut world look None vs = Gives vs
cut world look (Some t) vs = blaming (AtPlace (vertex_count world.graph)) (number_of look t) >>= λ n. Gives (at_most n vs)

-- all of HAVING by vertex, then all keys by vertex, then LIMIT
abbrev pub tail : {N : Type 0} → World N → State N → Select N → After N → Answer BlockFault (List ℕ)
tail world s q a =
    passing (selected_look world s q a.slots) q.having (matched a (selects_target world q)) >>= λ vs.
    each (ranked (selected_look world s q a.slots) q.order) vs >>= λ rs.
    cut world (sight world s.names a.slots a.slots) q.limit (map (λ (r : Ranked). r.vertex) (sorted (in_order q.order) rs))

-- a SELECT gives new accumulators and a list of vertices
pub record Selected (N : Type 0) : Type 0 where
  pub slots : List (Slot N)
  pub vertices : List ℕ

abbrev pub select : {N : Type 0} → World N → State N → Select N → Answer BlockFault (Selected N)
select world s q = accumulated world s q >>= posted world s q >>= λ a. tail world s q a >>= λ vs. Gives (record { slots = a.slots; vertices = vs })
