-- SafetyLaws: a typed query is never stuck, also after the catalog has grown.
use Rattle.std.proofs.Common.{◌≡◌, ℕ, ◌<◌, ◌≤◌, min, Bool, true, false, List, [], ◌∷◌, ◌++◌, length, take, drop, refl, sym, ap, ap₂, ◌∙◌, arith}
use Rattle.std.proofs.lemmas.Bool.{ltb-true, lt-ltb}
use Rattle.std.proofs.lemmas.List.{length-take, take-append-drop}
use Rattle.std.specs.Prelude.{◌&&◌, nat_lt, slice_get}
use Rattle.std.specs.List.{list_all}
use Rattle.gq_load_check.specs.GrowthLaws.{grows_on}
use Rattle.gq_rules_typing.specs.Sorts.{sorts_of}
use Rattle.gq_rules_meaning.specs.Graphs.{graph_of}
use Rattle.gq_rules_safety.proofs.KindLaws.{query_law}
use Rattle.gq_rules_safety.specs.Growing.{over, GraphLaw}
use Rattle.gq_rules_safety.specs.Safety.{SafetyLaw, GoesOnLaw}
use Rattle.gq_rules_safety.proofs.WordGrowth.{growth_law, early}

pub safety_law : SafetyLaw
safety_law schema own q t e = record {
  today = λ vertices edges clock store arguments fit turns. query_law (graph_of schema own vertices edges) clock store q t e arguments fit turns;
  later = λ sees after grown vertices edges clock store arguments fit turns.
      query_law (graph_of after own vertices edges) clock store q (over (sorts_of after own) t) (growth_law schema after own grown sees q t e) arguments fit turns;
}

pub graph_law : GraphLaw
graph_law before after n grown low =
    ap (λ graphs. slice_get graphs n) (sym (take-append-drop (length before.graphs) after.graphs) ∙ ap (λ graphs. graphs ++ drop (length before.graphs) after.graphs) grown.graphs)
    ∙ early before.graphs (drop (length before.graphs) after.graphs) n low

-- ---- and so on

low_min : (m n : ℕ) → min m n ≡ m → m ≤ n
low_min m n is = omega (arith, is)

more : {A : Type 0} (xs ys : List A) → take (length xs) ys ≡ xs → length xs ≤ length ys
more xs ys begins = low_min (length xs) (length ys) (sym (length-take (length xs) ys) ∙ ap length begins)

pub low_more : (n m : ℕ) (ns : List ℕ) → n ≤ m → list_all (λ t. nat_lt t n) ns ≡ true → list_all (λ t. nat_lt t m) ns ≡ true
low_more n m [] more low = refl
low_more n m (t ∷ ns) more low = go (nat_lt t n) refl low (low_more n m ns more)
  where
    go : (b : Bool) → nat_lt t n ≡ b → (b && list_all (λ t. nat_lt t n) ns) ≡ true → (list_all (λ t. nat_lt t n) ns ≡ true → list_all (λ t. nat_lt t m) ns ≡ true) → list_all (λ t. nat_lt t m) (t ∷ ns) ≡ true
    go true e rest further = let l = ltb-true t n e in ap₂ (λ p q. p && q) (lt-ltb t m (omega (arith, l, more))) (further rest)
    go false e rest further = absurd (cc rest)

pub goes_on_law : GoesOnLaw
goes_on_law before after own q grown sees safe = (
  record {
    vertices = low_more (length before.vertex_types) (length after.vertex_types) _ (more before.vertex_types after.vertex_types grown.vertex_types) sees.vertices;
    edges = low_more (length before.edge_types) (length after.edge_types) _ (more before.edge_types after.edge_types grown.edge_types) sees.edges;
  },
  record { today = safe.later sees after grown; later = λ still last further. safe.later sees last (grows_on before after last grown further) },
)
