-- SeenLemmas: what threads have seen begins the list of the copy that readers take, whatever they do.
use Rattle.std.proofs.Common.{◌≡◌, ℕ, ◌≢◌, true, List, [], ◌∷◌, ◌++◌, set, refl, sym, subst, ⊎_elim}
use mathlib.Core.Option.{some, some-ne-none}
use mathlib.Core.List.{IsPrefix}
use lib.ListN.{get_elem?}
use Rattle.atomic_table.proofs.Lists.{at_set, at_snoc}
use Rattle.gq_load_check.specs.declared.insert.Insert.{Insert}
use Rattle.gq_store.specs.declared.view.Shown.{Shown}
use Rattle.gq_store.specs.declared.view.View.{View}
use Rattle.gq_store.specs.Shows.{AllSeen, Holds, Looks}
use Rattle.gq_store.proofs.Beginnings.{prefix_self, prefix_trans}

all_seen : (rows : List Insert) (views : List View) (seat : ℕ) (w : View) → AllSeen rows views → IsPrefix w.seen rows → AllSeen rows (set views seat w)
all_seen rows views seat w h s j u e =
    ⊎_elim (λ (t : (j ≡ seat) × (w ≡ u)). subst (λ (z : View). IsPrefix z.seen rows) t.1 s) (λ (t : (j ≢ seat) × (get_elem? views j ≡ some u)). h j u t.1) (at_set views seat j w u e)

-- who comes to the copy sees its list
pub looks : (x : Shown) (views : List View) (seat : ℕ) (v : View) → Holds x views → get_elem? views seat ≡ some v → (w : View) × Holds x (set views seat w) × Looks v x w
looks x views seat v h at = (
  record { seen = x.rows },
  record { sealed = h.sealed; seen = all_seen x.rows views seat (record { seen = x.rows }) h.seen (prefix_self x.rows) },
  record { sealed = h.sealed; begins = h.seen seat v at; all = refl },
)

-- a new reader has seen nothing
pub opens : (x : Shown) (views : List View) → Holds x views → Holds x (views ++ (record { seen = [] }) ∷ [])
opens x views h = record {
  sealed = h.sealed;
  seen = λ j u e. ⊎_elim (h.seen j u) (λ (same : record { seen = [] } ≡ u). subst (λ (z : View). IsPrefix z.seen x.rows) same (x.rows, refl)) (at_snoc views (record { seen = [] }) u j e);
}

-- the base has taken in nothing, and the writer has seen nothing
pub first_holds : (x : Shown) → x.sealed ≡ true → Holds x (record { seen = [] } ∷ [])
first_holds x sealed = opens x [] (record { sealed = sealed; seen = λ j u e. absurd (some-ne-none u (sym e)) })

-- the writer shows a list that begins with the one before
pub shows : (x y : Shown) (more : List Insert) (views : List View) (seat : ℕ) (v : View) → y.rows ≡ x.rows ++ more → y.sealed ≡ true → Holds x views → get_elem? views seat ≡ some v
    → (w : View) × Holds y (set views seat w) × Looks v y w
shows x y more views seat v e ready h at =
    let grown : IsPrefix x.rows y.rows = (more, sym e) in
    let still : AllSeen y.rows views = λ j u t. prefix_trans u.seen x.rows y.rows (h.seen j u t) grown in (
      record { seen = y.rows },
      record { sealed = ready; seen = all_seen y.rows views seat (record { seen = y.rows }) still (prefix_self y.rows) },
      record { sealed = ready; begins = still seat v at; all = refl },
    )
