-- Edges stay named as their types require.
use Rattle.std.proofs.Common.{◌≡◌, ℕ, eqb, cond, List, [], ◌∷◌, ◌++◌, Option, Some, None, Bool, true, false, refl, sym, ap, ap₂, subst, ◌∙◌}
use Rattle.std.specs.Prelude.{is_some, ◌==◌}
use Rattle.std.specs.Option.{option_or}
use Rattle.std.proofs.lemmas.Bool.{eqb-true}
use Rattle.std.proofs.lemmas.List.Folds.{find-append}
use Rattle.gq_graph.specs.declared.types.EdgeType.{EdgeType}
use Rattle.gq_graph.specs.declared.rows.Naming.{Naming}
use Rattle.gq_graph.specs.declared.rows.EdgeRow.{EdgeRow}
use Rattle.gq_graph.specs.Edges.{EdgeTable, upsert_edge, naming_of, noted}
use Rattle.gq_index.specs.Namings.{naming_in, AreNamedBy}

same_some : {A : Type 0} (x y : A) → Some x ≡ Some y → x ≡ y
same_some {A} x y e = cc

pub named_more : (type_at : ℕ → EdgeType) (namings : List Naming) (k : ℕ) → AreNamedBy type_at namings → AreNamedBy type_at (noted namings (naming_in type_at k))
named_more type_at namings k are kind known is = by (is_some (naming_of namings k)) is
  where
    new : Naming
    new = naming_in type_at k

    at_end : (o : Option Naming) (b : Bool) → naming_of namings kind ≡ o → eqb k kind ≡ b → option_or o (cond b (Some new) None) ≡ Some known → known ≡ naming_in type_at kind
    at_end (Some old) b first same e = are kind known (first ∙ e)
    at_end None true first same e = sym (same_some new known e) ∙ ap (naming_in type_at) (eqb-true k kind same)
    at_end None false first same e = absurd (cc)

    by : (b : Bool) → naming_of (cond b namings (namings ++ new ∷ [])) kind ≡ Some known → known ≡ naming_in type_at kind
    by true e = are kind known e
    by false e = at_end (naming_of namings kind) (eqb k kind) refl refl (sym (find-append (λ (n : Naming). n.kind == kind) namings (new ∷ [])) ∙ e)

-- the same after an upsert of an edge of the type
pub named_after : (type_at : ℕ → EdgeType) (old table new : EdgeTable) (naming : Naming) (edge : EdgeRow) → naming ≡ naming_in type_at naming.kind
    → table ≡ old → new ≡ upsert_edge table naming edge → AreNamedBy type_at old.namings → AreNamedBy type_at new.namings
named_after type_at old table new naming edge is same put named =
    let more : AreNamedBy type_at (noted old.namings (naming_in type_at naming.kind)) = named_more type_at old.namings naming.kind named in
    let e : new.namings ≡ noted old.namings (naming_in type_at naming.kind) =
    ap (λ (t : EdgeTable). t.namings) put ∙ ap₂ (λ (t : EdgeTable) (n : Naming). noted t.namings n) same is in
    subst (AreNamedBy type_at) (sym e) more
