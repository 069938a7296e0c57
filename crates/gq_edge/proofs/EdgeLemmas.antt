-- Edges by their names: the walk to the row of a name.
use Rattle.std.proofs.Common.{ℕ, ◌≡◌, ◌<◌, Bool, true, false, List, length, get_or, Option, Some, None, ap, sym, ◌∙◌, subst}
use Rattle.gq_base.specs.Last.{IsLast}
use Rattle.gq_base.proofs.Seeks.{Seeks, seek_starts, seek_goes, seek_none, seek_found, seek_exact}
use Rattle.gq_graph.specs.declared.rows.EdgeRow.{EdgeRow}
use Rattle.gq_graph.specs.declared.rows.Naming.{Naming}
use Rattle.gq_graph.specs.Edges.{is_edge, edge_number, no_edge}
use Rattle.gq_edge.specs.Keyed.{edge_tag, edge_key, HasEnds}
use Rattle.gq_edge.specs.Named.{IsFindable}

abbrev pub SeeksEdge : Naming → EdgeRow → List EdgeRow → List ℕ → Option ℕ → Type 0
SeeksEdge naming edge rows keys next = Seeks (is_edge naming edge) no_edge rows keys (edge_key naming edge) next

pub edge_starts : (naming : Naming) (edge : EdgeRow) (rows : List EdgeRow) (keys : List ℕ) (hash : ℕ) (next : Option ℕ) → IsFindable naming edge rows keys
    → hash ≡ edge_key naming edge → IsLast keys hash (length keys) next → SeeksEdge naming edge rows keys next
edge_starts naming edge rows keys hash next able is last =
    seek_starts (is_edge naming edge) no_edge rows keys (edge_key naming edge) next able.long able.hits
    (subst (λ h. IsLast keys h (length keys) next) is last)

-- the last row of a key that is the whole name is the edge
pub edge_exact : (naming : Naming) (edge : EdgeRow) (rows : List EdgeRow) (keys : List ℕ) (key : ℕ) (next : Option ℕ) → IsFindable naming edge rows keys
    → HasEnds edge → edge_tag naming edge < 2147483648 → key ≡ edge_key naming edge → IsLast keys key (length keys) next → next ≡ edge_number rows naming edge
edge_exact naming edge rows keys key next able ends tag is last =
    seek_exact (is_edge naming edge) no_edge rows keys (edge_key naming edge) next able.long able.hits (able.exact ends tag) able.one
    (subst (λ h. IsLast keys h (length keys) next) is last)

pub edge_goes : (naming : Naming) (edge : EdgeRow) (rows : List EdgeRow) (keys : List ℕ) (n : ℕ) (old next : Option ℕ) (row : EdgeRow) (t : Bool)
    → IsFindable naming edge rows keys → SeeksEdge naming edge rows keys old → old ≡ Some n → row ≡ get_or rows n no_edge → t ≡ is_edge naming edge row → t ≡ false
    → IsLast keys (get_or keys n 0) n next → SeeksEdge naming edge rows keys next
edge_goes naming edge rows keys n old next row t able here at read test miss last =
    let this = subst (SeeksEdge naming edge rows keys) at here in
    seek_goes (is_edge naming edge) no_edge rows keys (edge_key naming edge) n next able.hits this
    (ap (is_edge naming edge) (sym read) ∙ sym test ∙ miss) last

pub edge_found : (naming : Naming) (edge : EdgeRow) (rows : List EdgeRow) (keys : List ℕ) (n : ℕ) (old : Option ℕ) (row : EdgeRow) (t : Bool)
    → IsFindable naming edge rows keys → SeeksEdge naming edge rows keys old → old ≡ Some n → row ≡ get_or rows n no_edge → t ≡ is_edge naming edge row → t ≡ true
    → Some n ≡ edge_number rows naming edge
edge_found naming edge rows keys n old row t able here at read test is =
    let this = subst (SeeksEdge naming edge rows keys) at here in
    sym (seek_found (is_edge naming edge) no_edge n rows this.0
    (ap (is_edge naming edge) (sym read) ∙ sym test ∙ is) able.one)

pub edge_missing : (naming : Naming) (edge : EdgeRow) (rows : List EdgeRow) (keys : List ℕ) (old : Option ℕ)
    → SeeksEdge naming edge rows keys old → old ≡ None → None ≡ edge_number rows naming edge
edge_missing naming edge rows keys old here at =
    sym (seek_none (is_edge naming edge) no_edge rows (subst (SeeksEdge naming edge rows keys) at here))
