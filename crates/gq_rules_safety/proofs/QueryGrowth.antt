-- QueryGrowth: a query that is typed over some types is typed over more of them, and declares the same.
use Rattle.std.proofs.Common.{◌≡◌, ℕ, Bool, true, false, List, [], ◌∷◌, ◌++◌, length, Option, Some, None, Ok, Err, refl, sym, subst}
use Rattle.std.specs.Prelude.{◌-◌, nat_lt, filter}
use Rattle.gq_tree.specs.Tree.{Tree}
use Rattle.gq_value.specs.Accums.{Base, Accum}
use Rattle.gq_rules_typing.specs.Statements.{Bytes, KindTree, OverElem, OverBits, Averaged, MapTo, MapToElem, Grouped, Heap, PartTrees, no_part_tree, part_tree_and, Definition, TupleType, Accums, Parameter, QueryOver}
use Rattle.gq_rules_typing.specs.Sorts.{Fields, VertexSort, EdgeSort, Sorts, names_of}
use Rattle.gq_rules_typing.specs.Words.{Words, Setting}
use Rattle.gq_rules_typing.specs.Judging.{Mismatch, TooMany, BadKind, Judged, ◌>>=◌, ◌>>◌, unless, or_fault, through_judged}
use Rattle.gq_rules_typing.specs.Kinds.{set_type}
use Rattle.gq_rules_typing.specs.ExpressionTypes.{converting}
use Rattle.gq_rules_typing.specs.Scopes.{Entry, Variable, Accumulator, TupleName, InOpening, Scope, said, with_entry, new_name, names_at, base_written}
use Rattle.gq_rules_typing.specs.StatementTypes.{typing_stmts}
use Rattle.gq_rules_typing.specs.KindTypes.{fields_written, elem_written, part_name, level_left, kind_within, parts_within, kind_written}
use Rattle.gq_rules_typing.specs.QueryTypes.{good_default, typing_parameter, with_tuple, is_accum, typing_opening, typing_accum, first_name, typing_definition, typing_over}
use Rattle.gq_rules_safety.proofs.Leads.{Leads, Keeps, kept, leads_as, leads_then, kept_then, kept_on, leads_and}
use Rattle.gq_rules_safety.proofs.ScopeGrowth.{scoped, Scopes, scopes_ok, scopes_then, scopes_through, ok_same}
use Rattle.gq_rules_safety.proofs.ExpressionGrowth.{SortsGrow, at₁, at₂, converting_kept}
use Rattle.gq_rules_safety.proofs.StatementGrowth.{stmts_grown}

module _ {N : Type 0} (words : Words N) (a : Sorts) (vertices : List VertexSort) (edges : List EdgeSort) (h : SortsGrow words a vertices edges) (paths : Bool) where
  abbrev first : List (N × Fields) → Setting N
  first tuples = at₁ words a vertices edges h tuples

  abbrev second : List (N × Fields) → Setting N
  second tuples = at₂ words a vertices edges h tuples

  abbrev s : List (N × Fields) → List (N × Entry) → Scope N
  s tuples names = scoped (first tuples) names paths

  abbrev t : List (N × Fields) → List (N × Entry) → Scope N
  t tuples names = scoped (second tuples) names paths

  abbrev Same : List (N × Fields) → Scope N → Scope N → Type 0
  Same tuples = Scopes (first tuples) (second tuples) paths

  -- the same tuple types and names
  abbrev pub Declares : Scope N → Scope N → Type 0
  Declares x y = (tuples : List (N × Fields)) × (names : List (N × Entry)) × (x ≡ s tuples names) × (y ≡ t tuples names)

  declared : (tuples : List (N × Fields)) (names : List (N × Entry)) → Leads Declares (Ok (s tuples names)) (Ok (t tuples names))
  declared tuples names = record { leads = λ x e. (t tuples names, refl, (tuples, names, sym (ok_same e), refl)) }

  declares : (tuples : List (N × Fields)) (j k : Judged (Scope N)) → Leads (Same tuples) j k → Leads Declares j k
  declares tuples j k l = leads_as (Same tuples) Declares j k (λ x y r. (tuples, r.0, r.1, r.2)) l

  declares_then : {C D : Type 0} {Q : C → D → Type 0} (j k : Judged (Scope N)) (f : Scope N → Judged C) (g : Scope N → Judged D) → Leads Declares j k
      → ((tuples : List (N × Fields)) (names : List (N × Entry)) → Leads Q (f (s tuples names)) (g (t tuples names))) → Leads Q (j >>= f) (k >>= g)
  declares_then {Q = Q} j k f g l n =
      leads_then Declares Q j k f g l (λ x y e r. subst (λ x. Leads Q (f x) (g y)) (sym r.2) (subst (λ y. Leads Q (f (s r.0 r.1)) (g y)) (sym r.3) (n r.0 r.1)))

  -- ---- parameters

  parameter_grown : (names : List (N × Entry)) (p : Parameter N) → Leads (Same []) (typing_parameter (s [] names) p) (typing_parameter (t [] names) p)
  parameter_grown names p =
      kept_then (base_written (s [] names) p.base) (base_written (t [] names) p.base) _ _ (kept (base_written (s [] names) p.base))
      (λ b. leads_and (new_name (s [] names) p.name >> unless Mismatch (good_default b p.default)) (new_name (t [] names) p.name >> unless Mismatch (good_default b p.default)) _ _
      (kept (new_name (s [] names) p.name >> unless Mismatch (good_default b p.default))) (scopes_ok (first []) (second []) paths ((p.name, Variable b) ∷ names)))

  -- ---- accumulators

  opening_kept : (tuples : List (N × Fields)) (names : List (N × Entry)) (x : Bytes) (k : Accum) (o : Option (Tree N)) → Keeps (typing_opening (s tuples names) x k o) (typing_opening (t tuples names) x k o)
  opening_kept tuples names x k None = kept (Ok true)
  opening_kept tuples names x k (Some e) = kept_then (or_fault (BadKind x) (set_type k)) (or_fault (BadKind x) (set_type k)) _ _ (kept (or_fault (BadKind x) (set_type k))) (λ b. converting_kept words a vertices edges h tuples (names_at (s tuples names) InOpening) b e)

  accum_grown : (tuples : List (N × Fields)) (k : Accum) (names : List (N × Entry)) (x : Bool × N × Option (Tree N)) → Leads (Same tuples) (typing_accum k (s tuples names) x) (typing_accum k (t tuples names) x)
  accum_grown tuples k names x =
      leads_and (new_name (s tuples names) x.1 >> unless TooMany (nat_lt (length (filter is_accum names)) 256) >> typing_opening (s tuples names) (said (s tuples names) x.1) k x.2) (new_name (t tuples names) x.1 >> unless TooMany (nat_lt (length (filter is_accum names)) 256) >> typing_opening (t tuples names) (said (t tuples names) x.1) k x.2) _ _
      (leads_and (new_name (s tuples names) x.1 >> unless TooMany (nat_lt (length (filter is_accum names)) 256)) (new_name (t tuples names) x.1 >> unless TooMany (nat_lt (length (filter is_accum names)) 256)) _ _
      (kept (new_name (s tuples names) x.1 >> unless TooMany (nat_lt (length (filter is_accum names)) 256))) (opening_kept tuples names (said (s tuples names) x.1) k x.2))
      (scopes_ok (first tuples) (second tuples) paths ((x.1, Accumulator k x.0) ∷ names))

  -- ---- declarations and the query

  module _ {K : Type 0} (kinds : Scope N → Bytes → K → Judged Accum) (keep : (tuples : List (N × Fields)) (names : List (N × Entry)) (x : Bytes) (k : K) → Keeps (kinds (s tuples names) x k) (kinds (t tuples names) x k)) where
    definition_grown : (tuples : List (N × Fields)) (names : List (N × Entry)) (d : Definition N K) → Leads Declares (typing_definition kinds (s tuples names) d) (typing_definition kinds (t tuples names) d)
    definition_grown tuples names (TupleType fs x) =
        kept_then (fields_written (s tuples names) 16 [] fs) (fields_written (t tuples names) 16 [] fs) _ _ (kept (fields_written (s tuples names) 16 [] fs))
        (λ fields. leads_and (new_name (s tuples names) x) (new_name (t tuples names) x) _ _ (kept (new_name (s tuples names) x)) (declared (tuples ++ (x, fields) ∷ []) ((x, TupleName) ∷ names)))
    definition_grown tuples names (Accums k accums) =
        kept_then (kinds (s tuples names) (first_name (s tuples names) accums) k) (kinds (t tuples names) (first_name (t tuples names) accums) k) _ _ (same_first accums)
        (λ kind. declares tuples (through_judged (typing_accum kind) (s tuples names) accums) (through_judged (typing_accum kind) (t tuples names) accums) (scopes_through (first tuples) (second tuples) paths (typing_accum kind) (typing_accum kind) (accum_grown tuples kind) accums names))
      where
        same_first : (xs : List (Bool × N × Option (Tree N))) → Keeps (kinds (s tuples names) (first_name (s tuples names) xs) k) (kinds (t tuples names) (first_name (t tuples names) xs) k)
        same_first [] = keep tuples names [] k
        same_first (x ∷ xs) = keep tuples names (words.said x.1) k

    definitions_grown : (ds : List (Definition N K)) (tuples : List (N × Fields)) (names : List (N × Entry)) → Leads Declares (through_judged (typing_definition kinds) (s tuples names) ds) (through_judged (typing_definition kinds) (t tuples names) ds)
    definitions_grown [] tuples names = declared tuples names
    definitions_grown (d ∷ ds) tuples names = declares_then (typing_definition kinds (s tuples names) d) (typing_definition kinds (t tuples names) d) _ _ (definition_grown tuples names d) (λ more ns. definitions_grown ds more ns)

    pub over_grown : (q : QueryOver N K) → q.with_paths ≡ paths → Leads Declares (typing_over kinds (first []) q) (typing_over kinds (second []) q)
    over_grown q e =
        subst (λ p. Leads Declares (through_judged typing_parameter (scoped (first []) [] p) q.parameters >>= behind) (through_judged typing_parameter (scoped (second []) [] p) q.parameters >>= behind)) (sym e)
        (scopes_then (first []) (second []) paths (through_judged typing_parameter (s [] []) q.parameters) (through_judged typing_parameter (t [] []) q.parameters) behind behind
        (scopes_through (first []) (second []) paths typing_parameter typing_parameter parameter_grown q.parameters [])
        (λ names. declares_then (through_judged (typing_definition kinds) (s [] names) q.definitions) (through_judged (typing_definition kinds) (t [] names) q.definitions) _ _ (definitions_grown q.definitions [] names)
        (λ tuples ns. declares tuples (typing_stmts (s tuples ns) q.statements) (typing_stmts (t tuples ns) q.statements) (stmts_grown words a vertices edges h tuples paths ns q.statements))))
      where
        behind : Scope N → Judged (Scope N)
        behind z = through_judged (typing_definition kinds) z q.definitions >>= λ y. typing_stmts y q.statements

  module _ (tuples : List (N × Fields)) (names : List (N × Entry)) (x : Bytes) where
    abbrev z : Scope N
    z = s tuples names

    abbrev y : Scope N
    y = t tuples names

    mutual
      kind_kept : (n : ℕ) (k : KindTree N) → Keeps (kind_within n z x k) (kind_within n y x k)
      kind_kept n (OverElem p e) = kept (kind_within n z x (OverElem p e))
      kind_kept n (OverBits p e) = kept (kind_within n z x (OverBits p e))
      kind_kept n Averaged = kept (kind_within n z x Averaged)
      kind_kept n (MapTo e k) =
          kept_then (level_left n >> elem_written z e) (level_left n >> elem_written y e) _ _ (kept (level_left n >> elem_written z e))
          (λ b. kept_on (kind_within (n - 1) z x k) (kind_within (n - 1) y x k) _ (kind_kept (n - 1) k))
      kind_kept n (MapToElem e f) = kept (kind_within n z x (MapToElem e f))
      kind_kept n (Grouped keys ps) =
          kept_then (level_left n >> fields_written z 8 [] keys) (level_left n >> fields_written y 8 [] keys) _ _ (kept (level_left n >> fields_written z 8 [] keys))
          (λ ks. kept_on (parts_within (n - 1) z x (names_of ks) [] ps) (parts_within (n - 1) y x (names_of ks) [] ps) _ (parts_kept (n - 1) (names_of ks) [] ps))
      kind_kept n (Heap w capacity order) = kept (kind_within n z x (Heap w capacity order))

      parts_kept : (n : ℕ) (keys given : List Bytes) (ps : PartTrees N) → Keeps (parts_within n z x keys given ps) (parts_within n y x keys given ps)
      parts_kept n keys given no_part_tree = kept (parts_within n z x keys given no_part_tree)
      parts_kept n keys given (part_tree_and k name ps) =
          kept_then (kind_within n z x k) (kind_within n y x k) _ _ (kind_kept n k)
          (λ kind. kept_then (part_name keys given name) (part_name keys given name) _ _ (kept (part_name keys given name)) (λ more. kept_on (parts_within n z x keys more ps) (parts_within n y x keys more ps) _ (parts_kept n keys more ps)))

    written_kept : (k : KindTree N) → Keeps (kind_written z x k) (kind_written y x k)
    written_kept k = kind_kept 8 k

  pub query_grown : (q : QueryOver N (KindTree N)) → q.with_paths ≡ paths → Leads Declares (typing_over kind_written (first []) q) (typing_over kind_written (second []) q)
  query_grown q e = over_grown kind_written written_kept q e
