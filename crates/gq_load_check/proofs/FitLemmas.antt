-- A line that isn't refused fits the catalog.
use Rattle.std.proofs.Common.{ℕ, zero, suc, ◌<◌, ◌≡◌, ◌||◌, ◌&&◌, ◌==◌, Bool, true, false, not, cond, List, [], ◌∷◌, length, get_or, take, map, All, Option, Some, None, refl, ap, subst, arith, is_some}
use Rattle.std.proofs.lemmas.Bool.{eqb-true}
use Rattle.std.proofs.lemmas.List.{length-map}
use Rattle.std.proofs.lemmas.List.Quantifiers.{position-Some}
use Rattle.std.specs.Str.{bytes_eq}
use Rattle.std.specs.List.{list_any}
use Rattle.std.specs.Option.{option_or, option_and_then, option_map_or, unwrap_or}
use Rattle.gq_tree.specs.declared.job.Table.{Table}
use Rattle.gq_tree.specs.declared.job.Table.TheVariants as tables
use Rattle.gq_tree.specs.declared.job.Destination.{Destination}
use Rattle.gq_tree.specs.declared.job.LoadTree.{LoadTree}
use Rattle.gq_tree.specs.declared.job.LoadOption.TheVariants.{Separator, Quote}
use Rattle.gq_tree.specs.declared.job.JobLine.{JobLine}
use Rattle.gq_tree.specs.declared.job.JobLine.TheVariants.{Define, Load}
use Rattle.gq_graph.specs.declared.types.VertexType.{VertexType}
use Rattle.gq_graph.specs.declared.types.EdgeType.{EdgeType}
use Rattle.gq_graph.specs.declared.types.GraphType.{GraphType}
use Rattle.gq_graph.specs.Catalog.{Schema, vertex_type_of, edge_type_of, vertex_names, edge_names}
use Rattle.gq_load_check.specs.declared.job.Target.{Target}
use Rattle.gq_load_check.specs.declared.job.Target.TheVariants as targets
use Rattle.gq_load_check.specs.declared.fault.JobFault.TheVariants as fault
use Rattle.gq_load_check.specs.Targets.{HasTarget, value_count, name_count, edge_type_at}
use Rattle.gq_load_check.specs.Fits.{is_default, is_quote, can_separate, IntoFits, LineFits}
use Rattle.gq_load_check.specs.Options.{Opt, option_text, quote_byte, quote_of, is_separator, separator_of, has_bad_quote, has_bad_separator, first_byte}
use Rattle.gq_load_check.specs.Lines.{has, vertex_target, edge_target, target_of, into_of, line_of, lines_of}
use Rattle.gq_load_check.specs.Refusals.{first_due, bad_option, unknown_file, wrong_count, id_missing, columns_refusal, destination_refusal, load_refusal, line_refusal}

both_none : {A : Type 0} (a b : Option A) → option_or a b ≡ None → (a ≡ None) × (b ≡ None)
both_none None b none = (refl, none)
both_none (Some x) b none = absurd (cc)

both_false : (a b : Bool) → (a || b) ≡ false → (a ≡ false) × (b ≡ false)
both_false false b h = (refl, h)
both_false true b h = absurd (cc)

none_any : {A : Type 0} (p : A → Bool) (xs : List A) → list_any p xs ≡ false → (k : ℕ) (d : A) → k < length xs → p (get_or xs k d) ≡ false
none_any p [] none k d low = absurd (omega arith)
none_any p (x ∷ xs) none zero d low = (both_false (p x) (list_any p xs) none).0
none_any p (x ∷ xs) none (suc k) d low = none_any p xs (both_false (p x) (list_any p xs) none).1 k d (omega arith)

-- ---- destinations

vertex_low : (schema : Schema) (name : List ℕ) (n : ℕ) → vertex_type_of schema name ≡ Some n → n < length schema.vertex_types
vertex_low schema name n is =
    subst (λ k. n < k) (length-map schema.vertex_types (λ (t : VertexType). t.name)) (position-Some (bytes_eq name) (vertex_names schema.vertex_types) n [] is).0

edge_low : (schema : Schema) (name : List ℕ) (n : ℕ) → edge_type_of schema name ≡ Some n → n < length schema.edge_types
edge_low schema name n is =
    subst (λ k. n < k) (length-map schema.edge_types (λ (t : EdgeType). t.name)) (position-Some (bytes_eq name) (edge_names schema.edge_types) n [] is).0

no_value : {A : Type 0} (o : Option A) → not (is_some o) ≡ true → o ≡ None
no_value None is = refl
no_value (Some x) is = absurd (cc)

pub target_there : (schema : Schema) (graph : GraphType) (kind : Table) (name : List ℕ) (t : Target) → target_of schema graph kind name ≡ Some t → HasTarget schema t
target_there schema graph tables.Vertex name t is = by (vertex_type_of schema name) refl is
  where
    chosen : (b : Bool) (n : ℕ) → n < length schema.vertex_types → cond b (Some (targets.Vertex n)) None ≡ Some t → HasTarget schema t
    chosen true n low is = let same : targets.Vertex n ≡ t = cc in subst (HasTarget schema) same low
    chosen false n low is = absurd (cc)

    by : (o : Option ℕ) → vertex_type_of schema name ≡ o → vertex_target graph o ≡ Some t → HasTarget schema t
    by None found is = absurd (cc)
    by (Some n) found is = chosen (has graph.vertices n) n (vertex_low schema name n found) is
target_there schema graph tables.Edge name t is = by (edge_type_of schema name) refl is
  where
    chosen : (a b : Bool) (n : ℕ) → n < length schema.edge_types → (b ≡ true → (edge_type_at schema n).forward ≡ None)
        → cond (a && b) (Some (targets.Edge n)) None ≡ Some t → HasTarget schema t
    chosen true true n low own is = let same : targets.Edge n ≡ t = cc in subst (HasTarget schema) same (low, own refl)
    chosen true false n low own is = absurd (cc)
    chosen false b n low own is = absurd (cc)

    by : (o : Option ℕ) → edge_type_of schema name ≡ o → edge_target schema graph o ≡ Some t → HasTarget schema t
    by None found is = absurd (cc)
    by (Some n) found is =
        chosen (has graph.edges n) (not (is_some (edge_type_at schema n).forward)) n (edge_low schema name n found) (no_value (edge_type_at schema n).forward) is

into_fits : (schema : Schema) (graph : GraphType) (d : Destination) → destination_refusal schema graph d ≡ None → IntoFits schema (into_of schema graph d)
into_fits schema graph d none = by (target_of schema graph d.table d.name) refl none
  where
    counted : (b : Bool) → cond b None (Some (fault.WrongCount d.name)) ≡ None → b ≡ true
    counted true h = refl
    counted false h = absurd (cc)

    unnamed : (b : Bool) → cond b (Some (fault.IdMissing d.name)) None ≡ None → b ≡ false
    unnamed true h = absurd (cc)
    unnamed false h = refl

    fits : (t : Target) → target_of schema graph d.table d.name ≡ Some t → columns_refusal schema d (Some t) ≡ None
        → IntoFits schema (record { target = t; columns = d.columns })
    fits t found none =
        let parts = both_none (wrong_count schema t d) (id_missing schema t d) none in
        record {
          there = target_there schema graph d.table d.name t found;
          count = eqb-true (length d.columns) (value_count schema t) (counted (length d.columns == value_count schema t) parts.0);
          named = none_any is_default (take (name_count schema t) d.columns) (unnamed (list_any is_default (take (name_count schema t) d.columns)) parts.1);
        }

    by : (o : Option Target) → target_of schema graph d.table d.name ≡ o → columns_refusal schema d o ≡ None
        → IntoFits schema (record { target = unwrap_or o (targets.Vertex 0); columns = d.columns })
    by None found none = absurd (cc)
    by (Some t) found none = fits t found none

intos_fit : (schema : Schema) (graph : GraphType) (ds : List Destination) → first_due (destination_refusal schema graph) ds ≡ None
    → All (IntoFits schema) (map (into_of schema graph) ds)
intos_fit schema graph [] none k d low = absurd (omega arith)
intos_fit schema graph (x ∷ ds) none zero d low =
    into_fits schema graph x (both_none (destination_refusal schema graph x) (first_due (destination_refusal schema graph) ds) none).0
intos_fit schema graph (x ∷ ds) none (suc k) d low =
    intos_fit schema graph ds (both_none (destination_refusal schema graph x) (first_due (destination_refusal schema graph) ds) none).1 k d (omega arith)

-- ---- options

quote_is : (text : List ℕ) → is_quote (quote_byte text) ≡ true
quote_is text = by (bytes_eq text _) (bytes_eq text _)
  where
    by : (a b : Bool) → is_quote (cond a (Some 34) (cond b (Some 39) None)) ≡ true
    by true b = refl
    by false true = refl
    by false false = refl

quoted : (options : List Opt) → is_quote (quote_of options) ≡ true
quoted options = by (option_text Quote options)
  where
    by : (o : Option (List ℕ)) → is_quote (option_and_then quote_byte o) ≡ true
    by None = refl
    by (Some text) = quote_is text

comma_separates : (q : Option ℕ) → is_quote q ≡ true → can_separate q 44 ≡ true
comma_separates None is = refl
comma_separates (Some b) is = parts (b == 34) (b == 39) (eqb-true b 34) (eqb-true b 39) is
  where
    parts : (x y : Bool) → (x ≡ true → b ≡ 34) → (y ≡ true → b ≡ 39) → (x || y) ≡ true → can_separate (Some b) 44 ≡ true
    parts true y one other is = ap (λ n. can_separate (Some n) 44) (one refl)
    parts false true one other is = ap (λ n. can_separate (Some n) 44) (other refl)
    parts false false one other is = absurd (cc)

separated : (options : List Opt) → has_bad_separator options ≡ false → can_separate (quote_of options) (separator_of options) ≡ true
separated options good = by (option_text Separator options) good
  where
    not_not : (b : Bool) → not b ≡ false → b ≡ true
    not_not true h = refl
    not_not false h = absurd (cc)

    of_text : (text : List ℕ) → is_separator (quote_of options) text ≡ true → can_separate (quote_of options) (first_byte text) ≡ true
    of_text [] is = absurd (cc)
    of_text (b ∷ []) is = is
    of_text (b ∷ c ∷ text) is = absurd (cc)

    by : (o : Option (List ℕ)) → option_map_or (λ text. not (is_separator (quote_of options) text)) o false ≡ false
        → can_separate (quote_of options) (option_map_or first_byte o 44) ≡ true
    by None good = comma_separates (quote_of options) (quoted options)
    by (Some text) good = of_text text (not_not (is_separator (quote_of options) text) good)

-- ---- lines

line_fits : (schema : Schema) (graph : GraphType) (job : List JobLine) (load : LoadTree) → load_refusal schema graph job load ≡ None
    → LineFits schema (line_of schema graph load)
line_fits schema graph job load none =
    let one = both_none (bad_option load.options) _ none in
    let two = both_none (unknown_file job load.file) (first_due (destination_refusal schema graph) load.destinations) one.1 in
    record {
      quoted = quoted load.options;
      separated = separated load.options (good (has_bad_quote load.options) (has_bad_separator load.options) one.0);
      destinations = intos_fit schema graph load.destinations two.1;
    }
  where
    good : (a b : Bool) → cond (a || b) (Some fault.BadOption) None ≡ None → b ≡ false
    good true b h = absurd (cc)
    good false true h = absurd (cc)
    good false false h = refl

pub lines_fit : (schema : Schema) (graph : GraphType) (job lines : List JobLine) → first_due (line_refusal schema graph job) lines ≡ None
    → All (LineFits schema) (lines_of schema graph lines)
lines_fit schema graph job [] none k d low = absurd (omega arith)
lines_fit schema graph job (Define name path ∷ lines) none k d low = lines_fit schema graph job lines none k d low
lines_fit schema graph job (Load load ∷ lines) none zero d low =
    line_fits schema graph job load (both_none (load_refusal schema graph job load) (first_due (line_refusal schema graph job) lines) none).0
lines_fit schema graph job (Load load ∷ lines) none (suc k) d low =
    lines_fit schema graph job lines (both_none (load_refusal schema graph job load) (first_due (line_refusal schema graph job) lines) none).1 k d (omega arith)
