-- The table of edges: each row by its name, and the naming of each type that has rows.
use Rattle.std.proofs.Common.{inl, inr, ℕ, zero, suc, ◌+◌, ◌<◌, ◌≤◌, ◌≡◌, ◌≢◌, ◌==◌, Bool, true, false, cond, List, [], ◌∷◌, ◌++◌, length, get_or, set, take, map, Option, Some, None, refl, ap, sym, ◌∙◌, subst, arith, eq-eqb, length-set}
use Rattle.std.specs.Option.{is_some, unwrap_or, option_or}
use Rattle.std.specs.BTreeMap.{get, Updates}
use Rattle.std.specs.List.{find, position}
use Rattle.std.proofs.lemmas.Bool.{cases_lt}
use Rattle.std.proofs.lemmas.Bool.Decides.{eqb_tells, nat_tests}
use Rattle.std.proofs.lemmas.List.{length-map, get_or-map, map_push, get_or_append_left, get_or_push, length_push, get_or-set_same, get_or-set_other}
use Rattle.std.proofs.lemmas.List.Folds.{find-append}
use Rattle.std.proofs.lemmas.List.Quantifiers.{position-Some}
use Rattle.gq_base.proofs.Seeks.{nowhere}
use Rattle.gq_graph.specs.declared.rows.EdgeRow.{EdgeRow}
use Rattle.gq_graph.specs.declared.rows.Naming.{Naming}
use Rattle.gq_graph.specs.Edges.{EdgeTable, is_edge, edge_number, edge_put, upsert_edge, no_edge, edge_at, naming_of, noted, Agrees, most_edges}
use Rattle.gq_value.specs.Val.{Val}
use Rattle.gq_value.specs.Views.{val}
use Rattle.gq_edge.specs.Keyed.{edge_key, HasEnds}
use Rattle.gq_edge.specs.Named.{naming_at, row_key, AreNamed, IsFindable}
use Rattle.std.proofs.Math.Seq.{map-set_same}
use Rattle.gq_edge.specs.Sorted.{Name, Names, IsHashed, name_cmp, name_row, row_name, is_name, AreSorted, IsPlaced, IsSorted}
use Rattle.gq_edge.proofs.SortedLemmas.{row_of, row_back, held, itself, position_map, sorted_push, find_first}
use Rattle.gq_edge.proofs.EdgeNames.{EdgeName, name_of, named_so, is_named, same_key, exact_kind, exact_name}

abbrev pub no_naming : Naming
no_naming = record { kind = 0; directed = false; key = 0 }

missed : (b : Bool) → (b ≡ true → ⊥) → b ≡ false
missed true not = absurd (not refl)
missed false not = refl

-- the naming of a known type
known_is : (o : Option Naming) (d : Naming) → is_some o ≡ true → o ≡ Some (unwrap_or o d)
known_is None d is = absurd (cc)
known_is (Some n) d is = refl

-- a row of the naming's type is named by it
agreed_type : (naming : Naming) (rows : List EdgeRow) (namings : List Naming) (keys : List ℕ) (k : ℕ) → AreNamed rows namings keys
    → Agrees namings naming → (edge_at rows k).kind ≡ naming.kind → k < length rows → naming_at namings (edge_at rows k).kind ≡ naming
agreed_type naming rows namings keys k named agrees same low =
    let known = known_is (naming_of namings (edge_at rows k).kind) (record { kind = 0; directed = false; key = 0 }) (named.known k low) in
    agrees (naming_at namings (edge_at rows k).kind) (ap (naming_of namings) (sym same) ∙ known)

-- and so is a row that has the edge's name
agreed : (naming : Naming) (edge : EdgeRow) (rows : List EdgeRow) (namings : List Naming) (keys : List ℕ) (k : ℕ) → AreNamed rows namings keys
    → Agrees namings naming → edge.kind ≡ naming.kind → k < length rows → is_edge naming edge (edge_at rows k) ≡ true
    → naming_at namings (edge_at rows k).kind ≡ naming
agreed naming edge rows namings keys k named agrees kind low is =
    agreed_type naming rows namings keys k named agrees (sym (ap (λ (n : EdgeName). n.kind) (named_so naming edge (edge_at rows k) is)) ∙ kind) low

-- what a search for the name needs
pub findable : (naming : Naming) (edge : EdgeRow) (rows : List EdgeRow) (namings : List Naming) (keys : List ℕ) → AreNamed rows namings keys
    → Agrees namings naming → edge.kind ≡ naming.kind → IsFindable naming edge rows keys
findable naming edge rows namings keys named agrees kind = record {
  long = ap length named.keyed ∙ length-map rows (row_key namings);
  hits = λ k low is.
      ap (λ h. get_or h k 0) named.keyed ∙ get_or-map (row_key namings) rows k no_edge 0 low
      ∙ ap (λ (n : Naming). edge_key n (edge_at rows k)) (agreed naming edge rows namings keys k named agrees kind low is)
      ∙ sym (same_key naming edge (edge_at rows k) (named_so naming edge (edge_at rows k) is));
  one = λ i j before low a b.
      let naming_is = agreed naming edge rows namings keys i named agrees kind (omega arith) a in
      let same = sym (named_so naming edge (edge_at rows i) a) ∙ named_so naming edge (edge_at rows j) b in
      let hit = is_named naming (edge_at rows i) (edge_at rows j) same in
      let miss = ap (λ (n : Naming). is_edge n (edge_at rows i) (edge_at rows j)) (sym naming_is) ∙ named.apart i j before low in
      absurd (clash (is_edge naming (edge_at rows i) (edge_at rows j)) hit miss);
  exact = λ ends tag k low at.
      let row = edge_at rows k in
      let own : edge_key (naming_at namings row.kind) row ≡ edge_key naming edge =
      sym (ap (λ h. get_or h k 0) named.keyed ∙ get_or-map (row_key namings) rows k no_edge 0 low) ∙ at in
      let same : row.kind ≡ naming.kind = exact_kind naming (naming_at namings row.kind) edge row ends (named.ends k low) tag own ∙ kind in
      let alike = agreed_type naming rows namings keys k named agrees same low in
      is_named naming edge row
      (exact_name naming edge row ends (named.ends k low) tag (subst (λ (n : Naming). edge_key n row ≡ edge_key naming edge) alike own));
}
  where
    clash : (b : Bool) → b ≡ true → b ≡ false → ⊥
    clash b hit miss = cc

or_first : (o r : Option Naming) → is_some o ≡ true → option_or o r ≡ o
or_first None r is = absurd (cc)
or_first (Some n) r is = refl

or_second : (o r : Option Naming) → is_some o ≡ false → option_or o r ≡ r
or_second None r is = refl
or_second (Some n) r is = absurd (cc)

-- a known type keeps its naming
pub noted_known : (namings : List Naming) (naming : Naming) (kind : ℕ) → is_some (naming_of namings kind) ≡ true → naming_of (noted namings naming) kind ≡ naming_of namings kind
noted_known namings naming kind is = by (is_some (naming_of namings naming.kind))
  where
    by : (t : Bool) → naming_of (cond t namings (namings ++ naming ∷ [])) kind ≡ naming_of namings kind
    by true = refl
    by false = find-append (λ (n : Naming). n.kind == kind) namings (naming ∷ []) ∙ or_first (naming_of namings kind) (naming_of (naming ∷ []) kind) is

-- and the naming's own type now has it
pub noted_own : (namings : List Naming) (naming : Naming) → Agrees namings naming → naming_of (noted namings naming) naming.kind ≡ Some naming
noted_own namings naming agrees = by (is_some (naming_of namings naming.kind)) refl
  where
    own : naming_of (naming ∷ []) naming.kind ≡ Some naming
    own = ap (λ t. cond t (Some naming) None) (eq-eqb naming.kind naming.kind refl)

    by : (t : Bool) → is_some (naming_of namings naming.kind) ≡ t → naming_of (cond t namings (namings ++ naming ∷ [])) naming.kind ≡ Some naming
    by true is =
        let known = known_is (naming_of namings naming.kind) naming is in
        known ∙ ap Some (agrees (unwrap_or (naming_of namings naming.kind) naming) known)
    by false is =
        find-append (λ (n : Naming). n.kind == naming.kind) namings (naming ∷ []) ∙ or_second (naming_of namings naming.kind) (naming_of (naming ∷ []) naming.kind) is ∙ own

-- nothing is noted if the type is known
pub noted_already : (namings : List Naming) (naming : Naming) → is_some (naming_of namings naming.kind) ≡ true → noted namings naming ≡ namings
noted_already namings naming is = ap (λ t. cond t namings (namings ++ naming ∷ [])) is

find_none_more : (p : Naming → Bool) (xs : List Naming) (i : ℕ) (d : Naming) → find p (take i xs) ≡ None → p (get_or xs i d) ≡ false → find p (take (i + 1) xs) ≡ None
find_none_more p [] i d none miss = ap (find p) (nothing (i + 1))
  where
    nothing : (n : ℕ) → ◌≡◌ {A = List Naming} (take n []) []
    nothing zero = refl
    nothing (suc n) = refl
find_none_more p (x ∷ xs) zero d none miss = ap (λ t. cond t (Some x) None) miss
find_none_more p (x ∷ xs) (suc i) d none miss =
    let more : suc i + 1 ≡ suc (i + 1) = omega arith in
    let first = head_missed (p x) (find p (take i xs)) none in
    ap (λ n. find p (take n (x ∷ xs))) more ∙ ap (λ t. cond t (Some x) (find p (take (i + 1) xs))) first.0 ∙ find_none_more p xs i d first.1 miss
  where
    head_missed : (t : Bool) (r : Option Naming) → cond t (Some x) r ≡ None → (t ≡ false) × (r ≡ None)
    head_missed true r is = absurd (cc)
    head_missed false r is = (refl, is)

find_hit : (p : Naming → Bool) (xs : List Naming) (i : ℕ) (d : Naming) → i < length xs → p (get_or xs i d) ≡ true → is_some (find p xs) ≡ true
find_hit p [] i d low is = absurd (omega arith)
find_hit p (x ∷ xs) zero d low is = ap (λ t. is_some (cond t (Some x) (find p xs))) is
find_hit p (x ∷ xs) (suc i) d low is = by (p x) (find_hit p xs i d (omega arith) is)
  where
    by : (t : Bool) → is_some (find p xs) ≡ true → is_some (cond t (Some x) (find p xs)) ≡ true
    by true rest = refl
    by false rest = rest

pub not_yet : (namings : List Naming) (kind i : ℕ) → naming_of (take i namings) kind ≡ None → (get_or namings i no_naming).kind ≢ kind → naming_of (take (i + 1) namings) kind ≡ None
not_yet namings kind i none other =
    find_none_more (λ (n : Naming). n.kind == kind) namings i no_naming none (missed ((get_or namings i no_naming).kind == kind) (λ is. other (is_equal (get_or namings i no_naming).kind kind is)))
  where
    is_equal : (a b : ℕ) → (a == b) ≡ true → a ≡ b
    is_equal a b h = grind (arith, nat_tests)

pub noted_there : (namings : List Naming) (kind i : ℕ) → i < length namings → (get_or namings i no_naming).kind ≡ kind → is_some (naming_of namings kind) ≡ true
noted_there namings kind i low is = find_hit (λ (n : Naming). n.kind == kind) namings i no_naming low (eq-eqb (get_or namings i no_naming).kind kind is)

map_agree : {X Y : Type 0} (f g : X → Y) (d : X) (xs : List X) → ((k : ℕ) → k < length xs → f (get_or xs k d) ≡ g (get_or xs k d)) → map f xs ≡ map g xs
map_agree f g d [] same = refl
map_agree f g d (x ∷ xs) same =
    ap (λ y. y ∷ map f xs) (same 0 (omega arith)) ∙ ap (λ ys. g x ∷ ys) (map_agree f g d xs (λ k low. same (suc k) (omega arith)))

-- what is kept of each row with its naming, after an edge is added
pub known_added : {X : Type 0} (f : Naming → EdgeRow → X) (rows : List EdgeRow) (namings : List Naming) (keys : List ℕ) (naming : Naming) (edge : EdgeRow)
    → AreNamed rows namings keys → Agrees namings naming → edge.kind ≡ naming.kind
    → map (λ (r : EdgeRow). f (naming_at (noted namings naming) r.kind) r) (rows ++ edge ∷ []) ≡ map (λ (r : EdgeRow). f (naming_at namings r.kind) r) rows ++ f naming edge ∷ []
known_added f rows namings keys naming edge named agrees kind =
    let after = noted namings naming in
    let own : naming_of after edge.kind ≡ Some naming = ap (naming_of after) kind ∙ noted_own namings naming agrees in
    map_push (λ (r : EdgeRow). f (naming_at after r.kind) r) rows edge
    ∙ ap (λ l. l ++ f (naming_at after edge.kind) edge ∷ [])
    (map_agree (λ (r : EdgeRow). f (naming_at after r.kind) r) (λ (r : EdgeRow). f (naming_at namings r.kind) r) no_edge rows (λ k low.
    ap (λ (o : Option Naming). f (unwrap_or o (record { kind = 0; directed = false; key = 0 })) (edge_at rows k)) (noted_known namings naming (edge_at rows k).kind (named.known k low))))
    ∙ ap (λ (o : Option Naming). map (λ (r : EdgeRow). f (naming_at namings r.kind) r) rows ++ f (unwrap_or o (record { kind = 0; directed = false; key = 0 })) edge ∷ []) own

-- one edge added, with a new name
pub named_added : (rows : List EdgeRow) (namings : List Naming) (keys : List ℕ) (naming : Naming) (edge : EdgeRow) (key : ℕ) → Agrees namings naming
    → edge.kind ≡ naming.kind → edge_number rows naming edge ≡ None → length rows < most_edges → key ≡ edge_key naming edge → HasEnds edge
    → AreNamed rows namings keys → AreNamed (rows ++ edge ∷ []) (noted namings naming) (keys ++ key ∷ [])
named_added rows namings keys naming edge key agrees kind none room is ends named =
    let all = rows ++ edge ∷ [] in let after = noted namings naming in
    let front : (k : ℕ) → k < length rows → edge_at all k ≡ edge_at rows k = λ k low. get_or_append_left rows (edge ∷ []) no_edge k low in
    let back : edge_at all (length rows) ≡ edge = get_or_push rows edge no_edge (length rows) refl in
    let own : naming_of after edge.kind ≡ Some naming = ap (naming_of after) kind ∙ noted_own namings naming agrees in
    let old_naming : (k : ℕ) → k < length rows → naming_of after (edge_at rows k).kind ≡ naming_of namings (edge_at rows k).kind
    = λ k low. noted_known namings naming (edge_at rows k).kind (named.known k low) in
    let old_at : (k : ℕ) → k < length rows → naming_at after (edge_at rows k).kind ≡ naming_at namings (edge_at rows k).kind
    = λ k low. ap (λ (o : Option Naming). unwrap_or o (record { kind = 0; directed = false; key = 0 })) (old_naming k low) in
    record {
      known = λ k low. elim (cases_lt k (length rows)) [
        | inl under ↦ ap (λ (r : EdgeRow). is_some (naming_of after r.kind)) (front k under) ∙ ap is_some (old_naming k under) ∙ named.known k under
        | inr over ↦
            let last : k ≡ length rows = omega (arith, length_push rows edge) in
            ap (λ n. is_some (naming_of after (edge_at all n).kind)) last ∙ ap (λ (r : EdgeRow). is_some (naming_of after r.kind)) back ∙ ap is_some own
      ];
      keyed =
          ap (λ h. h ++ key ∷ []) named.keyed ∙ ap (λ h. map (row_key namings) rows ++ h ∷ []) is
          ∙ sym (known_added edge_key rows namings keys naming edge named agrees kind);
      ends = λ k low. elim (cases_lt k (length rows)) [
        | inl under ↦ subst HasEnds (sym (front k under)) (named.ends k under)
        | inr over ↦
            let last : k ≡ length rows = omega (arith, length_push rows edge) in
            subst HasEnds (sym (ap (edge_at all) last ∙ back)) ends
      ];
      apart = λ i j before low.
          let first : i < length rows = omega (arith, length_push rows edge) in
          ap (λ (r : EdgeRow). is_edge (naming_at after r.kind) r (edge_at all j)) (front i first)
          ∙ ap (λ (n : Naming). is_edge n (edge_at rows i) (edge_at all j)) (old_at i first)
          ∙ elim (cases_lt j (length rows)) [
            | inl under ↦ ap (is_edge (naming_at namings (edge_at rows i).kind) (edge_at rows i)) (front j under) ∙ named.apart i j before under
            | inr over ↦
                let last : j ≡ length rows = omega (arith, length_push rows edge) in
                ap (λ n. is_edge (naming_at namings (edge_at rows i).kind) (edge_at rows i) (edge_at all n)) last
                ∙ ap (is_edge (naming_at namings (edge_at rows i).kind) (edge_at rows i)) back
                ∙ missed (is_edge (naming_at namings (edge_at rows i).kind) (edge_at rows i) edge) (λ hit. new_apart i first hit)
          ];
      few = omega (arith, length_push rows edge);
    }
  where
    new_apart : (i : ℕ) → i < length rows → is_edge (naming_at namings (edge_at rows i).kind) (edge_at rows i) edge ≡ true → ⊥
    new_apart i low hit =
        let same = named_so (naming_at namings (edge_at rows i).kind) (edge_at rows i) edge hit in
        let kinds : (edge_at rows i).kind ≡ naming.kind = ap (λ (n : EdgeName). n.kind) same ∙ kind in
        let known = known_is (naming_of namings (edge_at rows i).kind) (record { kind = 0; directed = false; key = 0 }) (named.known i low) in
        let alike : naming_at namings (edge_at rows i).kind ≡ naming = agrees (naming_at namings (edge_at rows i).kind) (ap (naming_of namings) (sym kinds) ∙ known) in
        let turned = subst (λ (n : Naming). name_of n (edge_at rows i) ≡ name_of n edge) alike same in
        nowhere (is_edge naming edge) no_edge rows i none low (is_named naming edge (edge_at rows i) (sym turned))

-- the number of a name is that of a row
pub number_low : (rows : List EdgeRow) (naming : Naming) (edge : EdgeRow) (n : ℕ) → edge_number rows naming edge ≡ Some n
    → (n < length rows) × (is_edge naming edge (edge_at rows n) ≡ true)
number_low rows naming edge n is = let at = position-Some (is_edge naming edge) rows n no_edge is in (at.0, at.1)

-- a row replaced by one with the same name and other attributes
same_rows : (rows : List EdgeRow) (n : ℕ) (row : EdgeRow) → n < length rows → row.kind ≡ (edge_at rows n).kind → (k : ℕ)
    → (edge_at (set rows n row) k).kind ≡ (edge_at rows k).kind
same_rows rows n row low kind k = elim (eqb_tells k n) [
  | inl h ↦ ap (λ j. (edge_at (set rows n row) j).kind) h.1 ∙ ap (λ (r : EdgeRow). r.kind) (get_or-set_same rows n row no_edge low) ∙ kind ∙ ap (λ j. (edge_at rows j).kind) (sym h.1)
  | inr h ↦ ap (λ (r : EdgeRow). r.kind) (get_or-set_other rows n k row no_edge h.1)
]

same_name_at : (rows : List EdgeRow) (n : ℕ) (row : EdgeRow) (naming : Naming) → n < length rows → name_of naming row ≡ name_of naming (edge_at rows n)
    → (k : ℕ) (m : Naming) → (k ≡ n → m ≡ naming) → name_of m (edge_at (set rows n row) k) ≡ name_of m (edge_at rows k)
same_name_at rows n row naming low same k m alike = elim (eqb_tells k n) [
  | inl h ↦
      ap (λ (x : Naming). name_of x (edge_at (set rows n row) k)) (alike h.1)
      ∙ ap (λ j. name_of naming (edge_at (set rows n row) j)) h.1 ∙ ap (name_of naming) (get_or-set_same rows n row no_edge low) ∙ same
      ∙ ap (λ j. name_of naming (edge_at rows j)) (sym h.1) ∙ ap (λ (x : Naming). name_of x (edge_at rows k)) (sym (alike h.1))
  | inr h ↦ ap (name_of m) (get_or-set_other rows n k row no_edge h.1)
]

pub named_replaced : (rows : List EdgeRow) (namings : List Naming) (keys : List ℕ) (n : ℕ) (row : EdgeRow) (naming : Naming) → n < length rows
    → naming_at namings (edge_at rows n).kind ≡ naming → row.kind ≡ (edge_at rows n).kind → name_of naming row ≡ name_of naming (edge_at rows n)
    → HasEnds row → AreNamed rows namings keys → AreNamed (set rows n row) namings keys
named_replaced rows namings keys n row naming low own kind same ends named =
    let after = set rows n row in
    let kinds : (k : ℕ) → (edge_at after k).kind ≡ (edge_at rows k).kind = λ k. same_rows rows n row low kind k in
    let alike : (k : ℕ) → k ≡ n → naming_at namings (edge_at rows k).kind ≡ naming = λ k is. ap (λ j. naming_at namings (edge_at rows j).kind) is ∙ own in
    let count : length after ≡ length rows = length-set rows n row in
    record {
      known = λ k under. ap (λ x. is_some (naming_of namings x)) (kinds k) ∙ named.known k (omega (arith, count));
      keyed = named.keyed ∙ by_place rows after (row_key namings) no_edge (sym count) (λ k under.
          sym (ap (λ x. edge_key (naming_at namings x) (edge_at after k)) (kinds k)
          ∙ same_key (naming_at namings (edge_at rows k).kind) (edge_at after k) (edge_at rows k)
          (same_name_at rows n row naming low same k (naming_at namings (edge_at rows k).kind) (alike k))));
      ends = λ k under. elim (eqb_tells k n) [
        | inl h ↦ subst HasEnds (sym (ap (edge_at after) h.1 ∙ get_or-set_same rows n row no_edge low)) ends
        | inr h ↦ subst HasEnds (sym (get_or-set_other rows n k row no_edge h.1)) (named.ends k (omega (arith, under, count)))
      ];
      apart = λ i j before under.
          let m = naming_at namings (edge_at rows i).kind in
          ap (λ x. is_edge (naming_at namings x) (edge_at after i) (edge_at after j)) (kinds i)
          ∙ missed (is_edge m (edge_at after i) (edge_at after j)) (λ hit.
          let made = named_so m (edge_at after i) (edge_at after j) hit in
          let one = same_name_at rows n row naming low same i m (alike i) in
          let kind_same : (edge_at rows i).kind ≡ (edge_at rows j).kind = sym (kinds i) ∙ ap (λ (x : EdgeName). x.kind) made ∙ kinds j in
          let two = same_name_at rows n row naming low same j m (λ is. ap (naming_at namings) kind_same ∙ alike j is) in
          let was = is_named m (edge_at rows i) (edge_at rows j) (sym one ∙ made ∙ two) in
          clash (is_edge m (edge_at rows i) (edge_at rows j)) was (named.apart i j before (omega (arith, count))));
      few = omega (arith, count, named.few);
    }
  where
    clash : (b : Bool) → b ≡ true → b ≡ false → ⊥
    clash b hit miss = cc

    by_place : {X Y : Type 0} (xs ys : List X) (f : X → Y) (d : X) → length xs ≡ length ys → ((k : ℕ) → k < length xs → f (get_or xs k d) ≡ f (get_or ys k d)) → map f xs ≡ map f ys
    by_place [] [] f d long same = refl
    by_place [] (y ∷ ys) f d long same = absurd (omega arith)
    by_place (x ∷ xs) [] f d long same = absurd (omega arith)
    by_place (x ∷ xs) (y ∷ ys) f d long same =
        ap (λ z. z ∷ map f xs) (same 0 (omega arith)) ∙ ap (λ zs. f y ∷ zs) (by_place xs ys f d (omega arith) (λ k low. same (suc k) (omega arith)))

-- an edge with a known name
pub found_row : (rows : List EdgeRow) (namings : List Naming) (keys : List ℕ) (naming : Naming) (edge : EdgeRow) (n : ℕ) → AreNamed rows namings keys
    → Agrees namings naming → edge.kind ≡ naming.kind → edge_number rows naming edge ≡ Some n
    → (n < length rows) × AreNamed (set rows n (record (edge_at rows n) { attributes = edge.attributes })) namings keys × (noted namings naming ≡ namings)
    × (map (row_name namings) (set rows n (record (edge_at rows n) { attributes = edge.attributes })) ≡ map (row_name namings) rows)
found_row rows namings keys naming edge n named agrees kind is =
    let at = number_low rows naming edge n is in
    let so = named_so naming edge (edge_at rows n) at.1 in
    let own = agreed naming edge rows namings keys n named agrees kind at.0 at.1 in
    let values : map val (take naming.key edge.attributes) ≡ map val (take naming.key (edge_at rows n).attributes) = ap (λ (x : EdgeName). x.values) so in
    let kinds : (edge_at rows n).kind ≡ naming.kind = sym (ap (λ (x : EdgeName). x.kind) so) ∙ kind in (
      at.0,
      named_replaced rows namings keys n (record (edge_at rows n) { attributes = edge.attributes }) naming at.0 own refl
          (ap (λ (v : List Val). with_values (name_of naming (edge_at rows n)) v) values) (named.ends n at.0) named,
      noted_already namings naming (ap (λ k. is_some (naming_of namings k)) (sym kinds) ∙ named.known n at.0),
      map-set_same (row_name namings) rows n (record (edge_at rows n) { attributes = edge.attributes }) no_edge
          (ap (λ (m : Naming). name_row m (record (edge_at rows n) { attributes = edge.attributes })) own
          ∙ ap (λ (v : List Val). row_of (with_values (name_of naming (edge_at rows n)) v)) values
          ∙ ap (λ (m : Naming). name_row m (edge_at rows n)) (sym own)),
    )
  where
    with_values : EdgeName → List Val → EdgeName
    with_values x v = record x { values = v }

-- the result of an upsert with a known name
pub replaced_is : (rows : List EdgeRow) (namings : List Naming) (now : EdgeTable) (after : List EdgeRow) (naming : Naming) (edge : EdgeRow) (n : ℕ)
    → ◌≡◌ {A = EdgeTable} (record { rows = rows; namings = namings }) now → edge_number rows naming edge ≡ Some n → noted namings naming ≡ namings
    → after ≡ set rows n (record (edge_at rows n) { attributes = edge.attributes })
    → (n ≡ unwrap_or (edge_number now.rows naming edge) (length now.rows)) × ◌≡◌ {A = EdgeTable} (record { rows = after; namings = namings }) (upsert_edge now naming edge)
replaced_is rows namings now after naming edge n view is same written =
    subst (λ (t : EdgeTable). (n ≡ unwrap_or (edge_number t.rows naming edge) (length t.rows)) × ◌≡◌ {A = EdgeTable} (record { rows = after; namings = namings }) (upsert_edge t naming edge)) view (
      sym (ap (λ (o : Option ℕ). unwrap_or o (length rows)) is),
      table_same (written ∙ ap (edge_put rows edge) (sym is)) (sym same),
    )
  where
    table_same : {a b : List EdgeRow} {x y : List Naming} → a ≡ b → x ≡ y → ◌≡◌ {A = EdgeTable} (record { rows = a; namings = x }) (record { rows = b; namings = y })
    table_same {a} {b} {x} {y} p q =
        ap (λ (l : List EdgeRow). table l x) p ∙ ap (λ (l : List Naming). table b l) q
      where
        table : List EdgeRow → List Naming → EdgeTable
        table r m = record { rows = r; namings = m }

-- ---- the tree of names

same_bool : (a b : Bool) → (a ≡ true → b ≡ true) → (b ≡ true → a ≡ true) → a ≡ b
same_bool true b one other = sym (one refl)
same_bool false b one other = sym (missed b (λ is. let back : false ≡ true = other is in absurd (cc)))

-- a row with the name of the edge
pub row_hit : (naming : Naming) (edge : EdgeRow) (rows : List EdgeRow) (namings : List Naming) (keys : List ℕ) (k : ℕ) → AreNamed rows namings keys
    → Agrees namings naming → edge.kind ≡ naming.kind → k < length rows → row_name namings (edge_at rows k) ≡ name_row naming edge
    → is_edge naming edge (edge_at rows k) ≡ true
row_hit naming edge rows namings keys k named agrees kind low is =
    let row = edge_at rows k in
    let same = row_back (name_of (naming_at namings row.kind) row) (name_of naming edge) is in
    let own = agreed_type naming rows namings keys k named agrees (ap (λ (n : EdgeName). n.kind) same ∙ kind) low in
    is_named naming edge row (sym (subst (λ (m : Naming). name_of m row ≡ name_of naming edge) own same))

-- the place of an edge's name among those of the rows is the number of its row
pub placed : (naming : Naming) (edge : EdgeRow) (rows : List EdgeRow) (namings : List Naming) (keys : List ℕ) (name : Name) → AreNamed rows namings keys
    → Agrees namings naming → edge.kind ≡ naming.kind → map val name.1.items ≡ name_row naming edge
    → position (is_name name) (map (row_name namings) rows) ≡ edge_number rows naming edge
placed naming edge rows namings keys name named agrees kind is =
    position_map (is_name name) (row_name namings) (is_edge naming edge) rows no_edge (λ k low.
    let row = edge_at rows k in
    same_bool (is_name name (row_name namings row)) (is_edge naming edge row)
    (λ hit. row_hit naming edge rows namings keys k named agrees kind low (held (row_name namings row) (map val name.1.items) hit ∙ is))
    (λ hit.
    let own = agreed naming edge rows namings keys k named agrees kind low hit in
    let same : row_name namings row ≡ map val name.1.items =
    ap (λ (m : Naming). name_row m row) own ∙ sym (ap row_of (named_so naming edge row hit)) ∙ sym is in
    ap (λ r. is_name name r) same ∙ itself (map val name.1.items)))

-- what a search in the tree needs
pub searchable : (naming : Naming) (edge : EdgeRow) (rows : List EdgeRow) (namings : List Naming) (keys : List ℕ) (tree : Option Names) → AreNamed rows namings keys
    → Agrees namings naming → edge.kind ≡ naming.kind → AreSorted (map (row_name namings) rows) tree → IsSorted naming edge rows tree
searchable naming edge rows namings keys None named agrees kind sorted = tt
searchable naming edge rows namings keys (Some tree) named agrees kind sorted = λ name own is.
    sorted name own ∙ placed naming edge rows namings keys name named agrees kind is

-- no row has the name of a new edge
pub new_name : (naming : Naming) (edge : EdgeRow) (rows : List EdgeRow) (namings : List Naming) (keys : List ℕ) → AreNamed rows namings keys
    → Agrees namings naming → edge.kind ≡ naming.kind → edge_number rows naming edge ≡ None
    → (k : ℕ) → k < length (map (row_name namings) rows) → get_or (map (row_name namings) rows) k [] ≡ name_row naming edge → ⊥
new_name naming edge rows namings keys named agrees kind none k low is =
    let under : k < length rows = omega (arith, low, length-map rows (row_name namings)) in
    nowhere (is_edge naming edge) no_edge rows k none under
    (row_hit naming edge rows namings keys k named agrees kind under (sym (get_or-map (row_name namings) rows k no_edge [] under) ∙ is))

-- an edge has its place in the tree once it was searched for and, where it is new, inserted
pub claimed : (naming : Naming) (edge : EdgeRow) (rows : List EdgeRow) (namings : List Naming) (keys : List ℕ) (key : Name) (old new : Names) (len n : ℕ)
    → AreNamed rows namings keys → Agrees namings naming → edge.kind ≡ naming.kind → AreSorted (map (row_name namings) rows) (Some old)
    → IsHashed key → map val key.1.items ≡ name_row naming edge → len ≡ length rows
    → n ≡ unwrap_or (get name_cmp old key) len → (is_some (get name_cmp old key) ≡ true → new ≡ old)
    → (get name_cmp old key ≡ None → Updates name_cmp old new key (Some len))
    → (n ≡ unwrap_or (edge_number rows naming edge) (length rows))
    × IsPlaced (map (row_name namings) rows) (name_row naming edge) (edge_number rows naming edge) (Some new)
claimed naming edge rows namings keys key old new len n named agrees kind sorted hashed is long at known put =
    (at ∙ ap (λ o. unwrap_or o len) there ∙ ap (unwrap_or (edge_number rows naming edge)) long, by (edge_number rows naming edge) refl)
  where
    there : get name_cmp old key ≡ edge_number rows naming edge
    there = sorted key hashed ∙ placed naming edge rows namings keys key named agrees kind is

    by : (o : Option ℕ) → edge_number rows naming edge ≡ o → IsPlaced (map (row_name namings) rows) (name_row naming edge) o (Some new)
    by (Some m) found = subst (λ (t : Names). AreSorted (map (row_name namings) rows) (Some t)) (sym (known (ap is_some (there ∙ found)))) sorted
    by None missing =
        sorted_push (map (row_name namings) rows) (name_row naming edge) len key old new
        (new_name naming edge rows namings keys named agrees kind missing) (long ∙ sym (length-map rows (row_name namings))) hashed is sorted (put (there ∙ missing))

-- a row that is found is in its place, and nothing changes
pub placed_known : (names : List (List Val)) (row : List Val) (o : Option ℕ) (n : ℕ) (tree : Option Names) → o ≡ Some n → AreSorted names tree → IsPlaced names row o tree
placed_known names row o n tree is sorted = subst (λ (p : Option ℕ). IsPlaced names row p tree) (sym is) sorted

-- a row that isn't found is appended
pub placed_new : (names : List (List Val)) (row : List Val) (o : Option ℕ) (tree : Option Names) → o ≡ None → AreSorted (names ++ row ∷ []) tree → IsPlaced names row o tree
placed_new names row o tree is sorted = subst (λ (p : Option ℕ). IsPlaced names row p tree) (sym is) sorted

-- a number below that of the rows is the one of the edge's row
pub known_number : (o : Option ℕ) (n len : ℕ) → n ≡ unwrap_or o len → n < len → o ≡ Some n
known_number (Some m) n len at low = ap Some (sym at)
known_number None n len at low = let same : n ≡ len = at in absurd (omega (arith, same, low))

-- and that of the rows tells that there is no such row
pub new_number : (rows : List EdgeRow) (naming : Naming) (edge : EdgeRow) (n : ℕ) → n ≡ unwrap_or (edge_number rows naming edge) (length rows)
    → length rows ≤ n → edge_number rows naming edge ≡ None
new_number rows naming edge n at high = by (edge_number rows naming edge) refl
  where
    by : (o : Option ℕ) → edge_number rows naming edge ≡ o → edge_number rows naming edge ≡ None
    by None is = is
    by (Some m) is =
        let low : m < length rows = (number_low rows naming edge m is).0 in
        let same : n ≡ m = at ∙ ap (λ (o : Option ℕ). unwrap_or o (length rows)) is in
        absurd (omega (arith, low, same, high))

-- two rows have two names
pub names_apart : (rows : List EdgeRow) (namings : List Naming) (keys : List ℕ) → AreNamed rows namings keys → (i j : ℕ) → i < j → j < length (map (row_name namings) rows)
    → get_or (map (row_name namings) rows) i [] ≡ get_or (map (row_name namings) rows) j [] → ⊥
names_apart rows namings keys named i j before low is =
    let second : j < length rows = omega (arith, low, length-map rows (row_name namings)) in
    let first : i < length rows = omega (arith, second) in
    let a = edge_at rows i in let b = edge_at rows j in
    let same = row_back (name_of (naming_at namings a.kind) a) (name_of (naming_at namings b.kind) b)
    (sym (get_or-map (row_name namings) rows i no_edge [] first) ∙ is ∙ get_or-map (row_name namings) rows j no_edge [] second) in
    let alike : naming_at namings b.kind ≡ naming_at namings a.kind = ap (naming_at namings) (sym (ap (λ (n : EdgeName). n.kind) same)) in
    let hit = is_named (naming_at namings a.kind) a b (same ∙ ap (λ (m : Naming). name_of m b) alike) in
    clash (is_edge (naming_at namings a.kind) a b) hit (named.apart i j before second)
  where
    clash : (b : Bool) → b ≡ true → b ≡ false → ⊥
    clash b hit miss = cc

-- the naming that a search by type finds
pub naming_there : (namings : List Naming) (kind i : ℕ) → i < length namings → naming_of (take i namings) kind ≡ None
    → (get_or namings i no_naming).kind ≡ kind → get_or namings i no_naming ≡ naming_at namings kind
naming_there namings kind i low none is =
    sym (ap (λ (o : Option Naming). unwrap_or o no_naming)
    (find_first (λ (n : Naming). n.kind == kind) namings i no_naming low none (eq-eqb (get_or namings i no_naming).kind kind is)))
