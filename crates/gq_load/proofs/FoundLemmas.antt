-- FoundLemmas: the ends of edges that were found: appending one, and their validity after upserts.
use Rattle.std.proofs.Common.{◌≡◌, ℕ, ◌+◌, ◌*◌, ◌<◌, ◌≤◌, List, [], ◌∷◌, ◌++◌, length, get_or, Some, inl, inr, refl, sym, ap, subst, ◌∙◌, arith}
use Rattle.std.specs.Prelude.{slice_get}
use Rattle.std.proofs.lemmas.Bool.{cases_lt}
use Rattle.std.proofs.lemmas.List.{get_or_append_left, get_or_push}
use Rattle.std.proofs.lemmas.Option.{slice_get_within}
use Rattle.gq_graph.specs.Catalog.{Schema}
use Rattle.gq_graph.specs.declared.rows.VertexRow.{VertexRow}
use Rattle.gq_graph.specs.Vertices.{vertex_number}
use Rattle.gq_load_check.specs.declared.job.Target.{Target}
use Rattle.gq_load_check.specs.declared.job.Target.TheVariants as target
use Rattle.gq_load_check.specs.Targets.{edge_type_at}
use Rattle.gq_index.specs.declared.store.Store.{Store}
use Rattle.gq_index.specs.Steps.{Step, Done}
use Rattle.gq_index.proofs.NumberLemmas.{number_stays}
use Rattle.gq_load.specs.declared.ahead.FoundEnds.{FoundEnds}
use Rattle.gq_load.specs.declared.draft.Draft.{Draft}
use Rattle.gq_load.specs.declared.record.ReadRecord.{ReadRecord}
use Rattle.gq_load.specs.declared.route.Route.{Route}
use Rattle.gq_load.specs.Found.{no_ends, EndsAreFound, IsFound, AreFoundFor, KeepsThose, TellsOf}
use Rattle.gq_load.proofs.ListLemmas.{same_some}

-- ---- one more

pub keeps_all : (found : List FoundEnds) → KeepsThose found found
keeps_all found i low = refl

pub keeps_more : (old now : List FoundEnds) (ends : FoundEnds) → length old ≤ length now → KeepsThose old now → KeepsThose old (now ++ ends ∷ [])
keeps_more old now ends long keeps i low = get_or_append_left now (ends ∷ []) no_ends i (omega arith) ∙ keeps i low

-- the ends of the records up to a place are stored after those that were there before
abbrev pub StandBehind : List VertexRow → ℕ → ℕ → ℕ → List ReadRecord → ℕ → List FoundEnds → ℕ → Type 0
StandBehind vertices from to place batch first found i =
    (k : ℕ) (r : ReadRecord) (draft : Draft) → k < i → slice_get batch k ≡ Some r → slice_get r.drafts.items place ≡ Some draft
    → EndsAreFound vertices from to draft (get_or found (first + k) no_ends)

pub stand_more : (vertices : List VertexRow) (from to place : ℕ) (batch : List ReadRecord) (first : ℕ) (found : List FoundEnds) (i : ℕ) (read : ReadRecord) (ends : FoundEnds)
    → length found ≡ first + i → slice_get batch i ≡ Some read → ((draft : Draft) → slice_get read.drafts.items place ≡ Some draft → EndsAreFound vertices from to draft ends)
    → StandBehind vertices from to place batch first found i → StandBehind vertices from to place batch first (found ++ ends ∷ []) (i + 1)
stand_more vertices from to place batch first found i read ends long at own stand k r draft low at_r at_d = elim (cases_lt k i) [
  | inl less ↦ subst (EndsAreFound vertices from to draft) (sym (get_or_append_left found (ends ∷ []) no_ends (first + k) (omega arith))) (stand k r draft less at_r at_d)
  | inr high ↦
      let same : k ≡ i = omega arith in
      let is : read ≡ r = same_some read r (sym at ∙ ap (slice_get batch) (sym same) ∙ at_r) in
      let last : get_or (found ++ ends ∷ []) (first + k) no_ends ≡ ends = get_or_push found ends no_ends (first + k) (omega arith) in
      subst (EndsAreFound vertices from to draft) (sym last) (own draft (ap (λ (x : ReadRecord). slice_get x.drafts.items place) is ∙ at_d))
]

-- ---- route by route

-- the ends of all records along the routes up to a place
abbrev pub FoundTo : Schema → List Route → List ReadRecord → List VertexRow → List FoundEnds → ℕ → Type 0
FoundTo schema routes batch vertices found n =
    (k i : ℕ) (r : ReadRecord) (route : Route) (draft : Draft) → i < n → slice_get batch k ≡ Some r → slice_get routes i ≡ Some route → slice_get r.drafts.items i ≡ Some draft
    → IsFound schema vertices route.target draft (get_or found (i * 256 + k) no_ends)

pub found_more : (schema : Schema) (routes : List Route) (batch : List ReadRecord) (vertices : List VertexRow) (old new : List FoundEnds) (n : ℕ) (route : Route)
    → length batch ≡ 256 → length old ≡ n * 256 → slice_get routes n ≡ Some route → KeepsThose old new
    → ((k : ℕ) (r : ReadRecord) (draft : Draft) → slice_get batch k ≡ Some r → slice_get r.drafts.items n ≡ Some draft → IsFound schema vertices route.target draft (get_or new (length old + k) no_ends))
    → FoundTo schema routes batch vertices old n → FoundTo schema routes batch vertices new (n + 1)
found_more schema routes batch vertices old new n route room long at keeps own found k i r other draft low at_r at_o at_d =
    let under : k < length batch = slice_get_within batch k r at_r in
    elim (cases_lt i n) [
      | inl less ↦ subst (IsFound schema vertices other.target draft) (sym (keeps (i * 256 + k) (omega arith))) (found k i r other draft less at_r at_o at_d)
      | inr high ↦
          let same : i ≡ n = omega arith in
          let is : route ≡ other = same_some route other (sym at ∙ ap (slice_get routes) (sym same) ∙ at_o) in
          subst (λ (x : Route). IsFound schema vertices x.target draft (get_or new (i * 256 + k) no_ends)) is
          (subst (λ (m : ℕ). IsFound schema vertices route.target draft (get_or new m no_ends)) (omega arith)
          (own k r draft at_r (ap (slice_get r.drafts.items) (sym same) ∙ at_d)))
    ]

-- ---- after upserts, and reads of them

pub ends_later : (vertices later : List VertexRow) (from to : ℕ) (draft : Draft) (ends other : FoundEnds)
    → ((kind n : ℕ) (id : List ℕ) → vertex_number vertices kind id ≡ Some n → vertex_number later kind id ≡ Some n)
    → TellsOf other ends → EndsAreFound vertices from to draft other → EndsAreFound later from to draft ends
ends_later vertices later from to draft ends other stays tells found = record {
  from = λ n is. stays _ _ _ (found.from n (tells.from n is));
  to = λ n is. stays _ _ _ (found.to n (tells.to n is));
}

pub found_later : (schema : Schema) (a b : Store) (steps : List Step) (t : Target) (draft : Draft) (ends other : FoundEnds) → Done a steps b → TellsOf other ends
    → IsFound schema a.vertices t draft other → IsFound schema b.vertices t draft ends
found_later schema a b steps (target.Vertex n) draft ends other done tells found = tt
found_later schema a b steps (target.Edge n) draft ends other done tells found =
    ends_later a.vertices b.vertices (edge_type_at schema n).from (edge_type_at schema n).to draft ends other (λ kind n id is. number_stays a b steps kind n id done is) tells found

pub all_later : (schema : Schema) (routes : List Route) (drafts : List Draft) (k : ℕ) (a b : Store) (steps : List Step) (found : List FoundEnds) → Done a steps b
    → AreFoundFor schema routes drafts k a.vertices found → AreFoundFor schema routes drafts k b.vertices found
all_later schema routes drafts k a b steps found done own i route draft at_r at_d =
    let ends = get_or found (i * 256 + k) no_ends in
    found_later schema a b steps route.target draft ends ends done (record { from = λ n is. is; to = λ n is. is }) (own i route draft at_r at_d)
