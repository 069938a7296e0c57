-- Records, one by one.
use Rattle.std.proofs.Common.{zero, suc, cond, get_or, ◌≡◌, ℕ, ◌<◌, List, [], ◌∷◌, ◌++◌, length, drop, map, Option, Some, None, true, refl, sym, ap, subst, ◌∙◌, arith}
use Rattle.std.specs.Prelude.{Result, Err}
use Rattle.std.proofs.lemmas.List.{append_assoc, append-nil, map-append}
use Rattle.std.proofs.lemmas.Grind.{flat_map-append}
use Rattle.gq_graph.specs.Catalog.{Schema}
use Rattle.gq_graph.specs.declared.rows.StoreFault.{StoreFault}
use Rattle.gq_index.specs.declared.store.Store.{Store}
use Rattle.gq_load_csv.specs.Fields.{TellsTimes}
use Rattle.gq_index.specs.Steps.{Step, Done, Begun, Puts}
use Rattle.gq_index.proofs.StepLemmas.{done_more, err_before, err_more, begun_all}
use Rattle.gq_load.specs.declared.route.Route.{Route}
use Rattle.gq_load.specs.declared.record.ReadRecord.{ReadRecord}
use Rattle.csv.specs.Machine.{next_record}
use Rattle.csv.specs.Reading.{records_from, strip_bom}
use Rattle.gq_load_csv.specs.Records.{records_of}
use Rattle.gq_load_check.specs.declared.job.LoadInto.{LoadInto}
use Rattle.gq_load_check.specs.declared.job.LoadLine.{LoadLine}
use Rattle.gq_load_check.specs.Fits.{IntoFits}
use Rattle.gq_load.specs.declared.fault.LoadFault.{LoadFault}
use Rattle.gq_load.specs.Routes.{route_of}
use Rattle.gq_load.specs.Columns.{Fields}
use Rattle.gq_load.specs.Records.{Judged, judged, steps_from, IsThere}
use Rattle.gq_load.specs.Batches.{judged_of, steps_in, ReadsOn}
use Rattle.gq_load.proofs.RowLemmas.{Reading}
use Rattle.gq_load.specs.declared.report.Report.{Report}
use Rattle.gq_load.specs.Reports.{report_of}
use Rattle.gq_load.specs.Loads.{all_steps, IsLoaded, LoadsBy, Loads, header_of, loaded_of, first_of}

-- the loop's invariant: a prefix of the records was loaded, and these are left
pub record IsUnderWay (schema : Schema) (routes : List Route) (records : List Fields) (before : Store) (left : List Fields) (now : Store) (report : Report) : Type 0 where
  pub behind : List Fields
  pub split : records ≡ behind ++ left
  pub each : (read : Reading) → TellsTimes read → IsLoaded read schema routes behind before now report

pub starts : (schema : Schema) (routes : List Route) (records : List Fields) (before : Store) → IsUnderWay schema routes records before records before (report_of [])
starts schema routes records before = record {
  behind = [];
  split = refl;
  each = λ read tells. record { done = record { taken = tt; leads = refl }; counted = refl };
}

-- the steps of records are those of their judgements
steps_judged : (read : Reading) (schema : Schema) (routes : List Route) (records : List Fields) → all_steps read schema routes records ≡ steps_in (map (judged read schema routes) records)
steps_judged read schema routes [] = refl
steps_judged read schema routes (r ∷ rs) = ap (λ (s : List Step). steps_from (judged read schema routes r) ++ s) (steps_judged read schema routes rs)

-- the steps of the records before a batch, followed by those of the batch
steps_last : (read : Reading) (schema : Schema) (routes : List Route) (behind taken : List Fields) (judgements : List Judged) → judgements ≡ map (judged read schema routes) taken
    → all_steps read schema routes (behind ++ taken) ≡ all_steps read schema routes behind ++ steps_in judgements
steps_last read schema routes behind taken judgements are =
    flat_map-append (λ f. steps_from (judged read schema routes f)) behind taken
    ∙ ap (λ (s : List Step). all_steps read schema routes behind ++ s) (steps_judged read schema routes taken ∙ ap steps_in (sym are))

split_more : (records behind left taken rest : List Fields) → records ≡ behind ++ left → left ≡ taken ++ rest → records ≡ (behind ++ taken) ++ rest
split_more records behind left taken rest split next = split ∙ ap (λ ls. behind ++ ls) next ∙ sym (append_assoc behind taken rest)

pub goes_on : (schema : Schema) (routes : List Route) (records : List Fields) (before : Store) (left rest : List Fields) (now later : Store) (report more : Report) (batch : List ReadRecord)
    → IsUnderWay schema routes records before left now report → ReadsOn schema routes left rest batch
    → Done now (steps_in (map (judged_of schema routes) batch)) later
    → ((js : List Judged) → report ≡ report_of js → more ≡ report_of (js ++ map (judged_of schema routes) batch))
    → IsUnderWay schema routes records before rest later more
goes_on schema routes records before left rest now later report more batch way on put count = record {
  behind = way.behind ++ on.taken;
  split = split_more records way.behind left on.taken rest way.split on.split;
  each = λ read tells. record {
    done = subst (λ (s : List Step). Done before s later) (sym (steps_last read schema routes way.behind on.taken (map (judged_of schema routes) batch) (on.judged read tells)))
        (done_more before now later (all_steps read schema routes way.behind) (steps_in (map (judged_of schema routes) batch)) (way.each read tells).done put);
    counted = count (map (judged read schema routes) way.behind) (way.each read tells).counted
        ∙ ap report_of (ap (λ (js : List Judged). map (judged read schema routes) way.behind ++ js) (on.judged read tells) ∙ sym (map-append (judged read schema routes) way.behind on.taken));
  };
}

pub ends : (read : Reading) (schema : Schema) (routes : List Route) (records : List Fields) (before : Store) (left : List Fields) (now : Store) (report : Report)
    → TellsTimes read → IsUnderWay schema routes records before left now report → left ≡ [] → IsLoaded read schema routes records before now report
ends read schema routes records before left now report tells way none =
    subst (λ (rs : List Fields). IsLoaded read schema routes rs before now report) (sym (way.split ∙ ap (λ ls. way.behind ++ ls) none ∙ append-nil way.behind)) (way.each read tells)

-- the steps of all records are those of the records already loaded, followed by those left
steps_split : (read : Reading) (schema : Schema) (routes : List Route) (records behind left : List Fields) → records ≡ behind ++ left
    → all_steps read schema routes records ≡ all_steps read schema routes behind ++ all_steps read schema routes left
steps_split read schema routes records behind left split =
    ap (all_steps read schema routes) split ∙ flat_map-append (λ f. steps_from (judged read schema routes f)) behind left

pub wants_memory : (read : Reading) (schema : Schema) (routes : List Route) (records : List Fields) (before : Store) (left : List Fields) (now : Store) (report : Report)
    → TellsTimes read → IsUnderWay schema routes records before left now report → Begun before (all_steps read schema routes records) now
wants_memory read schema routes records before left now report tells way =
    subst (λ (s : List Step). Begun before s now) (sym (steps_split read schema routes records way.behind left way.split))
    (begun_all before now (all_steps read schema routes way.behind) (all_steps read schema routes left) (way.each read tells).done)

pub stops : (A : Type 0) (read : Reading) (schema : Schema) (routes : List Route) (records : List Fields) (before : Store) (left rest : List Fields) (now later : Store) (report : Report) (batch : List ReadRecord) (f : StoreFault)
    → TellsTimes read → IsUnderWay schema routes records before left now report → ReadsOn schema routes left rest batch
    → Puts {A = A} now (steps_in (map (judged_of schema routes) batch)) later (Err f) → Puts {A = Report} before (all_steps read schema routes records) later (Err f)
stops A read schema routes records before left rest now later report batch f tells way on put =
    let steps : List Step = steps_in (map (judged_of schema routes) batch) in
    subst (λ (s : List Step). Puts {A = Report} before s later (Err f))
    (ap (λ (s : List Step). s ++ all_steps read schema routes rest) (sym (steps_last read schema routes way.behind on.taken (map (judged_of schema routes) batch) (on.judged read tells)))
    ∙ sym (steps_split read schema routes records (way.behind ++ on.taken) rest (split_more records way.behind left on.taken rest way.split on.split)))
    (err_before A Report before later (all_steps read schema routes way.behind ++ steps) (all_steps read schema routes rest) f
    (err_more A A before now later (all_steps read schema routes way.behind) steps f (way.each read tells).done put))

-- ---- a line

-- the types of a line's routes exist
pub all_there : (schema : Schema) (header : Option Fields) (destinations : List LoadInto) → ((k : ℕ) (d : LoadInto) → k < length destinations → IntoFits schema (get_or destinations k d))
    → (k : ℕ) (r : Route) → k < length (map (route_of schema header) destinations) → IsThere schema (get_or (map (route_of schema header) destinations) k r)
all_there schema header [] fits k r low = absurd (omega arith)
all_there schema header (d ∷ ds) fits zero r low = (fits 0 d (omega arith)).there
all_there schema header (d ∷ ds) fits (suc k) r low = all_there schema header ds (λ j e below. fits (suc j) e (omega arith)) k r (omega arith)

-- a load whose header is the first record
pub with_header : (read : Reading) (schema : Schema) (line : LoadLine) (records rest : List Fields) (header : Fields) (before later : Store) (result : Result Report LoadFault)
    → line.header ≡ true → records ≡ header ∷ rest → LoadsBy read schema line (Some header) rest before later result → Loads read schema line records before later result
with_header read schema line records rest header before later result has is loads =
    let h : header_of line records ≡ Some header = ap (λ b. cond b (first_of records) None) has ∙ ap first_of is in
    let r : loaded_of line records ≡ rest = ap (λ b. cond b (drop 1 records) records) has ∙ ap (drop 1) is in
    subst (λ (o : Option Fields). LoadsBy read schema line o (loaded_of line records) before later result) (sym h)
    (subst (λ (rs : List Fields). LoadsBy read schema line (Some header) rs before later result) (sym r) loads)

pub with_no_header : (read : Reading) (schema : Schema) (line : LoadLine) (records none : List Fields) (before later : Store) (result : Result Report LoadFault)
    → line.header ≡ true → records ≡ [] → none ≡ [] → LoadsBy read schema line None none before later result → Loads read schema line records before later result
with_no_header read schema line records none before later result has is nothing loads =
    let h : header_of line records ≡ None = ap (λ b. cond b (first_of records) None) has ∙ ap first_of is in
    let r : loaded_of line records ≡ none = ap (λ b. cond b (drop 1 records) records) has ∙ ap (drop 1) is ∙ sym nothing in
    subst (λ (o : Option Fields). LoadsBy read schema line o (loaded_of line records) before later result) (sym h)
    (subst (λ (rs : List Fields). LoadsBy read schema line None rs before later result) (sym r) loads)

-- an empty file has no records
pub no_records : (separator : ℕ) (quote : Option ℕ) → records_of separator quote [] ≡ []
unfolding records_from next_record strip_bom
no_records separator quote = refl
