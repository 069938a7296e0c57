-- CopyLemmas: a copy stays the base after its inserts, and queries run over it.
use Rattle.std.proofs.Common.{◌≡◌, ℕ, false, Bool, List, [], ◌∷◌, ◌++◌, Result, Ok, refl, sym, ap, ◌∙◌, subst}
use Rattle.gq_value.specs.Val.{Val}
use Rattle.gq_json.specs.declared.out.Printed.{Printed}
use Rattle.gq_graph.specs.Catalog.{Schema}
use Rattle.gq_graph.specs.declared.rows.StoreFault.{StoreFault}
use Rattle.gq_index.specs.declared.store.Store.{Store}
use Rattle.gq_index.specs.declared.kept.KeptIndex.{KeptIndex}
use Rattle.gq_index.specs.declared.walks.Traversal.{Traversal}
use Rattle.gq_index.specs.Sights.{sight_of}
use Rattle.gq_index.specs.Steps.{Done, after_all}
use Rattle.gq_index.specs.Walks.{adjacency}
use Rattle.gq_index.proofs.KeptLemmas.{kept_grows, catalog_same}
use Rattle.gq_load_check.specs.declared.insert.Insert.{Insert}
use Rattle.gq_load_check.specs.Fits.{HasGrown}
use Rattle.gq_load.specs.Inserts.{steps_of_insert, IsNamedAs}
use Rattle.gq_load.specs.Keeping.{StoreFits}
use Rattle.gq_load.specs.KeepingLaws.{attributes_there, growth_fits, rows_join}
use Rattle.gq_insert.specs.Fits.{InsertFits}
use Rattle.gq_insert.specs.InsertingLaws.{row_grows, row_keeps, row_named}
use Rattle.gq_rules_calendar.specs.Gregorian.{gregorian}
use Rattle.gq_plan_ir.specs.declared.plan.Plan.{Plan}
use Rattle.gq_query_run.specs.declared.runner.QueryFault.{QueryFault}
use Rattle.gq_query_run.specs.Indexed.{IsIndexed}
use Rattle.gq_query_run.specs.Runs.{Runs}
use Rattle.gq_engine.specs.Engines.{plan_over}
use Rattle.gq_store.specs.Answering.{RanOver}
use Rattle.gq_store.specs.Copies.{IsCopy, store_after}

-- a store after one insert more
after_more : (base : Store) (rows : List Insert) (row : Insert) → store_after base (rows ++ row ∷ []) ≡ after_all (store_after base rows) (steps_of_insert row)
after_more base [] row = refl
after_more base (first ∷ rows) row = after_more (after_all base (steps_of_insert first)) rows row

module _ (base : Store) (schema catalog : Schema) where
  module _ (store : Store) (index : KeptIndex) (sealed : Bool) (rows : List Insert) (copy : IsCopy base schema catalog store index sealed rows) where
    -- an insert of the catalog may be put
    pub may_put : (row : Insert) → InsertFits schema row → IsNamedAs store row
    may_put row fits = row_named catalog store row copy.sound (subst (λ (s : Schema). InsertFits s row) (sym copy.types) fits) copy.fits

    -- and makes it a copy with that insert, whose index is behind
    pub copy_puts : (later : Store) (row : Insert) (rows' : List Insert) → InsertFits schema row → Done store (steps_of_insert row) later → rows' ≡ rows ++ row ∷ []
        → IsCopy base schema catalog later index false rows'
    copy_puts later row rows' fits done more =
        let own : InsertFits catalog row = subst (λ (s : Schema). InsertFits s row) (sym copy.types) fits in
        let taken : Result ℕ StoreFault = Ok 0 in
        record {
          types = copy.types;
          sound = copy.sound;
          after = done.leads ∙ ap (λ (s : Store). after_all s (steps_of_insert row)) copy.after ∙ sym (after_more base rows row) ∙ ap (store_after base) (sym more);
          fits = row_keeps catalog store later row taken own done copy.fits;
          kept = kept_grows index catalog catalog store later (catalog_same catalog) (row_grows store later row taken done) copy.kept;
          ready = λ never. absurd (cc);
        }

    -- queries can run over it with an index of it
    pub copy_indexed : (other : Schema) (lent : List (List Traversal)) → HasGrown schema other → lent ≡ adjacency (sight_of other store.vertices store.edges) → IsIndexed other store lent
    copy_indexed other lent grown built =
        let fits : StoreFits other store = growth_fits catalog other store (subst (λ (s : Schema). HasGrown s other) (sym copy.types) grown) copy.fits in
        record { attributes = attributes_there other store fits; ends = rows_join other store fits; adjacent = built }

-- a run over a store is one over the base after inserts, where the store is that
pub ran_over : (catalog : Schema) (plan : Plan) (arguments : List Val) (turns : ℕ) (base store : Store) (rows shown : List Insert) (run : Result (List Printed) QueryFault)
    → store ≡ store_after base rows → rows ≡ shown → Runs (plan_over catalog store gregorian plan arguments turns) run → RanOver base catalog plan arguments turns shown run
ran_over catalog plan arguments turns base store rows shown run after is ran =
    subst (λ (s : Store). Runs (plan_over catalog s gregorian plan arguments turns) run) (after ∙ ap (store_after base) is) ran
