-- Declared: when declarations with references represent declarations with names, one by one, and a whole plan a query.
use Rattle.std.specs.Prelude.{◌≡◌, Bool, false, List, [], ◌∷◌, ◌++◌, map, Option, Ok}
use Rattle.std.specs.Option.{option_map}
use Rattle.gq_tree.specs.Tree.{Tree}
use Rattle.gq_value.specs.declared.value.Wrong.{Wrong}
use Rattle.gq_value.specs.Accums.{Accum}
use Rattle.gq_rules_typing.specs.Statements.{Bytes, BaseTree, Definition, TupleType, Accums, Parameter, QueryOver}
use Rattle.gq_rules_typing.specs.Sorts.{Fields}
use Rattle.gq_rules_typing.specs.Words.{Words}
use Rattle.gq_rules_typing.specs.KindTypes.{fields_written}
use Rattle.gq_rules_meaning.specs.Answers.{Answer, Gives}
use Rattle.gq_rules_meaning.specs.Calendars.{Calendar}
use Rattle.gq_rules_meaning.specs.Graphs.{Graph}
use Rattle.gq_rules_meaning.specs.Expressions.{World, setting}
use Rattle.gq_rules_meaning.specs.Queries.{scope_of}
use Rattle.gq_rules_meaning.specs.StateFits.{AllOf}
use Rattle.gq_plan_ir.specs.Renamed.{renamed}
use Rattle.gq_plan_ir.specs.Naming.{View, Fixed, AreDistinct, with_name, inside}
use Rattle.gq_plan_ir.specs.RenamedStatements.{renamed_base}
use Rattle.gq_plan_ir.specs.StandsFor.{AllStand}
use Rattle.gq_plan_ir.specs.Alike.{Sides, old_world, WordsAlike}

-- the start of a run: the words of names and of references, a graph and the calendar
pub record Ground (M N : Type 0) : Type 0 where
  pub names : Words M
  pub references : Words N
  pub graph : Graph
  pub calendar : Calendar

module _ {M N : Type 0} (ground : Ground M N) where
  -- nothing is declared yet
  abbrev pub old_ground : World M
  old_ground = record { words = ground.names; tuples = []; graph = ground.graph; calendar = ground.calendar }

  abbrev pub new_ground : World N
  new_ground = record { words = ground.references; tuples = []; graph = ground.graph; calendar = ground.calendar }

  -- the declarations so far, and the reference of each name then
  pub record Declared : Type 0 where
    pub named_tuples : List (M × Fields)
    pub tuples : List (N × Fields)
    pub accums : List (M × N)
    pub nothing : N
    pub accum : M → N
    pub field : M → N
    pub method : M → N
    pub function : M → N
    pub vertex_type : M → N
    pub edge_type : M → N

  abbrev pub fixed_in : Declared → Fixed M N
  fixed_in d = record { names = ground.names; references = ground.references; nothing = d.nothing; accum = d.accum; field = d.field; method = d.method; function = d.function; vertex_type = d.vertex_type; edge_type = d.edge_type }

  abbrev pub sides : Declared → Sides M N
  sides d = record { fixed = fixed_in d; graph = ground.graph; calendar = ground.calendar; named_tuples = d.named_tuples; tuples = d.tuples }

  -- an accumulator's reference represents its name, and is looked up and printed as the name is
  pub record AccumTold (d : Declared) (a : M × N) : Type 0 where
    pub is : d.accum a.0 ≡ a.1
    pub same : (b : M) → ground.references.same a.1 (d.accum b) ≡ ground.names.same a.0 b
    pub said : ground.references.said a.1 ≡ ground.names.said a.0

  -- the references of names denote what the names denote
  pub record IsSound (d : Declared) : Type 0 where
    pub words : WordsAlike (sides d)
    pub accums : AllOf (AccumTold d) d.accums

  -- one more accumulator, or one more tuple type
  pub record WithAccum (d : Declared) (a : M) (b : N) (e : Declared) : Type 0 where
    pub sound : IsSound e
    pub named_tuples : e.named_tuples ≡ d.named_tuples
    pub tuples : e.tuples ≡ d.tuples
    pub accums : e.accums ≡ d.accums ++ (a, b) ∷ []

  pub record WithTuple (d : Declared) (x : M) (y : N) (fields : Fields) (e : Declared) : Type 0 where
    pub sound : IsSound e
    pub named_tuples : e.named_tuples ≡ d.named_tuples ++ (x, fields) ∷ []
    pub tuples : e.tuples ≡ d.tuples ++ (y, fields) ∷ []
    pub accums : e.accums ≡ d.accums

  -- ---- parameters

  abbrev pub ParametersStand : Declared → List (Parameter M) → List (Parameter N) → Type 0
  ParametersStand d [] [] = Unit {0}
  ParametersStand d (p ∷ ps) (q ∷ qs) = (q.base ≡ renamed_base d.vertex_type p.base) × ParametersStand d ps qs
  ParametersStand d ps qs = ⊥

  -- the names that are visible then
  abbrev pub parameters_view : Declared → List (Parameter M) → List (Parameter N) → View M N
  parameters_view d (p ∷ ps) (q ∷ qs) = with_name (fixed_in d) (parameters_view d ps qs) p.name q.name false
  parameters_view d ps qs = []

  -- ---- declarations, and what holds after them

  module _ {K : Type 0} (kinds : World M → K → Answer Wrong Accum) (view : View M N) where
    -- each sees those before it
    abbrev pub AccumsStand : Declared → List (Bool × M × Option (Tree M)) → List (Bool × N × Option (Tree N)) → (Declared → Type 0) → Type 0
    AccumsStand d [] [] Then = Then d
    AccumsStand d (a ∷ rest) (b ∷ others) Then = ((b.0 ≡ a.0) × (b.2 ≡ option_map (renamed (inside (fixed_in d) view)) a.2)) × ((e : Declared) × (WithAccum d a.1 b.1 e × AccumsStand e rest others Then))
    AccumsStand d accums others Then = ⊥

    abbrev pub TupleStands : Declared → List (BaseTree M × Bytes) → M → List (BaseTree N × Bytes) → N → (Declared → Type 0) → Type 0
    TupleStands d fs x gs y Then = (gs ≡ map {A = BaseTree M × Bytes} (λ f. (renamed_base d.vertex_type f.0, f.1)) fs) × ((fields : Fields) × ((fields_written (scope_of (setting (old_world (sides d)))) 16 [] fs ≡ Ok fields) × ((e : Declared) × (WithTuple d x y fields e × Then e))))

    abbrev pub DefinitionsStand : Declared → List (Definition M K) → List (Definition N Accum) → (Declared → Type 0) → Type 0
    DefinitionsStand d [] [] Then = Then d
    DefinitionsStand d (TupleType fs x ∷ rest) (TupleType gs y ∷ others) Then = TupleStands d fs x gs y (λ e. DefinitionsStand e rest others Then)
    DefinitionsStand d (Accums k accums ∷ rest) (Accums kind others ∷ more) Then = (kinds (old_world (sides d)) k ≡ Gives kind) × AccumsStand d accums others (λ e. DefinitionsStand e rest more Then)
    DefinitionsStand d ds es Then = ⊥

  -- ---- queries

  -- a plan with references, which has its kinds already, represents a query with names
  pub record QueryStands {K : Type 0} (kinds : World M → K → Answer Wrong Accum) (q : QueryOver M K) (p : QueryOver N Accum) : Type 0 where
    pub declared : Declared
    pub sound : IsSound declared
    pub no_names : declared.named_tuples ≡ []
    pub no_tuples : declared.tuples ≡ []
    pub no_accums : declared.accums ≡ []
    pub parameters : ParametersStand declared q.parameters p.parameters
    pub distinct : AreDistinct (fixed_in declared) (parameters_view declared q.parameters p.parameters)
    pub definitions : DefinitionsStand kinds (parameters_view declared q.parameters p.parameters) declared q.definitions p.definitions
        (λ d. AllStand (fixed_in d) (parameters_view declared q.parameters p.parameters) q.statements p.statements)
