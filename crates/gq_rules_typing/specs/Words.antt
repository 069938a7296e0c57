-- Words: the meaning of the names of a tree. Only here do a query, with names, and a plan, with numbers, differ.
use Rattle.std.specs.Prelude.{ℕ, suc, ◌==◌, Bool, if◌then◌else◌, List, [], ◌∷◌, map, Option, Some, None, bytes_eq, codes, position}
use Rattle.std.specs.List.{list_any}
use Rattle.std.specs.Str.{str_eq_ignore_ascii_case}
use Rattle.gq_tree.specs.Accums.{Base, Parts, no_part, part_and}
use Rattle.gq_time.specs.declared.adding.Unit.{Unit}
use Rattle.gq_time.specs.declared.adding.Unit.TheVariants as unit
use Rattle.gq_rules_typing.specs.Statements.{Bytes}
use Rattle.gq_rules_typing.specs.Sorts.{Fields, VertexSort, EdgeSort, Sorts, bases_of}

-- the value under a key, from the first pair with that key
abbrev pub under : {K A : Type 0} → (K → K → Bool) → K → List (K × A) → Option A
under same k [] = None
under same k (pair ∷ pairs) = if same pair.0 k then Some pair.1 else under same k pairs

-- the owner of a field: a type by its number, or the parts of a group
pub data Owner : Type 0 where
  OfVertexType OfEdgeType OfTupleType : ℕ → Owner
  OfParts : Owner

pub data PartOfTime : Type 0 where
  Year Month Day Hour Minute Second : PartOfTime

-- a function makes a tuple of the type with this number, or is one of the language's own
pub data Function : Type 0 where
  Makes : ℕ → List Base → Function
  Abs ToString ToDatetime EpochToDatetime DatetimeToEpoch DatetimeDiff DatetimeAdd : Function
  PartOf : PartOfTime → Function

pub data Method : Type 0 where
  Size Contains ContainsKey Get Outdegree : Method

-- what a name may denote
pub record Words (N : Type 0) : Type 0 where
  pub same : N → N → Bool
  -- its spelling in a message
  pub said : N → Bytes
  -- whether it is `type`
  pub is_type : N → Bool
  -- the place of a field among those of its owner, which have these names
  pub field : Owner → List Bytes → N → Option ℕ
  pub function : N → Option Function
  pub method : N → Option Method
  -- the numbers of types of the graph
  pub vertex_type : N → Option ℕ
  pub edge_type : N → Option ℕ

-- the context of typing: words, types, and the query's tuple types by number
pub record Setting (N : Type 0) : Type 0 where
  pub words : Words N
  pub sorts : Sorts
  pub tuples : List (N × Fields)

-- ---- by names

abbrev pub place_of : List Bytes → Bytes → Option ℕ
place_of names name = position (bytes_eq name) names

abbrev pub methods : List (Bytes × Method)
methods = (codes "size", Size) ∷ (codes "contains", Contains) ∷ (codes "containsKey", ContainsKey) ∷ (codes "get", Get) ∷ (codes "outdegree", Outdegree) ∷ []

abbrev pub functions : List (Bytes × Function)
functions =
    (codes "abs", Abs) ∷ (codes "to_string", ToString) ∷ (codes "to_datetime", ToDatetime) ∷
    (codes "epoch_to_datetime", EpochToDatetime) ∷ (codes "datetime_to_epoch", DatetimeToEpoch) ∷
    (codes "datetime_diff", DatetimeDiff) ∷ (codes "datetime_add", DatetimeAdd) ∷
    (codes "year", PartOf Year) ∷ (codes "month", PartOf Month) ∷ (codes "day", PartOf Day) ∷
    (codes "hour", PartOf Hour) ∷ (codes "minute", PartOf Minute) ∷ (codes "second", PartOf Second) ∷ []

-- a number, if it is one of these
abbrev pub if_own : List ℕ → Option ℕ → Option ℕ
if_own ns None = None
if_own ns (Some n) = if list_any (λ m. m == n) ns then Some n else None

-- the words of a query that sees these types
abbrev pub by_name : Sorts → Words Bytes
by_name sorts = record {
  same = bytes_eq;
  said = λ n. n;
  is_type = bytes_eq (codes "type");
  field = λ owner names f. place_of names f;
  function = λ f. under bytes_eq f functions;
  method = λ m. under bytes_eq m methods;
  vertex_type = λ n. if_own sorts.own_vertices (place_of (map (λ (s : VertexSort). s.name) sorts.vertices) n);
  edge_type = λ n. if_own sorts.own_edges (place_of (map (λ (s : EdgeSort). s.name) sorts.edges) n);
}

-- ---- common to both

-- a tuple type takes precedence over a function of its name; these are numbered from n on
abbrev pub function_from : {N : Type 0} → Words N → N → ℕ → List (N × Fields) → Option Function
function_from words f n [] = words.function f
function_from words f n (t ∷ ts) = if words.same t.0 f then Some (Makes n (bases_of t.1)) else function_from words f (suc n) ts

abbrev pub function_named : {N : Type 0} → Setting N → N → Option Function
function_named setting f = function_from setting.words f 0 setting.tuples

-- an edge type of the graph by its text, as `outdegree` has it; a plan has the text too
abbrev pub edge_quoted : Sorts → Bytes → Option ℕ
edge_quoted sorts e = if_own sorts.own_edges (place_of (map (λ (s : EdgeSort). s.name) sorts.edges) e)

-- a unit of time by its text, in any case
abbrev pub units : List (Bytes × Unit)
units = (codes "YEAR", unit.Year) ∷ (codes "MONTH", unit.Month) ∷ (codes "DAY", unit.Day) ∷ (codes "HOUR", unit.Hour) ∷ (codes "MINUTE", unit.Minute) ∷ (codes "SECOND", unit.Second) ∷ []

abbrev pub unit_named : Bytes → Option Unit
unit_named text = under str_eq_ignore_ascii_case text units

abbrev pub names_of_parts : Parts → List Bytes
names_of_parts no_part = []
names_of_parts (part_and name k ps) = name ∷ names_of_parts ps
