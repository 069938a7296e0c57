-- Naming: the visible names, each with its reference, and the reference of any name at a place.
use Rattle.std.specs.Prelude.{◌≡◌, Bool, true, false, if◌then◌else◌, List, [], ◌∷◌, Option, Some, None}
use Rattle.gq_rules_typing.specs.Words.{Words}
use Rattle.gq_rules_meaning.specs.StateFits.{AllOf}
use Rattle.gq_plan_ir.specs.Renamed.{Renaming}

-- a variable, a set or an alias, with its reference, and whether it is a set
pub record Visible (M N : Type 0) : Type 0 where
  pub name : M
  pub reference : N
  pub is_set : Bool

-- the visible ones, of which the last one comes first
abbrev pub View : Type 0 → Type 0 → Type 0
View M N = List (Visible M N)

-- the words of names and of references, a reference that denotes nothing, and the references of accumulators, of what
-- follows a dot, of functions and of types: all that doesn't change with the names that are visible
pub record Fixed (M N : Type 0) : Type 0 where
  pub names : Words M
  pub references : Words N
  pub nothing : N
  pub accum : M → N
  pub field : M → N
  pub method : M → N
  pub function : M → N
  pub vertex_type : M → N
  pub edge_type : M → N

-- the reference of each name, by its use. A SELECT begins from a set variable or a vertex type
pub record Naming (M N : Type 0) : Type 0 where
  pub inside : Renaming M N
  pub source : M → N
  pub vertex_type : M → N
  pub edge_type : M → N

module _ {M N : Type 0} (fixed : Fixed M N) where
  abbrev pub visible_at : View M N → M → Option (Visible M N)
  visible_at [] x = None
  visible_at (v ∷ view) x = if fixed.names.same v.name x then Some v else visible_at view x

  abbrev pub set_flag : Option (Visible M N) → Bool
  set_flag None = false
  set_flag (Some v) = v.is_set

  abbrev pub reference_or_nothing : Option (Visible M N) → N
  reference_or_nothing None = fixed.nothing
  reference_or_nothing (Some v) = v.reference

  abbrev pub is_set_at : View M N → M → Bool
  is_set_at view x = set_flag (visible_at view x)

  abbrev pub reference_at : View M N → M → N
  reference_at view x = reference_or_nothing (visible_at view x)

  -- ---- names that come into view

  -- a name that isn't visible yet, with a reference that isn't used yet
  pub record IsNew (view : View M N) (x : M) (r : N) : Type 0 where
    pub name : AllOf (λ (v : Visible M N). fixed.names.same v.name x ≡ false) view
    pub reference : AllOf (λ (v : Visible M N). (fixed.references.same v.reference r ≡ false) × (fixed.references.same r v.reference ≡ false)) view
    pub itself : fixed.references.same r r ≡ true

  abbrev pub with_name : View M N → M → N → Bool → View M N
  with_name view x r is_set = (record { name = x; reference = r; is_set = is_set }) ∷ view

  -- each was new when it came into view
  abbrev pub AreDistinct : View M N → Type 0
  AreDistinct [] = Unit {0}
  AreDistinct (v ∷ view) = IsNew view v.name v.reference × AreDistinct view

  -- ---- the reference of each name

  -- with a function for variables, sets and aliases
  abbrev pub named_by : (M → N) → Renaming M N
  named_by f = record { name = f; accum = fixed.accum; field = fixed.field; method = fixed.method; function = fixed.function }

  -- when these are visible
  abbrev pub inside : View M N → Renaming M N
  inside view = named_by (reference_at view)

  abbrev pub source_at : View M N → M → N
  source_at view x = if is_set_at view x then reference_at view x else fixed.vertex_type x

  -- with functions for variables, sets and aliases, and for the source of a SELECT
  abbrev pub naming_by : (M → N) → (M → N) → Naming M N
  naming_by f source = record { inside = named_by f; source = source; vertex_type = fixed.vertex_type; edge_type = fixed.edge_type }

  abbrev pub naming : View M N → Naming M N
  naming view = naming_by (reference_at view) (source_at view)
