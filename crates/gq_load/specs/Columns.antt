-- Columns: the field that each column of a line refers to, by the file's header.
use Rattle.std.specs.Prelude.{◌≡◌, Result, Ok, Err, if◌then◌else◌, ℕ, Bool, false, List, [], Option, Some, None, is_none, bytes_eq, position, find}
use Rattle.std.specs.Option.{option_map}
use Rattle.std.specs.List.{flat_map}
use Rattle.gq_tree.specs.declared.job.Column.{Column}
use Rattle.gq_tree.specs.declared.job.Column.TheVariants as column
use Rattle.gq_load_check.specs.declared.job.LoadInto.{LoadInto}
use Rattle.gq_load.specs.declared.fault.LoadFault.{LoadFault}
use Rattle.gq_load.specs.declared.fault.LoadFault.TheVariants as fault

-- a record: the bytes of its fields
abbrev pub Fields : Type 0
Fields = List (List ℕ)

-- the index of the first field of the header that equals the name
abbrev pub place_in : Option Fields → List ℕ → Option ℕ
place_in None name = None
place_in (Some header) name = position (bytes_eq name) header

-- the number of a column's field; `_` has none
abbrev pub field_of : Option Fields → Column → Option ℕ
field_of header (column.Number n) = Some n
field_of header (column.Named name) = place_in header name
field_of header column.Default = None

-- whether a column is given by a name that the header lacks
abbrev pub is_missing : Option Fields → Column → Bool
is_missing header (column.Named name) = is_none (place_in header name)
is_missing header (column.Number n) = false
is_missing header column.Default = false

abbrev pub name_in : Column → List ℕ
name_in (column.Named name) = name
name_in (column.Number n) = []
name_in column.Default = []

-- the columns of all destinations, in order
abbrev pub columns_of : List LoadInto → List Column
columns_of destinations = flat_map (λ (into : LoadInto). into.columns) destinations

-- the first name that the header lacks
abbrev pub missing_name : Option Fields → List Column → Option (List ℕ)
missing_name header columns = option_map name_in (find (is_missing header) columns)

-- the column's name, if the header lacks it
abbrev pub missing_one : Option Fields → Column → Option (List ℕ)
missing_one header column = if is_missing header column then Some (name_in column) else None

-- an answer names a column exactly if one is missing; OutOfMemory may occur at any time
abbrev pub Names : {A : Type 0} → Option (List ℕ) → Result A LoadFault → Type 0
Names missing (Ok a) = missing ≡ None
Names missing (Err (fault.NoColumn name)) = missing ≡ Some name
Names missing (Err fault.Full) = ⊥
Names missing (Err fault.OutOfMemory) = Unit {0}
