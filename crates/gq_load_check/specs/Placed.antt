-- Placed: trees of names, beside the files of a job and beside the paths that a run supplies.
use Rattle.std.specs.Prelude.{ℕ, ◌≡◌, if◌then◌else◌, List, [], ◌∷◌, ◌++◌, map, reverse, find, position, slice_get, Bool, Option, String, bytes_eq, option_and_then}
use Rattle.std.specs.BTreeMap.{BTreeMap, get_by_text}
use Rattle.gq_tree.specs.declared.job.JobLine.{JobLine}
use Rattle.gq_tree.specs.declared.job.JobLine.TheVariants.{Define, Load}
use Rattle.gq_load_check.specs.Paths.{File, Given, has_file}

abbrev pub is_file : List ℕ → File → Bool
is_file name file = bytes_eq file.0 name

-- the tree maps the name of each file to its place, and has no other names
abbrev pub FilesPlaced : {Y : Type 0} → List File → BTreeMap (String Y) ℕ → Type 0
FilesPlaced files places = (name : List ℕ) → get_by_text places name ≡ position (is_file name) files

-- adds a file, unless there is one with its name
abbrev pub with_file : List File → List ℕ → Option (List ℕ) → List File
with_file files name path = if has_file files name then files else files ++ (name, path) ∷ []

-- adds the file that a line defines, unless there is one with its name
abbrev pub file_added : JobLine → List File → List File
file_added (Define name path) files = with_file files name path
file_added (Load load) files = files

-- a DEFINE for each file: a job of these lines has the same files
abbrev pub defining : List File → List JobLine
defining files = map (λ (file : File). Define file.0 file.1) files

abbrev pub is_given : List ℕ → Given → Bool
is_given name pair = bytes_eq pair.0 name

-- the tree leads from each name to the last pair with it among some of the given pairs
abbrev pub LastPlaced : {Y : Type 0} → List Given → List Given → BTreeMap (String Y) ℕ → Type 0
LastPlaced given some places =
    (name : List ℕ) → option_and_then (slice_get given) (get_by_text places name) ≡ find (is_given name) (reverse some)
