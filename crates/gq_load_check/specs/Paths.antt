-- Paths: the path of each file name of a job. A job lists its files, each name once, with the path if the job defines
-- one; a run of the job may supply paths for names.
use Rattle.std.specs.Prelude.{ℕ, Bool, not, List, reverse, find, Option, bytes_eq, option_map, option_and_then}
use Rattle.std.specs.List.{list_any}
use Rattle.std.specs.Option.{option_or}

-- a file of a job: its name, and the path if the job defines one
abbrev pub File : Type 0
File = List ℕ × Option (List ℕ)

-- a path that a run supplies: the name and the path
abbrev pub Given : Type 0
Given = List ℕ × List ℕ

-- whether the job has a file with this name
abbrev pub has_file : List File → List ℕ → Bool
has_file files name = list_any (λ (f : File). bytes_eq f.0 name) files

-- the first name that a run supplies a path for although the job has no such file
abbrev pub undefined_name : List File → List Given → Option (List ℕ)
undefined_name files given = option_map (λ (g : Given). g.0) (find (λ (g : Given). not (has_file files g.0)) given)

-- the path that a run supplies for the name; the last one, if there are several
abbrev pub given_path : List Given → List ℕ → Option (List ℕ)
given_path given name = option_map (λ (g : Given). g.1) (find (λ (g : Given). bytes_eq g.0 name) (reverse given))

-- the job's file with this name
abbrev pub file_of : List File → List ℕ → Option File
file_of files name = find (λ (f : File). bytes_eq f.0 name) files

-- the path that the job defines for the name
abbrev pub defined_path : List File → List ℕ → Option (List ℕ)
defined_path files name = option_and_then (λ (f : File). f.1) (file_of files name)

-- the path of the name: the run's if it supplies one, else the job's
abbrev pub path_of : List File → List Given → List ℕ → Option (List ℕ)
path_of files given name = option_or (given_path given name) (defined_path files name)
