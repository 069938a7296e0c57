-- Sample: the two files that sample mode loads, by number of people.
--
-- Here each line is a formula of its number, and a file is its header and all its lines. The code writes a file
-- sequentially into one buffer.
use Rattle.std.specs.Prelude.{ℕ, ◌+◌, ◌*◌, ◌%◌, List, [], ◌∷◌, ◌++◌, codes}
use Rattle.std.specs.List.{flat_map, range_with_len}
use Rattle.std.specs.Fmt.{decimal}

-- the id of a person
abbrev pub person : ℕ → List ℕ
person i = 112 ∷ decimal i

-- the last field of a line, with the comma before it and the line feed after it
abbrev pub last_field : ℕ → List ℕ
last_field number = 44 ∷ decimal number ++ 10 ∷ []

-- a line of people: an id and an age
abbrev pub person_line : ℕ → List ℕ
person_line i = person i ++ last_field (i % 90)

-- a line of edges: two ids and a weight
abbrev pub edge_line : (from to weight : ℕ) → List ℕ
edge_line from to weight = person from ++ (44 ∷ person to ++ last_field weight)

-- the two outgoing edges of a person, among `n` people
unfoldable pub edge_lines : ℕ → ℕ → List ℕ
edge_lines n i = edge_line i ((i + 1) % n) (i % 100) ++ edge_line i ((7 * i + 3) % n) ((i + 1) % 100)

-- the file of `n` people
unfoldable pub people_file : ℕ → List ℕ
people_file n = codes "id,age\n" ++ flat_map person_line (range_with_len 0 n)

-- the file of the edges among `n` people
unfoldable pub knows_file : ℕ → List ℕ
knows_file n = codes "from,to,w\n" ++ flat_map (edge_lines n) (range_with_len 0 n)
