-- Script: the script of sample mode, line by line. It is the same for every number of people.
--
-- Here it is a list of lines. The code has it as one text.
use Rattle.std.specs.Prelude.{ℕ, List, [], ◌∷◌, ◌++◌, codes}
use Rattle.std.specs.List.{flat_map}

-- the statements that make the graph
abbrev pub schema_lines : List (List ℕ)
schema_lines =
    codes "CREATE VERTEX person (PRIMARY_ID id STRING, age INT)"
    ∷ codes "CREATE DIRECTED EDGE knows (FROM person, TO person, w INT)"
    ∷ codes "CREATE GRAPH sample (person, knows)"
    ∷ []

-- those that load it
abbrev pub job_lines : List (List ℕ)
job_lines =
    codes "CREATE LOADING JOB fill FOR GRAPH sample {"
    ∷ codes "  LOAD \"people.csv\" TO VERTEX person VALUES ($\"id\", $\"age\") USING HEADER=\"true\";"
    ∷ codes "  LOAD \"knows.csv\" TO EDGE knows VALUES ($\"from\", $\"to\", $\"w\") USING HEADER=\"true\";"
    ∷ codes "}"
    ∷ codes "RUN LOADING JOB fill"
    ∷ []

-- the query that counts over it
abbrev pub query_lines : List (List ℕ)
query_lines =
    codes "INTERPRET QUERY () FOR GRAPH sample {"
    ∷ codes "  SumAccum<INT> @got, @@total;"
    ∷ codes "  MaxAccum<INT> @@top;"
    ∷ codes "  S = {person.*};"
    ∷ codes "  T = SELECT t FROM S:s -(knows:e)-> person:t"
    ∷ codes "      ACCUM t.@got += e.w, @@total += e.w"
    ∷ codes "      POST-ACCUM @@top += t.@got;"
    ∷ codes "  PRINT S.size() AS people, T.size() AS reached, @@total AS total, @@top AS top;"
    ∷ codes "}"
    ∷ []

-- a line of the script, with its end
abbrev pub ended : List ℕ → List ℕ
ended line = line ++ 10 ∷ []

-- the whole script
unfoldable pub script_text : List ℕ
script_text = flat_map ended (schema_lines ++ (job_lines ++ query_lines))
