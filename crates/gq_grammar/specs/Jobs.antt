-- Jobs: the grammar of loading jobs. CREATE and RUN are read before, since other statements begin with them too.
use Rattle.std.specs.Prelude.{◌≡◌, ℕ, zero, suc, List, [], ◌∷◌, Option, Some, None, Bool, true, false}
use Rattle.gq_tree.specs.declared.job.FileTree.{FileTree}
use Rattle.gq_tree.specs.declared.job.FileTree.TheVariants as file
use Rattle.gq_tree.specs.declared.job.Table.{Table}
use Rattle.gq_tree.specs.declared.job.Table.TheVariants as table
use Rattle.gq_tree.specs.declared.job.Column.{Column}
use Rattle.gq_tree.specs.declared.job.Column.TheVariants as column
use Rattle.gq_tree.specs.declared.job.Destination.{Destination}
use Rattle.gq_tree.specs.declared.job.LoadOption.{LoadOption}
use Rattle.gq_tree.specs.declared.job.LoadOption.TheVariants as option
use Rattle.gq_tree.specs.declared.job.LoadTree.{LoadTree}
use Rattle.gq_tree.specs.declared.job.JobLine.{JobLine}
use Rattle.gq_tree.specs.declared.job.JobLine.TheVariants as line
use Rattle.gq_tree.specs.declared.job.JobTree.{JobTree}
use Rattle.gq_tree.specs.declared.job.RunJobTree.{RunJobTree}
use Rattle.gq_grammar.specs.Lexemes.{Lexemes, Terminal, Name, Number, Text, Global, Attached, sign, word, spelling, number, said}
use Rattle.gq_grammar.specs.Languages.{Language, Token, ◌then◌, Many, Maybe, ◌∣◌, Made}
use Rattle.gq_grammar.specs.Signs.{One, Stands, After, Enclosed, Separated}
use Rattle.gq_grammar.specs.Series.{Chain, Ended, Kept}
use Rattle.gq_grammar.specs.Literals.{listed, Setting, OfGraph}

-- Col = "$" Number | "$" Text | "_"
unfoldable pub ColumnOf : Language Column
ColumnOf =
    After (sign "$") (Made column.Number (Token Number number) ∣ Made column.Named (Token Text said)) ∣ Stands column.Default (word "_")

-- VERTEX | EDGE
unfoldable pub TableOf : Language Table
TableOf = Stands table.Vertex (word "VERTEX") ∣ Stands table.Edge (word "EDGE")

-- VALUES "(" Col { "," Col } ")"
unfoldable pub Columns : Language (List Column)
Columns = After (word "VALUES") (Enclosed (Chain (sign ",") ColumnOf))

abbrev pub destination_of : Table × (List ℕ × List Column) → Destination
destination_of p = record { table = p.0; name = p.1.0; columns = p.1.1 }

-- Dest = TO ( VERTEX | EDGE ) Name VALUES "(" Col { "," Col } ")"
unfoldable pub DestinationOf : Language Destination
DestinationOf = Made destination_of (After (word "TO") (TableOf then Token Name spelling then Columns))

-- SEPARATOR | HEADER | QUOTE | EOL
unfoldable pub LoadOptionName : Language LoadOption
LoadOptionName =
    Stands option.Separator (word "SEPARATOR") ∣ Stands option.Header (word "HEADER") ∣ Stands option.Quote (word "QUOTE")
    ∣ Stands option.Eol (word "EOL")

-- Opt = ( SEPARATOR | HEADER | QUOTE | EOL ) "=" Text
unfoldable pub LoadOptionOf : Language (LoadOption × List ℕ)
LoadOptionOf = LoadOptionName then Setting

-- USING Opt { "," Opt }
unfoldable pub LoadOptions : Language (List (LoadOption × List ℕ))
LoadOptions = After (word "USING") (Chain (sign ",") LoadOptionOf)

-- Name | Text
unfoldable pub FileOf : Language FileTree
FileOf = Made file.Defined (Token Name spelling) ∣ Made file.Path (Token Text said)

-- LOAD ( Name | Text ) Dest { "," Dest }
unfoldable pub LoadFrom : Language (FileTree × List Destination)
LoadFrom = After (word "LOAD") (FileOf then Chain (sign ",") DestinationOf)

abbrev pub load_of : (FileTree × List Destination) × Option (List (LoadOption × List ℕ)) → JobLine
load_of p = line.Load (record { file = p.0.0; destinations = p.0.1; options = listed p.1 })

-- DEFINE FILENAME Name
unfoldable pub FileName : Language (List ℕ)
FileName = After (word "DEFINE") (After (word "FILENAME") (Token Name spelling))

abbrev pub define_of : List ℕ × Option (List ℕ) → JobLine
define_of p = line.Define p.0 p.1

-- Line = DEFINE FILENAME Name [ "=" Text ] | LOAD ( Name | Text ) Dest { "," Dest } [ USING Opt { "," Opt } ]
unfoldable pub LineOf : Language JobLine
LineOf = Made define_of (FileName then Maybe Setting) ∣ Made load_of (LoadFrom then Maybe LoadOptions)

-- "{" { Line ";" } "}"
unfoldable pub JobLines : Language (List JobLine)
JobLines = After (sign "{") (Ended (sign "}") (Many (Ended (sign ";") LineOf)))

abbrev pub job_of : List ℕ × (List ℕ × List JobLine) → JobTree
job_of p = record { name = p.0; graph = p.1.0; lines = p.1.1 }

-- LOADING JOB Name
unfoldable pub JobName : Language (List ℕ)
JobName = After (word "LOADING") (After (word "JOB") (Token Name spelling))

-- Job = CREATE LOADING JOB Name FOR GRAPH Name "{" { Line ";" } "}", after its CREATE
unfoldable pub JobOf : Language JobTree
JobOf = Made job_of (JobName then After (word "FOR") OfGraph then JobLines)

-- Name "=" Text
unfoldable pub FilePath : Language (List ℕ × List ℕ)
FilePath = Token Name spelling then Setting

-- USING Name "=" Text { "," Name "=" Text }
unfoldable pub Paths : Language (List (List ℕ × List ℕ))
Paths = After (word "USING") (Chain (sign ",") FilePath)

abbrev pub run_job_of : List ℕ × Option (List (List ℕ × List ℕ)) → RunJobTree
run_job_of p = record { name = p.0; paths = listed p.1 }

-- RunJob = RUN LOADING JOB Name [ USING Name "=" Text { "," Name "=" Text } ], after its RUN
unfoldable pub RunJobOf : Language RunJobTree
RunJobOf = Made run_job_of (JobName then Maybe Paths)
