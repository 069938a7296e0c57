-- Scripts: the grammar of the statements of a script.
use Rattle.std.specs.Prelude.{Bool, List, ℕ}
use Rattle.gq_tree.specs.declared.query.QueryTree.{QueryTree}
use Rattle.gq_tree.specs.declared.statement.Statement.{Statement}
use Rattle.gq_tree.specs.declared.statement.Statement.TheVariants as top
use Rattle.gq_grammar.specs.Lexemes.{Lexemes, Terminal, Name, Number, Text, Global, Attached, sign, word, spelling, number, said}
use Rattle.gq_grammar.specs.Languages.{Language, Token, ◌then◌, Many, Maybe, ◌∣◌, Made}
use Rattle.gq_grammar.specs.Signs.{One, Stands, After, Enclosed, Separated}
use Rattle.gq_grammar.specs.Series.{Chain, Ended, Kept}
use Rattle.gq_grammar.specs.Literals.{OfGraph}
use Rattle.gq_grammar.specs.Schema.{VertexOf, EdgeOf, GraphOf, InsertOf}
use Rattle.gq_grammar.specs.Jobs.{JobOf, RunJobOf}
use Rattle.gq_grammar.specs.Queries.{CreatedQuery, InterpretOf, InstallOf, RunOf}

abbrev pub created_query : Bool × (List ℕ × QueryTree) → Statement
created_query p = top.Query p.0 p.1.0 p.1.1

-- what follows CREATE
unfoldable pub Created : Language Statement
Created =
    Made top.Vertex VertexOf ∣ Made top.Edge EdgeOf ∣ Made top.Graph GraphOf ∣ Made top.Job JobOf ∣ Made created_query CreatedQuery

-- Top = Vertex | Edge | Graph | Use | Job | RunJob | Query | Install | Run | Interpret | Insert | BEGIN | END, with Use = USE GRAPH Name
unfoldable pub StatementOf : Language Statement
StatementOf =
    After (word "CREATE") Created ∣ Made top.Use (After (word "USE") OfGraph)
    ∣ After (word "RUN") (Made top.RunJob RunJobOf ∣ Made top.Run RunOf)
    ∣ Made top.Install InstallOf ∣ Made top.Interpret InterpretOf ∣ Made top.Insert InsertOf
    ∣ Stands top.Begin (word "BEGIN") ∣ Stands top.End (word "END")
