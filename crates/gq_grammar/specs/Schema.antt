-- Schema: the grammar of vertex types, edge types, graphs and INSERT.
-- CREATE is read before, since other statements begin with it too.
use Rattle.std.specs.Prelude.{◌≡◌, ℕ, zero, suc, List, [], ◌∷◌, Option, Some, None, Bool, true, false}
use Rattle.gq_graph.specs.declared.types.IdKind.{IdKind}
use Rattle.gq_graph.specs.declared.types.IdKind.TheVariants as id_kind
use Rattle.gq_tree.specs.declared.schema.Literal.{Literal}
use Rattle.gq_tree.specs.declared.schema.AttributeKind.{AttributeKind}
use Rattle.gq_tree.specs.declared.schema.AttributeKind.TheVariants as kind
use Rattle.gq_tree.specs.declared.schema.AttributeTree.{AttributeTree}
use Rattle.gq_tree.specs.declared.schema.VertexOption.{VertexOption}
use Rattle.gq_tree.specs.declared.schema.VertexOption.TheVariants as option
use Rattle.gq_tree.specs.declared.schema.VertexTree.{VertexTree}
use Rattle.gq_tree.specs.declared.schema.EndsTree.{EndsTree}
use Rattle.gq_tree.specs.declared.schema.EdgeTree.{EdgeTree}
use Rattle.gq_tree.specs.declared.schema.EdgeTree.TheVariants as edge
use Rattle.gq_tree.specs.declared.schema.MembersTree.{MembersTree}
use Rattle.gq_tree.specs.declared.schema.MembersTree.TheVariants as members
use Rattle.gq_tree.specs.declared.schema.GraphTree.{GraphTree}
use Rattle.gq_tree.specs.declared.schema.InsertTree.{InsertTree}
use Rattle.gq_grammar.specs.Lexemes.{Lexemes, Terminal, Name, Number, Text, Global, Attached, sign, word, spelling, number, said}
use Rattle.gq_grammar.specs.Languages.{Language, Token, ◌then◌, Many, Maybe, ◌∣◌, Made}
use Rattle.gq_grammar.specs.Signs.{One, Stands, After, Enclosed, Separated}
use Rattle.gq_grammar.specs.Series.{Chain, Ended, Kept}
use Rattle.gq_grammar.specs.Literals.{listed, LiteralOf, Setting, Names}

-- AttrType = INT | UINT | BOOL | STRING
unfoldable pub AttributeType : Language AttributeKind
AttributeType =
    Stands kind.Int (word "INT") ∣ Stands kind.UInt (word "UINT") ∣ Stands kind.Bool (word "BOOL") ∣ Stands kind.Text (word "STRING")

-- Name AttrType
unfoldable pub PlainAttribute : Language (List ℕ × AttributeKind)
PlainAttribute = Token Name spelling then AttributeType

-- AttrType [ DEFAULT Literal ] | DATETIME
unfoldable pub KindAndDefault : Language (AttributeKind × Option Literal)
KindAndDefault = (AttributeType then Maybe (After (word "DEFAULT") LiteralOf)) ∣ Stands (kind.Time, None) (word "DATETIME")

abbrev pub attribute_of : List ℕ × (AttributeKind × Option Literal) → AttributeTree
attribute_of p = record { name = p.0; kind = p.1.0; default = p.1.1 }

-- Attr = Name ( AttrType [ DEFAULT Literal ] | DATETIME )
unfoldable pub AttributeOf : Language AttributeTree
AttributeOf = Made attribute_of (Token Name spelling then KindAndDefault)

-- IdType = STRING | INT | UINT
unfoldable pub IdType : Language IdKind
IdType = Stands id_kind.Text (word "STRING") ∣ Stands id_kind.Int (word "INT") ∣ Stands id_kind.UInt (word "UINT")

-- PRIMARY_ID Name IdType
unfoldable pub IdOf : Language (List ℕ × IdKind)
IdOf = After (word "PRIMARY_ID") (Token Name spelling then IdType)

-- { "," Attr }
unfoldable pub Attributes : Language (List AttributeTree)
Attributes = Many (After (sign ",") AttributeOf)

-- VOpt = STATS "=" Text | PRIMARY_ID_AS_ATTRIBUTE "=" Text
unfoldable pub OptionOf : Language VertexOption
OptionOf =
    Made option.Stats (After (word "STATS") Setting) ∣ Made option.IdAsAttribute (After (word "PRIMARY_ID_AS_ATTRIBUTE") Setting)

-- WITH VOpt { "," VOpt }
unfoldable pub Options : Language (List VertexOption)
Options = After (word "WITH") (Chain (sign ",") OptionOf)

abbrev pub vertex_of : (List ℕ × ((List ℕ × IdKind) × List AttributeTree)) × Option (List VertexOption) → VertexTree
vertex_of p = record { name = p.0.0; id = p.0.1.0.0; id_kind = p.0.1.0.1; attributes = p.0.1.1; options = listed p.1 }

-- VERTEX Name "(" PRIMARY_ID Name IdType { "," Attr } ")"
unfoldable pub VertexShape : Language (List ℕ × ((List ℕ × IdKind) × List AttributeTree))
VertexShape = After (word "VERTEX") (Token Name spelling then Enclosed (IdOf then Attributes))

-- Vertex = CREATE VERTEX Name "(" PRIMARY_ID Name IdType { "," Attr } ")" [ WITH VOpt { "," VOpt } ], after its CREATE
unfoldable pub VertexOf : Language VertexTree
VertexOf = Made vertex_of (VertexShape then Maybe Options)

-- "," DISCRIMINATOR "(" Name AttrType { "," Name AttrType } ")"
unfoldable pub Discriminators : Language (List (List ℕ × AttributeKind))
Discriminators = After (sign ",") (After (word "DISCRIMINATOR") (Enclosed (Chain (sign ",") PlainAttribute)))

-- FROM Name "," TO Name
unfoldable pub EdgeEnds : Language (List ℕ × List ℕ)
EdgeEnds = After (word "FROM") (Token Name spelling then After (sign ",") (After (word "TO") (Token Name spelling)))

-- { "," Attr } ")"
unfoldable pub LastAttributes : Language (List AttributeTree)
LastAttributes = Ended (sign ")") Attributes

abbrev pub ends_of : List ℕ × ((List ℕ × List ℕ) × (Option (List (List ℕ × AttributeKind)) × List AttributeTree)) → EndsTree
ends_of p = record { name = p.0; from = p.1.0.0; to = p.1.0.1; discriminators = listed p.1.1.0; attributes = p.1.1.1 }

-- [ "," DISCRIMINATOR "(" Name AttrType { "," Name AttrType } ")" ] { "," Attr } ")"
unfoldable pub EdgeColumns : Language (Option (List (List ℕ × AttributeKind)) × List AttributeTree)
EdgeColumns = Maybe Discriminators then LastAttributes

-- Ends = Name "(" FROM Name "," TO Name [ "," DISCRIMINATOR "(" Name AttrType { "," Name AttrType } ")" ] { "," Attr } ")"
unfoldable pub Ends : Language EndsTree
Ends = Made ends_of (Token Name spelling then After (sign "(") (EdgeEnds then EdgeColumns))

-- WITH REVERSE_EDGE "=" Text
unfoldable pub Reverse : Language (List ℕ)
Reverse = After (word "WITH") (After (word "REVERSE_EDGE") Setting)

abbrev pub directed_of : EndsTree × Option (List ℕ) → EdgeTree
directed_of p = edge.Directed p.0 p.1

-- Edge = CREATE DIRECTED EDGE Ends [ WITH REVERSE_EDGE "=" Text ] | CREATE UNDIRECTED EDGE Ends, after its CREATE
unfoldable pub EdgeOf : Language EdgeTree
EdgeOf =
    Made directed_of (After (word "DIRECTED") (After (word "EDGE") Ends) then Maybe Reverse)
    ∣ Made edge.Undirected (After (word "UNDIRECTED") (After (word "EDGE") Ends))

-- the members; no types if the list is left out
abbrev pub members_of : Option MembersTree → MembersTree
members_of None = members.Named []
members_of (Some m) = m

-- "*" | Name { "," Name }
unfoldable pub SomeMembers : Language MembersTree
SomeMembers = Stands members.All (sign "*") ∣ Made members.Named Names

abbrev pub graph_of : List ℕ × MembersTree → GraphTree
graph_of p = record { name = p.0; members = p.1 }

-- Graph = CREATE GRAPH Name "(" [ "*" | Name { "," Name } ] ")", after its CREATE
unfoldable pub GraphOf : Language GraphTree
GraphOf = Made graph_of (After (word "GRAPH") (Token Name spelling then Enclosed (Made members_of (Maybe SomeMembers))))

-- Val = Literal | "_"
unfoldable pub InsertValue : Language (Option Literal)
InsertValue = Made Some LiteralOf ∣ Stands None (word "_")

abbrev pub insert_of : List ℕ × List (Option Literal) → InsertTree
insert_of p = record { name = p.0; values = p.1 }

-- VALUES "(" Val { "," Val } ")"
unfoldable pub InsertValues : Language (List (Option Literal))
InsertValues = After (word "VALUES") (Enclosed (Chain (sign ",") InsertValue))

-- Insert = INSERT INTO Name VALUES "(" Val { "," Val } ")"
unfoldable pub InsertOf : Language InsertTree
InsertOf = Made insert_of (After (word "INSERT") (After (word "INTO") (Token Name spelling then InsertValues)))
