-- Schema: what each function of the reader of declarations computes, a definition for each production.
-- `declarations_are_exact` states that it is the grammar.
use Rattle.std.specs.Prelude.{ℕ, List, Option, Some, None}
use Rattle.gq_graph.specs.declared.types.IdKind.{IdKind}
use Rattle.gq_graph.specs.declared.types.IdKind.TheVariants as id_kind
use Rattle.gq_tree.specs.declared.schema.Literal.{Literal}
use Rattle.gq_tree.specs.declared.schema.AttributeKind.{AttributeKind}
use Rattle.gq_tree.specs.declared.schema.AttributeKind.TheVariants as kind
use Rattle.gq_tree.specs.declared.schema.AttributeTree.{AttributeTree}
use Rattle.gq_tree.specs.declared.schema.VertexOption.{VertexOption}
use Rattle.gq_tree.specs.declared.schema.VertexOption.TheVariants as option
use Rattle.gq_tree.specs.declared.schema.VertexTree.{VertexTree}
use Rattle.gq_tree.specs.declared.schema.EndsTree.{EndsTree}
use Rattle.gq_tree.specs.declared.schema.EdgeTree.{EdgeTree}
use Rattle.gq_tree.specs.declared.schema.EdgeTree.TheVariants as edge
use Rattle.gq_tree.specs.declared.schema.MembersTree.{MembersTree}
use Rattle.gq_tree.specs.declared.schema.MembersTree.TheVariants as members
use Rattle.gq_tree.specs.declared.schema.GraphTree.{GraphTree}
use Rattle.gq_tree.specs.declared.schema.InsertTree.{InsertTree}
use Rattle.gq_grammar.specs.Schema.{attribute_of, vertex_of, ends_of, directed_of, members_of, graph_of, insert_of}
use Rattle.gq_grammar.specs.Lexemes.{Name, sign, word, spelling}
use Rattle.gq_grammar.specs.Parsers.{Parser, token, both, made, ◌or◌, maybe, many, stands, after, enclosed}
use Rattle.gq_grammar.specs.Series.{chain, ended}
use Rattle.gq_parse_common.specs.Literals.{literal_parser, setting_parser, names_parser}

unfoldable pub attribute_type_parser : Parser AttributeKind
attribute_type_parser =
    stands kind.Int (word "INT") or stands kind.UInt (word "UINT") or stands kind.Bool (word "BOOL")
    or stands kind.Text (word "STRING")

unfoldable pub plain_attribute_parser : Parser (List ℕ × AttributeKind)
plain_attribute_parser = both (token Name spelling) attribute_type_parser

unfoldable pub kind_and_default_parser : Parser (AttributeKind × Option Literal)
kind_and_default_parser =
    (both attribute_type_parser (maybe (after (word "DEFAULT") literal_parser))) or stands (kind.Time, None) (word "DATETIME")

unfoldable pub attribute_parser : Parser AttributeTree
attribute_parser = made attribute_of (both (token Name spelling) kind_and_default_parser)

unfoldable pub id_type_parser : Parser IdKind
id_type_parser = stands id_kind.Text (word "STRING") or stands id_kind.Int (word "INT") or stands id_kind.UInt (word "UINT")

unfoldable pub id_parser : Parser (List ℕ × IdKind)
id_parser = after (word "PRIMARY_ID") (both (token Name spelling) id_type_parser)

unfoldable pub attributes_parser : Parser (List AttributeTree)
attributes_parser = many (after (sign ",") attribute_parser)

unfoldable pub option_parser : Parser VertexOption
option_parser =
    made option.Stats (after (word "STATS") setting_parser) or made option.IdAsAttribute (after (word "PRIMARY_ID_AS_ATTRIBUTE") setting_parser)

unfoldable pub options_parser : Parser (List VertexOption)
options_parser = after (word "WITH") (chain (sign ",") option_parser)

unfoldable pub vertex_shape_parser : Parser (List ℕ × ((List ℕ × IdKind) × List AttributeTree))
vertex_shape_parser = after (word "VERTEX") (both (token Name spelling) (enclosed (both id_parser attributes_parser)))

unfoldable pub vertex_parser : Parser VertexTree
vertex_parser = made vertex_of (both vertex_shape_parser (maybe options_parser))

unfoldable pub discriminators_parser : Parser (List (List ℕ × AttributeKind))
discriminators_parser = after (sign ",") (after (word "DISCRIMINATOR") (enclosed (chain (sign ",") plain_attribute_parser)))

unfoldable pub edge_ends_parser : Parser (List ℕ × List ℕ)
edge_ends_parser =
    after (word "FROM") (both (token Name spelling) (after (sign ",") (after (word "TO") (token Name spelling))))

unfoldable pub last_attributes_parser : Parser (List AttributeTree)
last_attributes_parser = ended (sign ")") attributes_parser

unfoldable pub edge_columns_parser : Parser (Option (List (List ℕ × AttributeKind)) × List AttributeTree)
edge_columns_parser = both (maybe discriminators_parser) last_attributes_parser

unfoldable pub ends_parser : Parser EndsTree
ends_parser = made ends_of (both (token Name spelling) (after (sign "(") (both edge_ends_parser edge_columns_parser)))

unfoldable pub reverse_parser : Parser (List ℕ)
reverse_parser = after (word "WITH") (after (word "REVERSE_EDGE") setting_parser)

unfoldable pub edge_parser : Parser EdgeTree
edge_parser =
    made directed_of (both (after (word "DIRECTED") (after (word "EDGE") ends_parser)) (maybe reverse_parser))
    or made edge.Undirected (after (word "UNDIRECTED") (after (word "EDGE") ends_parser))

unfoldable pub some_members_parser : Parser MembersTree
some_members_parser = stands members.All (sign "*") or made members.Named names_parser

unfoldable pub graph_parser : Parser GraphTree
graph_parser =
    made graph_of (after (word "GRAPH") (both (token Name spelling) (enclosed (made members_of (maybe some_members_parser)))))

unfoldable pub insert_value_parser : Parser (Option Literal)
insert_value_parser = made Some literal_parser or stands None (word "_")

unfoldable pub insert_values_parser : Parser (List (Option Literal))
insert_values_parser = after (word "VALUES") (enclosed (chain (sign ",") insert_value_parser))

unfoldable pub insert_parser : Parser InsertTree
insert_parser =
    made insert_of (after (word "INSERT") (after (word "INTO") (both (token Name spelling) insert_values_parser)))
