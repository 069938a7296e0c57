-- SchemaReads: declarations are read as the grammar says, a lemma for each production.
use Rattle.std.proofs.Common.{◌≡◌, ℕ, List, [], ◌∷◌, ◌++◌, Some, None, refl, ap, ◌∙◌}
use Rattle.gq_graph.specs.declared.types.IdKind.TheVariants as id_kind
use Rattle.gq_tree.specs.declared.schema.AttributeKind.TheVariants as kind
use Rattle.gq_tree.specs.declared.schema.AttributeTree.{AttributeTree}
use Rattle.gq_tree.specs.declared.schema.VertexOption.TheVariants as option
use Rattle.gq_tree.specs.declared.schema.EdgeTree.TheVariants as edge
use Rattle.gq_tree.specs.declared.schema.MembersTree.TheVariants as members
use Rattle.gq_grammar.specs.Schema.{attribute_of, vertex_of, ends_of, directed_of, members_of, graph_of, insert_of}
use Rattle.gq_grammar.specs.Schema as g
use Rattle.gq_grammar.specs.Lexemes.{Lexeme, Lexemes, Name, Number, Text, sign, word, spelling}
use Rattle.gq_grammar.specs.Reserved.{is_reserved}
use Rattle.gq_grammar.specs.Languages.{Many}
use Rattle.gq_grammar.specs.Signs.{One, After}
use Rattle.gq_grammar.specs.Series.{Ended, chain}
use Rattle.gq_grammar.specs.Parsers.{many, after, enclosed}
use Rattle.gq_grammar.proofs.Sets.{Starts, starts_on}
use Rattle.gq_grammar.proofs.Claims.{Reads, Takes, widen}
use Rattle.gq_grammar.proofs.TokenLemmas.{token_reads}
use Rattle.gq_grammar.proofs.ThenLemmas.{then_reads, tail_reads}
use Rattle.gq_grammar.proofs.MadeLemmas.{made_reads, made_takes, either_reads, maybe_takes}
use Rattle.gq_grammar.proofs.ManyLemmas.{many_takes}
use Rattle.gq_grammar.proofs.SignLemmas.{one_reads, stands_reads, after_reads, enclosed_reads, enclosed_takes}
use Rattle.gq_grammar.proofs.SeriesLemmas.{chain_reads, ended_takes}
use Rattle.gq_grammar.proofs.ExactLemmas.{opens_none, after_none, maybe_lead}
use Rattle.gq_parse_common.proofs.Steps.{more}
use Rattle.gq_parse_ddl.specs.Schema as d
use Rattle.gq_parse_common.proofs.Steps.{behind_first}
use Rattle.gq_parse_common.proofs.LiteralReads.{literal_reads, setting_reads, names_reads}

pub attribute_type_reads : (n : ℕ) → Reads n g.AttributeType g.AttributeType d.attribute_type_parser (word "INT" ∷ word "UINT" ∷ word "BOOL" ∷ word "STRING" ∷ []) ([])
unfolding g.AttributeType d.attribute_type_parser is_reserved
attribute_type_reads n =
    either_reads (either_reads (either_reads (stands_reads n kind.Int (word "INT")) (stands_reads n kind.UInt (word "UINT")) refl) (stands_reads n kind.Bool (word "BOOL")) refl) (stands_reads n kind.Text (word "STRING")) refl

pub plain_attribute_reads : (n : ℕ) → Reads n g.PlainAttribute g.PlainAttribute d.plain_attribute_parser (Name ∷ []) ([])
unfolding g.PlainAttribute d.plain_attribute_parser is_reserved
plain_attribute_reads n =
    then_reads (token_reads n Name spelling) (attribute_type_reads n) (more n) refl

pub kind_and_default_reads : (n : ℕ) → Reads n g.KindAndDefault g.KindAndDefault d.kind_and_default_parser (word "INT" ∷ word "UINT" ∷ word "BOOL" ∷ word "STRING" ∷ word "DATETIME" ∷ []) (word "DEFAULT" ∷ [])
unfolding g.KindAndDefault d.kind_and_default_parser is_reserved
kind_and_default_reads n =
    either_reads (tail_reads (attribute_type_reads n) (maybe_takes (after_reads (word "DEFAULT") (literal_reads n))) refl) (stands_reads n (kind.Time, None) (word "DATETIME")) refl

pub attribute_reads : (n : ℕ) → Reads n g.AttributeOf g.AttributeOf d.attribute_parser (Name ∷ []) (word "DEFAULT" ∷ [])
unfolding g.AttributeOf d.attribute_parser is_reserved
attribute_reads n =
    made_reads attribute_of (then_reads (token_reads n Name spelling) (kind_and_default_reads n) (more n) refl)

pub id_type_reads : (n : ℕ) → Reads n g.IdType g.IdType d.id_type_parser (word "STRING" ∷ word "INT" ∷ word "UINT" ∷ []) ([])
unfolding g.IdType d.id_type_parser is_reserved
id_type_reads n =
    either_reads (either_reads (stands_reads n id_kind.Text (word "STRING")) (stands_reads n id_kind.Int (word "INT")) refl) (stands_reads n id_kind.UInt (word "UINT")) refl

pub id_reads : (n : ℕ) → Reads n g.IdOf g.IdOf d.id_parser (word "PRIMARY_ID" ∷ []) ([])
unfolding g.IdOf d.id_parser is_reserved
id_reads n =
    after_reads (word "PRIMARY_ID") (then_reads (token_reads n Name spelling) (id_type_reads n) (more n) refl)

pub attributes_reads : (n : ℕ) → Takes n g.Attributes g.Attributes d.attributes_parser (sign "," ∷ []) (sign "," ∷ word "DEFAULT" ∷ [])
unfolding g.Attributes d.attributes_parser is_reserved
attributes_reads n =
    many_takes (after_reads (sign ",") (attribute_reads n)) refl

pub option_reads : (n : ℕ) → Reads n g.OptionOf g.OptionOf d.option_parser (word "STATS" ∷ word "PRIMARY_ID_AS_ATTRIBUTE" ∷ []) ([])
unfolding g.OptionOf d.option_parser is_reserved
option_reads n =
    either_reads (made_reads option.Stats (after_reads (word "STATS") (setting_reads n))) (made_reads option.IdAsAttribute (after_reads (word "PRIMARY_ID_AS_ATTRIBUTE") (setting_reads n))) refl

pub options_reads : (n : ℕ) → Reads n g.Options g.Options d.options_parser (word "WITH" ∷ []) (sign "," ∷ [])
unfolding g.Options d.options_parser is_reserved
options_reads n =
    after_reads (word "WITH") (chain_reads (sign ",") (option_reads n) refl)

pub vertex_shape_reads : (n : ℕ) → Reads n g.VertexShape g.VertexShape d.vertex_shape_parser (word "VERTEX" ∷ []) ([])
unfolding g.VertexShape d.vertex_shape_parser is_reserved
vertex_shape_reads n =
    after_reads (word "VERTEX") (then_reads (token_reads n Name spelling) (enclosed_reads (tail_reads (id_reads n) (attributes_reads n) refl) (more n) refl) (more n) refl)

pub vertex_reads : (n : ℕ) → Reads n g.VertexOf g.VertexOf d.vertex_parser (word "VERTEX" ∷ []) (word "WITH" ∷ sign "," ∷ [])
unfolding g.VertexOf d.vertex_parser is_reserved
vertex_reads n =
    made_reads vertex_of (tail_reads (vertex_shape_reads n) (maybe_takes (options_reads n)) refl)

pub discriminators_reads : (n : ℕ) → Reads n g.Discriminators g.Discriminators d.discriminators_parser (sign "," ∷ []) ([])
unfolding g.Discriminators d.discriminators_parser is_reserved
discriminators_reads n =
    after_reads (sign ",") (after_reads (word "DISCRIMINATOR") (enclosed_reads (chain_reads (sign ",") (plain_attribute_reads n) refl) (more n) refl))

pub edge_ends_reads : (n : ℕ) → Reads n g.EdgeEnds g.EdgeEnds d.edge_ends_parser (word "FROM" ∷ []) ([])
unfolding g.EdgeEnds d.edge_ends_parser is_reserved
edge_ends_reads n =
    after_reads (word "FROM") (then_reads (token_reads n Name spelling) (after_reads (sign ",") (after_reads (word "TO") (token_reads n Name spelling))) (more n) refl)

pub last_attributes_reads : (n : ℕ) → Reads n g.LastAttributes g.LastAttributes d.last_attributes_parser (sign "," ∷ sign ")" ∷ []) ([])
unfolding g.LastAttributes d.last_attributes_parser is_reserved
last_attributes_reads n =
    ended_takes (sign ")") (attributes_reads n) refl

-- after the comma and the name of an attribute comes its type
attribute_second : (n : ℕ) (a : AttributeTree) (x : Lexemes) → g.AttributeOf a x → (t : Lexeme) × (v : Lexemes) × (x ≡ t ∷ v) × Starts (word "INT" ∷ word "UINT" ∷ word "BOOL" ∷ word "STRING" ∷ word "DATETIME" ∷ []) v
unfolding g.AttributeOf
attribute_second n a x s =
    let d = s.1 in
    (d.3.0, d.1, d.2 ∙ ap (λ z. z ++ d.1) d.3.1, (kind_and_default_reads n).begins s.0.1 d.1 d.4)

columns_none : (n : ℕ) (items : List AttributeTree) (u v y : Lexemes) → Many (After (sign ",") g.AttributeOf) items u → One (sign ")") tt v → d.discriminators_parser ((u ++ v) ++ y) ≡ None
unfolding d.discriminators_parser is_reserved
columns_none n [] u v y many end =
    ap (λ z. d.discriminators_parser ((z ++ v) ++ y)) many
    ∙ opens_none (sign ")" ∷ []) (discriminators_reads n) refl (v ++ y) (starts_on (sign ")" ∷ []) v y ((one_reads n (sign ")")).begins tt v end))
columns_none n (a ∷ items) u v y many end =
    let w = behind_first (sign ",") g.AttributeOf a many.0 many.3 in
    let z = attribute_second n a w.1 w.3 in
    let types = word "INT" ∷ word "UINT" ∷ word "BOOL" ∷ word "STRING" ∷ word "DATETIME" ∷ [] in
    let is : u ≡ w.0 ∷ (z.0 ∷ (z.1 ++ many.1)) = many.2 ∙ ap (λ x. x ++ many.1) (w.2 ∙ ap (λ x. w.0 ∷ x) z.2) in
    let rest = ((z.1 ++ many.1) ++ v) ++ y in
    ap (λ x. d.discriminators_parser ((x ++ v) ++ y)) is
    ∙ after_none (sign ",") (after (word "DISCRIMINATOR") (enclosed (chain (sign ",") d.plain_attribute_parser))) w.0 (z.0 ∷ rest)
    (after_none (word "DISCRIMINATOR") (enclosed (chain (sign ",") d.plain_attribute_parser)) z.0 rest
    (opens_none types (enclosed_reads (chain_reads (sign ",") (plain_attribute_reads n) refl) (more n) refl) refl rest
    (starts_on types ((z.1 ++ many.1) ++ v) y (starts_on types (z.1 ++ many.1) v (starts_on types z.1 many.1 z.3)))))

discriminators_none : (n : ℕ) (items : List AttributeTree) (x y : Lexemes) → g.LastAttributes items x → d.discriminators_parser (x ++ y) ≡ None
unfolding g.LastAttributes g.Attributes Ended
discriminators_none n items x y s =
    ap (λ z. d.discriminators_parser (z ++ y)) s.1.2 ∙ columns_none n s.0.0 s.1.0 s.1.1 y s.1.3 s.1.4

pub edge_columns_reads : (n : ℕ) → Reads n g.EdgeColumns g.EdgeColumns d.edge_columns_parser (sign "," ∷ sign ")" ∷ []) ([])
unfolding g.EdgeColumns d.edge_columns_parser is_reserved
edge_columns_reads n =
    widen (sign "," ∷ sign ")" ∷ []) ([]) refl refl (maybe_lead (discriminators_reads n) (last_attributes_reads n) refl (λ b x y s le. discriminators_none n b x y s))

pub ends_reads : (n : ℕ) → Reads n g.Ends g.Ends d.ends_parser (Name ∷ []) ([])
unfolding g.Ends d.ends_parser is_reserved
ends_reads n =
    made_reads ends_of (then_reads (token_reads n Name spelling) (after_reads (sign "(") (then_reads (edge_ends_reads n) (edge_columns_reads n) (more n) refl)) (more n) refl)

pub reverse_reads : (n : ℕ) → Reads n g.Reverse g.Reverse d.reverse_parser (word "WITH" ∷ []) ([])
unfolding g.Reverse d.reverse_parser is_reserved
reverse_reads n =
    after_reads (word "WITH") (after_reads (word "REVERSE_EDGE") (setting_reads n))

pub edge_reads : (n : ℕ) → Reads n g.EdgeOf g.EdgeOf d.edge_parser (word "DIRECTED" ∷ word "UNDIRECTED" ∷ []) (word "WITH" ∷ [])
unfolding g.EdgeOf d.edge_parser is_reserved
edge_reads n =
    either_reads (made_reads directed_of (tail_reads (after_reads (word "DIRECTED") (after_reads (word "EDGE") (ends_reads n))) (maybe_takes (reverse_reads n)) refl)) (made_reads edge.Undirected (after_reads (word "UNDIRECTED") (after_reads (word "EDGE") (ends_reads n)))) refl

pub some_members_reads : (n : ℕ) → Reads n g.SomeMembers g.SomeMembers d.some_members_parser (sign "*" ∷ Name ∷ []) (sign "," ∷ [])
unfolding g.SomeMembers d.some_members_parser is_reserved
some_members_reads n =
    either_reads (stands_reads n members.All (sign "*")) (made_reads members.Named (names_reads n)) refl

pub graph_reads : (n : ℕ) → Reads n g.GraphOf g.GraphOf d.graph_parser (word "GRAPH" ∷ []) ([])
unfolding g.GraphOf d.graph_parser is_reserved
graph_reads n =
    made_reads graph_of (after_reads (word "GRAPH") (then_reads (token_reads n Name spelling) (enclosed_takes (made_takes members_of (maybe_takes (some_members_reads n))) (more n) refl) (more n) refl))

pub insert_value_reads : (n : ℕ) → Reads n g.InsertValue g.InsertValue d.insert_value_parser (sign "-" ∷ Number ∷ Text ∷ word "TRUE" ∷ word "FALSE" ∷ word "_" ∷ []) ([])
unfolding g.InsertValue d.insert_value_parser is_reserved
insert_value_reads n =
    either_reads (made_reads Some (literal_reads n)) (stands_reads n None (word "_")) refl

pub insert_values_reads : (n : ℕ) → Reads n g.InsertValues g.InsertValues d.insert_values_parser (word "VALUES" ∷ []) ([])
unfolding g.InsertValues d.insert_values_parser is_reserved
insert_values_reads n =
    after_reads (word "VALUES") (enclosed_reads (chain_reads (sign ",") (insert_value_reads n) refl) (more n) refl)

pub insert_reads : (n : ℕ) → Reads n g.InsertOf g.InsertOf d.insert_parser (word "INSERT" ∷ []) ([])
unfolding g.InsertOf d.insert_parser is_reserved
insert_reads n =
    made_reads insert_of (after_reads (word "INSERT") (after_reads (word "INTO") (then_reads (token_reads n Name spelling) (insert_values_reads n) (more n) refl)))
