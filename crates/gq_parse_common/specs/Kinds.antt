-- Kinds: what each function of the reader of kinds computes, a definition for each production.
-- `kinds_are_exact` states that it is the grammar.
use Rattle.std.specs.Prelude.{ℕ, zero, suc, List, None, Bool, true, false}
use Rattle.gq_tree.specs.declared.expr.Node.{Node}
use Rattle.gq_tree.specs.declared.query.BaseTree.{BaseTree}
use Rattle.gq_tree.specs.declared.query.BaseTree.TheVariants as base
use Rattle.gq_tree.specs.declared.kind.Elem.{Elem}
use Rattle.gq_tree.specs.declared.kind.Elem.TheVariants as elem
use Rattle.gq_tree.specs.declared.kind.Plain.{Plain}
use Rattle.gq_tree.specs.declared.kind.Plain.TheVariants as plain
use Rattle.gq_tree.specs.declared.kind.Bits.{Bits}
use Rattle.gq_tree.specs.declared.kind.Bits.TheVariants as bits
use Rattle.gq_tree.specs.declared.kind.EntryTree.{EntryTree}
use Rattle.gq_tree.specs.declared.kind.EntryTree.TheVariants as held
use Rattle.gq_tree.specs.declared.kind.KindTree.{KindTree}
use Rattle.gq_tree.specs.declared.kind.KindTree.TheVariants as kind
use Rattle.gq_tree.specs.declared.kind.AccumTree.{AccumTree}
use Rattle.gq_tree.specs.declared.kind.DefinitionTree.{DefinitionTree}
use Rattle.gq_grammar.specs.Kinds.{vertex_type, plain_of, bits_of, ordered, heap_of, map_of, group_of, with_name, accum_of, tuple_of, accums_of}
use Rattle.gq_grammar.specs.Lexemes.{Name, Number, Global, Attached, sign, word, spelling, number}
use Rattle.gq_grammar.specs.Parsers.{Parser, token, both, made, ◌or◌, maybe, many, one, stands, after, enclosed}
use Rattle.gq_grammar.specs.Series.{chain, ended}
use Rattle.gq_parse_common.specs.Expression.{expression}

unfoldable pub angled_name_parser : Parser (List ℕ)
angled_name_parser = after (sign "<") (ended (sign ">") (token Name spelling))

unfoldable pub base_parser : Parser BaseTree
base_parser =
    stands base.Int (word "INT") or stands base.UInt (word "UINT") or stands base.Bool (word "BOOL")
    or stands base.Text (word "STRING") or made vertex_type (both (one (word "VERTEX")) (maybe angled_name_parser))

unfoldable pub elem_parser : Parser Elem
elem_parser = made elem.Base base_parser or made elem.Tuple (token Name spelling)

unfoldable pub angled_elem_parser : Parser Elem
angled_elem_parser = after (sign "<") (ended (sign ">") elem_parser)

unfoldable pub field_parser : Parser (BaseTree × List ℕ)
field_parser = both base_parser (token Name spelling)

unfoldable pub plain_parser : Parser Plain
plain_parser =
    stands plain.Sum (word "SumAccum") or stands plain.Min (word "MinAccum")
    or stands plain.Max (word "MaxAccum") or stands plain.Set (word "SetAccum")
    or stands plain.Bag (word "BagAccum") or stands plain.List (word "ListAccum")

unfoldable pub bits_parser : Parser Bits
bits_parser =
    stands bits.Or (word "OrAccum") or stands bits.And (word "AndAccum") or stands bits.BitwiseOr (word "BitwiseOrAccum")
    or stands bits.BitwiseAnd (word "BitwiseAndAccum")

unfoldable pub flat_kind_parser : Parser KindTree
flat_kind_parser =
    made plain_of (both plain_parser angled_elem_parser) or made bits_of (both bits_parser (maybe angled_elem_parser))
    or stands kind.Avg (word "AvgAccum")

unfoldable pub direction_parser : Parser Bool
direction_parser = stands false (word "ASC") or stands true (word "DESC")

unfoldable pub order_field_parser : Parser (List ℕ × Bool)
order_field_parser = made ordered (both (token Name spelling) (maybe direction_parser))

unfoldable pub heap_order_parser : Parser (ℕ × List (List ℕ × Bool))
heap_order_parser = enclosed (both (token Number number) (after (sign ",") (chain (sign ",") order_field_parser)))

unfoldable pub heap_kind_parser : Parser KindTree
heap_kind_parser = made heap_of (after (word "HeapAccum") (both angled_name_parser heap_order_parser))

unfoldable pub held_parser : Parser KindTree → Parser EntryTree
held_parser k = made held.Elem elem_parser or made held.Kind k

unfoldable pub map_kind_parser : Parser KindTree → Parser KindTree
map_kind_parser k =
    made map_of (after (word "MapAccum") (after (sign "<") (ended (sign ">") (both elem_parser (after (sign ",") (held_parser k))))))

unfoldable pub group_part_parser : Parser KindTree → Parser (KindTree × List ℕ)
group_part_parser k = both k (token Name spelling)

unfoldable pub group_parts_parser : Parser KindTree → Parser (List (KindTree × List ℕ))
group_parts_parser k = after (sign ",") (chain (sign ",") (group_part_parser k))

unfoldable pub group_rest_parser : Parser KindTree → Parser (List (BaseTree × List ℕ) × List (KindTree × List ℕ))
group_rest_parser k = both (many (after (sign ",") field_parser)) (group_parts_parser k)

unfoldable pub group_kind_parser : Parser KindTree → Parser KindTree
group_kind_parser k =
    made group_of (after (word "GroupByAccum") (after (sign "<") (ended (sign ">") (both field_parser (group_rest_parser k)))))

unfoldable pub kind_in_parser : Parser KindTree → Parser KindTree
kind_in_parser k = flat_kind_parser or heap_kind_parser or map_kind_parser k or group_kind_parser k

-- with a bounded number of levels
unfoldable pub kind_parser : ℕ → Parser KindTree
kind_parser zero l = None
kind_parser (suc n) l = kind_in_parser (kind_parser n) l

unfoldable pub value_parser : Parser Node
value_parser = after (sign "=") expression

unfoldable pub accum_name_parser : Parser (Bool × List ℕ)
accum_name_parser = made (with_name false) (token Global spelling) or made (with_name true) (token Attached spelling)

unfoldable pub accum_parser : Parser AccumTree
accum_parser = made accum_of (both accum_name_parser (maybe value_parser))

unfoldable pub tuple_parser : Parser DefinitionTree
tuple_parser =
    made tuple_of (after (word "TYPEDEF") (after (word "TUPLE") (after (sign "<") (both (ended (sign ">") (chain (sign ",") field_parser)) (token Name spelling)))))

unfoldable pub definition_parser : Parser DefinitionTree
definition_parser = tuple_parser or made accums_of (both (kind_parser 8) (chain (sign ",") accum_parser))
