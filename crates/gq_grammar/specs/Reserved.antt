-- Reserved: the words that can't be names, in any letter case.
use Rattle.std.specs.Prelude.{ℕ, Bool, ◌||◌, List, codes}
use Rattle.std.specs.Str.{str_eq_ignore_ascii_case}

module _ (word : List ℕ) where
  -- it is this word
  abbrev pub is : List ℕ → Bool
  is other = str_eq_ignore_ascii_case word other

  -- a word of expressions, or `_`
  abbrev pub is_expression_word : Bool
  is_expression_word = is (codes "AND") || is (codes "OR") || is (codes "NOT") || is (codes "TRUE") || is (codes "FALSE") || is (codes "_")

  -- a word at the beginning of SELECT
  abbrev pub is_select_word : Bool
  is_select_word =
      is (codes "SELECT") || is (codes "FROM") || is (codes "WHERE") || is (codes "ACCUM") || is (codes "POST") || is (codes "POST_ACCUM")

  -- a word at the end of SELECT
  abbrev pub is_order_word : Bool
  is_order_word = is (codes "HAVING") || is (codes "ORDER") || is (codes "BY") || is (codes "LIMIT") || is (codes "ASC") || is (codes "DESC")

  -- a word of IF and WHILE
  abbrev pub is_control_word : Bool
  is_control_word = is (codes "IF") || is (codes "THEN") || is (codes "ELSE") || is (codes "END") || is (codes "WHILE") || is (codes "DO")

  -- a word of FOREACH and PRINT
  abbrev pub is_print_word : Bool
  is_print_word = is (codes "FOREACH") || is (codes "IN") || is (codes "RANGE") || is (codes "PRINT") || is (codes "AS")

  -- a word of vertex sets
  abbrev pub is_set_word : Bool
  is_set_word = is (codes "UNION") || is (codes "INTERSECT") || is (codes "MINUS") || is (codes "ANY") || is (codes "ALL")

  -- a word of types
  abbrev pub is_type_word : Bool
  is_type_word = is (codes "INT") || is (codes "UINT") || is (codes "BOOL") || is (codes "STRING") || is (codes "VERTEX")

  -- a word of tuple types
  abbrev pub is_tuple_word : Bool
  is_tuple_word = is (codes "TYPEDEF") || is (codes "TUPLE")

  -- an accumulator kind that keeps a number
  abbrev pub is_number_kind : Bool
  is_number_kind = is (codes "SumAccum") || is (codes "MinAccum") || is (codes "MaxAccum") || is (codes "AvgAccum")

  -- an accumulator kind that keeps bits
  abbrev pub is_bit_kind : Bool
  is_bit_kind = is (codes "OrAccum") || is (codes "AndAccum") || is (codes "BitwiseOrAccum") || is (codes "BitwiseAndAccum")

  -- an accumulator kind that keeps a collection
  abbrev pub is_collection_kind : Bool
  is_collection_kind =
      is (codes "SetAccum") || is (codes "BagAccum") || is (codes "ListAccum") || is (codes "MapAccum") || is (codes "GroupByAccum")
      || is (codes "HeapAccum")

  -- a word of statements
  abbrev pub is_statement_word : Bool
  is_statement_word = is_select_word || is_order_word || is_control_word || is_print_word || is_set_word

  -- a word of declarations
  abbrev pub is_declaration_word : Bool
  is_declaration_word = is_type_word || is_tuple_word || is_number_kind || is_bit_kind || is_collection_kind

  -- a word that can't be a name
  unfoldable pub is_reserved : Bool
  is_reserved = is_expression_word || is_statement_word || is_declaration_word
