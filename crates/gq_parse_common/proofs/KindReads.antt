-- KindReads: kinds are read as the grammar says, a lemma for each production.
use Rattle.std.proofs.Common.{ℕ, zero, suc, ◌≤◌, List, [], ◌∷◌, ◌++◌, true, false, refl}
use Rattle.gq_tree.specs.declared.query.BaseTree.TheVariants as base
use Rattle.gq_tree.specs.declared.kind.Elem.TheVariants as elem
use Rattle.gq_tree.specs.declared.kind.Plain.TheVariants as plain
use Rattle.gq_tree.specs.declared.kind.Bits.TheVariants as bits
use Rattle.gq_tree.specs.declared.kind.EntryTree.TheVariants as held
use Rattle.gq_tree.specs.declared.kind.KindTree.{KindTree}
use Rattle.gq_tree.specs.declared.kind.KindTree.TheVariants as kind
use Rattle.gq_grammar.specs.Kinds.{vertex_type, plain_of, bits_of, ordered, heap_of, map_of, group_of, with_name, accum_of, tuple_of, accums_of}
use Rattle.gq_grammar.specs.Kinds as g
use Rattle.gq_grammar.specs.Lexemes.{Terminal, Name, Number, Global, Attached, sign, word, spelling, number}
use Rattle.gq_grammar.specs.Reserved.{is_reserved}
use Rattle.gq_grammar.specs.Languages.{Language}
use Rattle.gq_grammar.specs.Parsers.{Parser}
use Rattle.gq_grammar.proofs.Claims.{Reads, widen}
use Rattle.gq_grammar.proofs.TokenLemmas.{token_reads}
use Rattle.gq_grammar.proofs.ThenLemmas.{then_reads, tail_reads}
use Rattle.gq_grammar.proofs.MadeLemmas.{made_reads, either_reads, maybe_takes}
use Rattle.gq_grammar.proofs.SignLemmas.{one_reads, stands_reads, after_reads, enclosed_reads}
use Rattle.gq_grammar.proofs.SeriesLemmas.{chain_reads, ended_reads}
use Rattle.gq_grammar.proofs.ExactLemmas.{many_lead}
use Rattle.gq_expr_read.proofs.Productions.{goes}
use Rattle.gq_parse_common.proofs.Steps.{more, after_more, expression_reads}
use Rattle.gq_parse_common.specs.Kinds as d
use Rattle.gq_parse_common.proofs.Steps.{after_apart}

-- the words with which kinds that hold values of one type begin
abbrev pub flat_words : List Terminal
flat_words =
    word "SumAccum" ∷ word "MinAccum" ∷ word "MaxAccum" ∷ word "SetAccum" ∷ word "BagAccum" ∷ word "ListAccum" ∷ word "OrAccum" ∷ word "AndAccum"
    ∷ word "BitwiseOrAccum" ∷ word "BitwiseAndAccum" ∷ word "AvgAccum" ∷ []

-- the words with which kinds begin
abbrev pub kind_words : List Terminal
kind_words =
    word "SumAccum" ∷ word "MinAccum" ∷ word "MaxAccum" ∷ word "SetAccum" ∷ word "BagAccum" ∷ word "ListAccum" ∷ word "OrAccum" ∷ word "AndAccum"
    ∷ word "BitwiseOrAccum" ∷ word "BitwiseAndAccum" ∷ word "AvgAccum" ∷ word "HeapAccum" ∷ word "MapAccum" ∷ word "GroupByAccum" ∷ []

pub angled_name_reads : (n : ℕ) → Reads n g.AngledName g.AngledName d.angled_name_parser (sign "<" ∷ []) ([])
unfolding g.AngledName d.angled_name_parser is_reserved
angled_name_reads n =
    after_reads (sign "<") (ended_reads (sign ">") (token_reads n Name spelling) refl)

pub base_reads : (n : ℕ) → Reads n g.BaseOf g.BaseOf d.base_parser (word "INT" ∷ word "UINT" ∷ word "BOOL" ∷ word "STRING" ∷ word "VERTEX" ∷ []) (sign "<" ∷ [])
unfolding g.BaseOf d.base_parser is_reserved
base_reads n =
    either_reads (either_reads (either_reads (either_reads (stands_reads n base.Int (word "INT")) (stands_reads n base.UInt (word "UINT")) refl) (stands_reads n base.Bool (word "BOOL")) refl) (stands_reads n base.Text (word "STRING")) refl) (made_reads vertex_type (tail_reads (one_reads n (word "VERTEX")) (maybe_takes (angled_name_reads n)) refl)) refl

pub elem_reads : (n : ℕ) → Reads n g.ElemOf g.ElemOf d.elem_parser (word "INT" ∷ word "UINT" ∷ word "BOOL" ∷ word "STRING" ∷ word "VERTEX" ∷ Name ∷ []) (sign "<" ∷ [])
unfolding g.ElemOf d.elem_parser is_reserved
elem_reads n =
    either_reads (made_reads elem.Base (base_reads n)) (made_reads elem.Tuple (token_reads n Name spelling)) refl

pub angled_elem_reads : (n : ℕ) → Reads n g.AngledElem g.AngledElem d.angled_elem_parser (sign "<" ∷ []) ([])
unfolding g.AngledElem d.angled_elem_parser is_reserved
angled_elem_reads n =
    after_reads (sign "<") (ended_reads (sign ">") (elem_reads n) refl)

pub field_reads : (n : ℕ) → Reads n g.FieldOf g.FieldOf d.field_parser (word "INT" ∷ word "UINT" ∷ word "BOOL" ∷ word "STRING" ∷ word "VERTEX" ∷ []) ([])
unfolding g.FieldOf d.field_parser is_reserved
field_reads n =
    then_reads (base_reads n) (token_reads n Name spelling) (more n) refl

pub plain_reads : (n : ℕ) → Reads n g.PlainOf g.PlainOf d.plain_parser (word "SumAccum" ∷ word "MinAccum" ∷ word "MaxAccum" ∷ word "SetAccum" ∷ word "BagAccum" ∷ word "ListAccum" ∷ []) ([])
unfolding g.PlainOf d.plain_parser is_reserved
plain_reads n =
    either_reads (either_reads (either_reads (either_reads (either_reads (stands_reads n plain.Sum (word "SumAccum")) (stands_reads n plain.Min (word "MinAccum")) refl) (stands_reads n plain.Max (word "MaxAccum")) refl) (stands_reads n plain.Set (word "SetAccum")) refl) (stands_reads n plain.Bag (word "BagAccum")) refl) (stands_reads n plain.List (word "ListAccum")) refl

pub bits_reads : (n : ℕ) → Reads n g.BitsOf g.BitsOf d.bits_parser (word "OrAccum" ∷ word "AndAccum" ∷ word "BitwiseOrAccum" ∷ word "BitwiseAndAccum" ∷ []) ([])
unfolding g.BitsOf d.bits_parser is_reserved
bits_reads n =
    either_reads (either_reads (either_reads (stands_reads n bits.Or (word "OrAccum")) (stands_reads n bits.And (word "AndAccum")) refl) (stands_reads n bits.BitwiseOr (word "BitwiseOrAccum")) refl) (stands_reads n bits.BitwiseAnd (word "BitwiseAndAccum")) refl

pub flat_kind_reads : (n : ℕ) → Reads n g.FlatKind g.FlatKind d.flat_kind_parser flat_words (sign "<" ∷ [])
unfolding g.FlatKind d.flat_kind_parser is_reserved
flat_kind_reads n =
    either_reads (either_reads (made_reads plain_of (then_reads (plain_reads n) (angled_elem_reads n) (more n) refl)) (made_reads bits_of (tail_reads (bits_reads n) (maybe_takes (angled_elem_reads n)) refl)) refl) (stands_reads n kind.Avg (word "AvgAccum")) refl

pub direction_reads : (n : ℕ) → Reads n g.Direction g.Direction d.direction_parser (word "ASC" ∷ word "DESC" ∷ []) ([])
unfolding g.Direction d.direction_parser is_reserved
direction_reads n =
    either_reads (stands_reads n false (word "ASC")) (stands_reads n true (word "DESC")) refl

pub order_field_reads : (n : ℕ) → Reads n g.OrderField g.OrderField d.order_field_parser (Name ∷ []) (word "ASC" ∷ word "DESC" ∷ [])
unfolding g.OrderField d.order_field_parser is_reserved
order_field_reads n =
    made_reads ordered (tail_reads (token_reads n Name spelling) (maybe_takes (direction_reads n)) refl)

pub heap_order_reads : (n : ℕ) → Reads n g.HeapOrder g.HeapOrder d.heap_order_parser (sign "(" ∷ []) ([])
unfolding g.HeapOrder d.heap_order_parser is_reserved
heap_order_reads n =
    enclosed_reads (then_reads (token_reads n Number number) (after_reads (sign ",") (chain_reads (sign ",") (order_field_reads n) refl)) (more n) refl) (more n) refl

pub heap_kind_reads : (n : ℕ) → Reads n g.HeapKind g.HeapKind d.heap_kind_parser (word "HeapAccum" ∷ []) ([])
unfolding g.HeapKind d.heap_kind_parser is_reserved
heap_kind_reads n =
    made_reads heap_of (after_reads (word "HeapAccum") (then_reads (angled_name_reads n) (heap_order_reads n) (more n) refl))

pub held_reads : (m : ℕ) → (K K' : Language KindTree) (k : Parser KindTree) → Reads m K K' k kind_words (sign "<" ∷ []) → Reads m (g.HeldOf K) (g.HeldOf K') (d.held_parser k) (word "INT" ∷ word "UINT" ∷ word "BOOL" ∷ word "STRING" ∷ word "VERTEX" ∷ Name ∷ kind_words) (sign "<" ∷ [])
unfolding g.HeldOf d.held_parser is_reserved
held_reads m K K' k r =
    widen (word "INT" ∷ word "UINT" ∷ word "BOOL" ∷ word "STRING" ∷ word "VERTEX" ∷ Name ∷ kind_words) (sign "<" ∷ []) refl refl (either_reads (made_reads held.Elem (elem_reads m)) (made_reads held.Kind r) refl)

pub map_kind_reads : (n m : ℕ) → n ≤ suc m → (K K' : Language KindTree) (k : Parser KindTree) → Reads m K K' k kind_words (sign "<" ∷ []) → Reads n (g.MapKind K) (g.MapKind K') (d.map_kind_parser k) (word "MapAccum" ∷ []) ([])
unfolding g.MapKind d.map_kind_parser is_reserved
map_kind_reads n m nm K K' k r =
    made_reads map_of (after_more (word "MapAccum") nm (after_reads (sign "<") (ended_reads (sign ">") (then_reads (elem_reads m) (after_reads (sign ",") (held_reads m _ _ _ r)) (more m) refl) refl)))

pub group_part_reads : (m : ℕ) → (K K' : Language KindTree) (k : Parser KindTree) → Reads m K K' k kind_words (sign "<" ∷ []) → Reads m (g.GroupPart K) (g.GroupPart K') (d.group_part_parser k) kind_words ([])
unfolding g.GroupPart d.group_part_parser is_reserved
group_part_reads m K K' k r =
    then_reads r (token_reads m Name spelling) (more m) refl

pub group_parts_reads : (n m : ℕ) → n ≤ suc m → (K K' : Language KindTree) (k : Parser KindTree) → Reads m K K' k kind_words (sign "<" ∷ []) → Reads n (g.GroupParts K) (g.GroupParts K') (d.group_parts_parser k) (sign "," ∷ []) (sign "," ∷ [])
unfolding g.GroupParts d.group_parts_parser is_reserved
group_parts_reads n m nm K K' k r =
    after_more (sign ",") nm (chain_reads (sign ",") (group_part_reads m _ _ _ r) refl)

pub group_rest_reads : (n m : ℕ) → n ≤ suc m → (K K' : Language KindTree) (k : Parser KindTree) → Reads m K K' k kind_words (sign "<" ∷ []) → Reads n (g.GroupRest K) (g.GroupRest K') (d.group_rest_parser k) (sign "," ∷ []) (sign "," ∷ [])
unfolding g.GroupRest d.group_rest_parser g.GroupParts is_reserved
group_rest_reads n m nm K K' k r =
    widen (sign "," ∷ []) (sign "," ∷ []) refl refl
    (many_lead (after_reads (sign ",") (field_reads n)) (group_parts_reads n m nm K K' k r) refl refl
    (λ b x y s le. after_apart (sign ",") (sign ",") kind_words (field_reads n) (chain_reads (sign ",") (group_part_reads m K K' k r) refl) refl b x y s))

pub group_kind_reads : (n m : ℕ) → n ≤ suc m → (K K' : Language KindTree) (k : Parser KindTree) → Reads m K K' k kind_words (sign "<" ∷ []) → Reads n (g.GroupKind K) (g.GroupKind K') (d.group_kind_parser k) (word "GroupByAccum" ∷ []) ([])
unfolding g.GroupKind d.group_kind_parser is_reserved
group_kind_reads n m nm K K' k r =
    made_reads group_of (after_more (word "GroupByAccum") nm (after_reads (sign "<") (ended_reads (sign ">") (then_reads (field_reads m) (group_rest_reads m m (more m) _ _ _ r) (more m) refl) refl)))

pub kind_in_reads : (n m : ℕ) → n ≤ suc m → (K K' : Language KindTree) (k : Parser KindTree) → Reads m K K' k kind_words (sign "<" ∷ []) → Reads n (g.KindIn K) (g.KindIn K') (d.kind_in_parser k) kind_words (sign "<" ∷ [])
unfolding g.KindIn d.kind_in_parser is_reserved
kind_in_reads n m nm K K' k r =
    either_reads (either_reads (either_reads (flat_kind_reads n) (heap_kind_reads n) refl) (map_kind_reads n m nm _ _ _ r) refl) (group_kind_reads n m nm _ _ _ r) refl

pub kind_reads : (j n : ℕ) → Reads n (g.Kind j) (g.Kind j) (d.kind_parser j) kind_words (sign "<" ∷ [])
unfolding g.Kind d.kind_parser
kind_reads zero n = record { sound = λ l t r h. cc; opens = λ l t r h. cc; begins = λ t x s. absurd s; whole = λ t x y s le. absurd s }
kind_reads (suc j) n =
    let w = kind_in_reads n n (more n) (g.Kind j) (g.Kind j) (d.kind_parser j) (kind_reads j n) in
    record { sound = w.sound; opens = w.opens; begins = w.begins; whole = w.whole }

pub value_reads : (n : ℕ) → Reads n g.Value g.Value d.value_parser (sign "=" ∷ []) (goes)
unfolding g.Value d.value_parser is_reserved
value_reads n =
    after_reads (sign "=") (expression_reads n)

pub accum_name_reads : (n : ℕ) → Reads n g.AccumName g.AccumName d.accum_name_parser (Global ∷ Attached ∷ []) ([])
unfolding g.AccumName d.accum_name_parser is_reserved
accum_name_reads n =
    either_reads (made_reads (with_name false) (token_reads n Global spelling)) (made_reads (with_name true) (token_reads n Attached spelling)) refl

pub accum_reads : (n : ℕ) → Reads n g.AccumOf g.AccumOf d.accum_parser (Global ∷ Attached ∷ []) (goes ++ (sign "=" ∷ []))
unfolding g.AccumOf d.accum_parser is_reserved
accum_reads n =
    widen (Global ∷ Attached ∷ []) (goes ++ (sign "=" ∷ [])) refl refl (made_reads accum_of (tail_reads (accum_name_reads n) (maybe_takes (value_reads n)) refl))

pub tuple_reads : (n : ℕ) → Reads n g.TupleOf g.TupleOf d.tuple_parser (word "TYPEDEF" ∷ []) ([])
unfolding g.TupleOf d.tuple_parser is_reserved
tuple_reads n =
    made_reads tuple_of (after_reads (word "TYPEDEF") (after_reads (word "TUPLE") (after_reads (sign "<") (then_reads (ended_reads (sign ">") (chain_reads (sign ",") (field_reads n) refl) refl) (token_reads n Name spelling) (more n) refl))))

pub definition_reads : (n : ℕ) → Reads n g.DefinitionOf g.DefinitionOf d.definition_parser (word "TYPEDEF" ∷ kind_words) (goes ++ (sign "=" ∷ sign "," ∷ []))
unfolding g.DefinitionOf d.definition_parser is_reserved
definition_reads n =
    widen (word "TYPEDEF" ∷ kind_words) (goes ++ (sign "=" ∷ sign "," ∷ [])) refl refl (either_reads (tuple_reads n) (made_reads accums_of (then_reads (kind_reads 8 n) (chain_reads (sign ",") (accum_reads n) refl) (more n) refl)) refl)
