-- PlanKinds: when the kind of an accumulator of a plan is one that a query may declare: its types are the query's, its keys can be keys,
-- its heaps are of a capacity and order by fields. A query's kinds are trees, which typing judges.
use Rattle.std.specs.Prelude.{ℕ, ◌-◌, Bool, true, false, not, ◌&&◌, nat_lt, nat_le, List, [], ◌∷◌, ◌++◌, length}
use Rattle.std.specs.List.{list_all}
use Rattle.gq_value.specs.Accums.{Base, VERTEX_OF, TUPLE, DATETIME, Accum, SetAccum, BagAccum, ListAccum, MapAccum, GroupByAccum, HeapAccum, Parts, no_part, part_and}
use Rattle.gq_value.specs.AccumViews.{bases}
use Rattle.gq_graph.specs.Candidates.{among}
use Rattle.gq_value.specs.Typed.{has_no_list, have_no_list}
use Rattle.gq_rules_meaning.specs.TypingStatements.{Bytes}
use Rattle.gq_rules_meaning.specs.Sorts.{bases_of, names_of}
use Rattle.gq_rules_meaning.specs.Words.{Setting, names_of_parts}
use Rattle.gq_rules_meaning.specs.Types.{same_bases}
use Rattle.gq_rules_meaning.specs.FieldTypes.{tuple_fields}
use Rattle.gq_rules_meaning.specs.KindTypes.{is_key, stands_in}
use Rattle.gq_plan_ir.specs.Reference.{Reference}

-- no name occurs twice
abbrev pub each_once : List Bytes → Bool
each_once [] = true
each_once (n ∷ ns) = not (stands_in ns n) && each_once ns

module _ (setting : Setting Reference) where
  -- a type of the graph, or a tuple type of the query with its fields
  abbrev pub is_base : Base → Bool
  is_base (VERTEX_OF t) = among setting.sorts.own_vertices t
  is_base (TUPLE n bs) = nat_lt n (length setting.tuples) && same_bases bs (bases (bases_of (tuple_fields setting n)))
  is_base DATETIME = false
  is_base b = true

  abbrev pub is_heap : Base → ℕ → List (ℕ × Bool) → Bool
  is_heap (TUPLE n bs) capacity by =
      is_base (TUPLE n bs) && (nat_lt 0 capacity && (nat_le capacity 1000000
      && list_all (λ (f : ℕ × Bool). nat_lt f.0 (length (tuple_fields setting n))) by))
  is_heap b capacity by = false

  abbrev mutual
    -- with `levels` levels left; maps and groups hold no ListAccum
    pub is_kind : ℕ → Accum → Bool
    is_kind levels (SetAccum b) = nat_lt 0 levels && is_base b
    is_kind levels (BagAccum b) = nat_lt 0 levels && is_base b
    is_kind levels (ListAccum b) = nat_lt 0 levels && is_base b
    is_kind levels (MapAccum b k) = nat_lt 0 levels && (is_base b && (is_key b && (has_no_list k && is_kind (levels - 1) k)))
    is_kind levels (GroupByAccum keys ps) =
        nat_lt 0 levels && (list_all (λ (f : Bytes × Base). is_base f.1 && is_key f.1) keys
        && (nat_le (length keys) 8 && (nat_le (length (names_of_parts ps)) 8
        && (each_once (names_of keys ++ names_of_parts ps) && (have_no_list ps && are_kinds (levels - 1) ps)))))
    is_kind levels (HeapAccum b capacity by) = nat_lt 0 levels && is_heap b capacity by
    is_kind levels k = nat_lt 0 levels

    pub are_kinds : ℕ → Parts → Bool
    are_kinds levels no_part = true
    are_kinds levels (part_and name k ps) = is_kind levels k && are_kinds levels ps
