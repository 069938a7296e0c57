-- Elements: the tests of the code on collections, on their meaning and on their contents.
use Rattle.std.specs.Prelude.{Bool, false, List, [], length, Option, None}
use Rattle.std.specs.List.{list_any}
use Rattle.std.specs.Ordering.{is_eq}
use Rattle.gq_value.specs.Val.{Val}
use Rattle.gq_value.specs.Order.{compare}
use Rattle.gq_value.specs.Accums.{Accum, MapAccum, GroupByAccum, Base}
use Rattle.gq_accum_laws.specs.After.{fresh_each}
use Rattle.gq_eval_operand.specs.Meant.{opening_of}
use Rattle.gq_rules_typing.specs.Kinds.{contained_type, key_types}
use Rattle.gq_nest.specs.declared.content.Content.{Content, out-Content}
use Rattle.gq_nest.specs.Forms.{view}
use Rattle.gq_rules_meaning.specs.Answers.{Gives, Stuck, ◌>>=◌, found}
use Rattle.gq_rules_meaning.specs.Meanings.{Meant, IsContent, IsRow, IsSet, IsMember, Outcome, truly, counted}
use Rattle.gq_rules_meaning.specs.Collections.{size_of, has_element, has_row, got}

-- whether a list has a value that is equal to another one
abbrev pub has_equal : List Val → Val → Bool
has_equal ws v = list_any (λ w. is_eq (compare v w)) ws

-- whether a content has the element
abbrev pub has_in : Accum → Content → Val → Option Bool
has_in k c v = has_element k (view k (out-Content c)) v

-- ---- methods on meanings

abbrev pub size_meant : Meant → Outcome
size_meant (IsContent k c) = found (size_of k c) >>= counted
size_meant (IsSet vs) = counted (length vs)
size_meant (IsMember vs b v) = counted (length vs)
size_meant _ = Stuck

abbrev pub contains_meant : Meant → Val → Outcome
contains_meant (IsContent k c) v = found (has_element k c v) >>= truly
contains_meant _ v = Stuck

abbrev pub contains_key_meant : Meant → List Val → Outcome
contains_key_meant (IsContent k c) row = found (has_row k c row) >>= truly
contains_key_meant _ row = Stuck

abbrev pub get_meant : Meant → List Val → Outcome
get_meant (IsContent k c) row = found (got k c row)
get_meant _ row = Stuck

-- ---- types of arguments

abbrev pub contained_in : Meant → Option Base
contained_in (IsContent k c) = contained_type k
contained_in _ = None

abbrev pub keys_in : Meant → List Base
keys_in (IsContent k c) = key_types k
keys_in _ = []

-- ---- rows of keys, in a content, and before any input

abbrev pub holds_row : Accum → Content → List Val → Outcome
holds_row k c row = found (has_row k (view k (out-Content c)) row) >>= truly

abbrev pub got_in : Accum → Content → List Val → Outcome
got_in k c row = found (got k (view k (out-Content c)) row)

abbrev pub opening_row : Accum → Outcome
opening_row (MapAccum b k) = truly false
opening_row (GroupByAccum keys ps) = truly false
opening_row k = Stuck

abbrev pub opening_got : Accum → Outcome
opening_got (MapAccum b k) = Gives (opening_of k)
opening_got (GroupByAccum keys ps) = Gives (IsRow ps (fresh_each ps))
opening_got k = Stuck
