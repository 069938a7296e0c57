-- Sound: an invariant of all that is seen: a borrowed collection is of its kind, with typed values and sums in range.
use Rattle.std.specs.Prelude.{◌≡◌, Bool, true, false, ◌&&◌, List}
use Rattle.std.specs.List.{list_all}
use Rattle.gq_value.specs.Val.{Val, Vals, Int, UInt, Truth, Text, Vertex, Tuple, none, more}
use Rattle.gq_value.specs.Accums.{Base, INT, UINT, BOOL, STRING, DATETIME, VERTEX, VERTEX_OF, TUPLE, Bases, no_base, base_and, Accum, SetAccum, BagAccum, ListAccum, MapAccum, GroupByAccum, HeapAccum, Parts, no_part, part_and}
use Rattle.gq_value.specs.AccumViews.{accum_of}
use Rattle.gq_value.specs.Typed.{is_scalar}
use Rattle.gq_accum_laws.specs.Holds.{Holds, HoldsEach}
use Rattle.gq_accum_laws.specs.Fits.{fits}
use Rattle.gq_nest.specs.declared.content.Content.{Content, out-Content}
use Rattle.gq_nest.specs.Forms.{view}
use Rattle.gq_nest.specs.Shows.{Shows}
use Rattle.gq_plan_ir.specs.Words.{Function, Makes}
use Rattle.gq_accum_laws.specs.Reads.{value_in}
use Rattle.gq_plan_ir.specs.Meanings.{Is, read}
use Rattle.gq_eval_operand.specs.declared.seen.Seen.{Seen}
use Rattle.gq_eval_operand.specs.declared.seen.Seen.TheVariants as seen
use Rattle.gq_eval_operand.specs.Meant.{keys_are, parts_are}

-- ---- contents

abbrev mutual
  -- a value of the form of a type; whether a vertex exists isn't checked
  pub has_form : Base → Val → Bool
  has_form INT (Int x) = true
  has_form UINT (UInt n) = true
  has_form BOOL (Truth b) = true
  has_form STRING (Text s) = true
  has_form DATETIME (Int x) = true
  has_form VERTEX (Vertex v) = true
  has_form (VERTEX_OF t) (Vertex v) = true
  has_form (TUPLE n bs) (Tuple vs) = have_form bs vs
  has_form _ _ = false

  pub have_form : Bases → Vals → Bool
  have_form no_base none = true
  have_form (base_and b bs) (more v vs) = has_form b v && have_form bs vs
  have_form _ _ = false

abbrev mutual
  -- the values in a content are of the types of its kind
  pub HoldsForms : (k : Accum) → Holds k → Type 0
  HoldsForms (SetAccum b) c = list_all (has_form b) c ≡ true
  HoldsForms (BagAccum b) c = list_all (has_form b) c ≡ true
  HoldsForms (ListAccum b) c = list_all (has_form b) c ≡ true
  HoldsForms (HeapAccum b n by) c = list_all (has_form b) c ≡ true
  HoldsForms (MapAccum b k) c = (q : List Val) → HoldsForms k (c.1 q)
  HoldsForms (GroupByAccum keys ps) c = (q : List Val) → HoldForms ps (c.1 q)
  HoldsForms k c = Unit {0}

  pub HoldForms : (ps : Parts) → HoldsEach ps → Type 0
  HoldForms no_part cs = Unit {0}
  HoldForms (part_and name k ps) cs = HoldsForms k cs.0 × HoldForms ps cs.1

-- a content of a kind, with values of its types and sums in range
pub record IsSound (k : Accum) (c : Content) : Type 0 where
  pub shows : Shows k c (view k (out-Content c))
  pub forms : HoldsForms k (view k (out-Content c))
  pub fit : fits k (view k (out-Content c)) ≡ true

-- it reads as its value, of a type
pub record ReadsAs (k : Accum) (b : Base) : Type 0 where
  pub each : (h : Holds k) → read k h ≡ Is b (value_in k h)

-- all that is borrowed is sound
abbrev pub Sound : Seen → Type 0
Sound (seen.Whole k c) = IsSound (accum_of k.now) c.now × (is_scalar (accum_of k.now) ≡ false)
Sound (seen.Opening k) = is_scalar (accum_of k.now) ≡ false
Sound (seen.Row s c row) = IsSound (GroupByAccum (keys_are s.now) (parts_are s.now)) c.now
Sound _ = Unit {0}

-- ---- words

-- a function of the language's own
abbrev pub IsOwn : Function → Type 0
IsOwn (Makes n fields) = ⊥
IsOwn _ = Unit {0}
