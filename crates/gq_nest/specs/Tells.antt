-- Tells: what a content tells its readers.
-- An answer is a function of what the content shows, whatever its kind. The code looks at the uppermost level.
use Rattle.std.specs.Prelude.{◌≡◌, ℕ, zero, suc, Bool, true, false, List, [], length}
use Rattle.gq_value.specs.Val.{Val}
use Rattle.gq_value.specs.Order.{place}
use Rattle.gq_value.specs.Accums.{Base, Accum, AvgAccum, SetAccum, BagAccum, ListAccum, MapAccum, GroupByAccum, HeapAccum, Parts, no_part, part_and}
use Rattle.gq_value.specs.Typed.{is_scalar, takes}
use Rattle.gq_accum_laws.specs.Gather.{among}
use Rattle.gq_accum_laws.specs.Holds.{Holds, HoldsEach, row_cmp}
use Rattle.gq_accum_laws.specs.Fits.{fits, fit}
use Rattle.gq_accum_laws.specs.Reads.{set_to}
use Rattle.gq_nest.specs.declared.content.Content.{Content}
use Rattle.gq_nest.specs.Shows.{Shows, ShowEach}

-- the elements of a set, bag, list or heap, in order; other kinds have none
abbrev pub elements_of : (k : Accum) → Holds k → List Val
elements_of (SetAccum b) c = c
elements_of (BagAccum b) c = c
elements_of (ListAccum b) c = c
elements_of (HeapAccum b n by) c = c
elements_of k c = []

-- the key rows of a map or group, ascending; other kinds have none
abbrev pub keys_of : (k : Accum) → Holds k → List (List Val)
keys_of (MapAccum b k) c = c.0
keys_of (GroupByAccum keys ps) c = c.0
keys_of k c = []

-- how many elements or keys
abbrev pub size_of : (k : Accum) → Holds k → ℕ
size_of (MapAccum b k) c = length c.0
size_of (GroupByAccum keys ps) c = length c.0
size_of k c = length (elements_of k c)

-- whether a set, bag or list has the value; contents of other kinds aren't asked, and have none
abbrev pub has_value : Val → (k : Accum) → Holds k → Bool
has_value v (SetAccum b) c = among place v c
has_value v (BagAccum b) c = among place v c
has_value v (ListAccum b) c = among place v c
has_value v k c = false

-- the answer is what f makes of all that the content shows
pub record Tells {A : Type 0} (c : Content) (answer : A) (f : (k : Accum) → Holds k → A) : Type 0 where
  pub each : (k : Accum) (h : Holds k) → Shows k c h → answer ≡ f k h

-- a map doesn't hold the key
pub record LacksKey (c : Content) (key : List Val) : Type 0 where
  pub each : (b : Base) (k : Accum) (h : Holds (MapAccum b k)) → Shows (MapAccum b k) c h → among row_cmp key h.0 ≡ false

-- a map holds the key, with this content
pub record HasKey (c : Content) (key : List Val) (part : Content) : Type 0 where
  pub each : (b : Base) (k : Accum) (h : Holds (MapAccum b k)) → Shows (MapAccum b k) c h → (among row_cmp key h.0 ≡ true) × Shows k part (h.1 key)

-- what the part at a place holds is what a content shows
abbrev pub ShowsPart : (ps : Parts) → ℕ → HoldsEach ps → Content → Type 0
ShowsPart no_part i h c = ⊥
ShowsPart (part_and name k ps) zero h c = Shows k c h.0
ShowsPart (part_and name k ps) (suc i) h c = ShowsPart ps i h.1 c

-- whether there is a part at a place
abbrev pub has_part : Parts → ℕ → Bool
has_part no_part i = false
has_part (part_and name k ps) zero = true
has_part (part_and name k ps) (suc i) = has_part ps i

-- a group doesn't hold the key row, if it has such a part
pub record LacksPart (c : Content) (key : List Val) (i : ℕ) : Type 0 where
  pub each : (keys : List (List ℕ × Base)) (ps : Parts) (h : Holds (GroupByAccum keys ps)) → Shows (GroupByAccum keys ps) c h → has_part ps i ≡ true → among row_cmp key h.0 ≡ false

-- a group holds the key row, and this is its part there
pub record HasPart (c : Content) (key : List Val) (i : ℕ) (part : Content) : Type 0 where
  pub each : (keys : List (List ℕ × Base)) (ps : Parts) (h : Holds (GroupByAccum keys ps)) → Shows (GroupByAccum keys ps) c h → (among row_cmp key h.0 ≡ true) × ShowsPart ps i (h.1 key) part

-- the answer is whether all that some parts show fits
pub record EachTells (cs : List Content) (answer : Bool) : Type 0 where
  pub each : (ps : Parts) (h : HoldsEach ps) → ShowEach ps cs h → answer ≡ fit ps h

-- one number, truth or average that is within its type
pub record IsFitting (c : Content) : Type 0 where
  pub kind : Accum
  pub holds : Holds kind
  pub shows : Shows kind c holds
  pub scalar : is_scalar kind ≡ true
  pub fitting : fits kind holds ≡ true

-- the kinds that `=` sets
abbrev pub is_settable : Accum → Bool
is_settable AvgAccum = false
is_settable k = is_scalar k

-- one number or truth, and a value of its type
pub record CanBeSet (c : Content) (v : Val) : Type 0 where
  pub kind : Accum
  pub holds : Holds kind
  pub shows : Shows kind c holds
  pub settable : is_settable kind ≡ true
  pub takes : takes kind v ≡ true

-- what `=` makes of a value, whatever was there
pub record IsSet (old : Content) (v : Val) (new : Content) : Type 0 where
  pub each : (k : Accum) (h : Holds k) → Shows k old h → Shows k new (set_to k v)
