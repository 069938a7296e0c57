-- Forms: what a content of the code holds, read as the content of a kind.
-- Bags and heaps are kept in no order, and read in order. Sets and maps are read through the order of their keys.
use Rattle.std.specs.Global.{Vec}
use Rattle.std.specs.Prelude.{◌≡◌, ◌<◌, ◌^◌, ℕ, true, false, List, [], ◌∷◌, ◌++◌, length, map, take}
use Rattle.gq_value.specs.declared.value.Value.{Value}
use Rattle.gq_value.specs.Val.{Val}
use Rattle.gq_value.specs.Views.{val}
use Rattle.gq_value.specs.Order.{place}
use Rattle.gq_value.specs.Accums.{Base, Accum, SetAccum, BagAccum, ListAccum, MapAccum, GroupByAccum, HeapAccum, Parts, no_part, part_and, Given}
use Rattle.gq_value.specs.Typed.{suits}
use Rattle.gq_accum_laws.specs.Gather.{sorted, distinct}
use Rattle.gq_accum_laws.specs.Holds.{Holds, HoldsEach, row_cmp, heap_cmp}
use Rattle.gq_accum_laws.specs.After.{fresh, fresh_each, after, merged, merged_each}
use Rattle.gq_accum_laws.specs.Fits.{HasRoom, IsProper, AreProper, FedEach}
use Rattle.gq_accum.specs.declared.scalar.Scalar.{Scalar}
use Rattle.gq_accum.specs.declared.scalar.Scalar.TheVariants as scalar
use Rattle.gq_accum.specs.Scalars.{kind_of, content}
use Rattle.gq_nest.specs.declared.content.Content.{Content, Content-F, out-Content}
use Rattle.gq_nest.specs.declared.content.Heap.{Heap}
use Rattle.gq_nest.specs.Heaps.{AreKept}
use Rattle.gq_nest.specs.Entries.{key_row, group_row, every, at_or, Pairs, StepsEach, rows, under, Each, Changes, CopiesEach}

abbrev pub scalar_in : Content-F Content → Scalar
scalar_in (Content-F.Scalar s) = s
scalar_in l = scalar.Or false

abbrev pub items_in : Content-F Content → List Value
items_in (Content-F.Set m) = m.keys
items_in (Content-F.Bag items) = items
items_in (Content-F.List items) = items
items_in (Content-F.Heap h) = h.tuples
items_in l = []

abbrev pub entries_in : Content-F Content → List (Value × Content)
entries_in (Content-F.Map o m) = m.entries
entries_in l = []

-- the initial content of new keys
abbrev pub openings_in : Content-F Content → List Content
openings_in (Content-F.Map o m) = o ∷ []
openings_in l = []

-- the key rows of a group, with the parts at each
abbrev pub groups_in : Content-F Content → List (Vec Value × List Content)
groups_in (Content-F.Group os m) = m.entries
groups_in l = []

-- the initial parts of new key rows
abbrev pub parts_in : Content-F Content → List (List Content)
parts_in (Content-F.Group os m) = os ∷ []
parts_in l = []

-- a map; a group
abbrev pub IsMap : Content-F Content → Type 0
IsMap (Content-F.Map o m) = Unit {0}
IsMap l = ⊥

abbrev pub IsGroup : Content-F Content → Type 0
IsGroup (Content-F.Group os m) = Unit {0}
IsGroup l = ⊥

-- the first of some parts, and the others
abbrev pub first_in : List Content → Content-F Content
first_in [] = Content-F.Spoiled
first_in (c ∷ cs) = out-Content c

abbrev pub rest_in : List Content → List Content
rest_in [] = []
rest_in (c ∷ cs) = cs

abbrev mutual
  -- what is held, as a content of a kind
  pub view : (k : Accum) → Content-F Content → Holds k
  view (SetAccum b) l = distinct place (map val (items_in l))
  view (BagAccum b) l = sorted place (map val (items_in l))
  view (ListAccum b) l = map val (items_in l)
  view (HeapAccum b n by) l = take n (sorted (heap_cmp by) (map val (items_in l)))
  view (MapAccum b k) l = (distinct row_cmp (rows key_row (entries_in l)), λ q. at_or (λ c. view k (out-Content c)) (fresh k) (under key_row q (entries_in l)))
  view (GroupByAccum keys ps) l = (distinct row_cmp (rows group_row (groups_in l)), λ q. at_or (λ cs. view_each ps cs) (fresh_each ps) (under group_row q (groups_in l)))
  view k l = content k (scalar_in l)

  -- and of parts, as contents of theirs
  pub view_each : (ps : Parts) → List Content → HoldsEach ps
  view_each no_part cs = tt
  view_each (part_and name k ps) cs = (view k (first_in cs), view_each ps (rest_in cs))

-- whether the uppermost level is of a kind
abbrev pub HasForm : Content-F Content → Accum → Type 0
HasForm (Content-F.Scalar s) k = k ≡ kind_of s
HasForm (Content-F.Set m) k = (b : Base) × (k ≡ SetAccum b)
HasForm (Content-F.Bag items) k = (b : Base) × (k ≡ BagAccum b)
HasForm (Content-F.List items) k = (b : Base) × (k ≡ ListAccum b)
HasForm (Content-F.Heap h) k = (b : Base) × (k ≡ HeapAccum b h.capacity h.order)
HasForm (Content-F.Map o m) k = (b : Base) × (j : Accum) × (k ≡ MapAccum b j)
HasForm (Content-F.Group os m) k = (keys : List (List ℕ × Base)) × (ps : Parts) × (k ≡ GroupByAccum keys ps)
HasForm Content-F.Spoiled k = ⊥

abbrev mutual
  -- and all levels below
  pub Deep : (k : Accum) → Content-F Content → Type 0
  Deep (MapAccum b k) l = every (λ c. (HasForm (out-Content c) k × Deep k (out-Content c)) × (view k (out-Content c) ≡ fresh k)) (openings_in l)
      × Each key_row (λ c. HasForm (out-Content c) k × Deep k (out-Content c)) (entries_in l)
  Deep (GroupByAccum keys ps) l = every (λ cs. AreOf ps cs × (view_each ps cs ≡ fresh_each ps)) (parts_in l)
      × Each group_row (λ cs. AreOf ps cs) (groups_in l)
  Deep (HeapAccum b n by) l = AreKept n by (map val (items_in l))
  Deep k l = Unit {0}

  -- a content for each part
  pub AreOf : Parts → List Content → Type 0
  AreOf no_part [] = Unit {0}
  AreOf (part_and name k ps) (c ∷ cs) = (HasForm (out-Content c) k × Deep k (out-Content c)) × AreOf ps cs
  AreOf _ _ = ⊥

abbrev pub IsOf : Accum → Content-F Content → Type 0
IsOf k l = HasForm l k × Deep k l

-- one more input
pub record Feeds (old : Content-F Content) (x : Given) (new : Content-F Content) : Type 0 where
  pub each : (k : Accum) → IsOf k old → IsProper k (view k old) → HasRoom k (view k old) → suits k x ≡ true
      → IsOf k new × (view k new ≡ after k (view k old) (x ∷ []))

-- another content of the kind
pub record Merges (old other new : Content-F Content) : Type 0 where
  pub each : (k : Accum) → IsOf k old → IsOf k other → IsProper k (view k old) → HasRoom k (view k old) → HasRoom k (view k other)
      → IsOf k new × (view k new ≡ merged k (view k old) (view k other))

-- the same once more
pub record Copies (old new : Content-F Content) : Type 0 where
  pub each : (k : Accum) → IsOf k old → IsOf k new × (view k new ≡ view k old)

-- one more input under a key row
abbrev pub FeedsAt : Content → List (Value × Content) → List Val → Given → List (Value × Content) → Type 0
FeedsAt opening old key x new = Changes key_row (λ c. Copies (out-Content opening) (out-Content c)) (λ was now. Feeds (out-Content was) x (out-Content now)) old key new

-- tuples more, of which the first are kept
pub record TakesTuples (old : Heap) (more : List Val) (new : Heap) : Type 0 where
  pub capacity : new.capacity ≡ old.capacity
  pub order : new.order ≡ old.order
  pub each : AreKept old.capacity old.order (map val old.tuples) → AreKept old.capacity old.order (map val new.tuples)
      × (take old.capacity (sorted (heap_cmp old.order) (map val new.tuples)) ≡ take old.capacity (sorted (heap_cmp old.order) (map val old.tuples ++ more)))

-- a copy of what a map holds
abbrev pub CopiesEntries : List (Value × Content) → List (Value × Content) → Type 0
CopiesEntries = CopiesEach key_row (λ p c. Copies (out-Content p) (out-Content c))

-- another content merged into the one at a key row
abbrev pub MergesAt : Content → List (Value × Content) → List Val → Content → List (Value × Content) → Type 0
MergesAt opening old key part new = Changes key_row (λ c. Copies (out-Content opening) (out-Content c)) (λ was now. Merges (out-Content was) (out-Content part) (out-Content now)) old key new

-- the content at a key row, as a content of a kind
abbrev pub at_row : (k : Accum) → List Val → List (Value × Content) → Holds k
at_row k q es = at_or (λ c. view k (out-Content c)) (fresh k) (under key_row q es)

-- what a merge of entries may assume
pub record AreReady (k : Accum) (opening : Content) (old all : List (Value × Content)) : Type 0 where
  pub first : IsOf k (out-Content opening)
  pub opens : view k (out-Content opening) ≡ fresh k
  pub mine : Each key_row (λ c. IsOf k (out-Content c)) old
  pub theirs : Each key_row (λ c. IsOf k (out-Content c)) all
  pub proper : (q : List Val) → IsProper k (at_row k q old)
  pub room : (q : List Val) → HasRoom k (at_row k q old)
  pub also : (q : List Val) → HasRoom k (at_row k q all)

-- the entries of a map merged into those of another
pub record Unites (opening : Content) (old all new : List (Value × Content)) : Type 0 where
  pub keys : distinct row_cmp (rows key_row new) ≡ distinct row_cmp (distinct row_cmp (rows key_row old) ++ distinct row_cmp (rows key_row all))
  pub each : (k : Accum) → AreReady k opening old all → Each key_row (λ c. IsOf k (out-Content c)) new × ((q : List Val) → at_row k q new ≡ merged k (at_row k q old) (at_row k q all))

-- ---- groups

-- each part fed the input at its index
abbrev pub FeedsEach : List Content → List Given → List Content → Type 0
FeedsEach = StepsEach (λ c x d. Feeds (out-Content c) x (out-Content d))

-- if there are as many inputs
abbrev pub FeedsParts : List Content → List Given → List Content → Type 0
FeedsParts old xs new = length xs ≡ length old → FeedsEach old xs new

-- each part with that of the other
abbrev pub MergesEach : List Content → List Content → List Content → Type 0
MergesEach = StepsEach (λ c p d. Merges (out-Content c) (out-Content p) (out-Content d))

-- if there are as many
abbrev pub MergesParts : List Content → List Content → List Content → Type 0
MergesParts old parts new = length parts ≡ length old → MergesEach old parts new

-- each part once more
abbrev pub CopyEach : List Content → List Content → Type 0
CopyEach = Pairs (λ c d. Copies (out-Content c) (out-Content d))

-- an input for each part under a key row
abbrev pub FeedsGroup : List Content → List (Vec Value × List Content) → List Val → List Given → List (Vec Value × List Content) → Type 0
FeedsGroup openings old row xs new = Changes group_row (CopyEach openings) (λ was now. FeedsParts was xs now) old row new

-- other parts merged into those at a key row
abbrev pub MergesGroup : List Content → List (Vec Value × List Content) → List Val → List Content → List (Vec Value × List Content) → Type 0
MergesGroup openings old row parts new = Changes group_row (CopyEach openings) (λ was now. MergesParts was parts now) old row new

-- what a group holds, once more
abbrev pub CopiesGroups : List (Vec Value × List Content) → List (Vec Value × List Content) → Type 0
CopiesGroups = CopiesEach group_row CopyEach

-- the parts at a key row, as contents of parts
abbrev pub parts_at : (ps : Parts) → List Val → List (Vec Value × List Content) → HoldsEach ps
parts_at ps q es = at_or (λ cs. view_each ps cs) (fresh_each ps) (under group_row q es)

-- fewer than 2^62 inputs can lead there
abbrev pub HaveRoom : (ps : Parts) → HoldsEach ps → Type 0
HaveRoom ps cs = (f : ℕ) × (f < 2 ^ 62) × FedEach ps cs f

-- what a merge of groups may assume
pub record GroupsAreReady (ps : Parts) (openings : List Content) (old all : List (Vec Value × List Content)) : Type 0 where
  pub first : AreOf ps openings
  pub opens : view_each ps openings ≡ fresh_each ps
  pub mine : Each group_row (λ cs. AreOf ps cs) old
  pub theirs : Each group_row (λ cs. AreOf ps cs) all
  pub proper : (q : List Val) → AreProper ps (parts_at ps q old)
  pub room : (q : List Val) → HaveRoom ps (parts_at ps q old)
  pub also : (q : List Val) → HaveRoom ps (parts_at ps q all)

-- the key rows of a group merged into those of another
pub record UnitesGroups (openings : List Content) (old all new : List (Vec Value × List Content)) : Type 0 where
  pub keys : distinct row_cmp (rows group_row new) ≡ distinct row_cmp (distinct row_cmp (rows group_row old) ++ distinct row_cmp (rows group_row all))
  pub each : (ps : Parts) → GroupsAreReady ps openings old all → Each group_row (λ cs. AreOf ps cs) new × ((q : List Val) → parts_at ps q new ≡ merged_each ps (parts_at ps q old) (parts_at ps q all))
