-- LevelLemmas: the uppermost level of each variant, and scalars as contents.
use Rattle.std.proofs.Common.{◌≡◌, List, refl, sym, ap, ◌∙◌}
use Rattle.std.specs.BTreeMap.{BTreeMap}
use Rattle.std.specs.BTreeSet.{BTreeSet}
use Rattle.std.specs.Global.{Vec}
use Rattle.gq_value.specs.declared.value.Value.{Value}
use Rattle.gq_accum.specs.declared.scalar.Scalar.{Scalar}
use Rattle.gq_accum.specs.declared.scalar.Scalar.TheVariants.{SumInt, SumUInt, MinInt, MinUInt, MaxInt, MaxUInt, Or, And, BitOr, BitAnd, Avg}
use Rattle.gq_accum.specs.Scalars.{kind_of, content}
use Rattle.gq_nest.specs.declared.content.Heap.{Heap}
use Rattle.gq_nest.specs.declared.content.Content.{Content, Content-F, out-Content, out-roll-Content}
use Rattle.gq_nest.specs.declared.content.Content.TheVariants as made
use Rattle.gq_nest.specs.Forms.{view, Deep, scalar_in}

pub opened-Scalar : (s : Scalar) → out-Content (made.Scalar s) ≡ Content-F.Scalar s
opened-Scalar s = ap out-Content (sym (made.rolls-Scalar s)) ∙ out-roll-Content (Content-F.Scalar s)

pub opened-Set : (m : BTreeSet Value) → out-Content (made.Set m) ≡ Content-F.Set m
opened-Set m = ap out-Content (sym (made.rolls-Set m)) ∙ out-roll-Content (Content-F.Set m)

pub opened-Bag : (xs : List Value) → out-Content (made.Bag xs) ≡ Content-F.Bag xs
opened-Bag xs = ap out-Content (sym (made.rolls-Bag xs)) ∙ out-roll-Content (Content-F.Bag xs)

pub opened-List : (xs : List Value) → out-Content (made.List xs) ≡ Content-F.List xs
opened-List xs = ap out-Content (sym (made.rolls-List xs)) ∙ out-roll-Content (Content-F.List xs)

pub opened-Heap : (h : Heap) → out-Content (made.Heap h) ≡ Content-F.Heap h
opened-Heap h = ap out-Content (sym (made.rolls-Heap h)) ∙ out-roll-Content (Content-F.Heap h)

pub opened-Map : (o : Content) (m : BTreeMap Value Content) → out-Content (made.Map o m) ≡ Content-F.Map o m
opened-Map o m = ap out-Content (sym (made.rolls-Map o m)) ∙ out-roll-Content (Content-F.Map o m)

pub opened-Group : (os : List Content) (m : BTreeMap (Vec Value) (List Content)) → out-Content (made.Group os m) ≡ Content-F.Group os m
opened-Group os m = ap out-Content (sym (made.rolls-Group os m)) ∙ out-roll-Content (Content-F.Group os m)

pub opened-Spoiled : out-Content made.Spoiled ≡ Content-F.Spoiled
opened-Spoiled = ap out-Content (sym made.rolls-Spoiled) ∙ out-roll-Content Content-F.Spoiled

pub ruleset opened = (opened-Scalar, opened-Set, opened-Bag, opened-List, opened-Heap, opened-Map, opened-Group, opened-Spoiled)

-- a scalar is read as a content of its own kind
pub scalar_view : (s : Scalar) (l : Content-F Content) → view (kind_of s) l ≡ content (kind_of s) (scalar_in l)
scalar_view (SumInt c) l = refl
scalar_view (SumUInt c) l = refl
scalar_view (MinInt c) l = refl
scalar_view (MinUInt c) l = refl
scalar_view (MaxInt c) l = refl
scalar_view (MaxUInt c) l = refl
scalar_view (Or c) l = refl
scalar_view (And c) l = refl
scalar_view (BitOr c) l = refl
scalar_view (BitAnd c) l = refl
scalar_view (Avg c) l = refl

pub scalar_deep : (s : Scalar) (l : Content-F Content) → Deep (kind_of s) l
scalar_deep (SumInt c) l = tt
scalar_deep (SumUInt c) l = tt
scalar_deep (MinInt c) l = tt
scalar_deep (MinUInt c) l = tt
scalar_deep (MaxInt c) l = tt
scalar_deep (MaxUInt c) l = tt
scalar_deep (Or c) l = tt
scalar_deep (And c) l = tt
scalar_deep (BitOr c) l = tt
scalar_deep (BitAnd c) l = tt
scalar_deep (Avg c) l = tt
