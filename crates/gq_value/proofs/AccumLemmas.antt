-- AccumLemmas: the plain data of a kind, a type and an input of each variant.
use Rattle.std.proofs.Common.{◌≡◌, ℕ, Bool, List, map, refl, sym, ap, ◌∙◌}
use Rattle.gq_value.specs.declared.kind.Number.{Number}
use Rattle.gq_value.specs.declared.value.Value.{Value}
use Rattle.gq_value.specs.declared.kind.BaseType.{BaseType}
use Rattle.gq_value.specs.declared.kind.HeapShape as heap
use Rattle.gq_value.specs.declared.kind.GroupShape as group
use Rattle.gq_value.specs.declared.kind.Kind.{Kind, Kind-F, fold-roll-Kind}
use Rattle.gq_value.specs.declared.kind.Kind.TheVariants as kind
use Rattle.gq_value.specs.declared.kind.Input.{Input, Input-F, fold-roll-Input}
use Rattle.gq_value.specs.declared.kind.Input.TheVariants as input
use Rattle.gq_value.specs.Val.{Val}
use Rattle.gq_value.specs.Views.{val}
use Rattle.gq_value.specs.Accums.{Base, TUPLE, Accum, SumAccum, MinAccum, MaxAccum, OrAccum, AndAccum, BitwiseOrAccum, BitwiseAndAccum, AvgAccum, SetAccum, BagAccum, ListAccum, MapAccum, GroupByAccum, HeapAccum, Given, One, Keyed}
use Rattle.gq_value.specs.AccumViews.{bases, base_of, parts_of, accum_step, group_step, accum_of, givens, given_step, given}

pub given-One : (v : Value) → given (input.One v) ≡ One (val v)
unfolding given
given-One v = ap given (sym (input.rolls-One v)) ∙ fold-roll-Input Given given_step (Input-F.One v)

pub given-Keyed : (row : List Value) (xs : List Input) → given (input.Keyed row xs) ≡ Keyed (map val row) (givens (map given xs))
unfolding given
given-Keyed row xs = ap given (sym (input.rolls-Keyed row xs)) ∙ fold-roll-Input Given given_step (Input-F.Keyed row xs)

pub accum_of-Sum : (n : Number) → accum_of (kind.Sum n) ≡ SumAccum n
unfolding accum_of
accum_of-Sum n = ap accum_of (sym (kind.rolls-Sum n)) ∙ fold-roll-Kind Accum Accum accum_step group_step (Kind-F.Sum n)

pub accum_of-Min : (n : Number) → accum_of (kind.Min n) ≡ MinAccum n
unfolding accum_of
accum_of-Min n = ap accum_of (sym (kind.rolls-Min n)) ∙ fold-roll-Kind Accum Accum accum_step group_step (Kind-F.Min n)

pub accum_of-Max : (n : Number) → accum_of (kind.Max n) ≡ MaxAccum n
unfolding accum_of
accum_of-Max n = ap accum_of (sym (kind.rolls-Max n)) ∙ fold-roll-Kind Accum Accum accum_step group_step (Kind-F.Max n)

pub accum_of-Or : accum_of kind.Or ≡ OrAccum
unfolding accum_of
accum_of-Or = ap accum_of (sym kind.rolls-Or) ∙ fold-roll-Kind Accum Accum accum_step group_step Kind-F.Or

pub accum_of-And : accum_of kind.And ≡ AndAccum
unfolding accum_of
accum_of-And = ap accum_of (sym kind.rolls-And) ∙ fold-roll-Kind Accum Accum accum_step group_step Kind-F.And

pub accum_of-BitOr : accum_of kind.BitOr ≡ BitwiseOrAccum
unfolding accum_of
accum_of-BitOr = ap accum_of (sym kind.rolls-BitOr) ∙ fold-roll-Kind Accum Accum accum_step group_step Kind-F.BitOr

pub accum_of-BitAnd : accum_of kind.BitAnd ≡ BitwiseAndAccum
unfolding accum_of
accum_of-BitAnd = ap accum_of (sym kind.rolls-BitAnd) ∙ fold-roll-Kind Accum Accum accum_step group_step Kind-F.BitAnd

pub accum_of-Avg : accum_of kind.Avg ≡ AvgAccum
unfolding accum_of
accum_of-Avg = ap accum_of (sym kind.rolls-Avg) ∙ fold-roll-Kind Accum Accum accum_step group_step Kind-F.Avg

pub accum_of-Set : (t : BaseType) → accum_of (kind.Set t) ≡ SetAccum (base_of t)
unfolding accum_of
accum_of-Set t = ap accum_of (sym (kind.rolls-Set t)) ∙ fold-roll-Kind Accum Accum accum_step group_step (Kind-F.Set t)

pub accum_of-Bag : (t : BaseType) → accum_of (kind.Bag t) ≡ BagAccum (base_of t)
unfolding accum_of
accum_of-Bag t = ap accum_of (sym (kind.rolls-Bag t)) ∙ fold-roll-Kind Accum Accum accum_step group_step (Kind-F.Bag t)

pub accum_of-List : (t : BaseType) → accum_of (kind.List t) ≡ ListAccum (base_of t)
unfolding accum_of
accum_of-List t = ap accum_of (sym (kind.rolls-List t)) ∙ fold-roll-Kind Accum Accum accum_step group_step (Kind-F.List t)

pub accum_of-Map : (t : BaseType) (k : Kind) → accum_of (kind.Map t k) ≡ MapAccum (base_of t) (accum_of k)
unfolding accum_of
accum_of-Map t k = ap accum_of (sym (kind.rolls-Map t k)) ∙ fold-roll-Kind Accum Accum accum_step group_step (Kind-F.Map t k)

pub accum_of-Heap : (s : heap.HeapShape) → accum_of (kind.Heap s) ≡ HeapAccum (TUPLE s.tuple (bases (map base_of s.fields))) s.capacity s.order
unfolding accum_of
accum_of-Heap s = ap accum_of (sym (kind.rolls-Heap s)) ∙ fold-roll-Kind Accum Accum accum_step group_step (Kind-F.Heap s)

pub accum_of-Group : (s : group.GroupShape) → accum_of (kind.Group s) ≡ GroupByAccum (map (λ k. (k.0, base_of k.1)) s.keys) (parts_of (map (λ p. (p.0, accum_of p.1)) s.parts))
unfolding accum_of
accum_of-Group s = let e = kind.rolls-Group s in ap accum_of (sym e) ∙ fold-roll-Kind Accum Accum accum_step group_step (Kind-F.Group s) ∙ group.fold-roll-GroupShape Accum Accum accum_step group_step (record { keys = s.keys; parts = s.parts })

pub ruleset accum_laws = (accum_of-Group, accum_of-Sum, accum_of-Min, accum_of-Max, accum_of-Or, accum_of-And, accum_of-BitOr, accum_of-BitAnd, accum_of-Avg, accum_of-Set, accum_of-Bag, accum_of-List, accum_of-Map, accum_of-Heap)
