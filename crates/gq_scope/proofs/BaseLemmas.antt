-- BaseLemmas: the meaning of a kept type of each variant.
use Rattle.std.proofs.Common.{◌≡◌, ℕ, ◌<◌, List, [], ◌∷◌, refl, Option, Some, length, get_or, map, sym, ap, subst, ◌∙◌}
use Rattle.std.specs.List.{slice_get}
use Rattle.std.proofs.lemmas.List.{length-map, get_or-map}
use Rattle.std.proofs.lemmas.Option.{slice_get-get_or}
use Rattle.gq_value.specs.declared.kind.BaseType.{BaseType, BaseType-F, fold-roll-BaseType}
use Rattle.gq_value.specs.declared.kind.BaseType.TheVariants as base
use Rattle.gq_value.specs.Accums.{Base, INT, UINT, BOOL, STRING, DATETIME, VERTEX, VERTEX_OF, TUPLE}
use Rattle.gq_value.specs.AccumViews.{bases, base_step, base_of}

pub base_of-Int : base_of base.Int ≡ INT
unfolding base_of
base_of-Int = ap base_of (sym base.rolls-Int) ∙ fold-roll-BaseType Base base_step BaseType-F.Int

pub base_of-UInt : base_of base.UInt ≡ UINT
unfolding base_of
base_of-UInt = ap base_of (sym base.rolls-UInt) ∙ fold-roll-BaseType Base base_step BaseType-F.UInt

pub base_of-Bool : base_of base.Bool ≡ BOOL
unfolding base_of
base_of-Bool = ap base_of (sym base.rolls-Bool) ∙ fold-roll-BaseType Base base_step BaseType-F.Bool

pub base_of-Text : base_of base.Text ≡ STRING
unfolding base_of
base_of-Text = ap base_of (sym base.rolls-Text) ∙ fold-roll-BaseType Base base_step BaseType-F.Text

pub base_of-AnyVertex : base_of base.AnyVertex ≡ VERTEX
unfolding base_of
base_of-AnyVertex = ap base_of (sym base.rolls-AnyVertex) ∙ fold-roll-BaseType Base base_step BaseType-F.AnyVertex

pub base_of-Time : base_of base.Time ≡ DATETIME
unfolding base_of
base_of-Time = ap base_of (sym base.rolls-Time) ∙ fold-roll-BaseType Base base_step BaseType-F.Time

pub base_of-VertexOf : (t : ℕ) → base_of (base.VertexOf t) ≡ VERTEX_OF t
unfolding base_of
base_of-VertexOf t = ap base_of (sym (base.rolls-VertexOf t)) ∙ fold-roll-BaseType Base base_step (BaseType-F.VertexOf t)

pub base_of-Tuple : (n : ℕ) (fields : List BaseType) → base_of (base.Tuple n fields) ≡ TUPLE n (bases (map base_of fields))
unfolding base_of
base_of-Tuple n fields = ap base_of (sym (base.rolls-Tuple n fields)) ∙ fold-roll-BaseType Base base_step (BaseType-F.Tuple n fields)

pub ruleset base_laws = (base_of-Int, base_of-UInt, base_of-Bool, base_of-Text, base_of-AnyVertex, base_of-Time, base_of-VertexOf, base_of-Tuple)

-- ---- reading from a list

pub read_map : {A B : Type 0} (f : A → B) (ts : List A) (i : ℕ) (t : A) → i < length ts → t ≡ get_or ts i t → slice_get (map f ts) i ≡ Some (f t)
read_map f ts i t low read =
    slice_get-get_or (map f ts) i (f t) (subst (λ n. i < n) (sym (length-map ts f)) low) ∙ ap Some (get_or-map f ts i t (f t) low ∙ ap f (sym read))

-- the types of a group's keys
pub key_types_are : (keys : List (List ℕ × BaseType)) → map (λ f. base_of f.1) keys ≡ map (λ (k : List ℕ × Base). k.1) (map {A = List ℕ × BaseType} {B = List ℕ × Base} (λ k. (k.0, base_of k.1)) keys)
key_types_are [] = refl
key_types_are (k ∷ keys) = ap (λ ts. base_of k.1 ∷ ts) (key_types_are keys)
