-- DotLaws: the part after a dot has its type, whatever comes before the dot.
use Rattle.std.proofs.Common.{◌≡◌, Bool, true, false, [], ◌∷◌, Ok, refl, sym, subst}
use Rattle.std.specs.Prelude.{if◌then◌else◌}
use Rattle.gq_value.specs.Val.{Val, Vertex, Tuple}
use Rattle.gq_value.specs.Accums.{Base, STRING, VERTEX, VERTEX_OF, TUPLE}
use Rattle.gq_rules_typing.specs.Judging.{Typed, Of, Average, Whole, GroupRow, AliasOf, EdgeOf, SetOf, MemberOf, ◌>>◌, unless, Mismatch}
use Rattle.gq_rules_typing.specs.FieldTypes.{field_type, has_type_name, behind_dot}
use Rattle.gq_rules_meaning.specs.Meanings.{Meant, Is, IsRow, IsEdge, IsMember}
use Rattle.gq_rules_meaning.specs.Expressions.{World, setting}
use Rattle.gq_rules_meaning.specs.States.{field_of}
use Rattle.gq_rules_meaning.specs.Fitting.{Safe, WorldFits, Suits}
use Rattle.gq_rules_meaning.proofs.AnswerLaws.{checked, ok_inj, and_ok}
use Rattle.gq_rules_meaning.proofs.ValueLaws.{IsValue}
use Rattle.gq_rules_meaning.proofs.FieldLaws.{vertex_behind, edge_behind, tuple_behind, row_behind}

module _ {N : Type 0} (world : World N) where
  -- `.type` gives a text, for anything that has the name of a type
  named : (x : Typed) (f : N) (ty : Typed) → behind_dot (setting world) x f ≡ Ok ty → world.words.is_type f ≡ true → (has_type_name x ≡ true) × (ty ≡ Of STRING)
  named x f ty e t =
      let u = checked Mismatch (has_type_name x) _ ty (subst (λ q. (if q then (unless Mismatch (has_type_name x) >> Ok (Of STRING)) else field_type (setting world) x f) ≡ Ok ty) t e) in
      (u.0, sym (ok_inj u.1))

  -- any other name is a field
  field : (x : Typed) (f : N) (ty : Typed) → behind_dot (setting world) x f ≡ Ok ty → world.words.is_type f ≡ false → field_type (setting world) x f ≡ Ok ty
  field x f ty e t = subst (λ q. (if q then (unless Mismatch (has_type_name x) >> Ok (Of STRING)) else field_type (setting world) x f) ≡ Ok ty) t e

  -- anything without the name of a type has a field
  only_field : (x : Typed) (f : N) (ty : Typed) → behind_dot (setting world) x f ≡ Ok ty → has_type_name x ≡ false → field_type (setting world) x f ≡ Ok ty
  only_field x f ty e none = go (world.words.is_type f) refl
    where
      go : (q : Bool) → world.words.is_type f ≡ q → field_type (setting world) x f ≡ Ok ty
      go true t = let u = (named x f ty e t).0 in cc
      go false t = field x f ty e t

  of_base : WorldFits world → (b : Base) (v : Val) (f : N) (ty : Typed) → behind_dot (setting world) (Of b) f ≡ Ok ty → IsValue world b v → Safe (Suits world ty) (field_of world (Is b v) f)
  of_base fits (VERTEX_OF t) (Vertex v) f ty e h = vertex_behind world fits f (t ∷ []) v ty (and_ok _ _ h).0 (λ q. (named (Of (VERTEX_OF t)) f ty e q).1) (field (Of (VERTEX_OF t)) f ty e)
  of_base fits VERTEX (Vertex v) f ty e h = vertex_behind world fits f world.graph.sorts.own_vertices v ty h (λ q. (named (Of VERTEX) f ty e q).1) (field (Of VERTEX) f ty e)
  of_base fits (TUPLE n bs) (Tuple vs) f ty e h = tuple_behind world f n bs vs ty h (only_field (Of (TUPLE n bs)) f ty e refl)
  of_base fits (VERTEX_OF t) v f ty e h = cc
  of_base fits VERTEX v f ty e h = cc
  of_base fits (TUPLE n bs) v f ty e h = cc
  of_base fits b v f ty e h = let u = only_field (Of b) f ty e refl in cc

  pub behind_safe : WorldFits world → (x : Typed) (m : Meant) (f : N) (ty : Typed) → behind_dot (setting world) x f ≡ Ok ty → Suits world x m → Safe (Suits world ty) (field_of world m f)
  behind_safe fits (Of b) (Is c v) f ty e h = subst (λ c. Safe (Suits world ty) (field_of world (Is c v) f)) (sym h.0) (of_base fits b v f ty e h.1)
  behind_safe fits (AliasOf ts) (Is c (Vertex v)) f ty e h = vertex_behind world fits f ts v ty (and_ok _ _ h.1).0 (λ q. (named (AliasOf ts) f ty e q).1) (field (AliasOf ts) f ty e)
  behind_safe fits (MemberOf ts) (IsMember vs c v) f ty e h = vertex_behind world fits f ts v ty (and_ok _ _ h.1).0 (λ q. (named (MemberOf ts) f ty e q).1) (field (MemberOf ts) f ty e)
  behind_safe fits (EdgeOf ts) (IsEdge r t) f ty e h = edge_behind world fits f ts r t ty h (λ q. (named (EdgeOf ts) f ty e q).1) (field (EdgeOf ts) f ty e)
  behind_safe fits (GroupRow ps) (IsRow qs cs) f ty e h =
      row_behind world f qs cs ty h.1 (subst (λ ps. field_type (setting world) (GroupRow ps) f ≡ Ok ty) (sym h.0) (only_field (GroupRow ps) f ty e refl))
  behind_safe fits Average m f ty e h = let u = only_field Average f ty e refl in cc
  behind_safe fits (Whole k) m f ty e h = let u = only_field (Whole k) f ty e refl in cc
  behind_safe fits (SetOf ts) m f ty e h = let u = only_field (SetOf ts) f ty e refl in cc
  behind_safe fits (AliasOf ts) (Is c v) f ty e h = absurd h
  behind_safe fits x m f ty e h = absurd h
