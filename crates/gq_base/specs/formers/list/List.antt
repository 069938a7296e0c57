-- How a `List` stores its items, so that a type may hold itself through one. A list of T is laid out as the vector in it is;
-- its shape is its length, and its contents are those of the vector, in order.
use mathlib.Core.Path.{◌≡◌, refl, sym}
use mathlib.Core.List.{List, []}
use mathlib.Core.Former.{Former, this, list, via, children}
use base.Stored.{code_map}
use denote.RattleType.{RattleType}
use denote.HoleLaws.{Alike}
use denote.HolePlaces.{Recodes, struct_places, laid}
use denote.Hole.Carrier.{listed, list-listed}
use denote.Hole.Fix.{over}
use denote.Param.Weighed.{Weighed, w_list}
use denote.Model.Placed.{view_places}
use Rattle.std.specs.formers.vec.Vec as vector
use Rattle.std.specs.declared.alloc.Global.{Global}
use Rattle.std.specs.contracts.alloc.Global as heap
use Rattle.std.specs.contracts.impls.GlobalAllocator.TheImpl.{ghosts}
use Rattle.gq_base.specs.declared.list.List.TheInside.{Inside}
use Rattle.gq_base.specs.declared.list.List.TheView.{view, invariant}
use Rattle.gq_base.specs.contracts.list.List as outer
use Rattle.gq_base.specs.contracts.list.List.TheInside as inner

abbrev pub the_former : Former {0} → Former {0}
the_former item = list item

abbrev pub the_weighed : {item : Former {0}} → Weighed item → Weighed (the_former item)
the_weighed weight = w_list weight

pub the_empty : List ⊥
the_empty = []

abbrev pub the_items : (X : Type 0) → List X → List X
the_items X held = held

pub the_items_listed : (X : Type 0) (held : List X) → listed _ (children (the_former this) X held) ≡ the_items X held
the_items_listed X held = list-listed X held

-- the one field, as a vector
abbrev vector_field : Former {0}
vector_field = via (vector.the_former this Global) Inside (λ X l. l.items) (λ X v. record { items = v }) (λ X l. refl) (λ X v. refl)

module _ (R S : RattleType) (h : R.Denot → S.Denot) where
  pub the_places : Alike R S h → Alike (outer.the_row R) (outer.the_row S) ((the_former this).map R.Denot S.Denot h)
  the_places same = view_places vector_field (list this) view (λ X Y k l. refl) (λ X l. refl) R.Denot S.Denot h
      (outer.the_row R).coded (outer.the_row S).coded
      (invariant R.Denot) (invariant S.Denot) (λ l p q. refl) (λ l p q. refl) (λ l e. tt) (λ l e. tt)
      (over (inner.the_row R)) (over (inner.the_row S))
      (struct_places (inner.the_type R) (inner.the_type S) (vector.mapped h, tt) _ (λ v. refl) refl
      (laid _ _ _ (vector.the_places heap.the_row ghosts R S h same), tt))

  pub the_codes_placed : Recodes R S h → Recodes (outer.the_row R) (outer.the_row S) ((the_former this).map R.Denot S.Denot h)
  the_codes_placed same held = sym (code_map R.coded.code S.coded.code h (λ x. sym (same x)) held)
