-- NumberLaws: the tuple types and the slots of a query's plan are numbered in order.
use Rattle.std.proofs.Common.{◌≡◌, ◌+◌, Bool, List, [], ◌∷◌, ◌++◌, length, Option, sym, ap, subst, ◌∙◌, arith}
use Rattle.std.proofs.lemmas.List.{length-append}
use Rattle.gq_tree.specs.Tree.{Tree}
use Rattle.gq_rules_typing.specs.Statements.{Bytes, KindTree, Definition, TupleType, Accums, Query}
use Rattle.gq_rules_typing.specs.Sorts.{Sorts}
use Rattle.gq_scope.specs.Named.{Named}
use Rattle.gq_plan_ir.specs.declared.plan.Accum as code
use Rattle.gq_plan_ir.specs.declared.plan.Definition as definition_code
use Rattle.gq_plan_ir.specs.declared.plan.Definition.TheVariants as definition
use Rattle.gq_plan_ir.specs.declared.plan.Plan.{Plan}
use Rattle.gq_plan_laws.specs.Planned.{Heads, with_accum, with_tuple, AccumsPlanned, DefinitionsPlanned}
use Rattle.gq_plan_laws.specs.PlannedLaws.{IsPlanned, no_heads}
use Rattle.gq_plan_ir.specs.Numbered.{AreNumbered, NumberedFrom, SlotsFrom}

-- the slots of planned accumulators are the next ones, and no tuple type comes with them
record Counts (h i : Heads) (bs : List code.Accum) : Type 0 where
  slots : SlotsFrom h.slots.next bs
  next : i.slots.next ≡ h.slots.next + length bs
  tuples : i.tuples ≡ h.tuples

module _ (sorts : Sorts) (n : Named) where
  accums_count : (h : Heads) (accums : List (Bool × Bytes × Option (Tree Bytes))) (bs : List code.Accum) (i : Heads) → AccumsPlanned sorts n h accums bs i → Counts h i bs
  accums_count h [] [] i e = record {
    slots = tt;
    next = ap (λ (x : Heads). x.slots.next) (sym e) ∙ (let f : h.slots.next ≡ h.slots.next + 0 = omega arith in f);
    tuples = ap (λ (x : Heads). x.tuples) (sym e);
  }
  accums_count h [] (b ∷ bs) i e = absurd e
  accums_count h (a ∷ accums) [] i e = absurd e
  accums_count h (a ∷ accums) (b ∷ bs) i e =
      let r = accums_count (with_accum h a.1 a.0) accums bs i e.1 in
      let m = r.next in
      record { slots = (e.0.slot, r.slots); next = omega (arith, m); tuples = r.tuples }

  numbered : (h : Heads) (ds : List (Definition Bytes (KindTree Bytes))) (es : List definition_code.Definition) (i : Heads) → DefinitionsPlanned sorts n h ds es i → NumberedFrom (length h.tuples) h.slots.next es
  numbered h [] [] i p = tt
  numbered h [] (e ∷ es) i p = absurd p
  numbered h (TupleType fs x ∷ ds) [] i p = absurd p
  numbered h (Accums k accums ∷ ds) [] i p = absurd p
  numbered h (TupleType fs x ∷ ds) (definition.Accums kind bs ∷ es) i p = absurd p
  numbered h (Accums k accums ∷ ds) (definition.Tuple gs m ∷ es) i p = absurd p
  numbered h (TupleType fs x ∷ ds) (definition.Tuple gs m ∷ es) i p = (
    sym p.1.number,
    subst (λ t. NumberedFrom t (h.slots.next + 0) es) (length-append h.tuples ((x, p.0) ∷ []))
        (subst (λ s. NumberedFrom (length (h.tuples ++ (x, p.0) ∷ [])) s es) (let f : h.slots.next ≡ h.slots.next + 0 = omega arith in f) (numbered (with_tuple h x p.0) ds es i p.2)),
  )
  numbered h (Accums k accums ∷ ds) (definition.Accums kind bs ∷ es) i p =
      let s = p.1 in
      let j = s.0 in
      let t = s.1 in
      let r = accums_count h accums bs j t.0 in (
        r.slots,
        subst (λ t. NumberedFrom t (h.slots.next + length bs) es) (ap length r.tuples ∙ (let f : length h.tuples ≡ length h.tuples + 0 = omega arith in f))
            (subst (λ s. NumberedFrom (length j.tuples) s es) r.next (numbered j ds es i t.1)),
      )

pub plan_numbered : (sorts : Sorts) (query : Query Bytes) (plan : Plan) → IsPlanned sorts query plan → AreNumbered plan.definitions
plan_numbered sorts query plan planned = numbered sorts planned.names no_heads query.definitions plan.definitions planned.heads planned.definitions
