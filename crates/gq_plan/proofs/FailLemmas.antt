-- FailLemmas: rules that fail, and declarations that aren't planned.
use Rattle.std.proofs.Common.{◌≡◌, ◌≢◌, Bool, true, List, [], Option, Some, None, Result, Ok, Err, sym, ◌∙◌}
use Rattle.std.specs.Prelude.{is_some}
use Rattle.gq_tree.specs.Tree.{Tree}
use Rattle.gq_scope.specs.Named.{Named, seen_at}
use Rattle.gq_scope.specs.Held.{Held, sorts_in, scope_in}
use Rattle.gq_rules_typing.specs.Statements.{Bytes, BaseTree, KindTree, TupleType, Accums}
use Rattle.gq_rules_typing.specs.Sorts.{Sorts}
use Rattle.gq_rules_typing.specs.Judging.{Judged, TypingFault}
use Rattle.gq_rules_typing.specs.KindTypes.{fields_written, kind_written}
use Rattle.gq_rules_meaning.specs.Queries.{scope_of}
use Rattle.gq_rules_safety.proofs.QueryLaws.{fields_same}
use Rattle.gq_rules_safety.proofs.KindLaws.{kind_same}
use Rattle.gq_check_from.specs.declared.fault.CheckFault.{CheckFault}
use Rattle.gq_check_from.specs.declared.fault.CheckFault.TheVariants as check
use Rattle.gq_check_from.specs.Faults.{Judges}
use Rattle.gq_plan_expr.specs.Resolved.{resolved}
use Rattle.gq_plan_select.specs.Resolved.{if_there, each_resolved}
use Rattle.gq_plan_expr.specs.Globals.{known_in}
use Rattle.gq_plan_expr.specs.Found.{TupleTypes, globals_of}
use Rattle.gq_plan_laws.specs.Planned.{setting_of}
use Rattle.gq_plan_laws.specs.Declares.{tuple_names, is_taken}
use Rattle.gq_plan_laws.proofs.DeclareLaws.{accum_passes, tuple_passes, kind_passes}
use Rattle.gq_plan.specs.Heading.{IsScoped, heads_of, resolved_field}
use Rattle.gq_plan.specs.Unplanned.{Fails, NoAccum, NoAccums, NoDefinition}
use Rattle.gq_plan.proofs.ScopeLemmas.{scope_is}

pub failed : {A : Type 0} (j : Judged A) (e : TypingFault) → j ≡ Err e → Fails j
failed j e is = record { none = λ a h. cc (is, h) }

-- a rule that refuses
pub refused : {A B : Type 0} (view : B → A) (j : Judged A) (r : Result B CheckFault) (e : CheckFault) → r ≡ Err e → Judges view j r → e ≢ check.OutOfMemory → Fails j
refused view j (Ok b) e is h other = absurd (cc is)
refused view j (Err f) e is h other = failed j _ (h (λ m. other (cc (is, m))))

pub ruleset fail_laws = (failed, refused)

-- ---- an accumulator

none_some : {A : Type 0} (o : Option A) (a : A) → o ≡ None → o ≡ Some a → ⊥
none_some o a n h = cc (n, h)

pub opening_lacks : (sorts : Sorts) (n : Named) (tuples : TupleTypes) (slots : Named) (a : Bool × Bytes × Option (Tree Bytes))
    → if_there (resolved (known_in (globals_of sorts tuples slots) n)) a.2 ≡ None → NoAccum sorts n (heads_of tuples slots) a
opening_lacks sorts n tuples slots a lacks = record {
  none = λ kind s t d e.
      let u = accum_passes sorts n kind s t (heads_of tuples slots) a d e in
      none_some (if_there (resolved (known_in (globals_of sorts tuples slots) n)) a.2) u.opening.0 lacks u.opening.1;
}

pub slot_taken : (sorts : Sorts) (n : Named) (tuples : TupleTypes) (slots : Named) (a : Bool × Bytes × Option (Tree Bytes)) → is_some (seen_at slots a.1) ≡ true → NoAccum sorts n (heads_of tuples slots) a
slot_taken sorts n tuples slots a taken = record { none = λ kind s t d e. let u = (accum_passes sorts n kind s t (heads_of tuples slots) a d e).new in cc (taken, u) }

pub ruleset accum_laws = (opening_lacks, slot_taken)

-- ---- a definition

pub fields_lack : (s : Held) (n : Named) (tuples : TupleTypes) (slots : Named) (fs : List (BaseTree Bytes × Bytes)) (x : Bytes) → each_resolved (resolved_field (globals_of (sorts_in s) tuples slots)) fs ≡ None
    → NoDefinition (sorts_in s) n (heads_of tuples slots) (TupleType fs x)
fields_lack s n tuples slots fs x lacks = record {
  none = λ z t d e.
      let u = tuple_passes (sorts_in s) n z t (heads_of tuples slots) fs x d e in
      none_some (each_resolved (resolved_field (globals_of (sorts_in s) tuples slots)) fs) u.found.0 lacks u.found.1;
}

pub fields_fail : (s : Held) (n : Named) (tuples : TupleTypes) (slots : Named) (fs : List (BaseTree Bytes × Bytes)) (x : Bytes) → IsScoped (sorts_in s) tuples s → Fails (fields_written (scope_in s) 16 [] fs)
    → NoDefinition (sorts_in s) n (heads_of tuples slots) (TupleType fs x)
fields_fail s n tuples slots fs x scoped fails = record {
  none = λ z t d e.
      let u = tuple_passes (sorts_in s) n z t (heads_of tuples slots) fs x d e in
      fails.none u.fields (fields_same (scope_in s) (scope_of (setting_of (sorts_in s) tuples)) 16 [] fs (scope_is (sorts_in s) tuples s scoped) ∙ u.written);
}

pub tuple_twice : (s : Held) (n : Named) (tuples : TupleTypes) (slots : Named) (fs : List (BaseTree Bytes × Bytes)) (x : Bytes) → is_taken (tuple_names tuples) x ≡ true → NoDefinition (sorts_in s) n (heads_of tuples slots) (TupleType fs x)
tuple_twice s n tuples slots fs x taken = record { none = λ z t d e. let u = (tuple_passes (sorts_in s) n z t (heads_of tuples slots) fs x d e).free in cc (taken, u) }

pub kind_fails : (s : Held) (n : Named) (tuples : TupleTypes) (slots : Named) (k : KindTree Bytes) (accums : List (Bool × Bytes × Option (Tree Bytes))) → IsScoped (sorts_in s) tuples s → Fails (kind_written (scope_in s) [] k)
    → NoDefinition (sorts_in s) n (heads_of tuples slots) (Accums k accums)
kind_fails s n tuples slots k accums scoped fails = record {
  none = λ z t d e.
      let u = kind_passes (sorts_in s) n z t (heads_of tuples slots) k accums d e in
      fails.none u.kind (kind_same (scope_of (setting_of (sorts_in s) tuples)) (scope_in s) [] [] (sym (scope_is (sorts_in s) tuples s scoped)) 8 k u.kind u.written);
}

pub accums_lack : (s : Held) (n : Named) (tuples : TupleTypes) (slots : Named) (k : KindTree Bytes) (accums : List (Bool × Bytes × Option (Tree Bytes))) → NoAccums (sorts_in s) n (heads_of tuples slots) accums
    → NoDefinition (sorts_in s) n (heads_of tuples slots) (Accums k accums)
accums_lack s n tuples slots k accums never = record { none = λ z t d e. let u = kind_passes (sorts_in s) n z t (heads_of tuples slots) k accums d e in never.none u.kind z t d u.accums_pass }
