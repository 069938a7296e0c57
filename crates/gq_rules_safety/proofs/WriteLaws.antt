-- WriteLaws: a typed change of an accumulator is never stuck, and all accumulators still fit.
use Rattle.std.proofs.Common.{◌≡◌, ℕ, Bool, true, false, List, [], ◌∷◌, Some, Ok, refl, sym, subst}
use Rattle.gq_value.specs.Accums.{Accum, Given}
use Rattle.gq_accum_laws.proofs.ProperLaws.{proper_after}
use Rattle.gq_rules_typing.specs.Selecting.{Change, Adds, Puts}
use Rattle.gq_rules_typing.specs.Judging.{Judged, Mismatch, ◌>>=◌}
use Rattle.gq_rules_typing.specs.Kinds.{set_type}
use Rattle.gq_rules_typing.specs.ExpressionTypes.{Names, converting}
use Rattle.gq_rules_typing.specs.ActTypes.{typing_input, settable}
use Rattle.gq_rules_meaning.specs.Answers.{blaming}
use Rattle.gq_rules_meaning.specs.Expressions.{Look, value_as}
use Rattle.gq_rules_meaning.specs.States.{Slot, slot_number, slot_named}
use Rattle.gq_rules_meaning.specs.Writes.{Wrongly, with_input, made_by, slot_changed, fits_at, if_fit, slots_changed}
use Rattle.gq_rules_meaning.specs.Blocks.{input_of}
use Rattle.gq_rules_meaning.specs.StateFits.{AccumFits, InputFits}
use Rattle.gq_rules_meaning.specs.Fitting.{Safe}
use Rattle.gq_rules_meaning.specs.Laws.{LookFits}
use Rattle.gq_rules_meaning.proofs.AnswerLaws.{safe_then, safe_found, safe_blaming, then_ok, or_fault_ok}
use Rattle.gq_rules_meaning.proofs.ValueLaws.{IsValue}
use Rattle.gq_rules_meaning.proofs.InputLaws.{input_safe}
use Rattle.gq_rules_meaning.proofs.AfterLaws.{after_holds}
use Rattle.gq_rules_safety.proofs.ValueLaws.{InRange, set_fits, wanted_safe}
use Rattle.gq_rules_safety.proofs.SlotLaws.{Makes, Keeps, numbered, slot_kept, slots_kept}

-- a change that its accumulator's kind takes
abbrev pub typed_change : {N : Type 0} → Names N → Accum → Change N → Judged Bool
typed_change names k (Adds x) = typing_input names (Some k) x
typed_change names k (Puts t) = settable k >>= λ b. converting names b t

module _ {N : Type 0} (names : Names N) (look : Look N) (fit : LookFits names look) where
  input_makes : (k : Accum) (x : Given) → InputFits look.world k x → Makes look.world k (with_input x)
  input_makes k x h c f g = record { values = after_holds look.world k c (x ∷ []) f.values (h, tt); fit = g; proper = proper_after k c (x ∷ []) f.proper }

  pub made_safe : (k : Accum) (change : Change N) (q : Bool) → typed_change names k change ≡ Ok q → Safe (Makes look.world k) (made_by look k change)
  made_safe k (Adds x) q e = safe_then (InputFits look.world k) (Makes look.world k) (input_of look k x) _ (input_safe names look fit k x q e) (λ y h. input_makes k y h)
  made_safe k (Puts t) q e =
      let b = then_ok (settable k) (λ b. converting names b t) q e in let d = or_fault_ok Mismatch (set_type k) b.0 b.1 in
      safe_found (Makes look.world k) (set_type k) b.0 _ d
      (safe_then (λ v. IsValue look.world b.0 v × InRange b.0 v) (Makes look.world k) (value_as look b.0 t) _ (wanted_safe names look fit b.0 t q b.2) (λ v h. λ c f g. set_fits look.world k b.0 v d h.1))

  fit_kept : {A : Type 0} (P : A → Type 0) (n : ℕ) (t : Bool) (a : A) → (t ≡ true → P a) → Safe P (if_fit n t a)
  fit_kept P n true a h = h refl
  fit_kept P n false a h = tt

  pub change_safe : (slots : List (Slot N)) (a : N) (k : Accum) (attached : Bool) (v : ℕ) (change : Change N) (q : Bool) → AccumFits look.world slots a k attached → typed_change names k change ≡ Ok q → Safe (Keeps look.world slots) (slots_changed look slots a v change)
  change_safe slots a k attached v change q accum e =
      let n = numbered look.world slots a accum.slot accum.found in
      let made = subst (λ j. Safe (Makes look.world j) (made_by look j change)) (sym accum.fit.kind) (made_safe k change q e) in
      safe_found (Keeps look.world slots) (slot_number look.world slots a) n.0 _ n.1 (safe_found (Keeps look.world slots) (slot_named look.world slots a) accum.slot _ accum.found
      (safe_then (Makes look.world accum.slot.kind) (Keeps look.world slots) (blaming Wrongly (made_by look accum.slot.kind change)) _ (safe_blaming (Makes look.world accum.slot.kind) Wrongly (made_by look accum.slot.kind change) made)
      (λ f m. fit_kept (Keeps look.world slots) n.0 (fits_at v (slot_changed f v accum.slot)) _ (λ h. slots_kept look.world (slot_changed f v) n.0 slots accum.slot n.2 (slot_kept look.world f v accum.slot m h)))))
