-- LookLaws: an `EvalContext` shows what the definitions see, for names that agree with its places. Words of a
-- plan denote themselves, whatever tuple types a query has.
use Rattle.std.specs.Prelude.{◌≡◌, ◌==◌, ℕ, List, [], ◌∷◌, ◌++◌, Bool, true, false, if◌then◌else◌, Some, refl}
use Rattle.std.specs.Option.{option_or, option_map}
use Rattle.std.proofs.Common.{◌∙◌, ap, sym}
use mathlib.Core.Path.{fun_ext}
use Rattle.gq_rules_typing.specs.Words.{Function, function_named, under}
use Rattle.gq_rules_meaning.specs.Calendars.{Calendar}
use Rattle.gq_rules_meaning.specs.Meanings.{Outcome}
use Rattle.gq_rules_meaning.specs.Expressions.{Look, setting}
use Rattle.gq_rules_meaning.specs.States.{Thing, State, sight, seen}
use Rattle.gq_plan_ir.specs.Reference.{Reference, Place, Slot, VertexType, EdgeType, TupleType, TypeName, FieldAt, Calls, Does}
use Rattle.gq_plan_ir.specs.References.{same}
use Rattle.gq_eval_operand.specs.Sound.{IsOwn}
use Rattle.gq_frame.specs.declared.accums.Accums.{Accums}
use Rattle.gq_eval_attributes.proofs.WordLemmas.{own_there, calls_from}
use Rattle.gq_frame.specs.Names.{Placed, thing_of, aliases_named, thing_for, thing_at, thing_meant, named_in}
use Rattle.gq_frame.specs.Slots.{slots_are}
use Rattle.gq_frame.specs.Shows.{Shows}
use Rattle.gq_eval_context.specs.Viewed.{Viewed, Over, viewed}
use Rattle.gq_eval_context.specs.Looks.{world_in, world_over, look_of}

pub own_calls : (clock : Calendar) (v : Viewed) (f : Function) → IsOwn f → function_named (setting (world_in clock v)) (Calls f) ≡ Some f
own_calls clock v f own = calls_from (world_in clock v).words refl refl f 0 v.tuples ∙ own_there f own

-- ---- names

at_place : (n : ℕ) (aliases : List (ℕ × Placed)) (names : List (Reference × Thing)) → under same (Place n) (aliases_named aliases ++ names) ≡ option_or (option_map thing_of (under ◌==◌ n aliases)) (under same (Place n) names)
at_place n [] names = refl
at_place n (a ∷ aliases) names = go (a.0 == n) (at_place n aliases names)
  where
    go : (b : Bool) → under same (Place n) (aliases_named aliases ++ names) ≡ option_or (option_map thing_of (under ◌==◌ n aliases)) (under same (Place n) names)
        → (if b then Some (thing_of a.1) else under same (Place n) (aliases_named aliases ++ names)) ≡ option_or (option_map thing_of (if b then Some a.1 else under ◌==◌ n aliases)) (under same (Place n) names)
    go true h = refl
    go false h = h

-- no alias has another reference
elsewhere : (x : Reference) → ((n : ℕ) → same (Place n) x ≡ false) → (aliases : List (ℕ × Placed)) (names : List (Reference × Thing)) → under same x (aliases_named aliases ++ names) ≡ under same x names
elsewhere x h [] names = refl
elsewhere x h (a ∷ aliases) names = ap (λ b. if b then Some (thing_of a.1) else under same x (aliases_named aliases ++ names)) (h a.0) ∙ elsewhere x h aliases names

abbrev pub Alike : Viewed → List (Reference × Thing) → Type 0
Alike v names = (x : Reference) → under same x names ≡ thing_for v.things x

names_seen : (v : Viewed) (names : List (Reference × Thing)) → Alike v names → (x : Reference) → named_in (thing_at v.aliases v.things) x ≡ thing_meant (under same x (aliases_named v.aliases ++ names))
names_seen v names alike (Place n) = ap (λ o. thing_meant (option_or (option_map thing_of (under ◌==◌ n v.aliases)) o)) (sym (alike (Place n))) ∙ ap thing_meant (sym (at_place n v.aliases names))
names_seen v names alike (Slot n) = ap thing_meant (sym (elsewhere (Slot n) (λ m. refl) v.aliases names ∙ alike (Slot n)))
names_seen v names alike (VertexType n) = ap thing_meant (sym (elsewhere (VertexType n) (λ m. refl) v.aliases names ∙ alike (VertexType n)))
names_seen v names alike (EdgeType n) = ap thing_meant (sym (elsewhere (EdgeType n) (λ m. refl) v.aliases names ∙ alike (EdgeType n)))
names_seen v names alike (TupleType n) = ap thing_meant (sym (elsewhere (TupleType n) (λ m. refl) v.aliases names ∙ alike (TupleType n)))
names_seen v names alike TypeName = ap thing_meant (sym (elsewhere TypeName (λ m. refl) v.aliases names ∙ alike TypeName))
names_seen v names alike (FieldAt c) = ap thing_meant (sym (elsewhere (FieldAt c) (λ m. refl) v.aliases names ∙ alike (FieldAt c)))
names_seen v names alike (Calls f) = ap thing_meant (sym (elsewhere (Calls f) (λ m. refl) v.aliases names ∙ alike (Calls f)))
names_seen v names alike (Does m) = ap thing_meant (sym (elsewhere (Does m) (λ m. refl) v.aliases names ∙ alike (Does m)))

-- ---- looks

abbrev with_named : Calendar → Viewed → (Reference → Outcome) → Look Reference
with_named clock v named = record (look_of clock v) { named = named }

-- a context shows what the definitions see, with the names of its aliases before those that agree with its places
pub look_is_sight : (clock : Calendar) (v : Viewed) (names : List (Reference × Thing)) → Alike v names
    → look_of clock v ≡ sight (world_in clock v) (aliases_named v.aliases ++ names) (slots_are v.accums) (slots_are v.before)
look_is_sight clock v names alike = ap (with_named clock v) (fun_ext (names_seen v names alike))

-- the same in a block whose frame shows a state
pub look_over : (clock : Calendar) (s : Over) (state : State Reference) (aliases : List (ℕ × Placed)) (accums before : Accums) → Shows s.frame state
    → look_of clock (viewed s aliases accums before) ≡ sight (world_over clock s) (aliases_named aliases ++ state.names) (slots_are accums) (slots_are before)
look_over clock s state aliases accums before shows = look_is_sight clock (viewed s aliases accums before) state.names shows.names

-- with no alias, and the accumulators of the frame, it shows what the state shows
pub look_shows : (clock : Calendar) (s : Over) (state : State Reference) → Shows s.frame state
    → look_of clock (viewed s [] s.frame.accums s.frame.accums) ≡ seen (world_over clock s) state
look_shows clock s state shows = look_over clock s state [] s.frame.accums s.frame.accums shows ∙ ap (λ slots. sight (world_over clock s) state.names slots slots) (sym shows.slots)
