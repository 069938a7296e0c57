use Rattle.std.proofs.Common.{◌≡◌, rules, FitsSigned, w64, Some, None, List, ℕ, ℤ, refl}
use Rattle.std.specs.Prelude.{Option}
use Rattle.std.proofs.lemmas.Int.{to_z-of_z}
use Rattle.std.proofs.lemmas.Str.{is_utf8-from_IsUtf8}
use Rattle.gq_time.specs.Reading.{Reads}
use Rattle.gq_load_csv.specs.Fields.{TellsTimes}
use Rattle.gq_load_csv.proofs.TextLemmas.{no_utf8}
use Rattle.gq_load_csv.proofs.value.time_in.Goals as goal

-- a function that reads times returns None for a text that shows no time
none_read : (read : List ℕ → Option ℤ) (text : List ℕ) → TellsTimes read → ((x : ℤ) → Reads text x → ⊥) → read text ≡ None
none_read read text tells never = go (read text) (tells text)
  where
    go : (o : Option ℤ) → ((x : ℤ) → (o ≡ Some x → Reads text x) × (Reads text x → o ≡ Some x)) → o ≡ None
    go None t = refl
    go (Some x) t = absurd (never x ((t x).0 refl))

pub returns-in-Some : goal.returns-in-Some
returns-in-Some c read tells =
    let f : FitsSigned w64 c.in-Some.seconds = search rules in
    let text = c.in-Ok.ensures.cases.0 in
    let found : read c.args.field.now ≡ Some c.in-Some.seconds = (tells c.args.field.now c.in-Some.seconds).1 (rw text at c.in-Some.ensures.some) in
    rw (is_utf8-from_IsUtf8 c.args.field.now c.in-Ok.ensures.cases.1, found, to_z-of_z w64 c.in-Some.seconds f)

pub returns-in-None : goal.returns-in-None
returns-in-None c read tells =
    rw (is_utf8-from_IsUtf8 c.args.field.now c.in-Ok.ensures.cases.1, none_read read c.args.field.now tells (rw c.in-Ok.ensures.cases.0 at c.in-None.ensures.none))

pub returns-in-Err : goal.returns-in-Err
returns-in-Err c read tells = rw (no_utf8 c.args.field.now c.in-Err.ensures.cases.0)
