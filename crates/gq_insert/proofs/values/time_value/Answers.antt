use Rattle.std.proofs.Common.{◌≡◌, rules, FitsSigned, w64, Some, None, List, ℕ, ℤ, refl}
use Rattle.std.specs.Prelude.{Option}
use Rattle.std.proofs.lemmas.Int.{to_z-of_z}
use Rattle.gq_time.specs.Reading.{Reads}
use Rattle.gq_load_csv.specs.Fields.{TellsTimes}
use Rattle.gq_insert.proofs.FitLemmas.{time_fits}
use Rattle.gq_insert.proofs.values.time_value.Goals as goal

-- a function that reads times returns None for a text that shows no time
none_read : (read : List ℕ → Option ℤ) (text : List ℕ) → TellsTimes read → ((x : ℤ) → Reads text x → ⊥) → read text ≡ None
none_read read text tells never = go (read text) (tells text)
  where
    go : (o : Option ℤ) → ((x : ℤ) → (o ≡ Some x → Reads text x) × (Reads text x → o ≡ Some x)) → o ≡ None
    go None t = refl
    go (Some x) t = absurd (never x ((t x).0 refl))

pub returns-in-Some-clause-value : goal.returns-in-Some-clause-value
returns-in-Some-clause-value c read tells =
    let f : FitsSigned w64 c.in-Some.seconds = search rules in
    let found : read c.args.text.now ≡ Some c.in-Some.seconds = (tells c.args.text.now c.in-Some.seconds).1 c.in-Some.ensures.some in
    rw (found, to_z-of_z w64 c.in-Some.seconds f)

pub returns-in-None-clause-value : goal.returns-in-None-clause-value
returns-in-None-clause-value c read tells = rw (none_read read c.args.text.now tells c.in-None.ensures.none)

pub returns-in-Some-clause-fits : goal.returns-in-Some-clause-fits
returns-in-Some-clause-fits c =
    let f : FitsSigned w64 c.in-Some.seconds = search rules in
    rw (to_z-of_z w64 c.in-Some.seconds f) (time_fits c.in-Some.seconds c.in-Some.ensures.in_range)
