-- SomeArguments: a file of arguments is a JSON object, or it isn't.
use Rattle.std.proofs.Common.{◌≡◌, ℕ, ◌⊎◌, inl, inr, Bool, true, false, List, Option, Some, None, refl, sym, ◌∙◌}
use Rattle.std.specs.Str.{is_utf8}
use Rattle.std.proofs.lemmas.Str.{IsUtf8-from_is_utf8, is_utf8-from_IsUtf8}
use Rattle.serde_json.specs.Data.{Data, null, boolean, number, string, array, object, Members}
use Rattle.serde_json.specs.Read.{read}
use Rattle.gq_arguments.specs.Objects.{IsObject}

some_same : {X : Type 0} {x y : X} → Some x ≡ Some y → x ≡ y
some_same e = cc

-- a file is an object, or it isn't
pub object_or_none : (file : List ℕ) → ((members : Members) × IsObject file members) ⊎ ((members : Members) → IsObject file members → ⊥)
object_or_none file = by (is_utf8 file) (read file) refl refl
  where
    by : (b : Bool) (o : Option Data) → is_utf8 file ≡ b → read file ≡ o → ((members : Members) × IsObject file members) ⊎ ((members : Members) → IsObject file members → ⊥)
    by false o not_utf8 is = inr (λ members is_one. cc (is_utf8-from_IsUtf8 file is_one.utf8, not_utf8))
    by true None utf8 is = inr (λ members is_one. cc (is_one.reads, is))
    by true (Some null) utf8 is = inr (λ members is_one. cc (some_same (sym is_one.reads ∙ is)))
    by true (Some (boolean b)) utf8 is = inr (λ members is_one. cc (some_same (sym is_one.reads ∙ is)))
    by true (Some (number n)) utf8 is = inr (λ members is_one. cc (some_same (sym is_one.reads ∙ is)))
    by true (Some (string text)) utf8 is = inr (λ members is_one. cc (some_same (sym is_one.reads ∙ is)))
    by true (Some (array items)) utf8 is = inr (λ members is_one. cc (some_same (sym is_one.reads ∙ is)))
    by true (Some (object members)) utf8 is = inl (members, record { utf8 = IsUtf8-from_is_utf8 file utf8; reads = is })
