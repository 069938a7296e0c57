-- AnswerLaws: rules that didn't fail, and answers that aren't stuck.
use Rattle.std.proofs.Common.{◌≡◌, Bool, true, false, Option, Some, None, Result, Ok, Err, refl, sym, subst}
use Rattle.std.specs.Prelude.{◌&&◌, ◌||◌}
use Rattle.gq_rules_typing.specs.Judging.{Judged, TypingFault, ◌>>=◌, ◌>>◌, unless, or_fault}
use Rattle.gq_rules_meaning.specs.Answers.{Answer, Gives, Faults, Stuck, found, of_result, blaming, each, through}
use Rattle.gq_rules_meaning.specs.Answers as answers
use Rattle.gq_rules_meaning.specs.Fitting.{Safe}

-- ---- answers

pub safe_then : {F A B : Type 0} (P : A → Type 0) (Q : B → Type 0) (o : Answer F A) (f : A → Answer F B) → Safe P o → ((a : A) → P a → Safe Q (f a)) → Safe Q (answers.◌>>=◌ o f)
safe_then P Q (Gives a) f h g = g a h
safe_then P Q (Faults e) f h g = tt
safe_then P Q Stuck f h g = h

pub safe_with : {F A : Type 0} (P Q : A → Type 0) (o : Answer F A) → Safe P o → ((a : A) → P a → Q a) → Safe Q o
safe_with P Q (Gives a) h g = g a h
safe_with P Q (Faults e) h g = tt
safe_with P Q Stuck h g = h

pub safe_result : {F A : Type 0} (P : A → Type 0) (r : Result A F) → ((a : A) → r ≡ Ok a → P a) → Safe P (of_result r)
safe_result P (Ok a) h = h a refl
safe_result P (Err e) h = tt

pub safe_blaming : {E F A : Type 0} (P : A → Type 0) (f : E → F) (o : Answer E A) → Safe P o → Safe P (blaming f o)
safe_blaming P f (Gives a) h = h
safe_blaming P f (Faults e) h = tt
safe_blaming P f Stuck h = h

pub safe_found : {F A B : Type 0} (Q : B → Type 0) (o : Option A) (a : A) (f : A → Answer F B) → o ≡ Some a → Safe Q (f a) → Safe Q (answers.◌>>=◌ (found o) f)
safe_found {F = F} Q o a f e h = subst (λ o. Safe Q (answers.◌>>=◌ (found {F = F} o) f)) (sym e) h

-- ---- rules

pub then_ok : {A B : Type 0} (r : Judged A) (f : A → Judged B) (b : B) → (r >>= f) ≡ Ok b → (a : A) × (r ≡ Ok a) × (f a ≡ Ok b)
then_ok (Ok a) f b h = (a, refl, h)
then_ok (Err e) f b h = cc

pub after_ok : {A B : Type 0} (r : Judged A) (s : Judged B) (b : B) → (r >> s) ≡ Ok b → ((a : A) × (r ≡ Ok a)) × (s ≡ Ok b)
after_ok (Ok a) s b h = ((a, refl), h)
after_ok (Err e) s b h = cc

pub unless_ok : (e : TypingFault) (t b : Bool) → unless e t ≡ Ok b → t ≡ true
unless_ok e true b h = refl
unless_ok e false b h = cc

pub checked : {B : Type 0} (e : TypingFault) (t : Bool) (s : Judged B) (b : B) → (unless e t >> s) ≡ Ok b → (t ≡ true) × (s ≡ Ok b)
checked e true s b h = (refl, h)
checked e false s b h = cc

pub or_fault_ok : {A : Type 0} (e : TypingFault) (o : Option A) (a : A) → or_fault e o ≡ Ok a → o ≡ Some a
or_fault_ok e (Some b) a h = cc
or_fault_ok e None a h = cc

pub ok_inj : {A : Type 0} {a b : A} → ◌≡◌ {A = Judged A} (Ok a) (Ok b) → a ≡ b
ok_inj h = cc

pub some_inj : {A : Type 0} {a b : A} → ◌≡◌ {A = Option A} (Some a) (Some b) → a ≡ b
some_inj h = cc

-- ---- truths

pub and_ok : (a b : Bool) → (a && b) ≡ true → (a ≡ true) × (b ≡ true)
and_ok true true h = (refl, refl)
and_ok true false h = cc
and_ok false b h = cc

pub both_ok : (a b : Bool) → a ≡ true → b ≡ true → (a && b) ≡ true
both_ok a b h g = cc

pub or_ok : (a b : Bool) → (a || b) ≡ true → (b ≡ false → a ≡ true)
or_ok true b h g = refl
or_ok false true h g = cc
or_ok false false h g = cc
