-- Steps: answers one after another, and their faults as faults of a run.
use Rattle.std.proofs.Common.{◌≡◌, Result, Ok, Err, refl, ap, ◌∙◌}
use Rattle.gq_value.specs.declared.value.Wrong.{Wrong}
use Rattle.gq_rules_meaning.specs.Answers.{Answer, Gives, Faults, Stuck, ◌>>=◌, blaming}
use Rattle.gq_rules_meaning.specs.Statements.{Evaluation}
use Rattle.gq_eval_operand.specs.declared.halt.Halt.{Halt}
use Rattle.gq_eval_operand.specs.declared.halt.Halt.TheVariants as halt
use Rattle.gq_eval_operand.specs.Meant.{Halts, Tells}

-- ---- evaluations

pub halts_bind : {A B : Type 0} (o : Answer Wrong A) (f : A → Answer Wrong B) (h : Halt) → Halts o h → Halts (o >>= f) h
halts_bind o f (halt.Wrong w) e = ap (λ p. p >>= f) e
halts_bind o f halt.Stuck e = ap (λ p. p >>= f) e
halts_bind o f halt.OutOfMemory e = tt

pub halts_same : {A : Type 0} (o p : Answer Wrong A) (h : Halt) → o ≡ p → Halts p h → Halts o h
halts_same o p (halt.Wrong w) e g = e ∙ g
halts_same o p halt.Stuck e g = e ∙ g
halts_same o p halt.OutOfMemory e g = tt

pub tells_same : {A B : Type 0} (view : B → A) (o p : Answer Wrong A) (r : Result B Halt) → o ≡ p → Tells view p r → Tells view o r
tells_same view o p (Ok b) e g = e ∙ g
tells_same view o p (Err h) e g = halts_same o p h e g

pub joined : {F A B C : Type 0} (o : Answer F A) (f : A → Answer F B) (g : B → Answer F C) → (o >>= f >>= g) ≡ (o >>= λ a. f a >>= g)
joined (Gives a) f g = refl
joined (Faults w) f g = refl
joined Stuck f g = refl

-- ---- as faults of a run

pub bound : {A B : Type 0} (o : Answer Wrong A) (g : A → Answer Wrong B) → blaming Evaluation (o >>= g) ≡ (blaming Evaluation o >>= λ a. blaming Evaluation (g a))
bound (Gives a) g = refl
bound (Faults w) g = refl
bound Stuck g = refl

pub unblamed : {A : Type 0} (o : Answer Wrong A) (a : A) → blaming Evaluation o ≡ Gives a → o ≡ Gives a
unblamed (Gives b) a e = let h : b ≡ a = cc in ap Gives h
unblamed (Faults w) a e = absurd (let no : ⊥ = cc in no)
unblamed Stuck a e = absurd (let no : ⊥ = cc in no)
