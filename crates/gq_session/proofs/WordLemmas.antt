-- WordLemmas: each message has words.
use Rattle.std.proofs.Common.{◌≡◌, ◌≢◌, ℕ, Bool, true, false, List, [], ◌∷◌, refl, ap, sym, ◌∙◌}
use Rattle.gq_value.specs.declared.value.Wrong.TheVariants as wrong
use Rattle.gq_diagnostics.specs.declared.refusal.Refusal.{Refusal}
use Rattle.gq_diagnostics.specs.declared.refusal.Refusal.TheVariants as refusal
use Rattle.gq_diagnostics.specs.Messages.{message_of}
use Rattle.gq_rules_typing.specs.Statements.{Bytes}
use Rattle.gq_rules_meaning.specs.Statements.{Fault, Evaluation, SumOutOfRange, LoopBound, PathBound}
use Rattle.gq_rules_meaning.specs.Messages.{fault_message}

abbrev pub is_empty : List ℕ → Bool
is_empty [] = true
is_empty (b ∷ bytes) = false

pub words : (message : List ℕ) → is_empty message ≡ false → message ≢ []
words message some none = let clash : false ≡ true = sym some ∙ ap is_empty none in cc clash

pub says : (r : Refusal) → is_empty (message_of r) ≡ false
says (refusal.NameTaken x) = refl
says (refusal.NoSuchType x) = refl
says (refusal.AttributeTwice x) = refl
says (refusal.BadDefault x) = refl
says refusal.TooMany = refl
says (refusal.GraphExists x) = refl
says (refusal.UnknownName x) = refl
says refusal.BadOption = refl
says (refusal.WrongCount x) = refl
says refusal.NotAllowed = refl
says (refusal.NoPath x) = refl
says (refusal.MissingFile x) = refl
says (refusal.TooLarge x) = refl
says (refusal.NoColumn x) = refl
says refusal.StoreFull = refl
says refusal.Mismatch = refl
says (refusal.NoAttribute x) = refl
says (refusal.OrderDependent x) = refl
says (refusal.WiderSet x) = refl
says refusal.TwoAliases = refl
says (refusal.BadAccumulator x) = refl
says (refusal.NameTwice x) = refl
says (refusal.NotInstalled x) = refl
says refusal.WrongArguments = refl
says (refusal.BadArgument x) = refl
says refusal.OutOfRange = refl
says refusal.ZeroDivisor = refl
says (refusal.SumOutOfRange x) = refl
says (refusal.LoopBound n) = refl
says refusal.PathBound = refl

-- so does that of a fault of a run
pub fault_says : (names : List Bytes) (turns : ℕ) (f : Fault) → is_empty (fault_message names turns f) ≡ false
fault_says names turns (Evaluation wrong.Range) = refl
fault_says names turns (Evaluation wrong.Zero) = refl
fault_says names turns (SumOutOfRange n) = refl
fault_says names turns LoopBound = refl
fault_says names turns PathBound = refl
