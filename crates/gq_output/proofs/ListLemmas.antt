-- ListLemmas: a list of printed values as one value.
use Rattle.std.proofs.Common.{◌≡◌, List, map, refl, sym, ap, ◌∙◌}
use Rattle.gq_value.specs.declared.value.Wrong.{Wrong}
use Rattle.gq_json.specs.declared.out.Out.TheVariants as out
use Rattle.gq_rules_meaning.specs.Answers.{Answer, Gives, Faults, Stuck, ◌>>=◌, each}
use Rattle.gq_rules_meaning.specs.Built.{built}
use Rattle.gq_rules_meaning.specs.Outs.{Out, OutList, outs}
use Rattle.gq_output.specs.Printed.{shown}
use Rattle.gq_output.proofs.ContentLemmas.{listed}
use Rattle.gq_output.proofs.EachLemmas.{each_made}

pub list_value : {A : Type 0} (f : A → Answer Wrong Out) (xs : List A) → shown (each f xs >>= λ os. Gives (OutList (outs os))) ≡ (each (λ x. shown (f x)) xs >>= λ os. Gives (out.List os))
list_value f xs = by (each f xs) ∙ ap (λ p. p >>= λ os. Gives (out.List os)) (sym (each_made built f xs))
  where
    by : (p : Answer Wrong (List Out)) → shown (p >>= λ os. Gives (OutList (outs os))) ≡ (p >>= (λ os. Gives (map built os)) >>= λ os. Gives (out.List os))
    by (Gives os) = ap (λ qs. Gives (out.List qs)) (listed os)
    by (Faults w) = refl
    by Stuck = refl
