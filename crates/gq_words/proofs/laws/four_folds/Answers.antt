use Rattle.gq_words.specs.Fold.{inputs_to}
use Rattle.gq_words.proofs.LawLemmas.{greatest, least, some_has, has_some, all_have, have_all}
use Rattle.gq_words.proofs.laws.four_folds.Goals as goal

pub returns-clause-max : goal.returns-clause-max
returns-clause-max c opening i fs = greatest opening (inputs_to i fs)

pub returns-clause-min : goal.returns-clause-min
returns-clause-min c opening i fs = least opening (inputs_to i fs)

pub returns-clause-or : goal.returns-clause-or
returns-clause-or c opening i k fs = (some_has k opening (inputs_to i fs), has_some k opening (inputs_to i fs))

pub returns-clause-and : goal.returns-clause-and
returns-clause-and c opening i k fs = (all_have k opening (inputs_to i fs), have_all k opening (inputs_to i fs))
