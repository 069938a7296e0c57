-- Next: the next record of a file, and those behind it.
use Rattle.std.specs.Prelude.{ℕ, List, refl}
use Rattle.std.specs.Coded.{Coded, code_by, coded×, coded_list, coded_ℕ}

pub record NextRecord : Type 0 where
  pub fields : List (List ℕ)
  pub others : List (List (List ℕ))

-- it is data
abbrev pub next_code : Coded NextRecord
next_code =
    code_by (List (List ℕ) × List (List (List ℕ))) (coded× (coded_list (coded_list coded_ℕ)) (coded_list (coded_list (coded_list coded_ℕ))))
    (λ n. (n.fields, n.others)) (λ p. record { fields = p.0; others = p.1 }) (λ _. refl)
