-- SelectLemmas: a SELECT is FROM with what is selected, followed by the clauses.
use Rattle.std.proofs.Common.{◌≡◌, ℕ, List, false, refl, Ok, Err}
use Rattle.gq_rules_typing.specs.Statements.{Bytes}
use Rattle.gq_rules_typing.specs.Selecting.{Select}
use Rattle.gq_rules_typing.specs.Judging.{Judged, ◌>>=◌, ◌>>◌, each_judged}
use Rattle.gq_rules_typing.specs.ExpressionTypes.{condition, number}
use Rattle.gq_rules_typing.specs.Scopes.{Alias, InBlock, InTail, InLimit, Scope, names_at}
use Rattle.gq_rules_typing.specs.Patterns.{target_alias, end_types}
use Rattle.gq_rules_typing.specs.ActTypes.{typing_acts, typing_post}
use Rattle.gq_rules_typing.specs.SelectTypes.{with_alias, source_types, typing_walk, selected_types, optional, sort_key, typing_select}
use Rattle.gq_check_from.specs.Walks.{passes}
use Rattle.gq_check_select.specs.Selects.{clauses, select_within}

-- the results of the keys of ORDER BY are irrelevant
regroup : {P H E L K : Type 0} (p : Judged P) (h : Judged H) (e : Judged E) (l : Judged L) (k : Judged K) → (p >> h >> e >> l >> k) ≡ (p >> (h >> passes e) >> l >> k)
regroup (Ok a) (Ok b) (Ok c) l k = refl
regroup (Ok a) (Ok b) (Err f) l k = refl
regroup (Ok a) (Err f) e l k = refl
regroup (Err f) h e l k = refl

abbrev paired : {C D : Type 0} → C → D → Judged (C × D)
paired z w = Ok (z, w)

-- four rules, the last two of which return what the rest reads
module _ {A B C D E : Type 0} (b : A → Judged B) (c : B → Judged C) (d : C → Judged D) (k m : C → D → Judged E) (same : (z : C) (w : D) → k z w ≡ m z w) where
  fourth : (z : C) (j : Judged D) → (j >>= λ w. k z w) ≡ ((j >>= λ w. paired z w) >>= λ f. m f.0 f.1)
  fourth z (Ok w) = same z w
  fourth z (Err e) = refl

  third : (j : Judged C) → (j >>= λ z. d z >>= λ w. k z w) ≡ ((j >>= λ z. d z >>= λ w. paired z w) >>= λ f. m f.0 f.1)
  third (Ok z) = fourth z (d z)
  third (Err e) = refl

  second : (j : Judged B) → (j >>= λ y. c y >>= λ z. d z >>= λ w. k z w) ≡ ((j >>= λ y. c y >>= λ z. d z >>= λ w. paired z w) >>= λ f. m f.0 f.1)
  second (Ok y) = third (c y)
  second (Err e) = refl

  pub first : (j : Judged A) → (j >>= λ x. b x >>= λ y. c y >>= λ z. d z >>= λ w. k z w) ≡ ((j >>= λ x. b x >>= λ y. c y >>= λ z. d z >>= λ w. paired z w) >>= λ f. m f.0 f.1)
  first (Ok x) = second (b x)
  first (Err e) = refl

pub select_is : (s : Scope Bytes) (q : Select Bytes) → typing_select s q ≡ select_within s q
select_is s q =
    first (λ (sources : List ℕ). with_alias q.alias (Alias sources) s) (λ s₁. typing_walk s₁ (end_types s.setting q.walk) q.walk)
    (λ s₂. selected_types s₂ q.alias (target_alias q.walk) q.selected)
    (λ s₂ types. optional (condition (names_at s₂ InBlock)) q.filter >> typing_acts s₂ false 0 q.accum >> typing_post s₂ q.alias (target_alias q.walk) 0 q.post
    >> optional (condition (names_at s₂ (InTail q.selected))) q.having >> each_judged (sort_key (names_at s₂ (InTail q.selected))) q.order
    >> optional (number (names_at s₂ InLimit)) q.limit >> Ok types)
    (λ s₂ types. clauses s₂ q >> Ok types)
    (λ s₂ types. regroup (optional (condition (names_at s₂ InBlock)) q.filter >> typing_acts s₂ false 0 q.accum >> typing_post s₂ q.alias (target_alias q.walk) 0 q.post)
    (optional (condition (names_at s₂ (InTail q.selected))) q.having) (each_judged (sort_key (names_at s₂ (InTail q.selected))) q.order)
    (optional (number (names_at s₂ InLimit)) q.limit) (Ok types))
    (source_types s q.source)
